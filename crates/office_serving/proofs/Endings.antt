-- How the serving of an office ends, from what its parts say.
use Rattle.std.proofs.Common.{◌≡◌, ◌<◌, ◌≤◌, ◌+◌, ℕ, Bool, true, false, List, [], ◌∷◌, ◌++◌, length}
use Rattle.std.proofs.Common.{refl, sym, ap, subst, ◌∙◌, arith, append-nil, inl, inr}
use Rattle.std.specs.Prelude.{All, flat_map, slice_index_or}
use Rattle.std.specs.List.{AllByRecursion}
use Rattle.std.specs.declared.option.Option.{Option}
use Rattle.std.proofs.lemmas.List.Elements.{All-from_recursion, All-weaker, recursion_from_All}
use Rattle.atomic_table.specs.Seated.{TableId}
use Rattle.slo_limits.specs.declared.TheConstants.{MAX_MINUTE}
use Rattle.office_outside.specs.Disk as disks
use Rattle.office_outside.specs.Told.{Gained, GainedPrefix}
use Rattle.office_outside.specs.Senses.{DiskSenses}
use Rattle.turn_desk.specs.Histories.{Distinct}
use Rattle.turn_desk.specs.Histories.{Extends as Begins}
use Rattle.turn_desk.specs.Passes.{PassState, newcomer}
use Rattle.turn_desk.specs.Sources.{Accounts, AreAll, own_of, raised_of}
use Rattle.turn_desk.specs.declared.Opening.{Opening}
use Rattle.office_doors.specs.Books.{Moves}
use Rattle.office_doors.specs.Entrances.{Entrance, Opens, Stays, left_at}
use Rattle.office_doors.specs.declared.Visit.{Visit}
use Rattle.record_form.specs.Laws.{EntriesAreReadBack}
use Rattle.office_history.specs.History.{Office}
use Rattle.office_counter.specs.Laws.{Extends, IsOwned}
use Rattle.office_counter.specs.Steps.{Standing}
use Rattle.office_counter.proofs.Steps.{extends_both, extends_still}
use Rattle.office_keep.specs.Files.{OfficeIsWhole, records}
use Rattle.office_keep.specs.Office.{OfficeOn, StandsSettled}
use Rattle.turn_counter.specs.Holding.{NewPassesSeeAll, PassesSeeBeginnings}
use Rattle.turn_counter.specs.Seen.{ledger_of, office_seen, standing_of}
use Rattle.turn_counter.proofs.Asked.{Does}
use Rattle.visit_workers.specs.Visits.{Chain, Service, ServesVisits}
use Rattle.visit_workers.specs.Workers.{AreClosed, RanWorkers, WorkerSenses, ServesDoors}
use Rattle.visit_workers.proofs.Chains.{moves_both, moves_still}
use Rattle.office_serving.specs.Asked.{AddsNoOther, turns_of_chain}
use Rattle.office_serving.specs.Serving.{AreOpened, AskedAt, EndsServing, ServingWorld, IsServed}
use Rattle.office_serving.specs.Serving.{Ran}
use Rattle.office_serving.specs.Serving.{NoneOpened, SaidNotReady, WereOpen, serving_world}
use Rattle.office_serving.specs.Serving.{ready_line}
use Rattle.office_serving.specs.Workers.{DeskSenses, GoesOn, WorkersServe, passes_like}
use Rattle.office_serving.specs.Workers.{turns_of_workers}
use Rattle.office_serving.specs.declared.serving.ServeEnd.{ServeEnd}
use Rattle.office_serving.specs.declared.serving.ServeEnd.TheVariants.{Done, DoorsFault}
use Rattle.office_serving.specs.declared.serving.ServeEnd.TheVariants.{NoMemory, WriteFault}
use Rattle.office_serving.specs.declared.serving.TheConstants.{WORKERS}
use Rattle.office_serving.proofs.Asked.{adds_no_other, are_all, none_made, none_raised, own_asked}
use Rattle.office_serving.proofs.Asked.{places_of, raised_asked, still_no_other}
use Rattle.office_serving.proofs.Growing.{goes_still}

module _ {T A I O C : Type 0} (worker : WorkerSenses T A I O C) (port : ℕ) where
  open_book : (opened closed : List A) → length opened ≡ WORKERS
      → (a b c : Entrance A (Visit I O C)) → Opens worker.told opened a b → AreClosed closed b c
      → WereOpen worker.told opened closed a c
  open_book opened closed count a b c opens closes =
      let none : b.held ≡ [] = opens.whole (omega (arith, count)) in
      record {
        shared = opens.shared
            ∙ ap (λ (l : List (Visit I O C)). flat_map (λ d. left_at (worker.told d)) opened ++ l)
            none
            ∙ append-nil (flat_map (λ d. left_at (worker.told d)) opened);
        none_held = ap (λ (e : Entrance A (Visit I O C)). e.held) closes ∙ none;
        count = ap (λ (e : Entrance A (Visit I O C)). e.opened) closes ∙ opens.opened;
        closed_are = ap (λ (e : Entrance A (Visit I O C)). e.closed) closes
            ∙ ap (λ (l : List A). l ++ closed) opens.closed;
      }

  were_open : (opened closed : List A) → length opened ≡ WORKERS
      → (a b c : Option (Entrance A (Visit I O C))) → Moves (Opens worker.told opened) a b
      → Moves (AreClosed closed) b c → Moves (WereOpen worker.told opened closed) a c
  were_open opened closed count a b c opens closes =
      moves_both (Opens worker.told opened) (AreClosed closed) (WereOpen worker.told opened closed)
      (open_book opened closed count) a b c opens closes

  pub not_ready : (IfIdle : Type 0) (opened : List A) (a b c : Option (Entrance A (Visit I O C)))
      (ports ports_after : List ℕ) (held held_after : Option (List ℕ)) → AreOpened worker opened a
      → AskedAt port ports ports_after
      → GainedPrefix ready_line held held_after → Moves (Opens worker.told opened) a b
      → Moves (AreClosed opened) b c → IfIdle
      → SaidNotReady worker port IfIdle (serving_world a ports held)
      (serving_world c ports_after held_after)
  not_ready IfIdle opened a b c ports ports_after held held_after are asked part opens closes
      idle = record {
        opened = opened;
        asked = asked;
        are_opened = are;
        part = part;
        were_open = were_open opened opened are.count a b c opens closes;
        idle = idle;
      }

  abbrev ran : (standing : T → Standing) (starts : List T) (opened : List A)
      (a b c : Option (Entrance A (Visit I O C))) (ports ports_after : List ℕ)
      (held held_after : Option (List ℕ)) (ends : List T) (well : Bool)
      → AreOpened worker opened a → AskedAt port ports ports_after
      → Gained ready_line held held_after
      → Moves (Opens worker.told opened) a b → RanWorkers worker standing starts opened b c ends
      well → Ran worker port (λ o d. ServesDoors worker starts o d ends)
      (serving_world a ports held) (serving_world c ports_after held_after)
  ran standing starts opened a b c ports after held held_after ends well are asked ready opens r =
      record {
        opened = opened;
        closed = r.closed;
        asked = asked;
        are_opened = are;
        ready = ready;
        serve = r.works;
        were_open = were_open opened r.closed are.count a b c opens r.were_closed;
        back = r.back;
      }

  pub after_work : (IfIdle : Type 0) (standing : T → Standing) (starts : List T) (opened : List A)
      (a b c : Option (Entrance A (Visit I O C))) (ports ports_after : List ℕ)
      (held held_after : Option (List ℕ)) (ends : List T) (well : Bool) (end : ServeEnd)
      → (well ≡ true → end ≡ Done) → (well ≡ false → end ≡ DoorsFault)
      → AreOpened worker opened a → AskedAt port ports ports_after
      → Gained ready_line held held_after
      → Moves (Opens worker.told opened) a b → RanWorkers worker standing starts opened b c ends
      well → EndsServing worker port (λ o d. ServesDoors worker starts o d ends) IfIdle end
      (serving_world a ports held) (serving_world c ports_after held_after)
  after_work IfIdle standing starts opened a b c ports ports_after held held_after ends true end
      if_well if_not are asked ready opens r =
      subst (λ (e : ServeEnd). EndsServing worker port (λ o d. ServesDoors worker starts o d ends)
      IfIdle e (serving_world a ports held) (serving_world c ports_after held_after))
      (sym (if_well refl)) (record {
        ran = ran standing starts opened a b c ports ports_after held held_after ends true are asked
            ready opens r;
        ended = r.ended refl;
      })
  after_work IfIdle standing starts opened a b c ports ports_after held held_after ends false end
      if_well if_not are asked ready opens r =
      subst (λ (e : ServeEnd). EndsServing worker port (λ o d. ServesDoors worker starts o d ends)
      IfIdle e (serving_world a ports held) (serving_world c ports_after held_after))
      (sym (if_not refl)) (inl (ran standing starts opened a b c ports ports_after held held_after
      ends false are asked ready opens r))

  -- the same counters, as other lists
  pub as_lists : (starts started ends ended : List T) → starts ≡ started → ended ≡ ends
      → (end : ServeEnd) (old new : ServingWorld A (Visit I O C))
      → EndsServing worker port (λ o d. ServesDoors worker starts o d ends) (ends ≡ starts) end old
      new → EndsServing worker port (λ o d. ServesDoors worker started o d ended) (ended ≡ started)
      end old new
  as_lists starts started ends ended began ends_are end old new e =
      subst (λ (l : List T). EndsServing worker port (λ o d. ServesDoors worker l o d ended)
      (ended ≡ l) end old new) began
      (subst (λ (l : List T). EndsServing worker port (λ o d. ServesDoors worker starts o d l)
      (l ≡ starts) end old new) (sym ends_are) e)

  module _ (Serve Other : List A → List A → Type 0) (IfIdle Else : Type 0)
      (more : (o d : List A) → Serve o d → Other o d) (less : IfIdle → Else)
      (old new : ServingWorld A (Visit I O C)) where
    abbrev ran_more : Ran worker port Serve old new → Ran worker port Other old new
    ran_more r = record {
      opened = r.opened;
      closed = r.closed;
      asked = r.asked;
      are_opened = r.are_opened;
      ready = r.ready;
      serve = more r.opened r.closed r.serve;
      were_open = r.were_open;
      back = r.back;
    }

    abbrev none_more : {Asked : List ℕ → List ℕ → Type 0} → NoneOpened Asked IfIdle old new
        → NoneOpened Asked Else old new
    none_more n = record {
      entrance = n.entrance;
      asked = n.asked;
      held = n.held;
      idle = less n.idle;
    }

    ends_more : (end : ServeEnd) → EndsServing worker port Serve IfIdle end old new
        → EndsServing worker port Other Else end old new
    ends_more Done e = record { ran = ran_more e.ran; ended = e.ended }
    ends_more WriteFault e = record {
      opened = e.opened;
      asked = e.asked;
      are_opened = e.are_opened;
      part = e.part;
      were_open = e.were_open;
      idle = less e.idle;
    }
    ends_more DoorsFault (inl r) = inl (ran_more r)
    ends_more DoorsFault (inr none) = inr (none_more none)
    ends_more NoMemory e = none_more e

-- workers whose passes began alike
module _ {A I O C : Type 0} (worker : DeskSenses A I O C) (port : ℕ) (start : PassState)
    (ends : List PassState) where
  each_alike : (starts : List PassState) (opened closed : List A) (es : List PassState)
      → AllByRecursion (λ p. p ≡ start) starts → ServesDoors worker starts opened closed es
      → ServesDoors worker (passes_like start opened) opened closed es
  each_alike [] [] [] [] begins works = tt
  each_alike [] [] [] (e ∷ es) begins works = absurd works
  each_alike [] [] (c ∷ cs) es begins works = absurd works
  each_alike [] (o ∷ os) closed es begins works = absurd works
  each_alike (p ∷ ps) [] closed es begins works = absurd works
  each_alike (p ∷ ps) (o ∷ os) [] es begins works = absurd works
  each_alike (p ∷ ps) (o ∷ os) (c ∷ cs) [] begins works = absurd works
  each_alike (p ∷ ps) (o ∷ os) (c ∷ cs) (e ∷ es) (is, more) (works, others) = (
    subst (λ (q : PassState). ServesVisits worker.asks worker.look q e (worker.told o)
        (worker.told c)) is works,
    each_alike ps os cs es more others,
  )

  abbrev pub EndsAlike : ServeEnd → ServingWorld A (Visit I O C) → ServingWorld A (Visit I O C)
      → Type 0
  EndsAlike end old new =
      EndsServing worker port (λ o d. ServesDoors worker (passes_like start o) o d ends)
      (All (λ p. p ≡ start) ends) end old new

  pub ends_alike : (starts : List PassState) → All (λ p. p ≡ start) starts → (end : ServeEnd)
      (old new : ServingWorld A (Visit I O C))
      → EndsServing worker port (λ o d. ServesDoors worker starts o d ends) (ends ≡ starts) end old
      new → EndsAlike end old new
  ends_alike starts begins end old new e =
      ends_more worker port (λ o d. ServesDoors worker starts o d ends)
      (λ o d. ServesDoors worker (passes_like start o) o d ends) (ends ≡ starts)
      (All (λ p. p ≡ start) ends)
      (λ o d works. each_alike starts o d ends
      (recursion_from_All (λ p. p ≡ start) starts begins) works)
      (λ same. subst (All (λ p. p ≡ start)) (sym same) begins) old new end e

  -- each pass goes on, where each visit lets it
  module _ (goes : (services : List (Service (Visit I O C))) (new : PassState)
      → Chain worker.asks worker.look start services new → GoesOn start new) where
    each_goes : (opened closed : List A) (es : List PassState)
        → ServesDoors worker (passes_like start opened) opened closed es
        → AllByRecursion (λ p. GoesOn start p) es
    each_goes [] [] [] works = tt
    each_goes [] [] (e ∷ es) works = absurd works
    each_goes [] (c ∷ cs) es works = absurd works
    each_goes (o ∷ os) [] es works = absurd works
    each_goes (o ∷ os) (c ∷ cs) [] works = absurd works
    each_goes (o ∷ os) (c ∷ cs) (e ∷ es) (works, others) =
        (goes works.services e works.chain, each_goes os cs es others)

    after_ran : {old new : ServingWorld A (Visit I O C)}
        → Ran worker port (λ o d. ServesDoors worker (passes_like start o) o d ends) old new
        → All (λ p. GoesOn start p) ends
    after_ran r =
        All-from_recursion (λ p. GoesOn start p) ends (each_goes r.opened r.closed ends r.serve)

    where_idle : All (λ p. p ≡ start) ends → All (λ p. GoesOn start p) ends
    where_idle same =
        All-weaker (λ p. p ≡ start) (λ p. GoesOn start p)
        (λ p is. subst (λ (q : PassState). GoesOn start q) (sym is) (goes_still start)) ends same

    pub all_go : (end : ServeEnd) (old new : ServingWorld A (Visit I O C)) → EndsAlike end old new
        → All (λ p. GoesOn start p) ends
    all_go Done old new e = after_ran e.ran
    all_go WriteFault old new e = where_idle e.idle
    all_go DoorsFault old new (inl r) = after_ran r
    all_go DoorsFault old new (inr none) = where_idle none.idle
    all_go NoMemory old new none = where_idle none.idle

-- the passes are those of the desk
pub at_desk : (start : PassState) (passes : List PassState) → All (λ p. GoesOn start p) passes
    → All (λ p. p.desk ≡ start.desk) passes
at_desk start passes go =
    All-weaker (λ p. GoesOn start p) (λ p. p.desk ≡ start.desk) (λ p goes. goes.stays.desk) passes
    go

-- an office before its first visit
pub not_served : {D A I O C : Type 0} (S : DiskSenses D) (worker : DeskSenses A I O C)
    (port : ℕ) (office back : OfficeOn D) (entrance : Option (Entrance A (Visit I O C)))
    (ports : List ℕ) (held : Option (List ℕ)) (disk : D) → back ≡ office → disk ≡ back.disk
    → OfficeIsWhole office.office
    → disks.All (StandsSettled office.office office.doubt) (S.images office.disk)
    → IsServed S worker port office NoMemory (serving_world entrance ports held)
    (serving_world entrance ports held) disk
not_served {D} S worker port office back entrance ports held disk same handed whole stands =
    let is : disk ≡ office.disk = handed ∙ ap (λ (o : OfficeOn D). o.disk) same in
    record {
      last = office;
      handed_back = is;
      grows = extends_still office.office;
      whole = whole;
      stands = subst (λ (d : D). disks.All (StandsSettled office.office office.doubt) (S.images d))
          (sym is) stands;
      ends = record {
        entrance = moves_still Stays (λ e. refl) entrance;
        asked = inl refl;
        held = refl;
        idle = still_no_other office.office office.doubt;
      };
    }

-- what the closing of the desk says of the passes, told of the office
module _ {D A I O C : Type 0} (beginnings : PassesSeeBeginnings) (all : NewPassesSeeAll)
    (back : EntriesAreReadBack) (S : DiskSenses D) (worker : DeskSenses A I O C) (port : ℕ)
    (first last : OfficeOn D) (desk : TableId) (passes : List PassState) where
  abbrev pub begin : PassState
  begin = newcomer desk (ledger_of S first) WORKERS

  abbrev AllGo : Type 0
  AllGo = All (λ p. GoesOn begin p) passes

  -- each worker makes what the messages of its visits ask for
  abbrev pub ChainsDo : Type 0
  ChainsDo = (services : List (Service (Visit I O C))) (new : PassState)
      (chain : Chain worker.asks worker.look begin services new)
      → Does (turns_of_chain worker.asks worker.look begin services new chain) begin new

  -- each entry is accounted for, if the passes are all that the desk was opened for
  abbrev pub AllAccount : Type 0
  AllAccount = (opening : Opening) → AreAll opening passes
      → Accounts opening (own_of passes) (raised_of passes) (ledger_of S last).history

  extended : OfficeIsWhole last.office → last.office.origin ≤ MAX_MINUTE
      → All (λ p. p.root ≡ (ledger_of S last).root) passes
      → All (λ p. Begins p.seen (ledger_of S last).history) passes
      → All (λ p. Extends (office_seen p) last.office) passes
  extended whole low roots seen k d lt =
      beginnings (slice_index_or passes k d) last.office whole low (roots k d lt) (seen k d lt)

  sees_first : OfficeIsWhole first.office → first.office.origin ≤ MAX_MINUTE
      → office_seen begin ≡ first.office
  sees_first whole low =
      all desk (ledger_of S first) WORKERS first.office whole low refl refl

  grows : office_seen begin ≡ first.office → 0 < length passes → AllGo
      → All (λ p. Extends (office_seen p) last.office) passes
      → Extends first.office last.office
  grows is some go extends =
      let p = slice_index_or passes 0 begin in
      subst (λ (o : Office). Extends o last.office) is
      (extends_both (office_seen begin) (office_seen p) last.office (go 0 begin some).seen
      (extends 0 begin some))

  new_owns : IsOwned (standing_of begin)
  new_owns = record { rise = tt; within = tt }

  accounts_all : length passes ≡ WORKERS → AllGo → AllAccount
      → Accounts begin.opening (own_of passes) (raised_of passes) (records last.office.history)
  accounts_all count go account =
      account begin.opening (are_all begin passes go refl refl count)

  workers_serve : office_seen begin ≡ first.office → AllGo
      → All (λ p. Extends (office_seen p) last.office) passes
      → Distinct (flat_map (λ p. p.own) passes) → OfficeIsWhole last.office → length passes
      ≡ WORKERS → AllAccount → ChainsDo → (o d : List A)
      → ServesDoors worker (passes_like begin o) o d passes
      → WorkersServe worker first.office first.doubt last.office o d
  workers_serve is go extends apart whole count account does o d works =
      let each = recursion_from_All (λ p. Extends (office_seen p) last.office) passes extends in
      record {
        start = begin;
        begins = is;
        none_own = refl;
        none_failed = refl;
        ends = passes;
        works = works;
        extended = extends;
        owned = All-weaker (λ p. GoesOn begin p) (λ p. IsOwned (standing_of p))
            (λ p g. g.owned new_owns) passes go;
        apart = apart;
        no_other = adds_no_other back
            (turns_of_workers worker (passes_like begin o) o d passes works)
            (places_of worker begin last.office does refl refl o d passes works) first.office
            first.doubt last.office whole begin.opening refl refl (own_of passes) (raised_of passes)
            (accounts_all count go account)
            (own_asked worker begin last.office does refl refl o d passes works each)
            (raised_asked worker begin last.office does refl refl o d passes works each);
      }

  none_worked : AllGo → OfficeIsWhole last.office → length passes ≡ WORKERS → AllAccount
      → All (λ p. p ≡ begin) passes
      → AddsNoOther [] first.office first.doubt last.office
  none_worked go whole count account same =
      let each = recursion_from_All (λ p. p ≡ begin) passes same in
      adds_no_other back [] [] first.office first.doubt last.office whole begin.opening refl refl
      (own_of passes) (raised_of passes) (accounts_all count go account)
      (λ place had. absurd (none_made begin passes refl each place had))
      (λ place bytes had. absurd (none_raised begin passes refl each place bytes had))

  pub served : (end : ServeEnd) (old new : ServingWorld A (Visit I O C)) (disk : D)
      → OfficeIsWhole first.office → first.office.origin ≤ MAX_MINUTE → OfficeIsWhole last.office
      → last.office.origin ≤ MAX_MINUTE → disk ≡ last.disk
      → disks.All (StandsSettled last.office last.doubt) (S.images last.disk)
      → length passes ≡ WORKERS → AllGo
      → All (λ p. p.root ≡ (ledger_of S last).root) passes
      → All (λ p. Begins p.seen (ledger_of S last).history) passes
      → Distinct (flat_map (λ p. p.own) passes) → AllAccount → ChainsDo
      → EndsServing worker port (λ o d. ServesDoors worker (passes_like begin o) o d passes)
      (All (λ p. p ≡ begin) passes) end old new
      → IsServed S worker port first end old new disk
  served end old new disk was_whole was_low whole low handed stands count go roots seen apart
      account does ends =
      let is = sees_first was_whole was_low in
      let extends = extended whole low roots seen in
      record {
        last = last;
        handed_back = handed;
        grows = grows is (omega (arith, count)) go extends;
        whole = whole;
        stands = subst (λ (d : D). disks.All (StandsSettled last.office last.doubt) (S.images d))
            (sym handed) stands;
        ends = ends_more worker port (λ o d. ServesDoors worker (passes_like begin o) o d passes)
            (WorkersServe worker first.office first.doubt last.office)
            (All (λ p. p ≡ begin) passes)
            (AddsNoOther [] first.office first.doubt last.office)
            (workers_serve is go extends apart whole count account does)
            (none_worked go whole count account) old new end ends;
      }
