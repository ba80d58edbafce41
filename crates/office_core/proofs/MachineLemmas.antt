-- The machine with one entry more.
use Rattle.std.proofs.Common.{◌≡◌, ℕ, ◌+◌, ◌<◌, ◌≤◌, List, [], ◌∷◌, ◌++◌, refl, ap, sym, subst, ◌∙◌}
use Rattle.std.proofs.Common.{Bool, false, true, fold, max, length, Option, Some, None, IfSome}
use Rattle.std.proofs.Common.{arith}
use Rattle.std.specs.List.{All, AllByRecursion}
use Rattle.std.proofs.lemmas.List.Elements.{All-from_recursion}
use Rattle.slo_limits.specs.declared.TheConstants as most
use Rattle.object_terms.specs.declared.Object.{Object}
use Rattle.sample_book.specs.declared.Exclusion.{Exclusion}
use Rattle.sample_book.specs.declared.Row.{Row}
use Rattle.notice_box.specs.declared.Notice.{Notice}
use Rattle.sample_book.specs.History.{Holds}
use Rattle.sample_book.proofs.HistoryLemmas.{rows-held, exclusions-held}
use Rattle.record_form.specs.declared.Entry.{Entry}
use Rattle.record_form.specs.Records.{record_of}
use Rattle.record_form.specs.Ranges.{FitsRecord}
use Rattle.office_history.specs.declared.Judgement.TheVariants.{Accepted}
use Rattle.office_history.specs.History.{Office, with_entry, arrivals_in, present, end_of}
use Rattle.office_history.specs.Judges.{Judges}
use Rattle.office_history.specs.Notices.{waiting}
use Rattle.office_history.specs.Legal.{IsLegal, MayFollow, empty, followed}
use Rattle.kept_sums.specs.declared.ObjectiveSums.{ObjectiveSums}
use Rattle.kept_sums.specs.Objectives.{AreKept, IsLike, KeepsSums, KeptObjectives}
use Rattle.office_derived.specs.declared.Derived.{Derived}
use Rattle.office_derived.specs.Derived.{HasRoom, IsFound, IsNext, IsPlaced, IsSound, RowIsRead}
use Rattle.office_derived.specs.Derived.{Reflects, Stays, command_of, entry_of}
use Rattle.office_derived.proofs.Sound.{sound_stays}
use Rattle.office_core.specs.declared.machine.Pending.{Pending}
use Rattle.office_history.specs.Counts.{Samples}
use Rattle.office_derived.specs.declared.Work.{Work}
use Rattle.office_derived.specs.declared.Work.TheVariants as works
use Rattle.kept_lines.specs.Sums.{samples_of}
use Rattle.kept_lines.specs.Lines.{HasLines, KeepsLines, LinesKept}
use Rattle.kept_lines.specs.Plans.{IsLinesPlan}
use Rattle.kept_lines.specs.declared.LinesPlan.{LinesPlan}
use Rattle.kept_lines.specs.declared.WatchLine.{WatchLine}
use Rattle.office_core.specs.Forgetting.{ForgetsOnlyNear}
use Rattle.office_core.specs.Machine.{HasLinesPlan, IsReady, IsReadyIf, MachineIsKept, office_of}
use Rattle.office_core.specs.Machine.{pending_of}

-- the office with one entry more
pub office_next : (d d' : Derived) (old new : List Entry) (e : Entry) → new ≡ old ++ e ∷ [] →
    Reflects d' (with_entry (office_of d old) e) →
    office_of d' new ≡ with_entry (office_of d old) e
office_next d d' old new e is reflects i =
    record { origin = reflects.origin i; history = is i }

-- What a commit is given: the entry that is pending, which has a record.
pub record IsCommitted (d d' : Derived) (old : List Entry) (e : Entry) : Type 0 where
  pub fits : FitsRecord e
  pub legal : IsLegal d.origin old
  pub follows : MayFollow (office_of d old) e
  pub reflects : Reflects d' (with_entry (office_of d old) e)

follows_next : (d : Derived) (o : Office) (p : Pending) → IsNext d o p.moment p.work
    → MayFollow o (entry_of p.moment p.work)
follows_next d o p n = record { in_range = n.in_range; later = n.later; accepted = n.accepted }

-- for the one that is pending there is room
pub ready_of : (d : Derived) (lines : LinesKept) (history : List Entry) (spare places : ℕ)
    (kept : Option Pending) (p : Pending) → MachineIsKept d lines history spare places kept
    → Some p ≡ kept → IsReady d lines (office_of d history) spare places p
ready_of d lines history spare places kept p k is =
    subst (IsReadyIf d lines (office_of d history) spare places) (sym is) k.ready

-- and the entry is its
pub pending_is : (kept : Option Pending) (p : Pending) (e : Entry) → Some p ≡ kept
    → pending_of kept ≡ Some e → entry_of p.moment p.work ≡ e
pending_is kept p e is pending = cc (ap pending_of is ∙ pending)

pub committed : (d d' : Derived) (lines : LinesKept) (history : List Entry) (spare places : ℕ)
    (kept : Option Pending) (p : Pending) (e : Entry)
    → MachineIsKept d lines history spare places kept → Some p ≡ kept → pending_of kept ≡ Some e
    → ((o : Office) → IsNext d o p.moment p.work
    → Reflects d' (with_entry o (entry_of p.moment p.work))) → IsCommitted d d' history e
committed d d' lines history spare places kept p e k is pending applied =
    let ready = ready_of d lines history spare places kept p k is in
    let same = pending_is kept p e is pending in
    record {
      fits = subst FitsRecord same ready.fits;
      legal = k.legal;
      follows = subst (MayFollow (office_of d history)) same
          (follows_next d (office_of d history) p ready.next);
      reflects = subst (λ (e : Entry). Reflects d' (with_entry (office_of d history) e)) same
          (applied (office_of d history) ready.next);
    }

-- the record of the pending one has its room
pub has_spare : (d : Derived) (lines : LinesKept) (history : List Entry) (spare places : ℕ)
    (kept : Option Pending) (p : Pending) (e : Entry) (piece : List ℕ)
    → MachineIsKept d lines history spare places kept → Some p ≡ kept → pending_of kept ≡ Some e
    → piece ≡ record_of e → length piece ≤ spare
has_spare d lines history spare places kept p e piece k is pending spelled =
    subst (λ (bytes : List ℕ). length bytes ≤ spare)
    (ap record_of (pending_is kept p e is pending) ∙ sym spelled)
    (ready_of d lines history spare places kept p k is).bytes

-- and what the lines forget is what its entry allows
pub forgotten : (d : Derived) (lines : LinesKept) (history : List Entry) (spare places : ℕ)
    (kept : Option Pending) (p : Pending) (e : Entry) (new : List WatchLine) →
    MachineIsKept d lines history spare places kept → Some p ≡ kept → pending_of kept ≡ Some e →
    ((o : Office) → IsNext d o p.moment p.work →
    ForgetsOnlyNear o (entry_of p.moment p.work) lines.kept new) →
    ForgetsOnlyNear (office_of d history) e lines.kept new
forgotten d lines history spare places kept p e new k is pending forgets =
    subst (λ (e : Entry). ForgetsOnlyNear (office_of d history) e lines.kept new)
    (pending_is kept p e is pending)
    (forgets (office_of d history) (ready_of d lines history spare places kept p k is).next)

pub kept_next : (d d' : Derived) (lines : LinesKept) (old new : List Entry) (spare places : ℕ)
    (pending : Option Pending) (e : Entry) → IsCommitted d d' old e → new ≡ old ++ e ∷ []
    → IsSound d' → HasLines d' lines.kept → pending ≡ None
    → MachineIsKept d' lines new spare places pending
kept_next d d' lines old new spare places pending e k is sound right none =
    let next = office_next d d' old new e is k.reflects in
    record {
      sound = sound;
      reflects = subst (Reflects d') (sym next) k.reflects;
      legal = subst (λ (o : Office). IsLegal o.origin o.history) (sym next)
          (followed e k.legal k.follows);
      lines_right = right;
      ready = subst (IsReadyIf d' lines (office_of d' new) spare places) (sym none) tt;
    }

-- the present isn't before the origin
pub begun : (o : Office) → o.origin ≤ present o
begun o = from o.origin o.history
  where
    from : (a : ℕ) (h : List Entry) → a ≤ fold (λ greatest (e : Entry). max greatest e.moment) a h
    from a [] = omega arith
    from a (e ∷ h) = omega (arith, from (max a e.moment) h)

-- the present isn't past the last minute of records
present_fits : (a : ℕ) (h : List Entry) → a ≤ most.MAX_MINUTE → AllByRecursion FitsRecord h
    → fold (λ greatest (e : Entry). max greatest e.moment) a h ≤ most.MAX_MINUTE
present_fits a [] few all = few
present_fits a (e ∷ h) few all =
    present_fits (max a e.moment) h (omega (arith, few, all.0.moment)) all.1

pub readable : (d : Derived) (history : List Entry) → IsSound d → AllByRecursion FitsRecord history
    → present (office_of d history) ≤ most.MAX_MINUTE
readable d history sound fit = present_fits d.origin history (omega (arith, sound.origin)) fit

-- the entry that is pending has a record
pub pending_fits : (d : Derived) (lines : LinesKept)
    (o : Office) (spare places : ℕ) (pending : Option Pending)
    → IsReadyIf d lines o spare places pending
    → IfSome (pending_of pending) FitsRecord
pending_fits d lines o spare places None ready = tt
pending_fits d lines o spare places (Some p) ready = ready.fits

-- more room changes nothing else
pub stays_reflects : (d d' : Derived) (o : Office) → Stays d d' → Reflects d o → Reflects d' o
stays_reflects d d' o s r = record {
  origin = s.origin ∙ r.origin;
  entries = s.entries ∙ r.entries;
  present = s.present ∙ r.present;
  catalog = s.catalog ∙ r.catalog;
  zones = s.zones ∙ r.zones;
  rows = s.rows ∙ r.rows;
  exclusions = s.exclusions ∙ r.exclusions;
  held = subst (λ (rows : List Row). Holds (arrivals_in o.history) rows d'.book.exclusions)
      (sym s.rows) (subst (Holds (arrivals_in o.history) d.book.rows) (sym s.exclusions) r.held);
  accepted = s.accepted ∙ r.accepted;
  upgraded = s.upgraded ∙ r.upgraded;
  notices = s.notices ∙ r.notices;
  states = s.states ∙ r.states;
  numbers = r.numbers;
}

office_stays : (d d' : Derived) (history : List Entry) → Stays d d'
    → office_of d history ≡ office_of d' history
office_stays d d' history s i = record { origin = sym s.origin i; history = history }

-- the lines stay right where all but the room stays
pub lines_stay : (d d' : Derived) (lines : LinesKept) → Stays d d' → HasLines d lines.kept
    → HasLines d' lines.kept
lines_stay d d' lines s right =
    subst (λ (n : ℕ). KeepsLines n d'.catalog (samples_of d'.book) lines.kept) (sym s.origin)
    (subst (λ (members : List Object). KeepsLines d.origin members (samples_of d'.book) lines.kept)
    (sym s.catalog)
    (subst (λ (it : Samples). KeepsLines d.origin d.catalog it lines.kept) (sym same) right))
  where
    same : samples_of d'.book ≡ samples_of d.book
    same = λ i. record { rows = s.rows i; exclusions = s.exclusions i }

plan_over : (d d' : Derived) (catalog : List Object) (plan : LinesPlan) → Stays d d'
    → IsLinesPlan d.origin d.catalog catalog plan → IsLinesPlan d'.origin d'.catalog catalog plan
plan_over d d' catalog plan s is =
    subst (λ (n : ℕ). IsLinesPlan n d'.catalog catalog plan) (sym s.origin)
    (subst (λ (members : List Object). IsLinesPlan d.origin members catalog plan)
    (sym s.catalog) is)

-- and so does the plan for them
plan_stays : (d d' : Derived) (lines : LinesKept) (work : Work) (plan : Option LinesPlan)
    → Stays d d' → HasLinesPlan d lines work plan → HasLinesPlan d' lines work plan
plan_stays d d' lines (works.Define text catalog applied sums) (Some plan) s has =
    (plan_over d d' catalog plan s has.0, has.1)
plan_stays d d' lines (works.Remove kind name catalog sums) (Some plan) s has =
    (plan_over d d' catalog plan s has.0, has.1)
plan_stays d d' lines (works.Define text catalog applied sums) None s has = has
plan_stays d d' lines (works.Remove kind name catalog sums) None s has = has
plan_stays d d' lines (works.PutZone name bytes zone) plan s has = tt
plan_stays d d' lines (works.Samples rows tally becomes) plan s has = tt
plan_stays d d' lines (works.Exclude value) plan s has = tt
plan_stays d d' lines (works.Lift id) plan s has = tt
plan_stays d d' lines (works.Tick states told) plan s has = tt
plan_stays d d' lines (works.Take number) plan s has = tt
plan_stays d d' lines works.Upgrade plan s has = tt

-- with room of the same size the plan has its room
plan_learnt : (d : Derived) (lines lines' : LinesKept) (work : Work) (plan : Option LinesPlan)
    → lines'.spare ≡ lines.spare → HasLinesPlan d lines work plan → HasLinesPlan d lines' work plan
plan_learnt d lines lines' (works.Define text catalog applied sums) (Some plan) same has =
    (has.0, subst (λ (n : ℕ). length plan.made.items ≤ n) (sym same) has.1)
plan_learnt d lines lines' (works.Remove kind name catalog sums) (Some plan) same has =
    (has.0, subst (λ (n : ℕ). length plan.made.items ≤ n) (sym same) has.1)
plan_learnt d lines lines' (works.Define text catalog applied sums) None same has = has
plan_learnt d lines lines' (works.Remove kind name catalog sums) None same has = has
plan_learnt d lines lines' (works.PutZone name bytes zone) plan same has = tt
plan_learnt d lines lines' (works.Samples rows tally becomes) plan same has = tt
plan_learnt d lines lines' (works.Exclude value) plan same has = tt
plan_learnt d lines lines' (works.Lift id) plan same has = tt
plan_learnt d lines lines' (works.Tick states told) plan same has = tt
plan_learnt d lines lines' (works.Take number) plan same has = tt
plan_learnt d lines lines' works.Upgrade plan same has = tt

ready_learnt : (d : Derived) (lines lines' : LinesKept) (o : Office) (spare places : ℕ)
    (pending : Option Pending) → lines'.spare ≡ lines.spare
    → IsReadyIf d lines o spare places pending → IsReadyIf d lines' o spare places pending
ready_learnt d lines lines' o spare places None same ready = tt
ready_learnt d lines lines' o spare places (Some p) same ready = record {
  next = ready.next;
  room = ready.room;
  fits = ready.fits;
  bytes = ready.bytes;
  place = ready.place;
  plan = plan_learnt d lines lines' p.work p.plan same ready.plan;
}

-- lines that know more are kept as well
pub lines_learnt : (d : Derived) (lines lines' : LinesKept) (history : List Entry)
    (spare places : ℕ) (pending : Option Pending)
    → MachineIsKept d lines history spare places pending → HasLines d lines'.kept →
    lines'.spare ≡ lines.spare → MachineIsKept d lines' history spare places pending
lines_learnt d lines lines' history spare places pending k right same = record {
  sound = k.sound;
  reflects = k.reflects;
  legal = k.legal;
  lines_right = right;
  ready =
      ready_learnt d lines lines' (office_of d history) spare places pending same k.ready;
}

-- the machine whose derived part got room, with nothing pending
pub kept_stays : (d d' : Derived) (lines lines' : LinesKept) (old new : List Entry)
    (spare spare' places places' : ℕ) (pending pending' : Option Pending) →
    MachineIsKept d lines old spare places pending → Stays d d' →
    HasLines d lines'.kept → new ≡ old → pending' ≡ None →
    MachineIsKept d' lines' new spare' places' pending'
kept_stays d d' lines lines' old new spare spare' places places' pending pending' k s right is
    none =
    subst (λ (h : List Entry). MachineIsKept d' lines' h spare' places' pending') (sym is) (record {
      sound = sound_stays d d' s k.sound;
      reflects = subst (Reflects d') (office_stays d d' old s)
          (stays_reflects d d' (office_of d old) s k.reflects);
      legal = subst (λ n. IsLegal n old) (sym s.origin) k.legal;
      lines_right = lines_stay d d' lines' s right;
      ready = subst (IsReadyIf d' lines' (office_of d' old) spare' places') (sym none) tt;
    })

-- the machine with a command that was accepted and found room
pub kept_ready : (d d' : Derived) (lines lines' : LinesKept) (old new : List Entry)
    (spare spare' places places' : ℕ) (pending pending' : Option Pending) (p : Pending) →
    MachineIsKept d lines old spare places pending → Stays d d' →
    HasLines d lines'.kept → HasLinesPlan d lines' p.work p.plan → new ≡ old →
    pending' ≡ Some p → present (office_of d old) ≤ p.moment →
    p.moment < end_of d.origin → Judges (office_of d old) p.moment (command_of p.work) Accepted →
    IsFound (office_of d old) p.moment p.work →
    HasRoom d' p.work → FitsRecord (entry_of p.moment p.work) →
    length (record_of (entry_of p.moment p.work)) ≤ spare' → 1 ≤ places'
    → MachineIsKept d' lines' new spare' places' pending'
kept_ready d d' lines lines' old new spare spare' places places' pending pending' p k s right
    planned is some later in_range accepted found room fits few place =
    let reflects : Reflects d' (office_of d old) =
    stays_reflects d d' (office_of d old) s k.reflects in
    let next : IsNext d' (office_of d old) p.moment p.work = record {
      reflects = reflects;
      later = later;
      in_range = in_range;
      accepted = accepted;
      found = found;
    } in
    let same = office_stays d d' old s in
    let ready : IsReady d' lines' (office_of d' old) spare' places' p = record {
      next = subst (λ (o : Office). IsNext d' o p.moment p.work) same next;
      room = room;
      fits = fits;
      bytes = few;
      place = place;
      plan = plan_stays d d' lines' p.work p.plan s planned;
    } in
    subst (λ (h : List Entry). MachineIsKept d' lines' h spare' places' pending') (sym is) (record {
      sound = sound_stays d d' s k.sound;
      reflects = subst (Reflects d') same reflects;
      legal = subst (λ n. IsLegal n old) (sym s.origin) k.legal;
      lines_right = lines_stay d d' lines' s right;
      ready = subst (IsReadyIf d' lines' (office_of d' old) spare' places') (sym some) ready;
    })

-- a new machine keeps what the empty history says
empty_reflects : (d : Derived) → d.entries ≡ 0 → d.present ≡ d.origin →
    d.catalog ≡ [] → d.zones.kept ≡ [] → Holds [] d.book.rows d.book.exclusions → d.accepted ≡ 0 →
    d.upgraded ≡ false → d.notices.made ≡ [] →
    d.states.items ≡ [] → Reflects d (record { origin = d.origin; history = [] })
empty_reflects d entries now catalog zones held accepted upgraded notices states = record {
  origin = refl;
  entries = entries;
  present = now;
  catalog = catalog;
  zones = zones;
  rows = rows-held [] d.book.rows d.book.exclusions held;
  exclusions = exclusions-held [] d.book.rows d.book.exclusions held;
  held = held;
  accepted = accepted;
  upgraded = upgraded;
  notices = notices;
  states = states;
  numbers = λ number above. refl;
}

-- an empty catalog has no objectives
none_kept : (members : List Object) (made : List (Exclusion × Bool)) (rows : List Row)
    (kept : KeptObjectives) → members ≡ [] → kept.own ≡ [] → kept.pooled ≡ [] →
    KeepsSums members made rows kept
none_kept members made rows kept none no_own no_pooled =
    subst (λ (os : List Object). KeepsSums os made rows kept) (sym none) (record {
      own = subst (AreKept made rows) (sym no_own) tt;
      pooled = subst (AreKept [] rows) (sym no_pooled) tt;
      own_only = subst (AllByRecursion (λ (k : ObjectiveSums). IsLike [] false k.measure))
          (sym no_own) tt;
      pooled_only = subst (AllByRecursion (λ (k : ObjectiveSums). IsLike [] true k.measure))
          (sym no_pooled) tt;
      all = λ m is. cc is.there;
    })

none_of : (P : Row → Type 0) (rows : List Row) → rows ≡ [] → All P rows
none_of P rows is = subst (All P) (sym is) (All-from_recursion P [] tt)

-- and watches nothing
none_watched : (d : Derived) (lines : LinesKept) → d.catalog ≡ [] → lines.kept ≡ []
    → HasLines d lines.kept
none_watched d lines none no_lines =
    subst (λ (os : List Object). KeepsLines d.origin os (samples_of d.book) lines.kept) (sym none)
    (subst (KeepsLines d.origin [] (samples_of d.book)) (sym no_lines) (record {
      right = tt;
      only = tt;
      all = λ w is. cc is.watches;
      bound = tt;
    }))

pub kept_new : (d : Derived) (lines : LinesKept) (history : List Entry) (spare places : ℕ) →
    lines.kept ≡ [] → history ≡ [] →
    d.origin ≤ most.MAX_MINUTE → d.entries ≡ 0 → d.present ≡ d.origin → d.catalog ≡ [] →
    d.zones.kept ≡ [] →
    Holds [] d.book.rows d.book.exclusions → d.sums.own ≡ [] → d.sums.pooled ≡ [] → d.accepted ≡ 0 →
    d.upgraded ≡ false → d.notices.made ≡ [] → d.states.items ≡ [] → MachineIsKept d lines history
    spare places None
kept_new d lines history spare places no_lines is origin entries now catalog zones held own pooled
    accepted upgraded notices states =
    let rows : d.book.rows ≡ [] = rows-held [] d.book.rows d.book.exclusions held in
    subst (λ (h : List Entry). MachineIsKept d lines h spare places None) (sym is) (record {
      sound = record {
        origin = omega (arith, origin);
        entries = omega (arith, entries);
        cells = omega (arith, ap length rows);
        summed = omega (arith, ap length rows);
        accepted = omega (arith, accepted);
        few_waiting = omega (arith, ap waiting notices);
        made = omega (arith, ap length notices);
        read = none_of (RowIsRead d.catalog) d.book.rows rows;
        placed = none_of (IsPlaced d.origin) d.book.rows rows;
        sums = none_kept d.catalog d.book.exclusions d.book.rows d.sums catalog own pooled;
      };
      reflects = empty_reflects d entries now catalog zones held accepted upgraded notices states;
      legal = empty;
      lines_right = none_watched d lines catalog no_lines;
      ready = tt;
    })
