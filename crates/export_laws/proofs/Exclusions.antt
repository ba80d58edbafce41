-- Exclusions are put one after another, and those that aren't live lifted right behind.
use Rattle.std.proofs.Common.{◌≡◌, ℕ, ◌+◌, ◌<◌, ◌≤◌, Bool, true, false, not, ◌&&◌, cond, List}
use Rattle.std.proofs.Common.{[], ◌∷◌, ◌++◌, filter, refl, sym, ap, ◌∙◌, length, subst, arith}
use Rattle.std.proofs.Common.{Option, Some, None, is_some, is_none, nat_le, append-nil}
use Rattle.std.proofs.Common.{append_assoc, length-append, bytes_eq, flat_map, suc}
use Rattle.std.proofs.Common.{◌*◌}
use Rattle.std.specs.Prelude.{IfSome, IsSome}
use Rattle.std.specs.List.{AllByRecursion}
use Rattle.std.proofs.lemmas.Bool.Decides.{nat_tests}
use Rattle.std.proofs.lemmas.Cmp.{nat_list_eq_equiv}
use Rattle.slo_limits.specs.declared.TheConstants as most
use Rattle.object_terms.specs.declared.Object.{Object}
use Rattle.sample_book.specs.declared.Row.{Row}
use Rattle.sample_book.specs.declared.Exclusion.{Exclusion}
use Rattle.sample_book.specs.Exclusions.{Change, Excluded, Lifted, exclusion_of, after_lifting}
use Rattle.sample_book.specs.Exclusions.{HaveOwnIds, IsLive}
use Rattle.sample_book.specs.History.{exclusions_of}
use Rattle.sample_book.proofs.IdLemmas.{own_ids_push, own_ids_lifted}
use Rattle.object_terms.specs.declared.Kind.TheVariants as kinds
use Rattle.record_form.specs.declared.Command.{Command}
use Rattle.record_form.specs.declared.Command.TheVariants.{Define, Remove, PutZone, Samples}
use Rattle.record_form.specs.declared.Command.TheVariants.{Exclude, Lift, Tick, Take, Upgrade}
use Rattle.record_form.specs.declared.Entry.{Entry}
use Rattle.record_form.specs.declared.LimitName.TheVariants as limits
use Rattle.record_form.specs.declared.Outcome.TheVariants.{Changed}
use Rattle.record_form.specs.declared.Refusal.TheVariants as refusals
use Rattle.office_history.specs.declared.Judgement.TheVariants.{Accepted, Same, Refused}
use Rattle.office_history.specs.Batches.{when}
use Rattle.office_history.specs.Catalog.{catalog_in}
use Rattle.office_history.specs.History.{Office, moment_of, end_of, changes_in, changes_of}
use Rattle.office_history.specs.History.{exclusions_in}
use Rattle.office_history.specs.Judges.{Judges}
use Rattle.office_history.specs.Legal.{IsLegal, empty, followed, office}
use Rattle.office_history.specs.Lists.{first_some}
use Rattle.office_history.specs.Objectives.{slo_named}
use Rattle.office_history.specs.Verdicts.{unless_refused, accepted, is_range}
use Rattle.office_history.specs.Verdicts.{exclude_verdict, exclude_verdict_beside, lift_verdict}
use Rattle.office_history.specs.Verdicts.{lift_verdict_of, same_content}
use Rattle.office_derived.proofs.More.{changes_more}
use Rattle.export_terms.specs.Moves.{exclusion_moves, of_members}
use Rattle.sample_book.proofs.ExclusionLemmas as book
use Rattle.export_laws.specs.Replay.{after, after_all, AreAccepted, entry_at}
use Rattle.office_history.specs.Legal.{MayFollow}
use Rattle.export_terms.proofs.ZoneLemmas.{all_joined}
use Rattle.export_laws.proofs.Steps.{Stands, stands_after, may_follow}
use Rattle.export_laws.proofs.Definitions.{room_for_one}

abbrev pub Made : Type 0
Made = List (Exclusion × Bool)

-- LEGAL HISTORIES

pub record KeepExclusions (origin : ℕ) (changes : List Change) : Type 0 where
  pub made : Made
  pub is_made : book.Made changes made
  pub own : HaveOwnIds made
  pub ranges : AllByRecursion (λ (kept : Exclusion × Bool). is_range origin kept.0 ≡ true) made
  pub few : length made ≤ most.MAX_EXCLUSIONS

-- what was made is what the changes say
pub says : (changes : List Change) (made : Made) → book.Made changes made
    → exclusions_of changes ≡ made
says changes made h = sym (book.shape changes made h).flags

record IsNew (origin : ℕ) (made : Made) (value : Exclusion) : Type 0 where
  unused : exclusion_of made value.id ≡ None
  range : is_range origin value ≡ true
  room : length made < most.MAX_EXCLUSIONS

is_new : (origin : ℕ) (members : List Object) (made : Made) (n : ℕ) (value : Exclusion)
    → Accepted ≡ exclude_verdict origin members made n value → IsNew origin made value
is_new origin members made n value e = by (exclusion_of made value.id) refl e
  where
    room : nat_le most.MAX_EXCLUSIONS (length made) ≡ false → length made < most.MAX_EXCLUSIONS
    room h = grind (arith, nat_tests, h)

    fresh : (a b c : Bool) → is_range origin value ≡ b
        → nat_le most.MAX_EXCLUSIONS (length made) ≡ c → exclusion_of made value.id ≡ None
        → Accepted ≡ unless_refused (first_some (
        when a (refusals.NoSuchSlo kinds.Slo value.slo)
        ∷ when (not b) refusals.Range
        ∷ when c (refusals.Limit limits.Exclusions) ∷ [])) (accepted n)
        → IsNew origin made value
    fresh true b c f g u h = cc h
    fresh false false c f g u h = cc h
    fresh false true true f g u h = cc h
    fresh false true false f g u h = record { unused = u; range = f; room = room g }

    old : (kept : Exclusion × Bool) (a b : Bool) → Accepted ≡ cond a (cond b (Same (Changed None))
        (Refused (refusals.ExclusionConflict kept.0.from kept.0.slo kept.0.to)))
        (Refused (refusals.Withdrawn value.id)) → ⊥
    old kept true true h = cc h
    old kept true false h = cc h
    old kept false b h = cc h

    by : (o : Option (Exclusion × Bool)) → exclusion_of made value.id ≡ o
        → Accepted ≡ exclude_verdict_beside o origin members (length made) n value
        → IsNew origin made value
    by None f h = fresh (is_none (slo_named members value.slo)) (is_range origin value)
        (nat_le most.MAX_EXCLUSIONS (length made)) refl refl f h
    by (Some kept) f h = absurd (old kept kept.1 (same_content kept.0 value) h)

was_live : (made : Made) (n : ℕ) (id : List ℕ) → Accepted ≡ lift_verdict made n id → IsLive made id
was_live made n id e = by (exclusion_of made id) e
  where
    each : (b : Bool) → Accepted ≡ cond b (accepted n) (Same (Changed None)) → b ≡ true
    each true h = refl
    each false h = cc h

    by : (o : Option (Exclusion × Bool)) → Accepted ≡ lift_verdict_of o n
        → IfSome o (λ kept. kept.1 ≡ true) × IsSome o
    by None h = cc h
    by (Some kept) h = (each kept.1 h, refl)

ranges_lifted : (origin : ℕ) (made : Made) (id : List ℕ)
    → AllByRecursion (λ (kept : Exclusion × Bool). is_range origin kept.0 ≡ true) made
    → AllByRecursion (λ (kept : Exclusion × Bool). is_range origin kept.0 ≡ true)
    (after_lifting made id)
ranges_lifted origin [] id h = tt
ranges_lifted origin (k ∷ ks) id h = (h.0, ranges_lifted origin ks id h.1)

length_lifted : (made : Made) (id : List ℕ) → length (after_lifting made id) ≡ length made
length_lifted [] id = refl
length_lifted (k ∷ ks) id = omega (arith, length_lifted ks id)

none_more : {origin : ℕ} {changes : List Change} → KeepExclusions origin changes
    → KeepExclusions origin (changes ++ [])
none_more {origin = origin} {changes = changes} k =
    subst (KeepExclusions origin) (sym (append-nil changes)) k

keep_after : (origin : ℕ) (h : List Entry) (m : ℕ) (c : Command)
    → KeepExclusions origin (changes_in h) → Judges (office origin h) m c Accepted
    → KeepExclusions origin (changes_in h ++ changes_of c)
keep_after origin h m (Exclude value) k v =
    let n = is_new origin (catalog_in h) k.made (length h) value
    (v ∙ ap (λ made. exclude_verdict origin (catalog_in h) made (length h) value)
    (says (changes_in h) k.made k.is_made)) in
    record {
      made = k.made ++ (value, true) ∷ [];
      is_made = book.excluded value k.is_made n.unused;
      own = own_ids_push k.made value k.own n.unused;
      ranges = all_joined (λ (kept : Exclusion × Bool). is_range origin kept.0 ≡ true) k.made
          ((value, true) ∷ []) k.ranges (n.range, tt);
      few = omega (arith, n.room, length-append k.made ((value, true) ∷ []));
    }
keep_after origin h m (Lift id) k v =
    let live = was_live k.made (length h) id
    (v ∙ ap (λ made. lift_verdict made (length h) id) (says (changes_in h) k.made k.is_made)) in
    record {
      made = after_lifting k.made id;
      is_made = book.lifted_one id k.is_made live;
      own = own_ids_lifted k.made id k.own;
      ranges = ranges_lifted origin k.made id k.ranges;
      few = omega (arith, k.few, length_lifted k.made id);
    }
keep_after origin h m (Define text) k v = none_more k
keep_after origin h m (Remove kind name) k v = none_more k
keep_after origin h m (PutZone name bytes) k v = none_more k
keep_after origin h m (Samples rows) k v = none_more k
keep_after origin h m Tick k v = none_more k
keep_after origin h m (Take number) k v = none_more k
keep_after origin h m Upgrade k v = none_more k

pub legal_exclusions : (origin : ℕ) (h : List Entry) → IsLegal origin h
    → KeepExclusions origin (changes_in h)
legal_exclusions origin _ empty =
    record { made = []; is_made = book.none; own = tt; ranges = tt; few = omega arith }
legal_exclusions origin _ (followed {h = h} e legal may) =
    subst (KeepExclusions origin) (sym (changes_more h e))
    (keep_after origin h e.moment e.command (legal_exclusions origin h legal) may.accepted)

-- THOSE THAT ARE SENT

none_filtered : (p : Exclusion × Bool → Bool) (made : Made) (id : List ℕ)
    → exclusion_of made id ≡ None → exclusion_of (filter p made) id ≡ None
none_filtered p [] id h = refl
none_filtered p (k ∷ ks) id h = by (bytes_eq k.0.id id) (p k) refl h (none_filtered p ks id)
  where
    by : (a b : Bool) → bytes_eq k.0.id id ≡ a → cond a (Some k) (exclusion_of ks id) ≡ None
        → (exclusion_of ks id ≡ None → exclusion_of (filter p ks) id ≡ None)
        → exclusion_of (cond b (k ∷ filter p ks) (filter p ks)) id ≡ None
    by true b e h again = cc h
    by false true e h again =
        ap (λ c. cond c (Some k) (exclusion_of (filter p ks) id)) e ∙ again h
    by false false e h again = again h

own_filtered : (p : Exclusion × Bool → Bool) (made : Made) → HaveOwnIds made
    → HaveOwnIds (filter p made)
own_filtered p [] h = tt
own_filtered p (k ∷ ks) h = by (p k) (own_filtered p ks h.1)
  where
    by : (b : Bool) → HaveOwnIds (filter p ks) → HaveOwnIds (cond b (k ∷ filter p ks) (filter p ks))
    by true more = (none_filtered p ks k.0.id h.0, more)
    by false more = more

-- the ids of those ahead are others
ahead_none : (sent rest : Made) (k : Exclusion × Bool) → HaveOwnIds (sent ++ k ∷ rest)
    → exclusion_of sent k.0.id ≡ None
ahead_none [] rest k h = refl
ahead_none (s ∷ sent) rest k h =
    ap (λ b. cond b (Some s) (exclusion_of sent k.0.id))
    (nat_list_eq_equiv.symm s.0.id k.0.id ∙ among sent h.0) ∙ ahead_none sent rest k h.1
  where
    pass : (b : Bool) (x : Exclusion × Bool) (o : Option (Exclusion × Bool))
        → cond b (Some x) o ≡ None → (b ≡ false) × (o ≡ None)
    pass true x o e = cc e
    pass false x o e = (refl, e)

    among : (sent : Made) → exclusion_of (sent ++ k ∷ rest) s.0.id ≡ None
        → bytes_eq k.0.id s.0.id ≡ false
    among [] e = (pass (bytes_eq k.0.id s.0.id) k (exclusion_of rest s.0.id) e).0
    among (t ∷ sent) e =
        among sent (pass (bytes_eq t.0.id s.0.id) t (exclusion_of (sent ++ k ∷ rest) s.0.id) e).1

found_last : (sent : Made) (value : Exclusion) → exclusion_of sent value.id ≡ None
    → exclusion_of (sent ++ (value, true) ∷ []) value.id ≡ Some (value, true)
found_last [] value h = ap (λ b. cond b (Some (value, true)) None) (nat_list_eq_equiv.refl value.id)
found_last (s ∷ sent) value h = by (bytes_eq s.0.id value.id) h (found_last sent value)
  where
    by : (b : Bool) → cond b (Some s) (exclusion_of sent value.id) ≡ None
        → (exclusion_of sent value.id ≡ None
        → exclusion_of (sent ++ (value, true) ∷ []) value.id ≡ Some (value, true))
        → cond b (Some s) (exclusion_of (sent ++ (value, true) ∷ []) value.id) ≡ Some (value, true)
    by true h again = cc h
    by false h again = again h

lifted_last : (sent : Made) (value : Exclusion) → exclusion_of sent value.id ≡ None
    → after_lifting (sent ++ (value, true) ∷ []) value.id ≡ sent ++ (value, false) ∷ []
lifted_last [] value h = ap (λ b. (value, true && not b) ∷ []) (nat_list_eq_equiv.refl value.id)
lifted_last (s ∷ sent) value h = by (bytes_eq s.0.id value.id) s.1 h (lifted_last sent value)
  where
    by : (b live : Bool) → cond b (Some s) (exclusion_of sent value.id) ≡ None
        → (exclusion_of sent value.id ≡ None
        → after_lifting (sent ++ (value, true) ∷ []) value.id ≡ sent ++ (value, false) ∷ [])
        → (s.0, live && not b) ∷ after_lifting (sent ++ (value, true) ∷ []) value.id
        ≡ (s.0, live) ∷ sent ++ (value, false) ∷ []
    by true live h again = cc h
    by false true h again = ap (λ made. (s.0, true) ∷ made) (again h)
    by false false h again = ap (λ made. (s.0, false) ∷ made) (again h)

pub record CanBeMade (origin : ℕ) (members : List Object) (kept : Exclusion × Bool) : Type 0 where
  pub of_slo : is_some (slo_named members kept.0.slo) ≡ true
  pub range : is_range origin kept.0 ≡ true

exclusion_is_accepted : (origin : ℕ) (members : List Object) (made : Made) (n : ℕ)
    (kept : Exclusion × Bool) → CanBeMade origin members kept → exclusion_of made kept.0.id ≡ None
    → length made < most.MAX_EXCLUSIONS → n < most.MAX_ENTRIES
    → Accepted ≡ exclude_verdict origin members made n kept.0
exclusion_is_accepted origin members made n kept can unused few room = sym (
    ap (λ o. exclude_verdict_beside o origin members (length made) n kept.0) unused
    ∙ (λ i. unless_refused (first_some (
    when (none (slo_named members kept.0.slo) can.of_slo i)
    (refusals.NoSuchSlo kinds.Slo kept.0.slo)
    ∷ when (not (can.range i)) refusals.Range
    ∷ when (below (nat_le most.MAX_EXCLUSIONS (length made)) refl i)
    (refusals.Limit limits.Exclusions)
    ∷ [])) (accepted n))
    ∙ room_for_one n room)
  where
    none : {A : Type 0} (o : Option A) → is_some o ≡ true → is_none o ≡ false
    none (Some x) h = refl
    none None h = cc h

    below : (b : Bool) → nat_le most.MAX_EXCLUSIONS (length made) ≡ b → b ≡ false
    below false e = refl
    below true e = absurd (grind (arith, nat_tests))

-- what a history says, with its exclusions
pub record StandsMade (origin : ℕ) (upgraded : Bool) (members : List Object)
    (zones : List (List ℕ × List ℕ))
    (rows : List Row) (made : Made) (entries : ℕ) (o : Office) : Type 0 where
  pub changes : List Change
  pub stands : Stands origin upgraded members zones rows changes entries o
  pub is_made : book.Made changes made

module _ (origin : ℕ) (upgraded : Bool) (members : List Object) (zones : List (List ℕ × List ℕ))
    (rows : List Row) where
  same_else : (changes : List Change) (entries : ℕ) (o : Office)
      → Stands origin upgraded members (zones ++ []) (rows ++ []) changes entries o
      → Stands origin upgraded members zones rows changes entries o
  same_else changes entries o s =
      subst (λ (p : List (List ℕ × List ℕ) × List Row). Stands origin upgraded members p.0 p.1
      changes entries
      o) (λ i. (append-nil zones i, append-nil rows i)) s

  -- one that is put
  put_one : (o : Office) (sent : Made) (kept : Exclusion × Bool) (r entries : ℕ)
      → StandsMade origin upgraded members zones rows sent entries o → CanBeMade origin members kept
      → exclusion_of sent kept.0.id ≡ None → length sent < most.MAX_EXCLUSIONS
      → entries < most.MAX_ENTRIES → r < end_of origin
      → MayFollow o (entry_at (moment_of o r) (Exclude kept.0))
      × StandsMade origin upgraded members zones rows (sent ++ (kept.0, true) ∷ []) (entries + 1)
      (after o r (Exclude kept.0))
  put_one o sent kept r entries s can unused few room below =
      let accepts : Accepted ≡ exclude_verdict o.origin (catalog_in o.history)
      (exclusions_in o.history) (length o.history) kept.0 =
      exclusion_is_accepted origin members sent entries kept can unused few room
      ∙ (λ i. exclude_verdict (sym s.stands.origin_is i) (sym s.stands.catalog_is i)
      (sym (says s.changes sent s.is_made) i) entries kept.0)
      ∙ (λ i. exclude_verdict o.origin (catalog_in o.history)
      (exclusions_of (sym s.stands.changes_are i)) (sym s.stands.counted i) kept.0) in (
        may_follow o origin r (Exclude kept.0) s.stands.origin_is s.stands.in_range below accepts,
        record {
          changes = s.changes ++ Excluded kept.0 ∷ [];
          stands = same_else (s.changes ++ Excluded kept.0 ∷ []) (entries + 1)
              (after o r (Exclude kept.0))
              (stands_after origin upgraded members zones rows s.changes entries o r
              (Exclude kept.0) s.stands
              below);
          is_made = book.excluded kept.0 s.is_made unused;
        },
      )

  -- one that is lifted right behind
  lift_one : (o : Office) (sent : Made) (value : Exclusion) (r entries : ℕ)
      → StandsMade origin upgraded members zones rows (sent ++ (value, true) ∷ []) entries o
      → exclusion_of sent value.id ≡ None → entries < most.MAX_ENTRIES → r < end_of origin
      → MayFollow o (entry_at (moment_of o r) (Lift value.id))
      × StandsMade origin upgraded members zones rows (sent ++ (value, false) ∷ []) (entries + 1)
      (after o r (Lift value.id))
  lift_one o sent value r entries s unused room below =
      let last = found_last sent value unused in
      let verdict : Accepted ≡ lift_verdict (sent ++ (value, true) ∷ []) entries value.id =
      sym (ap (λ o. lift_verdict_of o entries) last ∙ room_for_one entries room) in
      let accepts : Accepted ≡ lift_verdict (exclusions_in o.history) (length o.history) value.id =
      verdict
      ∙ (λ i. lift_verdict (sym (says s.changes (sent ++ (value, true) ∷ []) s.is_made) i) entries
      value.id)
      ∙ (λ i. lift_verdict (exclusions_of (sym s.stands.changes_are i)) (sym s.stands.counted i)
      value.id) in
      let live : IsLive (sent ++ (value, true) ∷ []) value.id =
      was_live (sent ++ (value, true) ∷ []) entries value.id verdict in (
        may_follow o origin r (Lift value.id) s.stands.origin_is s.stands.in_range below accepts,
        record {
          changes = s.changes ++ Lifted value.id ∷ [];
          stands = same_else (s.changes ++ Lifted value.id ∷ []) (entries + 1)
              (after o r (Lift value.id))
              (stands_after origin upgraded members zones rows s.changes entries o r (Lift value.id)
              s.stands
              below);
          is_made = subst (book.Made (s.changes ++ Lifted value.id ∷ []))
              (lifted_last sent value unused) (book.lifted_one value.id s.is_made live);
        },
      )

  pub exclusions_accepted : (o : Office) (sent todo : Made) (readings : List ℕ) (entries : ℕ)
      → StandsMade origin upgraded members zones rows sent entries o → HaveOwnIds (sent ++ todo)
      → AllByRecursion (CanBeMade origin members) todo
      → length (sent ++ todo) ≤ most.MAX_EXCLUSIONS
      → length (flat_map exclusion_moves todo) + entries ≤ most.MAX_ENTRIES
      → length readings ≡ length (flat_map exclusion_moves todo)
      → AllByRecursion (λ r. r < end_of origin) readings
      → AreAccepted o (flat_map exclusion_moves todo) readings
      × StandsMade origin upgraded members zones rows (sent ++ todo)
      (length (flat_map exclusion_moves todo) + entries)
      (after_all o (flat_map exclusion_moves todo) readings)
  exclusions_accepted o sent [] [] entries s own can few room as_many below = (
    tt,
    subst (λ (p : Made × ℕ). StandsMade origin upgraded members zones rows p.0 p.1 o)
        (λ i. (sym (append-nil sent) i, number i)) s,
  )
    where
      number : entries ≡ 0 + entries
      number = omega arith
  exclusions_accepted o sent [] (r ∷ rs) entries s own can few room as_many below =
      absurd (omega (arith, as_many))
  exclusions_accepted o sent ((value, true) ∷ todo) [] entries s own can few room as_many below =
      absurd (omega (arith, as_many))
  exclusions_accepted o sent ((value, true) ∷ todo) (r ∷ rs) entries s own can few room as_many
      below =
      let split : (sent ++ (value, true) ∷ []) ++ todo ≡ sent ++ (value, true) ∷ todo =
      append_assoc sent ((value, true) ∷ []) todo in
      let unused = ahead_none sent todo (value, true) own in
      let one = put_one o sent (value, true) r entries s can.0 unused
      (omega (arith, few, length-append sent ((value, true) ∷ todo))) (omega (arith, room)) below.0
      in
      let more = exclusions_accepted (after o r (Exclude value)) (sent ++ (value, true) ∷ []) todo
      rs
      (entries + 1) one.1 (subst HaveOwnIds (sym split) own) can.1
      (subst (λ (m : Made). length m ≤ most.MAX_EXCLUSIONS) (sym split) few) (omega (arith, room))
      (omega (arith, as_many)) below.1 in (
        (one.0, more.0),
        subst (λ (p : Made × ℕ). StandsMade origin upgraded members zones rows p.0 p.1
            (after_all (after o r (Exclude value)) (flat_map exclusion_moves todo) rs))
            (λ i. (split i, counted i)) more.1,
      )
    where
      counted : length (flat_map exclusion_moves todo) + (entries + 1)
          ≡ suc (length (flat_map exclusion_moves todo)) + entries
      counted = omega arith
  exclusions_accepted o sent ((value, false) ∷ todo) [] entries s own can few room as_many below =
      absurd (omega (arith, as_many))
  exclusions_accepted o sent ((value, false) ∷ todo) (r ∷ []) entries s own can few room as_many
      below = absurd (omega (arith, as_many))
  exclusions_accepted o sent ((value, false) ∷ todo) (r ∷ q ∷ rs) entries s own can few room as_many
      below =
      let split : (sent ++ (value, false) ∷ []) ++ todo ≡ sent ++ (value, false) ∷ todo =
      append_assoc sent ((value, false) ∷ []) todo in
      let unused = ahead_none sent todo (value, false) own in
      let one = put_one o sent (value, false) r entries s can.0 unused
      (omega (arith, few, length-append sent ((value, false) ∷ todo))) (omega (arith, room)) below.0
      in
      let two = lift_one (after o r (Exclude value)) sent value q (entries + 1) one.1 unused
      (omega (arith, room)) below.1.0 in
      let o2 : Office = after (after o r (Exclude value)) q (Lift value.id) in
      let more = exclusions_accepted o2 (sent ++ (value, false) ∷ []) todo rs
      (entries + 1 + 1) two.1 (subst HaveOwnIds (sym split) own) can.1
      (subst (λ (m : Made). length m ≤ most.MAX_EXCLUSIONS) (sym split) few) (omega (arith, room))
      (omega (arith, as_many)) below.1.1 in (
        (one.0, (two.0, more.0)),
        subst (λ (p : Made × ℕ). StandsMade origin upgraded members zones rows p.0 p.1
            (after_all o2 (flat_map exclusion_moves todo) rs)) (λ i. (split i, counted i)) more.1,
      )
    where
      counted : length (flat_map exclusion_moves todo) + (entries + 1 + 1)
          ≡ suc (suc (length (flat_map exclusion_moves todo))) + entries
      counted = omega arith

-- the exclusions of a legal history's SLOs can be sent
pub can_be_made : (origin : ℕ) (members : List Object) (made : Made)
    → AllByRecursion (λ (kept : Exclusion × Bool). is_range origin kept.0 ≡ true) made
    → AllByRecursion (CanBeMade origin members) (of_members members made)
can_be_made origin members [] h = tt
can_be_made origin members (k ∷ ks) h =
    by (is_some (slo_named members k.0.slo)) refl (can_be_made origin members ks h.1)
  where
    by : (b : Bool) → is_some (slo_named members k.0.slo) ≡ b
        → AllByRecursion (CanBeMade origin members) (of_members members ks)
        → AllByRecursion (CanBeMade origin members)
        (cond b (k ∷ of_members members ks) (of_members members ks))
    by true e more = (record { of_slo = e; range = h.0 }, more)
    by false e more = more

pub own_members : (members : List Object) (made : Made) → HaveOwnIds made
    → HaveOwnIds (of_members members made)
own_members members made h =
    own_filtered (λ (kept : Exclusion × Bool). is_some (slo_named members kept.0.slo)) made h

fewer : (p : Exclusion × Bool → Bool) (xs : Made) → length (filter p xs) ≤ length xs
fewer p [] = omega arith
fewer p (x ∷ xs) = by (p x) (fewer p xs)
  where
    by : (b : Bool) → length (filter p xs) ≤ length xs
        → length (cond b (x ∷ filter p xs) (filter p xs)) ≤ length (x ∷ xs)
    by true h = omega (arith, h)
    by false h = omega (arith, h)

pub few_members : (members : List Object) (made : Made)
    → length (of_members members made) ≤ length made
few_members members made =
    fewer (λ (kept : Exclusion × Bool). is_some (slo_named members kept.0.slo)) made

pub few_moves : (made : Made) → length (flat_map exclusion_moves made) ≤ 2 * length made
few_moves [] = omega arith
few_moves ((value, true) ∷ made) = omega (arith, few_moves made)
few_moves ((value, false) ∷ made) = omega (arith, few_moves made)
