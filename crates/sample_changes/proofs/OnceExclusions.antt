-- Exclusions and liftings that come again.
use Rattle.std.proofs.Common.{◌≡◌, ℕ, ◌||◌, List, [], ◌∷◌, ◌++◌, Bool, true, false, not, cond, refl}
use Rattle.std.proofs.Common.{ap, sym, ◌∙◌, subst, map, length, Option, Some, None}
use Rattle.std.specs.Prelude.{option_map}
use Rattle.std.specs.List.{find, list_any, AllByRecursion}
use Rattle.std.specs.Str.{bytes_eq}
use Rattle.std.specs.Cmp.Lexicographic.{nat_list_eq_equiv}
use Rattle.std.proofs.lemmas.List.Folds.{list_any-append}
use Rattle.std.proofs.lemmas.Bool.{eq-eqb, or_left, or_right}
use Rattle.object_terms.specs.declared.Object.{Object}
use Rattle.sample_book.specs.declared.Exclusion.{Exclusion}
use Rattle.sample_book.specs.Exclusions.{Change, Excluded, Lifted, excluded_in, exclusion_of}
use Rattle.sample_book.specs.Exclusions.{has_id, lifted_in}
use Rattle.record_form.specs.declared.Command.{Command}
use Rattle.record_form.specs.declared.Command.TheVariants.{Define, Remove, PutZone, Samples}
use Rattle.record_form.specs.declared.Command.TheVariants.{Exclude, Lift, Tick, Take, Upgrade}
use Rattle.record_form.specs.declared.Entry.{Entry}
use Rattle.record_form.specs.declared.Outcome.TheVariants.{Changed}
use Rattle.record_form.specs.declared.Refusal.TheVariants as refusals
use Rattle.office_history.specs.declared.Judgement.TheVariants.{Accepted, Same, Refused}
use Rattle.office_history.specs.Catalog.{catalog_in}
use Rattle.office_history.specs.History.{changes_in, changes_of, exclusions_in}
use Rattle.office_history.specs.Judges.{Judges}
use Rattle.office_history.specs.Legal.{IsLegal, empty, followed, office}
use Rattle.office_history.specs.Verdicts.{accepted, exclude_verdict_beside, lift_verdict_of}
use Rattle.office_history.specs.Verdicts.{same_content}
use Rattle.office_derived.proofs.More.{changes_more}
use Rattle.sample_changes.specs.Once.{ExcludeActsOnce, LiftActsOnce, is_lifted}

find-append : {A : Type 0} (p : A → Bool) (xs ys : List A) (x : A) → find p xs ≡ Some x
    → find p (xs ++ ys) ≡ Some x
find-append p [] ys x h = cc h
find-append p (y ∷ xs) ys x h = by (p y) h (find-append p xs ys x)
  where
    by : (b : Bool) → cond b (Some y) (find p xs) ≡ Some x
        → (find p xs ≡ Some x → find p (xs ++ ys) ≡ Some x)
        → cond b (Some y) (find p (xs ++ ys)) ≡ Some x
    by true h go = h
    by false h go = go h

find-push : {A : Type 0} (p : A → Bool) (xs : List A) (x : A) → find p xs ≡ None → p x ≡ true
    → find p (xs ++ x ∷ []) ≡ Some x
find-push p [] x h e = ap (λ b. cond b (Some x) None) e
find-push p (y ∷ xs) x h e = by (p y) h (find-push p xs x)
  where
    by : (b : Bool) → cond b (Some y) (find p xs) ≡ None
        → (find p xs ≡ None → p x ≡ true → find p (xs ++ x ∷ []) ≡ Some x)
        → cond b (Some y) (find p (xs ++ x ∷ [])) ≡ Some x
    by true h go = cc h
    by false h go = go h e

find-passes : {A : Type 0} (p : A → Bool) (xs : List A) (x : A) → find p xs ≡ Some x → p x ≡ true
find-passes p [] x h = cc h
find-passes p (y ∷ xs) x h = by (p y) refl h (find-passes p xs x)
  where
    by : (b : Bool) → p y ≡ b → cond b (Some y) (find p xs) ≡ Some x
        → (find p xs ≡ Some x → p x ≡ true) → p x ≡ true
    by true e h go = let same : y ≡ x = cc h in sym (ap p same) ∙ e
    by false e h go = go h

excluded-append : (cs ds : List Change) → excluded_in (cs ++ ds) ≡ excluded_in cs ++ excluded_in ds
excluded-append [] ds = refl
excluded-append (Excluded value ∷ cs) ds = ap (λ values. value ∷ values) (excluded-append cs ds)
excluded-append (Lifted id ∷ cs) ds = excluded-append cs ds

lifted-append : (cs ds : List Change) → lifted_in (cs ++ ds) ≡ lifted_in cs ++ lifted_in ds
lifted-append [] ds = refl
lifted-append (Excluded value ∷ cs) ds = lifted-append cs ds
lifted-append (Lifted id ∷ cs) ds = ap (λ ids. id ∷ ids) (lifted-append cs ds)

-- the exclusion of an id, of those that were made
abbrev value_of : List Change → List ℕ → Option Exclusion
value_of cs id = find (λ (value : Exclusion). bytes_eq value.id id) (excluded_in cs)

abbrev flagged : List (List ℕ) → Exclusion → Exclusion × Bool
flagged ids value = (value, not (list_any (bytes_eq value.id) ids))

of_id : (ids : List (List ℕ)) (id : List ℕ) (values : List Exclusion) →
    find (has_id id) (map (λ (value : Exclusion). (
      value,
      not (list_any (bytes_eq value.id) ids),
    )) values)
    ≡ option_map (flagged ids) (find (λ (value : Exclusion). bytes_eq value.id id) values)
of_id ids id [] = refl
of_id ids id (v ∷ values) = by (bytes_eq v.id id) (of_id ids id values)
  where
    by : (b : Bool) → find (has_id id)
        (map (λ (value : Exclusion). (value, not (list_any (bytes_eq value.id) ids))) values)
        ≡ option_map (flagged ids) (find (λ (value : Exclusion). bytes_eq value.id id) values) →
        cond b (Some (flagged ids v)) (find (has_id id)
        (map (λ (value : Exclusion). (value, not (list_any (bytes_eq value.id) ids))) values))
        ≡ option_map (flagged ids)
        (cond b (Some v) (find (λ (value : Exclusion). bytes_eq value.id id) values))
    by true rest = refl
    by false rest = rest

kept_of : (h : List Entry) (id : List ℕ) → exclusion_of (exclusions_in h) id
    ≡ option_map (flagged (lifted_in (changes_in h))) (value_of (changes_in h) id)
kept_of h id = of_id (lifted_in (changes_in h)) id (excluded_in (changes_in h))

-- an id was lifted, whose exclusion was made
record WasLifted (cs : List Change) (id : List ℕ) : Type 0 where
  value : Exclusion
  made : value_of cs id ≡ Some value
  lifted : list_any (bytes_eq value.id) (lifted_in cs) ≡ true

-- what a change leaves in all that follow
abbrev Leaves : List Change → Command → Type 0
Leaves cs (Lift id) = WasLifted cs id
Leaves cs (Exclude value) = value_of cs value.id ≡ Some value
Leaves cs _ = Unit {0}

made-later : (cs ds : List Change) (id : List ℕ) (value : Exclusion) → value_of cs id ≡ Some value
    → value_of (cs ++ ds) id ≡ Some value
made-later cs ds id value h =
    ap (find (λ (value : Exclusion). bytes_eq value.id id)) (excluded-append cs ds) ∙ find-append
    (λ (value : Exclusion). bytes_eq value.id id) (excluded_in cs) (excluded_in ds) value h

lifted-later : (cs ds : List Change) (id : List ℕ) → list_any (bytes_eq id) (lifted_in cs) ≡ true
    → list_any (bytes_eq id) (lifted_in (cs ++ ds)) ≡ true
lifted-later cs ds id h =
    ap (list_any (bytes_eq id)) (lifted-append cs ds)
    ∙ list_any-append (bytes_eq id) (lifted_in cs) (lifted_in ds)
    ∙ or_left (list_any (bytes_eq id) (lifted_in cs)) (list_any (bytes_eq id) (lifted_in ds)) h

leaves-later : (cs ds : List Change) (c : Command) → Leaves cs c → Leaves (cs ++ ds) c
leaves-later cs ds (Lift id) h = record {
  value = h.value;
  made = made-later cs ds id h.value h.made;
  lifted = lifted-later cs ds h.value.id h.lifted;
}
leaves-later cs ds (Exclude value) h = made-later cs ds value.id value h
leaves-later cs ds (Define text) h = tt
leaves-later cs ds (Remove kind name) h = tt
leaves-later cs ds (PutZone name bytes) h = tt
leaves-later cs ds (Samples rows) h = tt
leaves-later cs ds Tick h = tt
leaves-later cs ds (Take number) h = tt
leaves-later cs ds Upgrade h = tt

abbrev AllLeave : List Change → List Entry → Type 0
AllLeave cs h = AllByRecursion (λ (e : Entry). Leaves cs e.command) h

leave-push : (cs ds : List Change) (h : List Entry) (e : Entry) → AllLeave cs h
    → Leaves (cs ++ ds) e.command → AllLeave (cs ++ ds) (h ++ e ∷ [])
leave-push cs ds [] e all here = (here, tt)
leave-push cs ds (x ∷ h) e all here = (
  leaves-later cs ds x.command all.0,
  leave-push cs ds h e all.1 here,
)

was_live : (ids : List (List ℕ)) (n : ℕ) (o : Option Exclusion)
    → lift_verdict_of (option_map (flagged ids) o) n ≡ Accepted → (value : Exclusion)
    × (o ≡ Some value)
was_live ids n None h = cc h
was_live ids n (Some value) h = (value, refl)

was_unused : (ids : List (List ℕ)) (origin : ℕ) (members : List Object) (made n : ℕ)
    (value : Exclusion) (o : Option Exclusion) →
    exclude_verdict_beside (option_map (flagged ids) o) origin members made n value ≡ Accepted
    → o ≡ None
was_unused ids origin members made n value None h = refl
was_unused ids origin members made n value (Some kept) h =
    by (not (list_any (bytes_eq kept.id) ids)) (same_content kept value) h
  where
    by : (b c : Bool) → cond b (cond
        c (Same (Changed None)) (Refused (refusals.ExclusionConflict kept.from kept.slo kept.to)))
        (Refused (refusals.Withdrawn value.id)) ≡ Accepted → Some kept ≡ None
    by true true h = cc h
    by true false h = cc h
    by false c h = cc h

new-leaves : (origin : ℕ) (h : List Entry) (m : ℕ) (c : Command)
    → Judges (office origin h) m c Accepted → Leaves (changes_in h ++ changes_of c) c
new-leaves origin h m (Lift id) v =
    let live = was_live (lifted_in (changes_in h)) (length h) (value_of (changes_in h) id)
    (ap (λ o. lift_verdict_of o (length h)) (sym (kept_of h id)) ∙ sym v) in
    let same : bytes_eq live.0.id id ≡ true = find-passes
    (λ (value : Exclusion). bytes_eq value.id id) (excluded_in (changes_in h)) live.0 live.1 in
    record {
      value = live.0;
      made = made-later (changes_in h) (Lifted id ∷ []) id live.0 live.1;
      lifted =
          ap (list_any (bytes_eq live.0.id)) (lifted-append (changes_in h) (Lifted id ∷ []))
          ∙ list_any-append (bytes_eq live.0.id) (lifted_in (changes_in h)) (id ∷ [])
          ∙ or_right (list_any (bytes_eq live.0.id) (lifted_in (changes_in h)))
          (bytes_eq live.0.id id || false) (ap (λ b. b || false) same);
    }
new-leaves origin h m (Exclude value) v =
    let unused = was_unused (lifted_in (changes_in h)) origin (catalog_in h)
    (length (exclusions_in h)) (length h) value (value_of (changes_in h) value.id)
    (ap (λ o. exclude_verdict_beside o origin (catalog_in h) (length (exclusions_in h)) (length h)
    value)
    (sym (kept_of h value.id)) ∙ sym v) in
    ap (find (λ (other : Exclusion). bytes_eq other.id value.id))
    (excluded-append (changes_in h) (Excluded value ∷ []))
    ∙ find-push (λ (other : Exclusion). bytes_eq other.id value.id) (excluded_in (changes_in h))
    value unused (nat_list_eq_equiv.refl value.id)
new-leaves origin h m (Define text) v = tt
new-leaves origin h m (Remove kind name) v = tt
new-leaves origin h m (PutZone name bytes) v = tt
new-leaves origin h m (Samples rows) v = tt
new-leaves origin h m Tick v = tt
new-leaves origin h m (Take number) v = tt
new-leaves origin h m Upgrade v = tt

legal-leaves : (origin : ℕ) (h : List Entry) → IsLegal origin h → AllLeave (changes_in h) h
legal-leaves origin _ empty = tt
legal-leaves origin _ (followed {h = h} e legal may) =
    subst (λ (cs : List Change). AllLeave cs (h ++ e ∷ [])) (sym (changes_more h e))
    (leave-push (changes_in h) (changes_of e.command) h e (legal-leaves origin h legal)
    (new-leaves origin h e.moment e.command may.accepted))

leaves-at : (cs : List Change) (before after : List Entry) (e : Entry)
    → AllLeave cs (before ++ e ∷ after) → Leaves cs e.command
leaves-at cs [] after e all = all.0
leaves-at cs (x ∷ before) after e all = leaves-at cs before after e all.1

left_by : (origin : ℕ) (h before after : List Entry) (e : Entry) (c : Command) → IsLegal origin h
    → h ≡ before ++ e ∷ after → e.command ≡ c → Leaves (changes_in h) c
left_by origin h before after e c legal split is =
    subst (Leaves (changes_in h)) is (leaves-at (changes_in h) before after e
    (subst (AllLeave (changes_in h)) split (legal-leaves origin h legal)))

pub lift_once : LiftActsOnce
lift_once origin h before after e id moment legal split is =
    let left = left_by origin h before after e (Lift id) legal split is in
    sym (ap (λ o. lift_verdict_of o (length h))
    (kept_of h id ∙ ap (option_map (flagged (lifted_in (changes_in h)))) left.made)
    ∙ ap (λ b. cond (not b) (accepted (length h)) (Same (Changed None))) left.lifted)

pub exclude_once : ExcludeActsOnce
exclude_once origin h before after e value moment legal split is =
    let left : value_of (changes_in h) value.id ≡ Some value =
    left_by origin h before after e (Exclude value) legal split is in
    sym (ap (λ o. exclude_verdict_beside o origin (catalog_in h) (length (exclusions_in h))
    (length h) value)
    (kept_of h value.id ∙ ap (option_map (flagged (lifted_in (changes_in h)))) left)
    ∙ by (is_lifted h value.id))
  where
    itself : same_content value value ≡ true
    itself = rw (
      nat_list_eq_equiv.refl value.slo,
      eq-eqb value.from value.from refl,
      eq-eqb value.to value.to refl,
    ) refl

    by : (b : Bool) →
        cond (not b) (cond (same_content value value) (Same (Changed None))
        (Refused (refusals.ExclusionConflict value.from value.slo value.to)))
        (Refused (refusals.Withdrawn value.id))
        ≡ cond b (Refused (refusals.Withdrawn value.id)) (Same (Changed None))
    by true = refl
    by false = ap (λ c. cond c (Same (Changed None))
        (Refused (refusals.ExclusionConflict value.from value.slo value.to))) itself
