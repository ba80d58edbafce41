-- What is excluded, by the list of all exclusions and liftings.
use Rattle.std.proofs.Common.{◌≡◌, ℕ, List, [], ◌∷◌, ◌++◌, Bool, true, false, not, ◌&&◌, ◌||◌, refl}
use Rattle.std.proofs.Common.{ap, sym, ◌∙◌, map, Some, None, cond, subst}
use Rattle.std.specs.Prelude.{IsSome}
use Rattle.std.specs.List.{find, list_any}
use Rattle.std.specs.Str.{bytes_eq}
use Rattle.std.proofs.lemmas.Slice.Eq.{bytes_eq-Decides}
use Rattle.std.proofs.lemmas.List.{map-append}
use Rattle.std.proofs.lemmas.Bool.{or_parts, or_from}
use Rattle.sample_book.specs.declared.exclusions.Exclusion.{Exclusion}
use Rattle.sample_book.proofs.StandingLemmas.{list_any-append}
use Rattle.sample_book.specs.Exclusions.{has_id, exclusion_of, excludes, is_excluded, after_lifting}
use Rattle.sample_book.specs.Exclusions.{IsLive, Change, Excluded, Lifted, excluded_in, lifted_in}
use Rattle.sample_book.specs.Exclusions.{excludes_in, is_excluded_in}

-- A book's exclusions after these changes, each of which was allowed.
pub data Made : List Change → List (Exclusion × Bool) → Type 0 where
  none : Made [] []
  excluded : {changes : List Change} {made : List (Exclusion × Bool)} (value : Exclusion) →
      Made changes made → exclusion_of made value.id ≡ None →
      Made (changes ++ Excluded value ∷ []) (made ++ (value, true) ∷ [])
  lifted_one : {changes : List Change} {made : List (Exclusion × Bool)} (id : List ℕ) →
      Made changes made → IsLive made id → Made (changes ++ Lifted id ∷ []) (after_lifting made id)

-- the exclusions, each live unless its id was lifted
abbrev flagged : List (List ℕ) → List Exclusion → List (Exclusion × Bool)
flagged ids values = map (λ value. (value, not (list_any (bytes_eq value.id) ids))) values

excluded-excluded : (changes : List Change) (value : Exclusion)
    → excluded_in (changes ++ Excluded value ∷ []) ≡ excluded_in changes ++ value ∷ []
excluded-excluded [] value = refl
excluded-excluded (Excluded v ∷ changes) value = ap (λ vs. v ∷ vs) (excluded-excluded changes value)
excluded-excluded (Lifted id ∷ changes) value = excluded-excluded changes value

excluded-lifted : (changes : List Change) (id : List ℕ)
    → excluded_in (changes ++ Lifted id ∷ []) ≡ excluded_in changes
excluded-lifted [] id = refl
excluded-lifted (Excluded v ∷ changes) id = ap (λ vs. v ∷ vs) (excluded-lifted changes id)
excluded-lifted (Lifted i ∷ changes) id = excluded-lifted changes id

lifted-excluded : (changes : List Change) (value : Exclusion)
    → lifted_in (changes ++ Excluded value ∷ []) ≡ lifted_in changes
lifted-excluded [] value = refl
lifted-excluded (Excluded v ∷ changes) value = lifted-excluded changes value
lifted-excluded (Lifted id ∷ changes) value = ap (λ ids. id ∷ ids) (lifted-excluded changes value)

lifted-lifted : (changes : List Change) (id : List ℕ)
    → lifted_in (changes ++ Lifted id ∷ []) ≡ lifted_in changes ++ id ∷ []
lifted-lifted [] id = refl
lifted-lifted (Excluded v ∷ changes) id = lifted-lifted changes id
lifted-lifted (Lifted i ∷ changes) id = ap (λ ids. i ∷ ids) (lifted-lifted changes id)

not_or : (a b : Bool) → (not a && not (b || false)) ≡ not (a || (b || false))
not_or true b = refl
not_or false b = refl

-- one more id is lifted
lifted-flagged : (ids : List (List ℕ)) (id : List ℕ) (values : List Exclusion)
    → after_lifting (flagged ids values) id ≡ flagged (ids ++ id ∷ []) values
lifted-flagged ids id [] = refl
lifted-flagged ids id (v ∷ values) =
    ap (λ (b : Bool). (v, b) ∷ after_lifting (flagged ids values) id)
    (flag (bytes_eq v.id id) ∙ ap not (sym (list_any-append (bytes_eq v.id) ids (id ∷ []))))
    ∙ ap (λ made. (v, not (list_any (bytes_eq v.id) (ids ++ id ∷ []))) ∷ made)
    (lifted-flagged ids id values)
  where
    flag : (b : Bool) → (not (list_any (bytes_eq v.id) ids) && not b)
        ≡ not (list_any (bytes_eq v.id) ids || (b || false))
    flag true = not_or (list_any (bytes_eq v.id) ids) true
    flag false = not_or (list_any (bytes_eq v.id) ids) false

-- an exclusion whose id wasn't lifted is live
flagged-push : (ids : List (List ℕ)) (value : Exclusion) (values : List Exclusion) →
    list_any (bytes_eq value.id) ids ≡ false →
    flagged ids values ++ (value, true) ∷ [] ≡ flagged ids (values ++ value ∷ [])
flagged-push ids value values h =
    ap (λ (b : Bool). flagged ids values ++ (value, not b) ∷ []) (sym h)
    ∙ sym (map-append (λ (value : Exclusion). (value, not (list_any (bytes_eq value.id) ids)))
    values (value ∷ []))

-- an id that no exclusion has is none of the flagged ones
has_id-flagged : (ids : List (List ℕ)) (id : List ℕ) (values : List Exclusion)
    → find (has_id id) (flagged ids values) ≡ None
    → list_any (λ (value : Exclusion). bytes_eq value.id id) values ≡ false
has_id-flagged ids id [] h = refl
has_id-flagged ids id (v ∷ values) h = by (bytes_eq v.id id) h (has_id-flagged ids id values)
  where
    by : (b : Bool) → cond b (Some (v, not (list_any (bytes_eq v.id) ids)))
        (find (has_id id) (flagged ids values)) ≡ None →
        (find (has_id id) (flagged ids values) ≡ None
        → list_any (λ (value : Exclusion). bytes_eq value.id id) values ≡ false) →
        (b || list_any (λ (value : Exclusion). bytes_eq value.id id) values) ≡ false
    by true h go = cc h
    by false h go = go h

find_none : (ids : List (List ℕ)) (id : List ℕ) (values : List Exclusion)
    → list_any (λ (value : Exclusion). bytes_eq value.id id) values ≡ false
    → find (has_id id) (flagged ids values) ≡ None
find_none ids id [] h = refl
find_none ids id (v ∷ values) h =
    let parts = or_parts (bytes_eq v.id id)
    (list_any (λ (value : Exclusion). bytes_eq value.id id) values) h in
    rw parts.0 (find_none ids id values parts.1)

pub record Shape (changes : List Change) (made : List (Exclusion × Bool)) : Type 0 where
  pub flags : made ≡ flagged (lifted_in changes) (excluded_in changes)
  pub among : (id : List ℕ)
      → list_any (λ (value : Exclusion). bytes_eq value.id id) (excluded_in changes) ≡ false
      → list_any (bytes_eq id) (lifted_in changes) ≡ false

pub shape : (changes : List Change) (made : List (Exclusion × Bool)) → Made changes made
    → Shape changes made
shape _ _ none = record { flags = refl; among = λ id h. refl }
shape _ _ (excluded {changes = changes} {made = made} value before unused) =
    let s = shape changes made before in
    let ids = lifted_in changes in
    let values = excluded_in changes in
    let never = s.among value.id
    (has_id-flagged ids value.id values (ap (find (has_id value.id)) (sym s.flags) ∙ unused)) in
    record {
      flags = ap (λ made. made ++ (value, true) ∷ []) s.flags ∙ flagged-push ids value values never
          ∙ (λ i. flagged (sym (lifted-excluded changes value) i)
          (sym (excluded-excluded changes value) i));
      among = λ id h.
          let p = λ (other : Exclusion). bytes_eq other.id id in
          ap (list_any (bytes_eq id)) (lifted-excluded changes value)
          ∙ s.among id (or_parts (list_any p values)
          (list_any p (value ∷ [])) (sym (list_any-append p values (value ∷ []))
          ∙ ap (list_any p) (sym (excluded-excluded changes value)) ∙ h)).0;
    }
shape _ _ (lifted_one {changes = changes} {made = made} id before live) =
    let s = shape changes made before in
    let ids = lifted_in changes in
    let values = excluded_in changes in
    record {
      flags = ap (λ made. after_lifting made id) s.flags ∙ lifted-flagged ids id values
          ∙ (λ i. flagged (sym (lifted-lifted changes id) i) (sym (excluded-lifted changes id) i));
      among = λ other h.
          let p = λ (value : Exclusion). bytes_eq value.id other in
          let h' = ap (list_any p) (sym (excluded-lifted changes id)) ∙ h in
          ap (list_any (bytes_eq other)) (lifted-lifted changes id)
          ∙ list_any-append (bytes_eq other) ids (id ∷ [])
          ∙ or_from (list_any (bytes_eq other) ids) (bytes_eq other id || false) (s.among other h')
          (or_from (bytes_eq other id) false (apart changes made id other s live h') refl);
    }
  where
    apart : (changes : List Change) (made : List (Exclusion × Bool)) (id other : List ℕ) →
        Shape changes made → IsLive made id →
        list_any (λ (value : Exclusion). bytes_eq value.id other) (excluded_in changes) ≡ false →
        bytes_eq other id ≡ false
    apart changes made id other s live h = by (bytes_eq other id) refl
      where
        by : (b : Bool) → bytes_eq other id ≡ b → bytes_eq other id ≡ false
        by false e = e
        by true e =
            let same : other ≡ id = (bytes_eq-Decides other id).0 e in
            let gone : exclusion_of made id ≡ None =
            ap (find (has_id id)) s.flags
            ∙ find_none (lifted_in changes) id (excluded_in changes)
            (subst (λ (x : List ℕ). list_any (λ (value : Exclusion). bytes_eq value.id x)
            (excluded_in changes) ≡ false) same h) in
            cc (subst IsSome gone live.1)

excludes-flagged : (changes : List Change) (slo : List ℕ) (minute : ℕ) (values : List Exclusion) →
    list_any (excludes slo minute) (flagged (lifted_in changes) values)
    ≡ list_any (excludes_in changes slo minute) values
excludes-flagged changes slo minute [] = refl
excludes-flagged changes slo minute (v ∷ values) = ap (λ (b : Bool).
    excludes_in changes slo minute v || b) (excludes-flagged changes slo minute values)

-- After any list of exclusions and liftings a minute is excluded where some exclusion of the
-- objective that isn't lifted has it.
pub is_excluded-made : (changes : List Change) (made : List (Exclusion × Bool)) (slo : List ℕ)
    (minute : ℕ) → Made changes made →
    is_excluded made slo minute ≡ is_excluded_in changes slo minute
is_excluded-made changes made slo minute m =
    let s = shape changes made m in
    ap (list_any (excludes slo minute)) s.flags
    ∙ excludes-flagged changes slo minute (excluded_in changes)
