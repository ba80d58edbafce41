-- Exclusions of different ids: one is made, or one is lifted.
use Rattle.std.proofs.Common.{length, length-append, suc, arith, ◌<◌, ◌≡◌, ℕ, Bool, true, false}
use Rattle.std.proofs.Common.{cond, not, ◌&&◌, ◌||◌, refl, ap, sym, subst, ◌∙◌, List, [], ◌∷◌, ◌++◌}
use Rattle.std.proofs.Common.{Some, None}
use Rattle.std.specs.Str.{bytes_eq}
use Rattle.std.specs.Cmp.Lexicographic.{nat_list_eq_equiv}
use Rattle.std.proofs.lemmas.Slice.Eq.{bytes_eq-Decides}
use Rattle.sample_book.specs.declared.exclusions.Exclusion.{Exclusion}
use Rattle.sample_book.specs.Exclusions.{AreExclusions, HaveOwnIds, Kept, MOST_EXCLUSIONS, excludes}
use Rattle.sample_book.specs.Exclusions.{exclusion_of, has_id, is_excluded, after_lifting}
use Rattle.sample_book.proofs.StandingLemmas.{list_any-append}

find_push : (id : List ℕ) (made : List (Exclusion × Bool)) (value : Exclusion)
    → exclusion_of made id ≡ None → bytes_eq value.id id ≡ false
    → exclusion_of (made ++ (value, true) ∷ []) id ≡ None
find_push id [] value none other = rw other refl
find_push id (kept ∷ made) value none other = by (has_id id kept) none (find_push id made value)
  where
    by : (b : Bool) → cond b (Some kept) (exclusion_of made id) ≡ None →
        (exclusion_of made id ≡ None → bytes_eq value.id id ≡ false
        → exclusion_of (made ++ (value, true) ∷ []) id ≡ None) →
        cond b (Some kept) (exclusion_of (made ++ (value, true) ∷ []) id) ≡ None
    by true none go = cc none
    by false none go = go none other

pub own_ids_push : (made : List (Exclusion × Bool)) (value : Exclusion) → HaveOwnIds made
    → exclusion_of made value.id ≡ None → HaveOwnIds (made ++ (value, true) ∷ [])
own_ids_push [] value apart none = (refl, tt)
own_ids_push (kept ∷ made) value apart none =
    by (has_id value.id kept) refl none (own_ids_push made value apart.1)
  where
    by : (b : Bool) → has_id value.id kept ≡ b →
        cond b (Some kept) (exclusion_of made value.id) ≡ None →
        (exclusion_of made value.id ≡ None → HaveOwnIds (made ++ (value, true) ∷ [])) →
        HaveOwnIds (kept ∷ (made ++ (value, true) ∷ []))
    by true e none go = cc none
    by false e none go = (
      find_push kept.0.id made value apart.0 (nat_list_eq_equiv.symm value.id kept.0.id ∙ e),
      go none,
    )

find_lifted : (made : List (Exclusion × Bool)) (id other : List ℕ) → exclusion_of made other ≡ None
    → exclusion_of (after_lifting made id) other ≡ None
find_lifted [] id other none = refl
find_lifted (kept ∷ made) id other none = by (has_id other kept) none (find_lifted made id other)
  where
    by : (b : Bool) → cond b (Some kept) (exclusion_of made other) ≡ None →
        (exclusion_of made other ≡ None → exclusion_of (after_lifting made id) other ≡ None) →
        cond b (Some (kept.0, kept.1 && not (has_id id kept)))
        (exclusion_of (after_lifting made id) other)
        ≡ None
    by true none go = cc none
    by false none go = go none

pub own_ids_lifted : (made : List (Exclusion × Bool)) (id : List ℕ) → HaveOwnIds made
    → HaveOwnIds (after_lifting made id)
own_ids_lifted [] id apart = tt
own_ids_lifted (kept ∷ made) id apart = (
  find_lifted made id kept.0.id apart.0,
  own_ids_lifted made id apart.1,
)

-- where none has the id, lifting it changes nothing
lifted_none : (made : List (Exclusion × Bool)) (id slo : List ℕ) (minute : ℕ) → exclusion_of made id
    ≡ None → is_excluded (after_lifting made id) slo minute ≡ is_excluded made slo minute
lifted_none [] id slo minute none = refl
lifted_none (kept ∷ made) id slo minute none =
    by (has_id id kept) kept.1 refl none (lifted_none made id slo minute)
  where
    rest : Bool
    rest = bytes_eq kept.0.slo slo

    by : (b live : Bool) → kept.1 ≡ live →
        cond b (Some kept) (exclusion_of made id) ≡ None → (exclusion_of made id ≡ None
        → is_excluded (after_lifting made id) slo minute ≡ is_excluded made slo minute) →
        (excludes slo minute (kept.0, live && not b)
        || is_excluded (after_lifting made id) slo minute)
        ≡ (excludes slo minute (kept.0, live) || is_excluded made slo minute)
    by true live e none go = cc none
    by false true e none go = ap (λ (b : Bool). excludes slo minute (kept.0, true) || b) (go none)
    by false false e none go = go none

swap_or : (a b c : Bool) → (a || (b || c)) ≡ (b || (a || c))
swap_or true true c = refl
swap_or true false c = refl
swap_or false b c = refl

-- an exclusion that is lifted takes the minutes that it took
lifted_back : (made : List (Exclusion × Bool)) (id slo : List ℕ) (minute : ℕ) (value : Exclusion) →
    HaveOwnIds made → exclusion_of made id ≡ Some (value, true) →
    (excludes slo minute (value, true) || is_excluded (after_lifting made id) slo minute)
    ≡ is_excluded made slo minute
lifted_back [] id slo minute value apart found = cc found
lifted_back (kept ∷ made) id slo minute value apart found =
    by (has_id id kept) refl found (lifted_back made id slo minute value apart.1)
  where
    id_is : has_id id kept ≡ true → kept.0.id ≡ id
    id_is e = (bytes_eq-Decides kept.0.id id).0 e

    plain : (live : Bool) → (live && true) ≡ live
    plain true = refl
    plain false = refl

    by : (b : Bool) → has_id id kept ≡ b →
        cond b (Some kept) (exclusion_of made id) ≡ Some (value, true) →
        (exclusion_of made id ≡ Some (value, true) → (excludes slo minute (
          value,
          true,
        ) || is_excluded (after_lifting made id) slo minute) ≡ is_excluded made slo minute) →
        (excludes slo minute (value, true) || (excludes slo minute (
          kept.0,
          kept.1 && not b,
        ) || is_excluded (after_lifting made id) slo minute))
        ≡ (excludes slo minute kept || is_excluded made slo minute)
    by true e found go =
        let same : kept ≡ (value, true) = cc found in
        let none : exclusion_of made id ≡ None =
        subst (λ i. exclusion_of made i ≡ None) (id_is e) apart.0 in
        let dead : (kept.1 && false) ≡ false = dead_is kept.1 in
        ap (λ (b : Bool). excludes slo minute (value, true)
        || (excludes slo minute (kept.0, b) || is_excluded (after_lifting made id) slo minute)) dead
        ∙ ap (λ (b : Bool). excludes slo minute (value, true) || b)
        (lifted_none made id slo minute none)
        ∙ ap (λ k. excludes slo minute k || is_excluded made slo minute) (sym same)
      where
        dead_is : (live : Bool) → (live && false) ≡ false
        dead_is true = refl
        dead_is false = refl
    by false e found go =
        ap (λ (b : Bool). excludes slo minute (value, true) || (excludes slo minute (
          kept.0,
          b,
        ) || is_excluded (after_lifting made id) slo minute)) (plain kept.1)
        ∙ swap_or (excludes slo minute (value, true)) (excludes slo minute kept)
        (is_excluded (after_lifting made id) slo minute)
        ∙ ap (λ (b : Bool). excludes slo minute kept || b) (go found)

or_swap : (a b : Bool) → (a || b) ≡ (b || a)
or_swap true true = refl
or_swap true false = refl
or_swap false true = refl
or_swap false false = refl

or_none : (b : Bool) → (b || false) ≡ b
or_none true = refl
or_none false = refl

-- an exclusion takes its minutes, beside those that were taken
pub excluded_more : (made : List (Exclusion × Bool)) (value : Exclusion) (slo : List ℕ)
    (minute : ℕ) →
    is_excluded (made ++ (value, true) ∷ []) slo minute
    ≡ (is_excluded made slo minute || excludes slo minute (value, true))
excluded_more made value slo minute =
    list_any-append (excludes slo minute) made ((value, true) ∷ []) ∙ ap (λ (b : Bool).
    is_excluded made slo minute || b) (or_none (excludes slo minute (value, true)))

-- and gives them back where it is lifted, but for those that others take
excluded_less : (made : List (Exclusion × Bool)) (id : List ℕ) (value : Exclusion) →
    HaveOwnIds made → exclusion_of made id ≡ Some (value, true) → (slo : List ℕ) (minute : ℕ) →
    is_excluded made slo minute
    ≡ (is_excluded (after_lifting made id) slo minute || excludes slo minute (value, true))
excluded_less made id value apart found slo minute =
    sym (lifted_back made id slo minute value apart found)
    ∙ or_swap (excludes slo minute (value, true)) (is_excluded (after_lifting made id) slo minute)

pub exclusions_more : (made made' : List (Exclusion × Bool)) (value : Exclusion) →
    AreExclusions made → exclusion_of made value.id ≡ None → length made < MOST_EXCLUSIONS →
    made' ≡ made ++ (value, true) ∷ [] → AreExclusions made'
exclusions_more made made' value are none few is =
    subst AreExclusions (sym is) (record {
      apart = own_ids_push made value are.apart none;
      few = omega (arith, few, length-append made ((value, true) ∷ []));
    })

pub length_lifted : (made : List (Exclusion × Bool)) (id : List ℕ)
    → length (after_lifting made id) ≡ length made
length_lifted [] id = refl
length_lifted (kept ∷ made) id = ap suc (length_lifted made id)

pub exclusions_lifted : (made made' : List (Exclusion × Bool)) (id : List ℕ) → AreExclusions made
    → made' ≡ after_lifting made id → AreExclusions made'
exclusions_lifted made made' id are is =
    subst AreExclusions (sym is) (record {
      apart = own_ids_lifted made id are.apart;
      few = omega (arith, are.few, length_lifted made id);
    })

pub excluded_lifted : (kept : Kept) (made made' : List (Exclusion × Bool)) (id : List ℕ)
    (value : Exclusion) (slo : List ℕ) (minute : ℕ) → made ≡ kept.made → AreExclusions made →
    made' ≡ after_lifting made id →
    exclusion_of kept.made id ≡ Some (value, true) → is_excluded kept.made slo minute
    ≡ (is_excluded made' slo minute || excludes slo minute (value, true))
excluded_lifted kept made made' id value slo minute view are is found =
    ap (λ made. is_excluded made slo minute) (sym view)
    ∙ excluded_less made id value are.apart
    (ap (λ made. exclusion_of made id) view ∙ found) slo minute
    ∙ ap (λ made. is_excluded made slo minute || excludes slo minute (value, true)) (sym is)
