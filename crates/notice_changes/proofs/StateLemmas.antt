-- The states of bindings, each of which has but one.
use Rattle.std.proofs.Common.{◌≡◌, ◌∙◌, ℕ, zero, suc, Bool, true, false, cond, refl, ap, sym, List}
use Rattle.std.proofs.Common.{[], ◌∷◌, map, Option, Some, option_map, slice_get, unwrap_or, ◌+◌}
use Rattle.std.proofs.Common.{◌<◌, ◌++◌, drop, filter, length}
use Rattle.std.proofs.Math.ListN.{get_or}
use Rattle.std.proofs.lemmas.List.{append_assoc, drop_more}
use Rattle.std.specs.List.{AllByRecursion, find}
use Rattle.burn_core.specs.declared.State.{State}
use Rattle.burn_core.specs.declared.State.TheVariants.{Quiet}
use Rattle.catalog_terms.specs.declared.Binding.{Binding}
use Rattle.office_history.specs.Alerts.{same_binding}
use Rattle.office_history.specs.Notices.{state_among}
use Rattle.kept_lines.proofs.WatchLemmas.{one_binding}
use Rattle.notice_changes.specs.States.{AreByBinding}

-- the first of them, where the test of it gives this
first : (s : Binding × State) (rest : List (Binding × State)) (b : Binding) (t : Bool)
    → same_binding s.0 b ≡ t
    → state_among (s ∷ rest) b ≡ cond t s.1 (state_among rest b)
first s rest b true e = ap (λ t. unwrap_or (option_map (λ (s : Binding × State). s.1)
    (cond t (Some s) (find (λ (s : Binding × State). same_binding s.0 b) rest))) Quiet) e
first s rest b false e = ap (λ t. unwrap_or (option_map (λ (s : Binding × State). s.1)
    (cond t (Some s) (find (λ (s : Binding × State). same_binding s.0 b) rest))) Quiet) e

module _ (state_of : Binding → State) where
  behind : (s : Binding × State) (rest : List (Binding × State)) (b : Binding)
      (kept : Binding × State) (t : Bool) → same_binding s.0 b ≡ t → s.1 ≡ state_of s.0
      → (state_among rest b ≡ state_of b) × (kept.1 ≡ state_of b)
      → (state_among (s ∷ rest) b ≡ state_of b) × (kept.1 ≡ state_of b)
  behind s rest b kept true e its found =
      (first s rest b true e ∙ its ∙ ap state_of (one_binding s.0 b e), found.1)
  behind s rest b kept false e its found = (first s rest b false e ∙ found.0, found.1)

  -- a binding that is there has its state
  among : (states : List (Binding × State)) (place : ℕ) (kept : Binding × State) (b : Binding)
      → AllByRecursion (λ (s : Binding × State). s.1 ≡ state_of s.0) states
      → slice_get states place ≡ Some kept → same_binding kept.0 b ≡ true
      → (state_among states b ≡ state_of b) × (kept.1 ≡ state_of b)
  among [] place kept b each there same = cc there
  among (s ∷ rest) zero kept b each there same =
      let is : s ≡ kept = ap (λ (o : Option (Binding × State)). unwrap_or o s) there in
      let its = each.0 ∙ ap state_of (ap (λ (k : Binding × State). k.0) is
      ∙ one_binding kept.0 b same) in (
        first s rest b true (ap (λ (k : Binding × State). same_binding k.0 b) is ∙ same) ∙ its,
        sym (ap (λ (k : Binding × State). k.1) is) ∙ its,
      )
  among (s ∷ rest) (suc place) kept b each there same =
      behind s rest b kept (same_binding s.0 b) refl each.0
      (among rest place kept b each.1 there same)

  -- states that are given to bindings one by one
  each_given : (bs : List Binding)
      → AllByRecursion (λ (s : Binding × State). s.1 ≡ state_of s.0) (map (λ b. (b, state_of b)) bs)
  each_given [] = tt
  each_given (b ∷ bs) = (refl, each_given bs)

-- one binding more that was looked at
pub next_change : (told_of : Binding × State → Bool) (now told more : List (Binding × State))
    (place : ℕ) (x : Binding × State) → place < length now → x ≡ get_or now place x
    → more ≡ cond (told_of x) (told ++ x ∷ []) told
    → told ++ filter told_of (drop place now) ≡ filter told_of now
    → more ++ filter told_of (drop (place + 1) now) ≡ filter told_of now
next_change told_of now told more place x below item is before =
    by (told_of x) refl
  where
    rest : List (Binding × State)
    rest = filter told_of (drop (place + 1) now)

    ahead : drop place now ≡ x ∷ drop (place + 1) now
    ahead = drop_more now place x below
        ∙ ap (λ (y : Binding × State). y ∷ drop (place + 1) now) (sym item)

    all : (t : Bool) → told_of x ≡ t → told ++ cond t (x ∷ rest) rest ≡ filter told_of now
    all t e = ap (λ t. told ++ cond t (x ∷ rest) rest) (sym e)
        ∙ ap (λ (l : List (Binding × State)). told ++ filter told_of l) (sym ahead) ∙ before

    by : (t : Bool) → told_of x ≡ t → more ++ rest ≡ filter told_of now
    by true e = ap (λ (m : List (Binding × State)). m ++ rest)
        (is ∙ ap (λ t. cond t (told ++ x ∷ []) told) e) ∙ append_assoc told (x ∷ []) rest
        ∙ all true e
    by false e = ap (λ (m : List (Binding × State)). m ++ rest)
        (is ∙ ap (λ t. cond t (told ++ x ∷ []) told) e) ∙ all false e

pub state_there : (states : List (Binding × State)) (place : ℕ) (kept : Binding × State)
    (b : Binding) → slice_get states place ≡ Some kept → same_binding kept.0 b ≡ true
    → AreByBinding states → kept.1 ≡ state_among states b
state_there states place kept b there same by =
    let found = among by.state_of states place kept b by.each there same in
    found.1 ∙ sym found.0

pub are_given : (state_of : Binding → State) (bs : List Binding)
    → AreByBinding (map (λ b. (b, state_of b)) bs)
are_given state_of bs = record { state_of = state_of; each = each_given state_of bs }
