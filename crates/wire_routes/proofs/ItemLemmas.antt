-- The first item of a query, and those behind it.
use Rattle.std.proofs.Common.{◌≡◌, ◌∙◌, ap, refl, ℕ, List, [], ◌∷◌, Bool, true, false, cond, Option}
use Rattle.std.proofs.Common.{Some, None, option_map}
use Rattle.std.specs.Prelude.{◌==◌}
use Rattle.std.specs.List.{onto_first}
use Rattle.std.proofs.lemmas.List.Splits.{slice_split-cons_yes, slice_split-cons_no}
use Rattle.wire_routes.specs.Cuts.{cut_at}
use Rattle.wire_routes.specs.Queries.{items_of}
use Rattle.wire_routes.proofs.CutLemmas.{map_back, map_none, same_pair}

-- a value that was found stands before the others
abbrev pub with_found : Option (List ℕ) → List (List ℕ) → List (List ℕ)
with_found None values = values
with_found (Some v) values = v ∷ values

abbrev Pair : Type 0
Pair = List ℕ × List ℕ

-- the first item, and those behind its `&`
pub items_cut : (t a b : List ℕ) → cut_at 38 t ≡ Some (a, b) → items_of t ≡ a ∷ items_of b
items_cut [] a b h = absurd (cc h)
items_cut (x ∷ t) a b h = by (x == 38) refl h (λ u v. items_cut t u v)
  where
    by : (c : Bool) → (x == 38) ≡ c → cond {A =
        Option Pair} c (Some ([], t)) (option_map (λ p. (x ∷ p.0, p.1)) (cut_at 38 t)) ≡ Some (a, b)
        → ((u v : List ℕ) → cut_at 38 t ≡ Some (u, v) → items_of t ≡ u ∷ items_of v)
        → items_of (x ∷ t) ≡ a ∷ items_of b
    by true is h more =
        let same = same_pair ([], t) (a, b) h in
        slice_split-cons_yes (λ b. b == 38) x t is
        ∙ ap (λ (l : List ℕ). l ∷ items_of t) (ap (λ q. q.0) same)
        ∙ ap (λ (l : List ℕ). a ∷ items_of l) (ap (λ q. q.1) same)
    by false is h more =
        let (p, cut, made) = map_back (cut_at 38 t) (λ (p : Pair). (x ∷ p.0, p.1)) (a, b) h in
        slice_split-cons_no (λ b. b == 38) x t is ∙ ap (onto_first x) (more p.0 p.1 cut)
        ∙ ap (λ (l : List ℕ). l ∷ items_of p.1) (ap (λ q. q.0) made)
        ∙ ap (λ (l : List ℕ). a ∷ items_of l) (ap (λ q. q.1) made)

pub items_whole : (t : List ℕ) → cut_at 38 t ≡ None → items_of t ≡ t ∷ []
items_whole [] h = refl
items_whole (x ∷ t) h = by (x == 38) refl h (items_whole t)
  where
    by : (c : Bool) → (x == 38) ≡ c → cond {A =
        Option Pair} c (Some ([], t)) (option_map (λ p. (x ∷ p.0, p.1)) (cut_at 38 t)) ≡ None
        → (cut_at 38 t ≡ None → items_of t ≡ t ∷ []) → items_of (x ∷ t) ≡ (x ∷ t) ∷ []
    by true is h more = absurd (cc h)
    by false is h more = slice_split-cons_no (λ b. b == 38) x t is
        ∙ ap (onto_first x) (more (map_none (cut_at 38 t) (λ (p : Pair). (x ∷ p.0, p.1)) h))
