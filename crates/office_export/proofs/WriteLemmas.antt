-- Texts of steps that are written one behind another.
use Rattle.std.proofs.Common.{◌≡◌, ◌∙◌, ℕ, zero, suc, ◌+◌, List, [], ◌∷◌, ◌++◌, sym, ap, subst}
use Rattle.std.proofs.Common.{Bool, codes, option_map, length, take, drop, arith, get_or, ◌<◌, ◌≤◌}
use Rattle.std.proofs.Common.{take_all}
use Rattle.std.proofs.Common.{Option, Some, append-nil, Result, OnErr}
use Rattle.std.specs.Prelude.{slice_get}
use Rattle.std.specs.List.{flat_map}
use Rattle.std.proofs.lemmas.Grind.{flat_map-append}
use Rattle.std.proofs.lemmas.List.{take-append-drop}
use Rattle.office_outside.specs.Told.{Gained, GainedPrefix}
use Rattle.office_outside.proofs.Gains.{gained_both, gained_then_prefix, prefix_with_more}
use Rattle.sample_book.specs.declared.Exclusion.{Exclusion}
use Rattle.record_form.specs.declared.Command.TheVariants as commands
use Rattle.request_texts.specs.Requests.{head_of, request}
use Rattle.office_export.specs.Requests.{lifting_at}
use Rattle.office_export.specs.Steps.{text_if}
use Rattle.request_texts.proofs.Pieces.{part_of_first}

module _ {A : Type 0} (text : A → List ℕ) (xs : List A) where
  -- the items before a place, and the one that stands there
  pub taken_more : (place : ℕ) (x : A) → slice_get xs place ≡ Some x
      → take (place + 1) xs ≡ take place xs ++ x ∷ []
  taken_more place x there = by place xs there
    where
      by : (n : ℕ) (ys : List A) → slice_get ys n ≡ Some x
          → take (n + 1) ys ≡ take n ys ++ x ∷ []
      by zero [] h = cc h
      by zero (y ∷ ys) h = let same : y ≡ x = cc h in ap (λ z. z ∷ []) same
      by (suc n) [] h = cc h
      by (suc n) (y ∷ ys) h = let e : suc n + 1 ≡ suc (n + 1) = omega arith in
          ap (λ k. take k (y ∷ ys)) e ∙ ap (λ zs. y ∷ zs) (by n ys h)

  one_more : (place : ℕ) (x : A) → slice_get xs place ≡ Some x
      → flat_map text (take (place + 1) xs) ≡ flat_map text (take place xs) ++ text x
  one_more place x there = ap (flat_map text) (taken_more place x there)
      ∙ flat_map-append text (take place xs) (x ∷ [])
      ∙ ap (λ ys. flat_map text (take place xs) ++ ys) (append-nil (text x))

  -- the texts before a place were written, and its own behind them
  pub gained_more : (place : ℕ) (x : A) (a b c : Option (List ℕ)) → slice_get xs place ≡ Some x
      → Gained (flat_map text (take place xs)) a b → Gained (text x) b c
      → Gained (flat_map text (take (place + 1) xs)) a c
  gained_more place x a b c there before next =
      subst (λ (l : List ℕ). Gained l a c) (sym (one_more place x there))
      (gained_both (flat_map text (take place xs)) (text x) a b c before next)

  all_of : (place : ℕ) (x : A) → slice_get xs place ≡ Some x
      → flat_map text (take (place + 1) xs) ++ flat_map text (drop (place + 1) xs)
      ≡ flat_map text xs
  all_of place x there =
      sym (flat_map-append text (take (place + 1) xs) (drop (place + 1) xs))
      ∙ ap (flat_map text) (take-append-drop (place + 1) xs)

  -- the texts before a place were written, and a prefix of its own
  pub part_at : {T E : Type 0} (place : ℕ) (x : A) (a b c : Option (List ℕ)) (r : Result T E)
      → slice_get xs place ≡ Some x → Gained (flat_map text (take place xs)) a b
      → GainedPrefix (text x) b c → OnErr r (GainedPrefix (flat_map text xs) a c)
  part_at place x a b c r there before part =
      part_of_first (flat_map text xs) (flat_map text (take (place + 1) xs))
      (flat_map text (drop (place + 1) xs)) (all_of place x there) a c r
      (subst (λ (l : List ℕ). GainedPrefix l a c) (sym (one_more place x there))
      (gained_then_prefix (flat_map text (take place xs)) (text x) a b c before part))

-- the same of what an index gives
index_is : {A : Type 0} (xs : List A) (n : ℕ) (x d : A) → n < length xs → x ≡ get_or xs n d
    → slice_get xs n ≡ Some x
index_is [] n x d h e = absurd (omega (arith, h))
index_is (y ∷ xs) zero x d h e = ap Some (sym e)
index_is (y ∷ xs) (suc n) x d h e = index_is xs n x d (omega (arith, h)) e

module _ {A : Type 0} (text : A → List ℕ) (xs : List A) (place : ℕ) (x d : A)
    (below : place < length xs) (is : x ≡ get_or xs place d) (a b c : Option (List ℕ)) where
  pub gained_next : Gained (flat_map text (take place xs)) a b → Gained (text x) b c
      → Gained (flat_map text (take (place + 1) xs)) a c
  gained_next before next =
      gained_more text xs place x a b c (index_is xs place x d below is) before next

  pub part_next : Gained (flat_map text (take place xs)) a b → GainedPrefix (text x) b c
      → GainedPrefix (flat_map text xs) a c
  part_next before part =
      subst (λ (l : List ℕ). GainedPrefix l a c)
      (all_of text xs place x (index_is xs place x d below is))
      (prefix_with_more (flat_map text (take (place + 1) xs))
      (flat_map text (drop (place + 1) xs)) a c
      (subst (λ (l : List ℕ). GainedPrefix l a c)
      (sym (one_more text xs place x (index_is xs place x d below is)))
      (gained_then_prefix (flat_map text (take place xs)) (text x) a b c before part)))

-- all of them were written
pub gained_all : {A : Type 0} (text : A → List ℕ) (xs : List A) (place : ℕ)
    (a b : Option (List ℕ)) → length xs ≤ place → Gained (flat_map text (take place xs)) a b
    → Gained (flat_map text xs) a b
gained_all text xs place a b past h =
    subst (λ ys. Gained (flat_map text ys) a b) (take_all place xs past) h

-- a head of a body that was made in an empty place, and the body, are a request
pub request_made : (line head old body t : List ℕ) → head ≡ head_of line (length body) → old ≡ []
    → body ≡ old ++ t → head ++ body ≡ request line t
request_made line head old body t is none made =
    let same : body ≡ t = made ∙ ap (λ (l : List ℕ). l ++ t) none in
    ap (λ (l : List ℕ). l ++ body) is ∙ ap (λ (b : List ℕ). head_of line (length b) ++ b) same

-- the request that lifts an exclusion that stands at a place
pub lifting_made : (made : List (Exclusion × Bool)) (place : ℕ) (kept : Exclusion × Bool)
    → slice_get made place ≡ Some kept
    → lifting_at made place ≡ request (codes "DELETE /exclusions/" ++ kept.0.id) []
lifting_made made place kept there =
    ap (λ (o : Option (Exclusion × Bool)). text_if (option_map
    (λ (k : Exclusion × Bool). commands.Lift k.0.id) o)) there
