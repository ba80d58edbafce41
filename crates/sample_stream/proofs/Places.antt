-- Texts of places one after another.
use Rattle.std.proofs.Common.{zero, suc, ◌≡◌, ℕ, ◌+◌, ◌-◌, ◌<◌, List, [], ◌++◌, length, Option}
use Rattle.std.proofs.Common.{Result}
use Rattle.std.proofs.Common.{OnErr, sym, ap, subst, ◌∙◌, arith, append_assoc, append-nil}
use Rattle.std.proofs.Common.{length-append}
use Rattle.std.specs.List.{flat_map, range_with_len}
use Rattle.office_outside.specs.Told.{Gained, GainedPrefix}
use Rattle.office_outside.proofs.Gains.{gained_both, gained_then_prefix}
use Rattle.request_texts.proofs.Pieces.{part_of_first}

module _ (text : ℕ → List ℕ) where
  -- the texts of so many places, from one on
  abbrev pub texts : ℕ → ℕ → List ℕ
  texts first count = flat_map text (range_with_len first count)

  in_two : (a n k : ℕ) → texts a (n + k) ≡ texts a n ++ texts (a + n) k
  in_two a zero k =
      let same : a ≡ a + 0 = omega arith in
      let none : 0 + k ≡ k = omega arith in
      ap (texts a) none ∙ ap (λ (b : ℕ). texts b k) same
  in_two a (suc n) k =
      let same : a + 1 + n ≡ a + suc n = omega arith in
      let next : suc n + k ≡ suc (n + k) = omega arith in
      ap (texts a) next
      ∙ ap (λ (l : List ℕ). text a ++ l)
      (in_two (a + 1) n k ∙ ap (λ (b : ℕ). texts (a + 1) n ++ texts b k) same)
      ∙ sym (append_assoc (text a) (texts (a + 1) n) (texts (a + suc n) k))

  pub one_more : (k : ℕ) → texts 0 (k + 1) ≡ texts 0 k ++ text k
  one_more k =
      let place : 0 + k ≡ k = omega arith in
      in_two 0 k 1
      ∙ ap (λ (p : ℕ). texts 0 k ++ (text p ++ [])) place
      ∙ ap (λ (l : List ℕ). texts 0 k ++ l) (append-nil (text k))

  pub length_more : (k : ℕ) → length (texts 0 (k + 1)) ≡ length (texts 0 k) + length (text k)
  length_more k =
      ap (λ (l : List ℕ). length l) (one_more k) ∙ length-append (texts 0 k) (text k)

  pub gained_more : (k : ℕ) (a b c : Option (List ℕ)) → Gained (texts 0 k) a b
      → Gained (text k) b c → Gained (texts 0 (k + 1)) a c
  gained_more k a b c before next =
      subst (λ (l : List ℕ). Gained l a c) (sym (one_more k))
      (gained_both (texts 0 k) (text k) a b c before next)

  all_of : (n k : ℕ) → k < n
      → texts 0 (k + 1) ++ texts (0 + (k + 1)) (n - (k + 1)) ≡ texts 0 n
  all_of n k below =
      let whole : k + 1 + (n - (k + 1)) ≡ n = omega arith in
      sym (in_two 0 (k + 1) (n - (k + 1))) ∙ ap (texts 0) whole

  -- the texts before a place were written, and a prefix of its own
  pub part_at : {T E : Type 0} (n k : ℕ) → k < n → (a b c : Option (List ℕ)) (r : Result T E)
      → Gained (texts 0 k) a b → GainedPrefix (text k) b c
      → OnErr r (GainedPrefix (texts 0 n) a c)
  part_at n k below a b c r before part =
      part_of_first (texts 0 n) (texts 0 (k + 1)) (texts (0 + (k + 1)) (n - (k + 1)))
      (all_of n k below) a c r
      (subst (λ (l : List ℕ). GainedPrefix l a c) (sym (one_more k))
      (gained_then_prefix (texts 0 k) (text k) a b c before part))
