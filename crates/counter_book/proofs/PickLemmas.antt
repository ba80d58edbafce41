-- The current row of one cell, as rows come.
use Rattle.std.proofs.Common.{◌≡◌, ℕ, List, [], ◌∷◌, ◌++◌, Bool, true, false, cond, if◌then◌else◌}
use Rattle.std.proofs.Common.{Option, Some, None, nat_lt, refl, ap, sym, ◌∙◌, filter, append_assoc}
use Rattle.std.proofs.lemmas.List.{append-nil}
use Rattle.std.specs.Cmp.{IsEquivalence}
use Rattle.std.specs.List.{find}
use Rattle.slo_terms.specs.Rows.{newer, current}
use Rattle.slo_terms.proofs.CurrentLemmas.{settle, current-push}

module _ {A : Type 0} (rev : A → ℕ) where
  -- what stays of a kept row and one that comes
  abbrev pub picked : Option A → A → A
  picked None x = x
  picked (Some k) x = newer rev k x

  -- the same over rows of one cell
  abbrev pub picks : Option A → List A → Option A
  picks o [] = o
  picks o (x ∷ xs) = picks (Some (picked o x)) xs

module _ {A : Type 0} (same : A → A → Bool) (rev : A → ℕ) (laws : IsEquivalence same) where
  newer-cell : (q k x : A) → same x k ≡ true → same q (newer rev k x) ≡ same q x
  newer-cell q k x e = by (nat_lt (rev k) (rev x))
    where
      by : (b : Bool) → same q (cond b x k) ≡ same q x
      by true = refl
      by false = laws.symm q k ∙ sym (laws.congr x k q e) ∙ laws.symm x q

  pub find-settle : (q x : A) (ks : List A) → find (same q) (settle same rev ks x)
      ≡ (if same q x then Some (picked rev (find (same q) ks) x) else find (same q) ks)
  find-settle q x [] = refl
  find-settle q x (k ∷ ks) = by (same x k) (same q x) (same q k) refl refl refl (find-settle q x ks)
    where
      alike : same x k ≡ true → same q x ≡ same q k
      alike e = laws.symm q x ∙ laws.congr x k q e ∙ laws.symm k q

      at_head : (b : Bool) → same x k ≡ true → same q x ≡ b
          → cond (same q (newer rev k x)) (Some (newer rev k x)) (find (same q) ks)
          ≡ cond b (Some (newer rev k x)) (find (same q) ks)
      at_head b e f = ap (λ t. cond t (Some (newer rev k x)) (find (same q) ks))
          (newer-cell q k x e ∙ f)

      behind : (c : Bool) → same q k ≡ c → cond (same q k) (Some k)
          (find (same q) (settle same rev ks x))
          ≡ cond c (Some k) (find (same q) (settle same rev ks x))
      behind c g = ap (λ t. cond t (Some k) (find (same q) (settle same rev ks x))) g

      by : (a b c : Bool) → same x k ≡ a → same q x ≡ b → same q k ≡ c
          → find (same q) (settle same rev ks x)
          ≡ (if b then Some (picked rev (find (same q) ks) x) else find (same q) ks)
          → find (same q) (if a then newer rev k x ∷ ks else k ∷ settle same rev ks x)
          ≡ (if b then Some (picked rev (cond c (Some k) (find (same q) ks)) x)
          else cond c (Some k) (find (same q) ks))
      by true true true e f g go = at_head true e f
      by true false false e f g go = at_head false e f
      by true true false e f g go = cc (alike e)
      by true false true e f g go = cc (alike e)
      by false true true e f g go = cc (laws.congr q x k f)
      by false false true e f g go = behind true g
      by false true false e f g go = behind false g ∙ go
      by false false false e f g go = behind false g ∙ go

  pub find-push : (q x : A) (rows : List A) → find (same q) (current same rev (rows ++ x ∷ []))
      ≡ (if same q x then Some (picked rev (find (same q) (current same rev rows)) x)
      else find (same q) (current same rev rows))
  find-push q x rows = ap (find (same q)) (current-push same rev laws rows x)
      ∙ find-settle q x (current same rev rows)

  pub find-pushes : (q : A) (rows more : List A) → find (same q) (current same rev (rows ++ more))
      ≡ picks rev (find (same q) (current same rev rows)) (filter (same q) more)
  find-pushes q rows [] = ap (λ xs. find (same q) (current same rev xs)) (append-nil rows)
  find-pushes q rows (x ∷ xs) =
      ap (λ ys. find (same q) (current same rev ys)) (sym (append_assoc rows (x ∷ []) xs))
      ∙ find-pushes q (rows ++ x ∷ []) xs
      ∙ ap (λ o. picks rev o (filter (same q) xs)) (find-push q x rows)
      ∙ by (same q x)
    where
      by : (b : Bool) → picks rev (if b then Some
          (picked rev (find (same q) (current same rev rows)) x)
          else find (same q) (current same rev rows)) (filter (same q) xs)
          ≡ picks rev (find (same q) (current same rev rows))
          (cond b (x ∷ filter (same q) xs) (filter (same q) xs))
      by true = refl
      by false = refl
