-- The blanks at a text's end.
use Rattle.std.proofs.Common.{◌≡◌, ◌+◌, ◌-◌, ◌≤◌, ℕ, suc, Bool, true, false, ◌&&◌, List, [], ◌∷◌}
use Rattle.std.proofs.Common.{◌++◌, cond, take, length, reverse, refl, sym, ap, subst, ◌∙◌, arith}
use Rattle.std.proofs.Common.{eqb}
use Rattle.std.proofs.lemmas.Bool.Decides.{nat_tests}
use Rattle.std.proofs.lemmas.List.{length-reverse}
use Rattle.std.proofs.lemmas.List.Sums.{prefix_len-le-length}
use Rattle.std.proofs.lemmas.Grind.{reverse_onto}
use Rattle.std.specs.List.{prefix_len}
use Rattle.std.proofs.lemmas.List.Folds.{prefix_len-append, list_all-append}
use Rattle.yaml_terms.specs.Block.{is_blank_byte, is_blank, trimmed_text}

-- the text without the blanks at its end, from its beginning on
abbrev pub strip : List ℕ → List ℕ
strip [] = []
strip (c ∷ cs) = cond (is_blank_byte c && is_blank cs) [] (c ∷ strip cs)

-- how many blanks stand at its end
abbrev last_blanks : List ℕ → ℕ
last_blanks text = prefix_len is_blank_byte (reverse text)

pub trim_blank : (text blanks : List ℕ) → is_blank blanks ≡ true
    → strip (text ++ blanks) ≡ strip text
trim_blank [] [] e = refl
trim_blank [] (b ∷ bs) e = rw e refl
trim_blank (c ∷ cs) bs e = rw (
  trim_blank cs bs e,
  list_all-append is_blank_byte cs bs,
  e,
) (ap (λ (b : Bool). cond (is_blank_byte c && b) [] (c ∷ strip cs)) (and_true (is_blank cs)))
  where
    and_true : (b : Bool) → (b && true) ≡ b
    and_true true = refl
    and_true false = refl

-- it is these blanks that are taken off
pub trim_split : (text : List ℕ) → (blanks : List ℕ) × (text ≡ strip text ++ blanks)
    × (is_blank blanks ≡ true)
trim_split [] = ([], refl, refl)
trim_split (c ∷ cs) = by (is_blank_byte c && is_blank cs) refl (trim_split cs)
  where
    by : (b : Bool) → (is_blank_byte c && is_blank cs) ≡ b
        → ((blanks : List ℕ) × (cs ≡ strip cs ++ blanks) × (is_blank blanks ≡ true))
        → (blanks : List ℕ) × (c ∷ cs ≡ cond b [] (c ∷ strip cs) ++ blanks)
        × (is_blank blanks ≡ true)
    by true e h = (c ∷ cs, refl, e)
    by false e h = (h.0, ap (λ (l : List ℕ). c ∷ l) h.1, h.2)

pub trim_again : (text : List ℕ) → strip (strip text) ≡ strip text
trim_again text = let s = trim_split text in
    sym (trim_blank (strip text) s.0 s.2) ∙ ap strip (sym s.1)

-- the blanks behind a first character
last_more : (c : ℕ) (cs : List ℕ) → last_blanks (c ∷ cs) ≡ cond (eqb (last_blanks cs) (length cs))
    (length cs + cond (is_blank_byte c) 1 0) (last_blanks cs)
last_more c cs = ap (prefix_len is_blank_byte) (reverse_onto cs c [])
    ∙ prefix_len-append is_blank_byte (reverse cs) (c ∷ [])
    ∙ ap (λ (n : ℕ). cond (eqb (last_blanks cs) n) (n + cond (is_blank_byte c) 1 0)
    (last_blanks cs)) (length-reverse cs)

few : (cs : List ℕ) → last_blanks cs ≤ length cs
few cs = subst (λ (n : ℕ). last_blanks cs ≤ n) (length-reverse cs)
    (prefix_len-le-length is_blank_byte (reverse cs))

counted : (b e : Bool) (k n : ℕ) → k ≤ n → eqb k n ≡ e
    → (b && e) ≡ eqb (cond e (n + cond b 1 0) k) (suc n)
counted true true k n h e = grind (arith, nat_tests)
counted false true k n h e = grind (arith, nat_tests)
counted true false k n h e = grind (arith, nat_tests)
counted false false k n h e = grind (arith, nat_tests)

kept : (b e : Bool) (k n : ℕ) → k ≤ n → eqb k n ≡ e
    → suc n - cond e (n + cond b 1 0) k ≡ cond (b && e) 0 (suc (n - k))
kept true true k n h e = grind (arith, nat_tests)
kept false true k n h e = grind (arith, nat_tests)
kept true false k n h e = grind (arith, nat_tests)
kept false false k n h e = grind (arith, nat_tests)

all_blank : (cs : List ℕ) → is_blank cs ≡ eqb (last_blanks cs) (length cs)
all_blank [] = refl
all_blank (c ∷ cs) = ap (λ (b : Bool). is_blank_byte c && b) (all_blank cs)
    ∙ counted (is_blank_byte c) (eqb (last_blanks cs) (length cs)) (last_blanks cs)
    (length cs) (few cs) refl
    ∙ ap (λ (n : ℕ). eqb n (suc (length cs))) (sym (last_more c cs))

pub trimmed-strip : (text : List ℕ) → trimmed_text is_blank_byte text ≡ strip text
trimmed-strip [] = refl
trimmed-strip (c ∷ cs) =
    ap (λ (n : ℕ). take (suc (length cs) - n) (c ∷ cs)) (last_more c cs)
    ∙ ap (λ (n : ℕ). take n (c ∷ cs)) (kept (is_blank_byte c) (eqb (last_blanks cs) (length cs))
    (last_blanks cs) (length cs) (few cs) refl)
    ∙ ap (λ (b : Bool). take (cond (is_blank_byte c && b) 0 (suc (length cs - last_blanks cs)))
    (c ∷ cs)) (sym (all_blank cs))
    ∙ by (is_blank_byte c && is_blank cs)
    ∙ ap (λ (l : List ℕ). cond (is_blank_byte c && is_blank cs) [] (c ∷ l)) (trimmed-strip cs)
  where
    by : (b : Bool) → take (cond b 0 (suc (length cs - last_blanks cs))) (c ∷ cs)
        ≡ cond b [] (c ∷ take (length cs - last_blanks cs) cs)
    by true = refl
    by false = refl
