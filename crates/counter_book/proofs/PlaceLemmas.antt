-- Moments of named sources.
use Rattle.std.proofs.Common.{◌≡◌, ◌≢◌, ℕ, List, Bool, true, false, refl, ap, sym, ◌∙◌, arith, ◌==◌}
use Rattle.std.proofs.Common.{◌&&◌, ◌⊎◌, inl, inr}
use Rattle.std.proofs.lemmas.Bool.Decides.{nat_tests, eqb_tells}
use Rattle.std.proofs.lemmas.Slice.Eq.{bytes_eq-Decides}
use Rattle.std.specs.Str.{bytes_eq}

pub true_false : true ≡ false → ⊥
true_false h = cc

pub bool_cases : (b : Bool) → (b ≡ true) ⊎ (b ≡ false)
bool_cases true = inl refl
bool_cases false = inr refl

pub text_tells : (s t : List ℕ) → ((bytes_eq s t ≡ true) × (s ≡ t))
    ⊎ ((bytes_eq s t ≡ false) × (s ≢ t))
text_tells s t = elim (bool_cases (bytes_eq s t)) [
  | inl e ↦ inl (e, (bytes_eq-Decides s t).0 e)
  | inr e ↦ inr (e, λ p. true_false (sym ((bytes_eq-Decides s t).1 p) ∙ e))
]

both : (a b : Bool) → a ≡ true → b ≡ true → (a && b) ≡ true
both true b e f = f
both false b e f = cc e

pub left : (a b : Bool) → a ≡ false → (a && b) ≡ false
left true b e = cc e
left false b e = refl

pub right : (a b : Bool) → b ≡ false → (a && b) ≡ false
right true b e = e
right false b e = refl

pub parts : (a b : Bool) → (a && b) ≡ true → (a ≡ true) × (b ≡ true)
parts true b e = (refl, e)
parts false b e = cc e

pub pair_here : (s t : List ℕ) (m k : ℕ) → s ≡ t → m ≡ k → (bytes_eq s t && m == k) ≡ true
pair_here s t m k a b = both (bytes_eq s t) (m == k) ((bytes_eq-Decides s t).1 a)
    (grind (arith, nat_tests))

pub pair_there : (s t : List ℕ) (m k : ℕ) → (s ≡ t → m ≡ k → ⊥) → (bytes_eq s t && m == k) ≡ false
pair_there s t m k h = elim (text_tells s t) [
  | inl e ↦ elim (eqb_tells m k) [
    | inl f ↦ absurd (h e.1 f.1)
    | inr f ↦ right (bytes_eq s t) (m == k) f.0
  ]
  | inr e ↦ left (bytes_eq s t) (m == k) e.0
]

pub eq_true : (m k : ℕ) → (m == k) ≡ true → m ≡ k
eq_true m k h = grind (arith, nat_tests)

pub pair_parts : (s t : List ℕ) (m k : ℕ) → (bytes_eq s t && m == k) ≡ true → (s ≡ t) × (m ≡ k)
pair_parts s t m k h = let p = parts (bytes_eq s t) (m == k) h in
    ((bytes_eq-Decides s t).0 p.0, eq_true m k p.1)

pub pair_back : (s t : List ℕ) (m k : ℕ) → (bytes_eq s t && m == k) ≡ (bytes_eq t s && k == m)
pair_back s t m k = elim (bool_cases (bytes_eq s t && m == k)) [
  | inl e ↦ let p = pair_parts s t m k e in e ∙ sym (pair_here t s k m (sym p.0) (sym p.1))
  | inr e ↦ e ∙ sym (pair_there t s k m (λ a b. true_false
      (sym (pair_here s t m k (sym a) (sym b)) ∙ e)))
]

pub drop_own : (t : List ℕ) (m k : ℕ) → (bytes_eq t t && m == k) ≡ false → (m == k) ≡ false
drop_own t m k h = sym (ap (λ b. b && m == k) ((bytes_eq-Decides t t).1 refl)) ∙ h

pub not_equal : (m k : ℕ) → m ≢ k → (m == k) ≡ false
not_equal m k h = grind (arith, nat_tests)
