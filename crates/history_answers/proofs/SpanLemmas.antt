-- One list alone holds the stretches in which something is so.
use Rattle.std.proofs.Common.{◌≡◌, ℕ, ◌+◌, ◌≤◌, List, [], ◌∷◌, refl, sym, inl, inr, arith}
use Rattle.std.proofs.lemmas.Bool.{cases_lt}
use Rattle.burn_core.specs.Timeline.{Lies, AreApart, AreSpansOf}

-- what lies in stretches from `low` on isn't before `low`
above : (low minute : ℕ) (spans : List (ℕ × ℕ)) → AreApart low spans → Lies minute spans
    → low ≤ minute
above low minute [] apart lies = absurd lies
above low minute (span ∷ rest) apart (inl here) = omega arith
above low minute (span ∷ rest) apart (inr later) = let after =
    above (span.1 + 1) minute rest apart.2 later in omega arith

-- the first of stretches begins no later than one of their minutes
first_least : (low minute : ℕ) (span : ℕ × ℕ) (rest : List (ℕ × ℕ)) → AreApart low (span ∷ rest)
    → Lies minute (span ∷ rest) → span.0 ≤ minute
first_least low minute span rest apart (inl here) = here.0
first_least low minute span rest apart (inr later) = let after =
    above (span.1 + 1) minute rest apart.2 later in omega arith

-- the minute at which the first stretch ends lies in none
end_is_out : (low : ℕ) (span : ℕ × ℕ) (rest : List (ℕ × ℕ)) → AreApart low (span ∷ rest)
    → Lies span.1 (span ∷ rest) → ⊥
end_is_out low span rest apart (inl here) = omega arith
end_is_out low span rest apart (inr later) = let after =
    above (span.1 + 1) span.1 rest apart.2 later in omega arith

-- a minute behind the first stretch lies in the others
behind : (minute : ℕ) (span : ℕ × ℕ) (rest : List (ℕ × ℕ)) → span.1 ≤ minute
    → Lies minute (span ∷ rest) → Lies minute rest
behind minute span rest after (inl here) = absurd (omega arith)
behind minute span rest after (inr later) = later

-- where the minutes of one list lie in the other, its first stretch doesn't end later
no_longer : (low other : ℕ) (x y : ℕ × ℕ) (xs ys : List (ℕ × ℕ)) → AreApart low (x ∷ xs) →
    AreApart other (y ∷ ys) → x.0 ≡ y.0 →
    ((minute : ℕ) → Lies minute (x ∷ xs) → Lies minute (y ∷ ys)) → x.1 ≤ y.1
no_longer low other x y xs ys of_x of_y first into = elim (cases_lt y.1 x.1) [
  | inl lt ↦ absurd (end_is_out other y ys of_y (into y.1 (inl (omega arith, lt))))
  | inr le ↦ le
]

same : (low other : ℕ) (a b : List (ℕ × ℕ)) → AreApart low a → AreApart other b →
    ((minute : ℕ) → Lies minute a → Lies minute b) →
    ((minute : ℕ) → Lies minute b → Lies minute a) → a ≡ b
same low other [] [] of_a of_b into back = refl
same low other [] (y ∷ ys) of_a of_b into back = absurd (back y.0 (inl (omega arith, of_b.1)))
same low other (x ∷ xs) [] of_a of_b into back = absurd (into x.0 (inl (omega arith, of_a.1)))
same low other (x ∷ xs) (y ∷ ys) of_a of_b into back =
    let right = first_least other x.0 y ys of_b (into x.0 (inl (omega arith, of_a.1))) in
    let left = first_least low y.0 x xs of_a (back y.0 (inl (omega arith, of_b.1))) in
    let first : x.0 ≡ y.0 = omega arith in
    let longer = no_longer low other x y xs ys of_a of_b first into in
    let shorter = no_longer other low y x ys xs of_b of_a (sym first) back in
    let last : x.1 ≡ y.1 = omega arith in
    let rest = same (x.1 + 1) (y.1 + 1) xs ys of_a.2 of_b.2
    (λ minute lies. let after = above (x.1 + 1) minute xs of_a.2 lies in
    behind minute y ys (omega arith) (into minute (inr lies)))
    (λ minute lies. let after = above (y.1 + 1) minute ys of_b.2 lies in
    behind minute x xs (omega arith) (back minute (inr lies))) in
    λ i. (first i, last i) ∷ rest i

-- the stretches are one list
pub spans_are_one : (active : ℕ → Type 0) (from to : ℕ) (a b : List (ℕ × ℕ))
    → AreSpansOf active from to a → AreSpansOf active from to b → a ≡ b
spans_are_one active from to a b of_a of_b =
    same 0 0 a b of_a.apart of_b.apart
    (λ minute lies. (of_b.exactly minute).1 ((of_a.exactly minute).0 lies))
    (λ minute lies. (of_a.exactly minute).1 ((of_b.exactly minute).0 lies))
