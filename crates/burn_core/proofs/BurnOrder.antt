-- The condition of an alert, multiplied out.
use Rattle.std.proofs.Common.{◌≡◌, ◌≢◌, ◌⊎◌, ℕ, zero, suc, ◌-◌, ◌*◌, ◌/◌, ◌<◌, ◌≤◌, ◌==◌, pos, ◌*ℤ◌}
use Rattle.std.proofs.Common.{◌-ℤ◌, nat_lt, nat_eq, true, false, cond, inl, inr, refl, sym, ap, ◌∙◌}
use Rattle.std.proofs.Common.{arith}
use Rattle.std.specs.Ordering.{int_cmp, nat_cmp}
use Rattle.std.specs.declared.cmp.Ordering.TheVariants.{Less, Equal, Greater}
use Rattle.std.proofs.Math.Nat.{mul-lt-mul_of_pos_left, mul-div_cancel'}
use Rattle.std.proofs.Math.IntN.{pos-*ℤ-pos}
use Rattle.std.proofs.lemmas.Int.{ints}
use Rattle.std.proofs.lemmas.Bool.Decides.{eqb_tells, leb_tells}
use Rattle.exact_fraction.specs.declared.leaf.Leaf.{Leaf}
use Rattle.exact_fraction.specs.declared.op.Op.{Op}
use Rattle.exact_fraction.specs.Op.{holds_of, order_with}
use Rattle.exact_fraction.specs.Ratio.{gcd, lowest}
use Rattle.exact_fraction.proofs.LowestTerms.{gcd-positive, is_gcd}
use Rattle.slo_terms.specs.Budget.{above_of}

cmp-like : (x y p q : ℕ) → (x < y → p < q) → (y < x → q < p) → (x ≡ y → p ≡ q)
    → int_cmp (pos x) (pos y) ≡ nat_cmp p q
cmp-like x y p q less more same =
    by (leb_tells (suc x) y) (leb_tells (suc y) x) (leb_tells (suc p) q) (eqb_tells p q)
  where
    by : ((nat_lt x y ≡ true) × (suc x ≤ y)) ⊎ ((nat_lt x y ≡ false) × (y < suc x)) →
        ((nat_lt y x ≡ true) × (suc y ≤ x)) ⊎ ((nat_lt y x ≡ false) × (x < suc y)) →
        ((nat_lt p q ≡ true) × (suc p ≤ q)) ⊎ ((nat_lt p q ≡ false) × (q < suc p)) →
        ((nat_eq p q ≡ true) × (p ≡ q)) ⊎ ((nat_eq p q ≡ false) × (p ≢ q)) →
        cond (nat_lt x y) Less (cond (nat_lt y x) Greater Equal)
        ≡ cond (nat_lt p q) Less (cond (p == q) Equal Greater)
    by (inl a) b (inl d) e = rw (a.0, d.0) refl
    by (inl a) b (inr d) e =
        absurd (let h : p < q = less (omega (arith, a.1)) in omega (arith, h, d.1))
    by (inr a) (inl b) (inl d) e =
        absurd (let h : q < p = more (omega (arith, b.1)) in omega (arith, h, d.1))
    by (inr a) (inl b) (inr d) (inl e) =
        absurd (let h : q < p = more (omega (arith, b.1)) in omega (arith, h, e.1))
    by (inr a) (inl b) (inr d) (inr e) = rw (a.0, b.0, d.0, e.0) refl
    by (inr a) (inr b) (inl d) e =
        absurd (let h : p ≡ q = same (omega (arith, a.1, b.1)) in omega (arith, h, d.1))
    by (inr a) (inr b) (inr d) (inl e) = rw (a.0, b.0, d.0, e.0) refl
    by (inr a) (inr b) (inr d) (inr e) = absurd (e.1 (same (omega (arith, a.1, b.1))))

-- an order doesn't change where both sides are multiplied by a number above 0
cmp-scaled : (x y g p q : ℕ) → 0 < g → g * x ≡ p → g * y ≡ q → int_cmp (pos x) (pos y) ≡ nat_cmp p q
cmp-scaled x y g p q some ep eq =
    cmp-like x y p q (λ h. omega (arith, ep, eq, mul-lt-mul_of_pos_left h some)) (λ h. omega (
      arith,
      ep,
      eq,
      mul-lt-mul_of_pos_left h some,
    )) (λ h. sym ep ∙ ap (λ n. g * n) h ∙ eq)

left-side : (g h m n e : ℕ) → h * m ≡ n * 1000000000 → g * n ≡ e
    → g * h * (m * 1000000000) ≡ e * 1000000000000000000
left-side g h m n e p q = a ∙ ap (λ x. g * x * 1000000000) p ∙ b
    ∙ ap (λ x. x * 1000000000000000000) q
  where
    a : g * h * (m * 1000000000) ≡ g * (h * m) * 1000000000
    a = omega arith

    b : g * (n * 1000000000) * 1000000000 ≡ g * n * 1000000000000000000
    b = omega arith

right-side : (g h k d allowed den threshold : ℕ) → h * k ≡ d * allowed → g * d ≡ den
    → g * h * (threshold * k) ≡ threshold * (den * allowed)
right-side g h k d allowed den threshold p q = a ∙ ap (λ x. g * x * threshold) p ∙ b
    ∙ ap (λ x. threshold * (x * allowed)) q
  where
    a : g * h * (threshold * k) ≡ g * (h * k) * threshold
    a = omega arith

    b : g * (d * allowed) * threshold ≡ threshold * (g * d * allowed)
    b = omega arith

pub some-product : (a b : ℕ) → 0 < a → 0 < b → 0 < a * b
some-product (suc a) (suc b) p q = omega arith
some-product zero b p q = absurd (omega arith)
some-product (suc a) zero p q = absurd (omega arith)

pub some-quotient : (g d den : ℕ) → g * d ≡ den → 0 < den → 0 < d
some-quotient g zero den e some = absurd (omega (arith, e))
some-quotient g (suc d) den e some = omega arith

burn-order : (e den allowed threshold : ℕ) → 0 < den → 0 < allowed →
    order_with (lowest ((lowest (pos e) den).num *ℤ pos 1000000000) ((lowest (pos e) den).den
    * allowed)) threshold ≡ nat_cmp (e * 1000000000000000000) (threshold * (den * allowed))
unfolding lowest
burn-order e den allowed threshold some more =
    let g = gcd e den in
    let n = e / g in
    let d = den / g in
    let most = is_gcd e den in
    let en : g * n ≡ e = mul-div_cancel' g most.0 in
    let ed : g * d ≡ den = mul-div_cancel' g most.1 in
    let k = d * allowed in
    let some_k : 0 < k = some-product d allowed (some-quotient g d den ed some) more in
    let h = gcd (n * 1000000000) k in
    let least = is_gcd (n * 1000000000) k in
    ap (λ z. order_with (lowest z k) threshold) (pos-*ℤ-pos n 1000000000)
    ∙ ap (λ z. int_cmp z (pos (threshold * (k / h)))) (pos-*ℤ-pos (n * 1000000000 / h) 1000000000)
    ∙ cmp-scaled (n * 1000000000 / h * 1000000000) (threshold * (k / h)) (g * h)
    (e * 1000000000000000000) (threshold * (den * allowed))
    (some-product g h (gcd-positive e den some) (gcd-positive (n * 1000000000) k some_k))
    (left-side g h (n * 1000000000 / h) n e (mul-div_cancel' h least.0) en)
    (right-side g h (k / h) d allowed den threshold (mul-div_cancel' h least.1) ed)

pub minus : (d n : ℕ) → n ≤ d → pos d -ℤ pos n ≡ pos (d - n)
minus d n le = omega (arith, ints)

-- a burn rate against a threshold, without a division
pub above-is : (sum : Leaf) (target : ℕ) (op : Op) (threshold : ℕ) → 0 < sum.den →
    sum.num ≤ sum.den → target < 1000000000 →
    above_of sum target op threshold ≡ holds_of op (nat_cmp
    ((sum.den - sum.num) * 1000000000000000000) (threshold * (sum.den * (1000000000 - target))))
above-is sum target op threshold some part below = by (eqb_tells sum.den 0)
  where
    by : ((nat_eq sum.den 0 ≡ true) × (sum.den ≡ 0))
        ⊎ ((nat_eq sum.den 0 ≡ false) × (sum.den ≢ 0)) →
        above_of sum target op threshold ≡ holds_of op (nat_cmp ((sum.den - sum.num)
        * 1000000000000000000) (threshold * (sum.den * (1000000000 - target))))
    by (inl e) = absurd (omega (arith, e.1))
    by (inr e) =
        rw e.0 (ap (λ z. holds_of op (order_with (lowest ((lowest z sum.den).num *ℤ pos 1000000000)
        ((lowest z sum.den).den * (1000000000 - target))) threshold))
        (minus sum.den sum.num part)
        ∙ ap (holds_of op) (burn-order (sum.den - sum.num) sum.den (1000000000 - target) threshold
        some (omega arith)))

pub above-none : (sum : Leaf) (target : ℕ) (op : Op) (threshold : ℕ) → sum.den ≡ 0
    → above_of sum target op threshold ≡ false
above-none sum target op threshold none = by (eqb_tells sum.den 0)
  where
    by : ((nat_eq sum.den 0 ≡ true) × (sum.den ≡ 0)) ⊎ ((nat_eq sum.den 0 ≡ false) × (sum.den ≢ 0))
        → above_of sum target op threshold ≡ false
    by (inl e) = rw e.0 refl
    by (inr e) = absurd (e.1 none)
