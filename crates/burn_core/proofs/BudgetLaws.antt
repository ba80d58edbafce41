-- Burn rate, error rate and remaining budget together.
use Rattle.std.proofs.Common.{◌≡◌, ◌≢◌, ◌⊎◌, ℕ, zero, suc, ◌+◌, ◌-◌, ◌*◌, ◌/◌, ◌<◌, ◌≤◌, pos}
use Rattle.std.proofs.Common.{negsuc, neg_ℤ, ◌+ℤ◌, ◌*ℤ◌, ◌-ℤ◌, nat_le, nat_eq, true, false, Option}
use Rattle.std.proofs.Common.{Some, None, inl, inr, refl, sym, ap, subst, ◌∙◌, arith, if◌then◌else◌}
use Rattle.std.proofs.Common.{option_map}
use Rattle.std.proofs.Math.Nat.{mul-div_cancel'}
use Rattle.std.proofs.Math.IntN.{pos-*ℤ-pos, negsuc-*ℤ-pos, pos-+ℤ-pos}
use Rattle.std.proofs.lemmas.Int.{ints}
use Rattle.std.proofs.lemmas.Bool.Decides.{eqb_tells, leb_tells}
use Rattle.exact_fraction.specs.declared.leaf.Leaf.{Leaf}
use Rattle.exact_fraction.specs.Ratio.{Ratio, gcd, lowest}
use Rattle.exact_fraction.proofs.LowestTerms.{is_gcd, lowest-SameValue}
use Rattle.slo_limits.specs.declared.TheConstants.{WHOLE}
use Rattle.slo_terms.specs.Budget.{burn_of, error_rate_of, remaining_of}
use Rattle.burn_core.specs.Laws.{AreOne, BurnTimesAllowanceIsError, IsTimes, RemainingAndBurnAreOne}
use Rattle.burn_core.proofs.BurnOrder.{minus, some-product, some-quotient}

-- a fraction that isn't below 0, in lowest terms
lowest-pos : (n d : ℕ) → lowest (pos n) d ≡ record { num = pos (n / gcd n d); den = d / gcd n d }
unfolding lowest
lowest-pos n d = refl

crossed : (n d g b q : ℕ) → g * b ≡ n → g * q ≡ d → b * d ≡ n * q
crossed n d g b q en ed = rw (sym en, sym ed) (omega arith)

-- a/d is (a * WHOLE) / (d * allowed) times allowed / WHOLE
times : (a d allowed : ℕ)
    → IsTimes (lowest (pos a *ℤ pos WHOLE) (d * allowed)) allowed (record { num = pos a; den = d })
times a d allowed = rw (pos-*ℤ-pos a WHOLE, lowest-pos (a * WHOLE) (d * allowed)) by
  where
    g : ℕ
    g = gcd (a * 1000000000) (d * allowed)

    b : ℕ
    b = a * 1000000000 / g

    q : ℕ
    q = d * allowed / g

    most : b * (d * allowed) ≡ a * 1000000000 * q
    most =
        let is = is_gcd (a * 1000000000) (d * allowed) in
        crossed (a * 1000000000) (d * allowed) g b q (mul-div_cancel' g is.0)
        (mul-div_cancel' g is.1)

    one : (x y : ℕ) → x * (d * allowed) ≡ a * 1000000000 * y
        → a * (y * 1000000000) ≡ x * allowed * d
    one x y e = omega (arith, e)

    by : pos a *ℤ pos (q * WHOLE) ≡ (pos b *ℤ pos allowed) *ℤ pos d
    by = pos-*ℤ-pos a (q * WHOLE) ∙ ap pos (one b q most)
        ∙ sym (ap (λ z. z *ℤ pos d) (pos-*ℤ-pos b allowed) ∙ pos-*ℤ-pos (b * allowed) d)

abbrev no_ratio : Option Ratio
no_ratio = None

-- an error rate is a fraction that isn't below 0, and a denominator above 0
record IsErrorRate (error : Ratio) : Type 0 where
  a : ℕ
  d : ℕ
  some : 0 < d
  is : error ≡ record { num = pos a; den = d }

error-parts : (sum : Leaf) (error : Ratio) → sum.num ≤ sum.den → error_rate_of sum ≡ Some error
    → IsErrorRate error
error-parts sum error part e = by (eqb_tells sum.den 0)
  where
    n : ℕ
    n = sum.den - sum.num

    g : ℕ
    g = gcd n sum.den

    by : ((nat_eq sum.den 0 ≡ true) × (sum.den ≡ 0)) ⊎ ((nat_eq sum.den 0 ≡ false) × (sum.den ≢ 0))
        → IsErrorRate error
    by (inl none) =
        let here : no_ratio ≡ Some error = subst (λ b. (if b then None
        else Some (lowest (pos sum.den -ℤ pos sum.num) sum.den)) ≡ Some error) none.0 e in
        cc here
    by (inr some) =
        let here : Some (lowest (pos sum.den -ℤ pos sum.num) sum.den) ≡ Some error =
        subst (λ b. (if b then None else Some (lowest (pos sum.den -ℤ pos sum.num) sum.den))
        ≡ Some error) some.0 e in
        let same : error ≡ lowest (pos sum.den -ℤ pos sum.num) sum.den = cc here in
        record {
          a = n / g;
          d = sum.den / g;
          some = some-quotient g (sum.den / g) sum.den (mul-div_cancel' g (is_gcd n sum.den).1)
              (positive sum.den some.1);
          is = same ∙ ap (λ z. lowest z sum.den) (minus sum.den sum.num part)
              ∙ lowest-pos n sum.den;
        }
      where
        positive : (m : ℕ) → m ≢ 0 → 0 < m
        positive zero h = absurd (h refl)
        positive (suc m) h = omega arith

-- the burn rate as the definition has it
burn-is : (sum : Leaf) (target : ℕ) (error burn : Ratio) → error_rate_of sum ≡ Some error →
    burn_of sum target ≡ Some burn →
    burn ≡ lowest (error.num *ℤ pos WHOLE) (error.den * (WHOLE - target))
burn-is sum target error burn he hb =
    let here : Some (lowest (error.num *ℤ pos WHOLE) (error.den * (WHOLE - target))) ≡ Some burn =
    sym (ap (option_map (λ (error : Ratio).
    lowest (error.num *ℤ pos WHOLE) (error.den * (WHOLE - target)))) he) ∙ hb in
    cc here

pub burn-law : BurnTimesAllowanceIsError
burn-law sum target error burn part below he hb =
    let parts = error-parts sum error part he in
    let is = burn-is sum target error burn he hb ∙ ap (λ (error : Ratio).
    lowest (error.num *ℤ pos WHOLE) (error.den * (WHOLE - target))) parts.is in
    subst (λ (x : Ratio). IsTimes x (WHOLE - target) error) (sym is)
    (subst (λ (x : Ratio). IsTimes (lowest (pos parts.a *ℤ pos WHOLE) (parts.d * (WHOLE - target)))
    (WHOLE - target) x) (sym parts.is)
    (times parts.a parts.d (WHOLE - target)))

-- a difference times a number, and what was taken away
difference : (q b r : ℕ) → (pos q -ℤ pos b) *ℤ pos r +ℤ pos b *ℤ pos r ≡ pos (r * q)
difference q b r = rw (pos-*ℤ-pos b r) (by (leb_tells b q))
  where
    less : (k : ℕ) → q ≡ b + k → k * r + b * r ≡ r * q
    less k e = rw e (omega arith)

    more : (k : ℕ) → b ≡ q + suc k → b * r ≡ r * q + suc k * r
    more k e = rw e (omega arith)

    negative : (x y : ℕ) → neg_ℤ (pos x) +ℤ pos (y + x) ≡ pos y
    negative zero y = omega (arith, ints)
    negative (suc x) y = omega (arith, ints)

    below : (k : ℕ) → b ≡ q + suc k → pos q -ℤ pos b ≡ negsuc k
    below k e = omega (arith, ints, e)

    by : ((nat_le b q ≡ true) × (b ≤ q)) ⊎ ((nat_le b q ≡ false) × (q < b))
        → (pos q -ℤ pos b) *ℤ pos r +ℤ pos (b * r) ≡ pos (r * q)
    by (inl le) =
        ap (λ z. z *ℤ pos r +ℤ pos (b * r)) (minus q b le.1)
        ∙ ap (λ z. z +ℤ pos (b * r)) (pos-*ℤ-pos (q - b) r)
        ∙ pos-+ℤ-pos ((q - b) * r) (b * r) ∙ ap pos (less (q - b) (omega (arith, le.1)))
    by (inr lt) =
        let k = b - q - 1 in
        let e : b ≡ q + suc k = omega (arith, lt.1) in
        ap (λ z. z *ℤ pos r +ℤ pos (b * r)) (below k e)
        ∙ ap (λ z. z +ℤ pos (b * r)) (negsuc-*ℤ-pos k r)
        ∙ ap (λ n. neg_ℤ (pos (suc k * r)) +ℤ pos n) (more k e) ∙ negative (suc k * r) (r * q)

-- a fraction that is 1 less another one
rest : (b q : ℕ) → 0 < q → AreOne (lowest (pos q -ℤ pos b) q) (record { num = pos b; den = q })
rest b q some =
    let x = lowest (pos q -ℤ pos b) q in
    ap (λ z. z +ℤ pos b *ℤ pos x.den) (lowest-SameValue (pos q -ℤ pos b) q some)
    ∙ difference q b x.den

remaining-is : (sum : Leaf) (target : ℕ) (burn remaining : Ratio) → burn_of sum target ≡ Some burn →
    remaining_of sum target ≡ Some remaining →
    remaining ≡ lowest (pos burn.den -ℤ burn.num) burn.den
remaining-is sum target burn remaining hb hr =
    let here : Some (lowest (pos burn.den -ℤ burn.num) burn.den) ≡ Some remaining =
    sym (ap (option_map (λ (burn : Ratio). lowest (pos burn.den -ℤ burn.num) burn.den)) hb) ∙ hr in
    cc here

-- a burn rate isn't below 0
burn-parts : (sum : Leaf) (target : ℕ) (burn : Ratio) → sum.num ≤ sum.den → target < WHOLE
    → burn_of sum target ≡ Some burn → IsErrorRate burn
burn-parts sum target burn part below hb = by (error_rate_of sum) refl
  where
    by : (o : Option Ratio) → error_rate_of sum ≡ o → IsErrorRate burn
    by None none =
        let here : no_ratio ≡ Some burn = sym (ap (option_map (λ (error : Ratio).
        lowest (error.num *ℤ pos WHOLE) (error.den * (WHOLE - target)))) none) ∙ hb in
        cc here
    by (Some error) he =
        let parts = error-parts sum error part he in
        let n = parts.a * 1000000000 in
        let k = parts.d * (1000000000 - target) in
        let g = gcd n k in
        record {
          a = n / g;
          d = k / g;
          some = some-quotient g (k / g) k (mul-div_cancel' g (is_gcd n k).1)
              (some-product parts.d (1000000000 - target) parts.some (omega arith));
          is =
              burn-is sum target error burn he hb ∙ ap (λ (error : Ratio).
              lowest (error.num *ℤ pos WHOLE) (error.den * (WHOLE - target))) parts.is
              ∙ ap (λ z. lowest z k) (pos-*ℤ-pos parts.a WHOLE) ∙ lowest-pos n k;
        }

pub remaining-law : RemainingAndBurnAreOne
remaining-law sum target burn remaining part below hb hr =
    let parts = burn-parts sum target burn part below hb in
    let is = remaining-is sum target burn remaining hb hr in
    subst (λ (x : Ratio). AreOne x burn) (sym is)
    (subst (λ (x : Ratio). AreOne (lowest (pos x.den -ℤ x.num) x.den) x) (sym parts.is)
    (rest parts.a parts.d parts.some))
