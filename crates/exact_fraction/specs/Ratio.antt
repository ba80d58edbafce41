use Rattle.std.specs.Prelude.{◌≡◌, ℕ, zero, suc, ◌%◌, ◌/◌, ◌<◌, ◌≤◌, ◌*◌, ◌^◌, ℤ, pos, negsuc}
use Rattle.std.specs.Prelude.{neg_ℤ, ◌*ℤ◌, unsigned_abs, List, ◌∷◌, ◌++◌, decimal, refl}
use Rattle.std.specs.Coded.{Coded, code_by, coded×, coded_ℕ, coded_ℤ}
use Rattle.std.specs.Fmt.{signed_decimal}
use Rattle.std.specs.Int.{IsGcd}

-- a fraction, as its numerator and its denominator
pub record Ratio : Type 0 where
  pub num : ℤ
  pub den : ℕ

-- lowest terms: no common divisor but 1, and a denominator above 0, so that zero is 0/1
pub record IsLowest (r : Ratio) : Type 0 where
  pub positive : 0 < r.den
  pub coprime : IsGcd (unsigned_abs r.num) r.den 1

-- the fractions r and n/d are equal
abbrev pub SameValue : Ratio → ℤ → ℕ → Type 0
SameValue r n d = r.num *ℤ pos d ≡ n *ℤ pos r.den

-- a ratio is stored as the pair of its fields
abbrev pub ratio_code : Coded Ratio
ratio_code = code_by (ℤ × ℕ) (coded× coded_ℤ coded_ℕ) (λ r. (r.num, r.den))
    (λ p. record { num = p.0; den = p.1 }) (λ _. refl)

-- the greatest common divisor, by Euclid's remainders, in so many steps at most
abbrev pub gcd_within : ℕ → ℕ → ℕ → ℕ
gcd_within zero a b = a
gcd_within (suc steps) a zero = a
gcd_within (suc steps) a (suc b) = gcd_within steps (suc b) (a % suc b)

-- the greatest common divisor
abbrev pub gcd : ℕ → ℕ → ℕ
gcd a b = gcd_within (suc b) a b

-- a size with the sign of a number
abbrev pub with_sign_of : ℤ → ℕ → ℤ
with_sign_of (pos _) size = pos size
with_sign_of (negsuc _) size = neg_ℤ (pos size)

-- n/d in lowest terms
unfoldable pub lowest : ℤ → ℕ → Ratio
lowest n d =
    let common = gcd (unsigned_abs n) d in
    record { num = with_sign_of n (unsigned_abs n / common); den = d / common }

-- the limit of a numerator's size and of a denominator: a cross product with 10^13 billionths
-- fits 128 bits
abbrev pub most_part : ℕ
most_part = 4 * 10 ^ 24

-- a fraction in lowest terms within the limits
pub record IsFraction (r : Ratio) : Type 0 where
  pub lowest_terms : IsLowest r
  pub num_fits : unsigned_abs r.num ≤ most_part
  pub den_fits : r.den ≤ most_part

-- a fraction as people write it: `-2/3`
abbrev pub fraction_text : Ratio → List ℕ
fraction_text r = signed_decimal r.num ++ (47 ∷ decimal r.den)
