use Rattle.std.specs.Prelude.{ℕ, zero, suc, ◌+◌, ◌/◌, ◌%◌, ◌^◌, ◌==◌, ℤ, pos, negsuc, ◌+ℤ◌, ◌*ℤ◌}
use Rattle.std.specs.Prelude.{◌≤ℤ◌, ◌<ℤ◌, unsigned_abs, List, [], ◌∷◌, ◌++◌, length, take, ◌-◌}
use Rattle.std.specs.Prelude.{decimal}
use Rattle.std.specs.Int.{int_div_euclid}
use Rattle.std.specs.List.{suffix_len}
use Rattle.exact_fraction.specs.Decimal.{with_point}
use Rattle.exact_fraction.specs.Ratio.{Ratio}

-- the last so many digits of a number, zeros in front included
abbrev pub last_digits : ℕ → ℕ → List ℕ
last_digits zero n = []
last_digits (suc count) n = (48 + n / 10 ^ count % 10) ∷ last_digits count n

-- a text without the zeros (byte 48) at its end
abbrev pub without_last_zeros : List ℕ → List ℕ
without_last_zeros digits = take (length digits - suffix_len (λ digit. digit == 48) digits) digits

-- billionths as people write them: no zeros at the end of the decimals, and no point where
-- there are none
abbrev pub decimal_text : ℕ → List ℕ
decimal_text n =
    decimal (n / 10 ^ 9) ++ with_point (without_last_zeros (last_digits 9 (n % 10 ^ 9)))

-- ten-thousandths with their four places
abbrev pub four_places : ℕ → List ℕ
four_places n = decimal (n / 10 ^ 4) ++ (46 ∷ last_digits 4 (n % 10 ^ 4))

-- a minus before what is below zero
abbrev pub minus_of : ℤ → List ℕ
minus_of (pos _) = []
minus_of (negsuc _) = 45 ∷ []

-- q is the greatest whole number that is at most z/d
pub record IsFloor (q z : ℤ) (d : ℕ) : Type 0 where
  pub at_most : (q *ℤ pos d) ≤ℤ z
  pub next_above : z <ℤ ((q +ℤ pos 1) *ℤ pos d)

-- a fraction in ten-thousandths of a percent, rounded toward minus infinity
abbrev pub percent_parts : Ratio → ℤ
percent_parts r = int_div_euclid (r.num *ℤ pos (10 ^ 6)) (pos r.den)

-- a fraction as a percentage with four places: `-66.6667`
abbrev pub percent_text : Ratio → List ℕ
percent_text r = minus_of (percent_parts r) ++ four_places (unsigned_abs (percent_parts r))
