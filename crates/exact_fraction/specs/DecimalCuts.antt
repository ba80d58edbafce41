use Rattle.std.specs.Prelude.{ℕ, ◌+◌, ◌==◌, ◌||◌, nat_lt, nat_le, cond, List, [], length, take}
use Rattle.std.specs.Prelude.{drop, slice_index, Option, Result, Ok, Err}
use Rattle.std.specs.Char.{is_ascii_digit}
use Rattle.std.specs.Result.{result_ok}
use Rattle.std.specs.List.{prefix_len}
use Rattle.slo_limits.specs.declared.TheConstants.{MAX_DECIMAL}
use Rattle.exact_fraction.specs.Decimal.{billionths_of}
use Rattle.exact_fraction.specs.declared.decimal.DecimalFault.{DecimalFault}
use Rattle.exact_fraction.specs.declared.decimal.DecimalFault.TheVariants.{Empty, BadByte}
use Rattle.exact_fraction.specs.declared.decimal.DecimalFault.TheVariants.{TooManyDecimals}
use Rattle.exact_fraction.specs.declared.decimal.DecimalFault.TheVariants.{TooLarge}

-- how many digits a text begins with
abbrev pub leading_digits : List ℕ → ℕ
leading_digits text = prefix_len is_ascii_digit text

-- what digits before and after the point stand for
abbrev pub worth_of : List ℕ → List ℕ → Result ℕ DecimalFault
worth_of whole decimals =
    cond (nat_lt 9 (length decimals))
    (Err TooManyDecimals) (cond (nat_le (billionths_of whole decimals) MAX_DECIMAL)
    (Ok (billionths_of whole decimals)) (Err TooLarge))

-- the digits after the point, of which so many lead
abbrev pub after_point : ℕ → List ℕ → List ℕ → Result ℕ DecimalFault
after_point place whole decimals =
    cond ((leading_digits decimals == 0) || nat_lt (leading_digits decimals) (length decimals))
    (Err (BadByte (place + leading_digits decimals))) (worth_of whole decimals)

-- the reading of a decimal text by its cuts
abbrev pub decimal_by_cuts : List ℕ → Result ℕ DecimalFault
decimal_by_cuts text =
    let whole = leading_digits text in
    cond
    (length text == 0)
    (Err Empty)
    (cond
    (whole == 0)
    (Err (BadByte 0))
    (cond
    (whole == length text)
    (worth_of text [])
    (cond (slice_index text whole == 46)
    (after_point (whole + 1) (take whole text) (drop (whole + 1) text)) (Err (BadByte whole)))))

-- the billionths that a text stands for, where it is a decimal within the limits
abbrev pub decimal_of : List ℕ → Option ℕ
decimal_of text = result_ok (decimal_by_cuts text)
