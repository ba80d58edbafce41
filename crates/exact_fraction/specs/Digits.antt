use Rattle.std.specs.Prelude.{ℕ, ◌+◌, ◌-◌, ◌*◌, Bool, ◌&&◌, cond, not, nat_le, nat_lt, ◌==◌, List}
use Rattle.std.specs.Prelude.{length, fold, Option, Some, None, option_and_then, slice_index}
use Rattle.std.specs.Char.{is_ascii_digit}
use Rattle.std.specs.List.{list_all}

-- a number that is followed by one more decimal digit
abbrev pub with_digit : ℕ → ℕ → ℕ
with_digit n byte = n * 10 + (byte - 48)

-- the positional value of decimal digits, the first the highest
abbrev pub number_of : List ℕ → ℕ
number_of digits = fold with_digit 0 digits

-- one or more ASCII digits
abbrev pub is_number : List ℕ → Bool
is_number text = not (length text == 0) && list_all is_ascii_digit text

-- the number that a text stands for: none where it is no digits alone
abbrev pub digits_value : List ℕ → Option ℕ
digits_value text = cond (is_number text) (Some (number_of text)) None

-- a number where it is at most `most`
abbrev pub at_most : ℕ → ℕ → Option ℕ
at_most most n = cond (nat_le n most) (Some n) None

-- the number that a text of digits stands for, where it is at most `most`
abbrev pub number_within : ℕ → List ℕ → Option ℕ
number_within most text = option_and_then (at_most most) (digits_value text)

-- `0` followed by more
abbrev pub leads_with_zero : List ℕ → Bool
leads_with_zero text = nat_lt 1 (length text) && (slice_index text 0 == 48)

-- the same for a number that has no leading zeros
abbrev pub plain_number_within : ℕ → List ℕ → Option ℕ
plain_number_within most text = cond (leads_with_zero text) None (number_within most text)
