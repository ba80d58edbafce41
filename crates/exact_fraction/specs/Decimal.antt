use Rattle.std.specs.Prelude.{◌≡◌, ℕ, ◌+◌, ◌-◌, ◌*◌, ◌^◌, ◌<◌, ◌≤◌, IsTrue, List, [], ◌∷◌, ◌++◌}
use Rattle.std.specs.Prelude.{length, take, Result, Ok, Err}
use Rattle.std.specs.Char.{is_ascii_digit}
use Rattle.std.specs.List.{list_all}
use Rattle.slo_limits.specs.declared.TheConstants.{MAX_DECIMAL}
use Rattle.exact_fraction.specs.Digits.{is_number, number_of}
use Rattle.exact_fraction.specs.declared.decimal.DecimalFault.{DecimalFault}
use Rattle.exact_fraction.specs.declared.decimal.DecimalFault.TheVariants.{Empty, BadByte}
use Rattle.exact_fraction.specs.declared.decimal.DecimalFault.TheVariants.{TooManyDecimals}
use Rattle.exact_fraction.specs.declared.decimal.DecimalFault.TheVariants.{TooLarge}

-- nothing where there are no decimals, else a point (byte 46) and the decimals
abbrev pub with_point : List ℕ → List ℕ
with_point [] = []
with_point (d ∷ ds) = 46 ∷ d ∷ ds

-- a decimal text: one or more digits, then nothing or a point and one or more digits
pub record IsDecimal (text whole decimals : List ℕ) : Type 0 where
  pub whole_digits : IsTrue (is_number whole)
  pub decimal_digits : IsTrue (list_all is_ascii_digit decimals)
  pub form : text ≡ whole ++ with_point decimals

-- what at most nine decimals behind a whole number are worth, in billionths
abbrev pub billionths_of : List ℕ → List ℕ → ℕ
billionths_of whole decimals =
    number_of whole * 10 ^ 9 + number_of decimals * 10 ^ (9 - length decimals)

-- the text is a decimal of at most nine decimals
pub record IsShortDecimal (text whole decimals : List ℕ) : Type 0 where
  pub is_decimal : IsDecimal text whole decimals
  pub few : length decimals ≤ 9

-- the text stands for so many billionths, at most a thousand million whole ones
abbrev pub StandsForBillionths : List ℕ → ℕ → Type 0
StandsForBillionths text n =
    (whole : List ℕ) × ((decimals : List ℕ)
    × (IsShortDecimal text whole decimals × (n ≡ billionths_of whole decimals) × (n ≤ MAX_DECIMAL)))

-- some decimal text begins with these bytes
abbrev pub BeginsDecimal : List ℕ → Type 0
BeginsDecimal bytes = (rest : List ℕ)
    × ((whole : List ℕ) × ((decimals : List ℕ) × IsDecimal (bytes ++ rest) whole decimals))

-- the first byte that no decimal text can have there, or the end where a decimal text would go on
pub record StopsAt (text : List ℕ) (place : ℕ) : Type 0 where
  pub within : place ≤ length text
  pub good_before : BeginsDecimal (take place text)
  pub bad_here : place < length text → BeginsDecimal (take (place + 1) text) → ⊥
  pub bad_end : place ≡ length text → (whole decimals : List ℕ) → IsDecimal text whole decimals → ⊥

-- what a text stands for, or what is wrong with it: for each text this holds of one answer alone
abbrev pub AnswersDecimal : List ℕ → Result ℕ DecimalFault → Type 0
AnswersDecimal text (Ok n) = StandsForBillionths text n
AnswersDecimal text (Err Empty) = text ≡ []
AnswersDecimal text (Err (BadByte place)) = (text ≡ [] → ⊥) × StopsAt text place
AnswersDecimal text (Err TooManyDecimals) =
    (whole : List ℕ) × ((decimals : List ℕ)
    × (IsDecimal text whole decimals × (9 < length decimals)))
AnswersDecimal text (Err TooLarge) =
    (whole : List ℕ) × ((decimals : List ℕ)
    × (IsShortDecimal text whole decimals × (MAX_DECIMAL < billionths_of whole decimals)))
