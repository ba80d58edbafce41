use Rattle.std.proofs.Common.{List, ℕ, ◌%◌, ◌∙◌, IsTrue, ap, subst, sym}
use Rattle.std.specs.Char.{is_ascii_digit}
use Rattle.std.specs.List.{list_all}
use Rattle.exact_fraction.specs.DecimalText.{without_last_zeros}
use Rattle.exact_fraction.proofs.SpelledDecimals.{trimmed-digits}
use Rattle.exact_fraction.proofs.spelling.DecimalDisplay.fmt.Goals as goal

pub digits_text-decimals-requires : goal.digits_text-decimals-requires
digits_text-decimals-requires g c =
    let P : List ℕ → Type 0 = λ t. IsTrue (list_all is_ascii_digit t) in
    subst P (sym (c.without_last_zeros.ensures ∙ ap without_last_zeros
    c.nine_digits-digits.ensures)) (trimmed-digits 9 (c.billionths-2.result % 1000000000))
