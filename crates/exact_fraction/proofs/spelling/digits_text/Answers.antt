use Rattle.std.proofs.lemmas.Str.{IsUtf8-from_ascii}
use Rattle.exact_fraction.proofs.SpelledDecimals.{ascii-digits}
use Rattle.exact_fraction.proofs.spelling.digits_text.Goals as goal

pub returns-in-Err : goal.returns-in-Err
returns-in-Err c =
    absurd (c.in-Err.ensures.cases.0 (IsUtf8-from_ascii _ (ascii-digits _ c.requires)))
