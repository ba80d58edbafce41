-- The worked texts, computed.
use Rattle.std.proofs.Common.{refl}
use Rattle.csv.proofs.OnLiterals.{csv_on_literals}
use Rattle.csv_records.specs.Worked.{WorkedTexts}

pub worked_texts : WorkedTexts
unfolding csv_on_literals
worked_texts = record {
  none = refl;
  empty_lines = refl;
  space = refl;
  line_feed = refl;
  both = refl;
  carriage_return = refl;
  last_line = refl;
  comma_at_end = refl;
  lengths = refl;
  empty_quotes = refl;
  number = refl;
  quoted = refl;
  doubled = refl;
  inner = refl;
  unclosed = refl;
  mark = refl;
  later_mark = refl;
  no_text = refl;
}
