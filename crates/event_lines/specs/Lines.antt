-- Lines that stand for events.
use Rattle.std.specs.Prelude.{◌≡◌, ◌<◌, ◌≤◌, ◌+◌, ◌==◌, ◌∷◌, if◌then◌else◌, ℕ}
use Rattle.std.specs.Prelude.{List, Ok, drop, get_or, length, take, true}
use Rattle.std.specs.Char.{is_ascii_digit}
use Rattle.std.specs.List.{list_all}
use Rattle.csv_records.specs.Records.{Fields, csv_records}
use Rattle.event_fields.specs.Events.{event_of}
use Rattle.event_fields.specs.declared.Event.{Event}
use Rattle.exact_fraction.specs.Digits.{number_of}
use Rattle.plain_fields.specs.Lines.{StandsBehindFeed}
use Rattle.slo_limits.specs.declared.TheConstants.{MAX_MINUTE, MAX_REVISION}
use Rattle.event_lines.specs.declared.line.EventLine.{EventLine}
use Rattle.event_lines.specs.declared.number.Numbers.{Numbers}

-- a comma of a text
pub record IsComma (text : List ℕ) (at : ℕ) : Type 0 where
  pub inside : at < length text
  pub comma : get_or text at 0 ≡ 44

-- one or more digits from a place on are this number, and a mark stands behind them, before another
-- place
pub record IsNumberAt (text : List ℕ) (from next mark value : ℕ) : Type 0 where
  pub digits : ℕ
  pub some : 0 < digits
  pub inside : from + digits < length text
  pub behind : get_or text (from + digits) 0 ≡ mark
  pub next_is : next ≡ from + digits + 1
  pub are : list_all is_ascii_digit (take digits (drop from text)) ≡ true
  pub value_is : value ≡ number_of (take digits (drop from text))

-- a byte ends a number of so many digits, before which so many numbers stand
pub record EndsNumber (digits count byte : ℕ) : Type 0 where
  pub some : 0 < digits
  pub few : digits ≤ 18
  pub mark : byte ≡ (if count == 3 then 10 else 44)

-- four numbers from a place on, up to the line feed before another place
pub record AreNumbersAt (text : List ℕ) (from next : ℕ) (numbers : Numbers) : Type 0 where
  pub second : ℕ
  pub third : ℕ
  pub fourth : ℕ
  pub minute : IsNumberAt text from second 44 numbers.minute
  pub revision : IsNumberAt text second third 44 numbers.revision
  pub good : IsNumberAt text third fourth 44 numbers.good
  pub total : IsNumberAt text fourth next 10 numbers.total

-- the numbers are those of an event, of at most so many events
pub record KeepRules (most : ℕ) (numbers : Numbers) : Type 0 where
  pub minute : numbers.minute ≤ MAX_MINUTE
  pub counted : 1 ≤ numbers.revision
  pub revision : numbers.revision ≤ MAX_REVISION
  pub part : numbers.good ≤ numbers.total
  pub few : numbers.total ≤ most

-- the event of a source with the numbers of a line
abbrev pub event_with : List ℕ → EventLine → Event
event_with label line = record {
  source = label;
  minute = line.minute;
  revision = line.revision;
  good = line.good;
  total = line.total;
}

-- The line from a place behind a line feed on is the record of an event of this source, and the
-- next line begins behind it.
pub record IsEventLine (most : ℕ) (text : List ℕ) (from : ℕ) (line : EventLine) (label : List ℕ) :
    Type 0 where
  pub fields : Fields
  pub records :
      csv_records (10 ∷ drop from text) ≡ fields ∷ csv_records (10 ∷ drop line.end text)
  pub behind : StandsBehindFeed text line.end
  pub event : event_of most fields ≡ Ok (event_with label line)
