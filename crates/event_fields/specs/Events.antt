-- The events that records stand for, and what is wrong with a record by itself.
use Rattle.std.specs.Prelude.{◌≤◌, ℕ, List, Option, Some, None, Result, Ok, Err, codes, nat_le}
use Rattle.std.specs.Prelude.{if◌then◌else◌}
use Rattle.std.specs.Option.{option_and_then}
use Rattle.csv_records.specs.Columns.{five_fields}
use Rattle.csv_records.specs.Records.{Fields}
use Rattle.exact_fraction.specs.Digits.{number_within}
use Rattle.exact_fraction.specs.Label.{label_of}
use Rattle.slo_limits.specs.declared.TheConstants.{MAX_MINUTE, MAX_REVISION}
use Rattle.event_fields.specs.declared.event.Event.{Event}
use Rattle.event_fields.specs.declared.event.EventFault.{EventFault}
use Rattle.event_fields.specs.declared.event.EventFault.TheVariants as fault

-- what is read of the first, and then what follows from it
infixl 10 ◌>>=◌
abbrev pub ◌>>=◌ : {A B : Type 0} → Option A → (A → Option B) → Option B
o >>= f = option_and_then f o

-- the minute of a text: one of the clock
abbrev pub minute_of : List ℕ → Option ℕ
minute_of text = number_within MAX_MINUTE text

-- the revision of a text: revisions count from 1
abbrev pub revision_of : List ℕ → Option ℕ
revision_of text = do
  revision ← number_within MAX_REVISION text
  if nat_le 1 revision then Some revision else None

-- the good and total events of two texts: the good ones are among the total
abbrev pub counts_of : ℕ → List ℕ → List ℕ → Option (ℕ × ℕ)
counts_of most good_text total_text = do
  good ← number_within most good_text
  total ← number_within most total_text
  if nat_le good total then Some (good, total) else None

-- what a rule gives, or its fault where it is broken; and then the rules behind it
abbrev pub by_rule : {A B : Type 0} → EventFault → Option A → (A → Result B EventFault) →
    Result B EventFault
by_rule fault None behind = Err fault
by_rule fault (Some value) behind = behind value

-- The event that five fields stand for, or the first rule that they break: the source is a label,
-- the minute is one of the clock, the revision is from 1 to 10^9, good and total are at most
-- `most`, and good is at most total. A number is written in digits alone.
abbrev pub fields_event : ℕ → List ℕ × List ℕ × List ℕ × List ℕ × List ℕ → Result Event EventFault
fields_event most fields =
    by_rule fault.Source (label_of fields.0) (λ source.
    by_rule fault.Minute (minute_of fields.1) (λ minute.
    by_rule fault.Revision (revision_of fields.2) (λ revision.
    by_rule fault.Counts (counts_of most fields.3 fields.4) (λ counts.
    Ok (record {
      source = source;
      minute = minute;
      revision = revision;
      good = counts.0;
      total = counts.1;
    })))))

abbrev pub of_five : ℕ → Option (List ℕ × List ℕ × List ℕ × List ℕ × List ℕ) →
    Result Event EventFault
of_five most None = Err fault.Fields
of_five most (Some fields) = fields_event most fields

-- The event that a record stands for: it has five fields, and they keep their rules.
abbrev pub event_of : ℕ → Fields → Result Event EventFault
event_of most fields = of_five most (five_fields fields)

-- the good events are among the total, which is at most so much
pub record AreCounted (most good total : ℕ) : Type 0 where
  pub part : good ≤ total
  pub few : total ≤ most

-- the word for what is wrong
abbrev pub words_of_event : EventFault → List ℕ
words_of_event fault.Fields = codes "fields"
words_of_event fault.Source = codes "source"
words_of_event fault.Minute = codes "minute"
words_of_event fault.Revision = codes "revision"
words_of_event fault.Counts = codes "counts"
