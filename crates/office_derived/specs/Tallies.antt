-- The rows of a batch, counted by what becomes of them.
use Rattle.std.specs.Prelude.{ℕ, ◌||◌, ◌==◌, Bool, not, List, Option}
use Rattle.sample_book.specs.declared.RowVerdict.{RowVerdict}
use Rattle.sample_book.specs.Puts.{is_new}
use Rattle.record_form.specs.declared.Outcome.{Outcome}
use Rattle.record_form.specs.declared.Outcome.TheVariants.{Sampled}
use Rattle.office_history.specs.Batches.{count, is_newer, is_repeated}
use Rattle.office_history.specs.Batches.{is_superseded}
use Rattle.office_derived.specs.declared.tally.BatchTally.{BatchTally}

-- how many of these became what
abbrev pub tally_of : List RowVerdict → BatchTally
tally_of vs = record {
  new = count is_new vs;
  newer = count is_newer vs;
  repeated = count is_repeated vs;
  superseded = count is_superseded vs;
}

abbrev pub tally_outcome : BatchTally → Option ℕ → Outcome
tally_outcome tally entry = Sampled entry tally.new tally.newer tally.repeated tally.superseded

-- whether a row is put
abbrev pub changes : BatchTally → Bool
changes tally = not (tally.new == 0) || not (tally.newer == 0)
