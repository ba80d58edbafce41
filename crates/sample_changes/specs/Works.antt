-- What is found out of a change: its tally, and the work that it is.
use Rattle.std.specs.Prelude.{◌≡◌, ◌+◌, List}
use Rattle.sample_book.specs.declared.Row.{Row}
use Rattle.sample_book.specs.declared.RowVerdict.{RowVerdict}
use Rattle.sample_book.specs.declared.RowVerdict.TheVariants.{New, Newer, Repeated, Superseded}
use Rattle.sample_book.specs.declared.RowVerdict.TheVariants.{Conflict}
use Rattle.office_history.specs.declared.Judgement.{Judgement}
use Rattle.office_history.specs.declared.Judgement.TheVariants.{Accepted, Same, Refused}
use Rattle.office_derived.specs.declared.BatchTally.{BatchTally}
use Rattle.office_derived.specs.declared.Work.{Work}
use Rattle.office_derived.specs.declared.Work.TheVariants as works
use Rattle.office_derived.specs.declared.Verdict.{Verdict}
use Rattle.office_derived.specs.declared.Verdict.TheVariants as judged

-- one row more
abbrev pub tally_with : BatchTally → RowVerdict → BatchTally
tally_with tally New = record {
  new = tally.new + 1;
  newer = tally.newer;
  repeated = tally.repeated;
  superseded = tally.superseded;
}
tally_with tally (Newer kept) = record {
  new = tally.new;
  newer = tally.newer + 1;
  repeated = tally.repeated;
  superseded = tally.superseded;
}
tally_with tally Repeated = record {
  new = tally.new;
  newer = tally.newer;
  repeated = tally.repeated + 1;
  superseded = tally.superseded;
}
tally_with tally (Superseded revision) = record {
  new = tally.new;
  newer = tally.newer;
  repeated = tally.repeated;
  superseded = tally.superseded + 1;
}
tally_with tally (Conflict kept) = tally

-- what the judging of rows comes to: where they are accepted, the work of a copy of them
abbrev pub ComesTo : Judgement → List Row → BatchTally → List RowVerdict → Verdict Work → Type 0
ComesTo judgement rows tally each (judged.Ready (works.Samples copy counted becomes)) =
    (judgement ≡ Accepted) × (copy ≡ rows) × (counted ≡ tally) × (becomes.items ≡ each)
ComesTo judgement rows tally each (judged.Ready work) = ⊥
ComesTo judgement rows tally each (judged.Same outcome) = judgement ≡ Same outcome
ComesTo judgement rows tally each (judged.Refused refusal) = judgement ≡ Refused refusal
ComesTo judgement rows tally each judged.NoMemory = Unit {0}
