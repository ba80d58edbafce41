-- The statuses of answers, outcome by outcome.
use Rattle.std.proofs.Common.{◌≡◌, refl}
use Rattle.record_form.specs.Words.{failure_of}
use Rattle.record_form.specs.declared.outcome.Outcome.{Outcome}
use Rattle.record_form.specs.declared.outcome.Outcome.TheVariants.{Defined, Sampled, Changed}
use Rattle.record_form.specs.declared.outcome.Outcome.TheVariants.{Ticked, ObjectList, ObjectText}
use Rattle.record_form.specs.declared.outcome.Outcome.TheVariants.{Budgets, Burn, Timeline, Notices}
use Rattle.record_form.specs.declared.outcome.Outcome.TheVariants.{Feed, Row, Exclusions, Zones}
use Rattle.record_form.specs.declared.outcome.Outcome.TheVariants.{Status, Sums, Windows}
use Rattle.record_form.specs.declared.outcome.Outcome.TheVariants.{Refused, ClockRange, DiskFault}
use Rattle.record_form.specs.declared.outcome.Outcome.TheVariants.{JournalFull, NoMemory}
use Rattle.wire_replies.specs.Laws.{status_by}
use Rattle.wire_replies.specs.Outcomes.{answer_of}

pub status_is : (outcome : Outcome) → (answer_of outcome).status ≡ status_by (failure_of outcome)
status_is (Defined applied entry) = refl
status_is (Sampled entry new newer repeated superseded) = refl
status_is (Changed entry) = refl
status_is (Ticked entry notices) = refl
status_is (ObjectList entries objects) = refl
status_is (ObjectText text) = refl
status_is (Budgets at budgets entries) = refl
status_is (Burn at burn den entries num) = refl
status_is (Timeline entries intervals state) = refl
status_is (Notices entries notices) = refl
status_is (Feed feed) = refl
status_is (Row entries row) = refl
status_is (Exclusions entries exclusions) = refl
status_is (Zones entries zones) = refl
status_is (Status status) = refl
status_is (Sums at entries sums) = refl
status_is (Windows at entries windows) = refl
status_is (Refused refusal) = refl
status_is (ClockRange end reading) = refl
status_is DiskFault = refl
status_is (JournalFull needed tail) = refl
status_is NoMemory = refl
