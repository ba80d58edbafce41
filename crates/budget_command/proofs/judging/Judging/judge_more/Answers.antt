use Rattle.std.proofs.Common.{Err, ap}
use Rattle.csv_records.specs.Records.{csv_records}
use Rattle.budget_command.proofs.JudgingLemmas.{judged-fault, judged-more}
use Rattle.budget_command.proofs.judging.Judging.judge_more.Goals as goal

pub returns-in-Ok : goal.returns-in-Ok
returns-in-Ok c = λ before judged.
    judged-more before (csv_records c.args.part.now) c.args.self.now c.fill.new.table
    c.fill.new.drafts c.in-Ok.next c.requires.unbroken judged (c.in-Ok.ensures.ok before)
    (record { fit = c.in-Ok.ensures.fit; tallied = c.in-Ok.ensures.tallied })
    c.in-Ok.ensures.numbered

pub returns-in-Err-Broken : goal.returns-in-Err-Broken
returns-in-Err-Broken c = λ before judged.
    let broken = c.in-Err-Broken.ensures.broken c.in-Err-Broken.number c.in-Err-Broken.fault
    (ap Err c.in-Err-Broken.field-0-is) in
    judged-fault before (csv_records c.args.part.now) c.args.self.now c.fill.new.table
    c.fill.new.drafts c.in-Err-Broken.number c.in-Err-Broken.fault c.requires.unbroken judged
    (broken.0 before) broken.1
