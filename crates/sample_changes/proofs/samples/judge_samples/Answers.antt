use Rattle.std.proofs.Common.{arith}
use Rattle.sample_changes.proofs.Judged.{comes_to}
use Rattle.sample_changes.proofs.samples.judge_samples.Goals as goal

pub returns-in-Ok : goal.returns-in-Ok
returns-in-Ok c o r =
    let found = c.in-Ok.found in
    comes_to c.args.derived.now o c.args.moment c.args.rows.now c.as_slice-batch.result.now
    found.judgement found.tally found.verdicts.items c.judged_rows.result r
    c.as_slice-batch.ensures (omega arith) c.in-Ok.ensures.judged c.in-Ok.ensures.counted
    c.in-Ok.ensures.each c.judged_rows.ensures
