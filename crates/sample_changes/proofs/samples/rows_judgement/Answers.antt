use Rattle.std.proofs.Common.{ap, arith, length}
use Rattle.sample_changes.proofs.Tallies.{verdicts_each}
use Rattle.sample_changes.proofs.samples.rows_judgement.Goals as goal

pub tally_of-tally-requires : goal.tally_of-tally-requires
tally_of-tally-requires c =
    omega (
      arith,
      ap length c.deref.ensures.value,
      ap length c.in_ok-verdicts.ensures,
      verdicts_each c.args.derived.now.book.rows c.args.rows.now,
      c.requires.few,
    )
