use Rattle.std.proofs.Common.{◌<◌, ◌≤◌, ◌+◌, ◌*◌, ◌/◌, arith}
use Rattle.std.proofs.Math.Nat.{div-mul-le_self}
use Rattle.line_forgetting.proofs.StretchLemmas.{later-slice}
use Rattle.line_forgetting.proofs.batch.slices_of.Goals.{else-run-via-else-run}
use Rattle.line_forgetting.proofs.batch.slices_of.Goals.{else-run-via-then-run+else-reach-width}
use Rattle.line_forgetting.proofs.batch.slices_of.Goals as goal

pub returns-clause-run : goal.returns-clause-run
returns-clause-run c = record {
  order = later-slice c.args.width c.args.first c.args.last c.requires.some c.requires.order;
  early = omega (arith, div-mul-le_self c.args.last c.args.width, c.requires.early);
  joined = elim c.else-run.branch [
    | else-run-via-then-run+else-reach-width w ↦
        λ less. omega (arith, w.reach.ensures, w.if-reach-width.false)
    | else-run-via-else-run w ↦ λ less. absurd (omega (arith, less, w.if-run.false))
  ];
}
