use Rattle.std.proofs.Common.{arith}
use Rattle.visit_workers.proofs.Chains.{works_both}
use Rattle.visit_workers.proofs.visits.work.Goals as goal

pub loop-preserved : goal.loop-preserved
loop-preserved g c = record {
  works = works_both _ _ _ _ _ _ _ _ c.loop.invariant.works c.serve_next.ensures.works;
  back = c.serve_next.ensures.back;
  later = omega (arith, c.loop.invariant.later, c.serve_next.ensures.cause.later);
}

pub returns-in-Ok-false-clause-works : goal.returns-in-Ok-false-clause-works
returns-in-Ok-false-clause-works g c =
    works_both _ _ _ _ _ _ _ _ c.loop.invariant.works c.serve_next.ensures.works

pub returns-in-Err-clause-works : goal.returns-in-Err-clause-works
returns-in-Err-clause-works g c =
    works_both _ _ _ _ _ _ _ _ c.loop.invariant.works c.serve_next.ensures.works
