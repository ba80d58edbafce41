use Rattle.catalog_changes.proofs.ChangeLemmas.{left_read}
use Rattle.catalog_changes.proofs.removal.judged_removal.Goals as goal

pub plan_sums-requires-clause-read : goal.plan_sums-requires-clause-read
plan_sums-requires-clause-read c =
    left_read c.args.derived.now c.args.kind c.args.name c.in-Ok.catalog c.verdict_on.result
    c.requires c.in-Ok.ensures.exact c.verdict_on.ensures c.in-Accepted.is
