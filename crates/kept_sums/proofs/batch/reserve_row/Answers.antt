use Rattle.kept_sums.proofs.DaysLemmas.{kept_days, kept_more}
use Rattle.kept_sums.proofs.batch.reserve_row.Goals as goal

pub returns-then-eq-clause-kept : goal.returns-then-eq-clause-kept
returns-then-eq-clause-kept c = λ made rows kept.
    kept_more c.args.measure.now made rows c.args.sums.now c.reserve.new.self
    c.reserve.ensures.method c.reserve.ensures.counts
    (kept_days c.reserve.result c.args.sums.now c.reserve.new.self c.args.row.now.minute
    c.reserve.ensures.days c.reserve.ensures.unchanged) kept
