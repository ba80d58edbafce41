use Rattle.std.proofs.Common.{◌∙◌}
use Rattle.kept_lines.specs.Sums.{samples_of}
use Rattle.history_answers.proofs.SumLemmas.{seen_sum}
use Rattle.history_answers.proofs.sums.sum_between.Goals as goal

pub returns-clause-value : goal.returns-clause-value
returns-clause-value c =
    c.sum_in.ensures.value
    ∙ seen_sum (samples_of c.args.derived.now.book) c.args.measure.now
    c.objective_sums-sums.result.now c.args.from c.args.to c.objective_sums-sums.ensures.sums
