use Rattle.std.proofs.Common.{OnOk, subst}
use Rattle.object_terms.specs.Form.{own}
use Rattle.object_writing.specs.Adding.{Adds}
use Rattle.object_writing.proofs.writing.sli.put_metric.Goals as goal
use Rattle.object_terms.specs.declared.keys.TheConstants.{RATIO_METRIC}

pub returns-in-Threshold : goal.returns-in-Threshold
returns-in-Threshold c = rw c.in-Threshold.is c.put_source.ensures

pub returns-in_ok-ratio-in-Ratio : goal.returns-in_ok-ratio-in-Ratio
returns-in_ok-ratio-in-Ratio c =
    rw c.in-Ratio.is (subst (λ s. OnOk
    c.put.result (Adds c.args.fields.now.items c.put.new.fields.items (own RATIO_METRIC.now s)))
    c.in_ok-ratio-in-Ratio.ensures c.put.ensures)
