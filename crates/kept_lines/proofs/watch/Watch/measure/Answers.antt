use Rattle.std.proofs.Common.{subst}
use Rattle.catalog_measures.specs.Measures.{IsMeasure}
use Rattle.office_history.specs.Alerts.{Watch}
use Rattle.kept_lines.proofs.watch.Watch.measure.Goals as goal

pub returns-clause-ranges : goal.returns-clause-ranges
returns-clause-ranges c =
    subst (λ (w : Watch). IsMeasure w.measure) c.self.view_is c.self.invariant.measure
