use Rattle.std.proofs.Common.{◌∙◌, ap, sym}
use Rattle.office_core.specs.Machine.{office_of}
use Rattle.office_core.specs.Seen.{Machine}
use Rattle.office_core.specs.SumsSeen.{sums_seen}
use Rattle.office_core.proofs.LentLemmas.{lent_sums}
use Rattle.office_core.proofs.SeenLemmas.{told_seen}
use Rattle.office_core.proofs.machine.Core.sums_of.Goals as goal

pub returns-in-Some-clause-sums : goal.returns-in-Some-clause-sums
returns-in-Some-clause-sums c =
    let d = c.self.inside.derived in
    lent_sums d (office_of d c.self.inside.records.history) c.args.self.now
    c.self.invariant.reflects (ap (λ (m : Machine). m.office) c.self.view_is) c.args.slo
    c.args.objective c.in-Some.measure c.objective_sums.result.now
    (sums_seen d.catalog d.sums)
    (ap (λ (m : Machine). m.sums) c.self.view_is) (sym c.in-Some.is ∙ c.measure_at.ensures.value)
    c.objective_sums.ensures.sums c.objective_sums.ensures.counts
    (told_seen d.catalog d.sums c.in-Some.measure c.objective_sums.result.now
    c.in-Some.ensures.objective c.objective_sums.ensures.told)
