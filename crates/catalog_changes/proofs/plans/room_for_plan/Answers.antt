use Rattle.std.proofs.Common.{refl}
use Rattle.kept_sums.proofs.ReadyLemmas.{same_keeps}
use Rattle.office_derived.proofs.Sound.{with_sums}
use Rattle.catalog_changes.proofs.plans.room_for_plan.Goals as goal

pub returns-clause-stays : goal.returns-clause-stays
returns-clause-stays c =
    let d = c.args.derived.now in
    with_sums d _ c.make_ready.new.self refl
    (same_keeps d.catalog d.book.exclusions d.book.rows d.sums c.make_ready.new.self
    c.make_ready.ensures.own c.make_ready.ensures.pooled)
