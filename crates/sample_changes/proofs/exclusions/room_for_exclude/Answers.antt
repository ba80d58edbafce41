use Rattle.std.proofs.Common.{◌∙◌, All, subst, sym}
use Rattle.std.specs.List.{AllByRecursion}
use Rattle.catalog_measures.specs.Measures.{IsMeasure}
use Rattle.kept_sums.specs.Objectives.{IsObjective}
use Rattle.office_derived.proofs.Sound.{stays_so, stays_then}
use Rattle.sample_changes.proofs.PartLemmas.{exclude_room, own_of, with_book}
use Rattle.sample_changes.proofs.exclusions.room_for_exclude.Goals as goal

pub returns-in_err-measures-clause-stays : goal.returns-in_err-measures-clause-stays
returns-in_err-measures-clause-stays c = stays_so c.args.derived.now

pub part_all-requires-clause-objectives : goal.part_all-requires-clause-objectives
part_all-requires-clause-objectives c =
    subst (AllByRecursion (IsObjective c.args.derived.now.catalog)) (sym c.deref.ensures.value)
    c.in_ok-measures.ensures.objectives

pub part_all-requires-clause-ranges : goal.part_all-requires-clause-ranges
part_all-requires-clause-ranges c =
    subst (All IsMeasure) (sym c.deref.ensures.value) c.in_ok-measures.ensures.ranges

pub returns-clause-room : goal.returns-clause-room
returns-clause-room c =
    let d = c.args.derived.now in
    let parted = c.part_all.new.derived in
    exclude_room parted c.reserve.new.self c.args.value.now c.reserve.result
    c.reserve.ensures.spare
    (own_of d.catalog parted.catalog parted.sums.own c.args.value.now.slo c.deref.result.now
    c.part_all.ensures.stays.catalog
    (c.deref.ensures.value ∙ c.in_ok-measures.ensures.value) c.in_ok-part_all.ensures.here)

pub returns-clause-stays : goal.returns-clause-stays
returns-clause-stays c =
    stays_then c.args.derived.now c.part_all.new.derived _ c.part_all.ensures.stays
    (with_book c.part_all.new.derived c.reserve.new.self c.reserve.ensures.rows
    c.reserve.ensures.exclusions)
