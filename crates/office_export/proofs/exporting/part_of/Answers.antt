use Rattle.std.proofs.Common.{◌*◌, ◌-◌}
use Rattle.office_export.proofs.WalkLemmas.{cut_twice}
use Rattle.office_export.proofs.exporting.part_of.Goals as goal

pub returns : goal.returns
returns c =
    cut_twice 1000 (1000 * (c.args.part - 1)) c.min.result c.min-2.result c.args.steps.now
    c.min.ensures c.min-2.ensures
