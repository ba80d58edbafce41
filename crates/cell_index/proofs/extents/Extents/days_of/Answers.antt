use Rattle.std.proofs.Common.{◌∙◌, sym}
use Rattle.cell_index.proofs.ExtentLemmas.{known_days, known_none, no_days}
use Rattle.cell_index.proofs.extents.Extents.days_of.Goals as goal

pub returns-in-Some : goal.returns-in-Some
returns-in-Some c cells are =
    known_days cells c.args.sli c.in-Some.extent.now
    (c.in-Some.ensures.value ∙ are.known c.args.sli)

pub returns-in-None : goal.returns-in-None
returns-in-None c cells are = sym (no_days cells c.args.sli
    (known_none cells c.args.sli (c.in-None.ensures.value ∙ are.known c.args.sli)))
