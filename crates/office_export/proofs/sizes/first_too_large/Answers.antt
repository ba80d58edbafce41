use Rattle.std.proofs.Common.{◌∙◌}
use Rattle.std.proofs.lemmas.Result.{IfOk-weaker}
use Rattle.export_terms.specs.Moves.{export_kinds}
use Rattle.office_export.proofs.SizeLemmas.{among_is}
use Rattle.office_export.proofs.sizes.first_too_large.Goals as goal

pub returns : goal.returns
returns c =
    IfOk-weaker c.first_among.result _ _
    (λ found h. h ∙ among_is c.args.catalog.now export_kinds) c.first_among.ensures
