use Rattle.std.proofs.Common.{◌∙◌, ◌++◌, List, ℕ, ap, map}
use Rattle.std.proofs.lemmas.Result.{on_ok_weaker}
use Rattle.office_export.specs.declared.step.Step.TheVariants.{Zone}
use Rattle.office_export.proofs.NameLemmas.{steps_by_name}
use Rattle.office_export.proofs.listing.push_zones.Goals as goal

pub returns : goal.returns
returns c =
    on_ok_weaker c.push_names.result
    (λ h. h
    ∙ ap (λ (ns : List (List ℕ)). c.args.steps.now.items ++ map Zone ns)
    (c.deref.ensures.value ∙ c.in_ok-names.ensures)
    ∙ ap (λ ss. c.args.steps.now.items ++ ss) (steps_by_name c.args.zones.now.kept))
    c.push_names.ensures
