use Rattle.std.proofs.Common.{false, refl}
use Rattle.yaml_terms.specs.declared.Part.TheVariants.{After}
use Rattle.yaml_lines.proofs.FlowSteps.{same_parts, scalar_more}
use Rattle.yaml_lines.proofs.flow.Flow.quoted_item.Goals as goal

pub returns : goal.returns
returns c =
    same_parts After _ _ _ _ c.args.self.fault c.args.self.fault c.new.ensures.items
    (scalar_more c.args.self.items.items c.push.new.self.items c.of.result c.args.self.text.items
    false c.in_ok-push.ensures.items c.of.ensures) refl
