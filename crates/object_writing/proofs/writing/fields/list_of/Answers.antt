use Rattle.std.proofs.Common.{ap, ◌∙◌}
use Rattle.yaml_terms.specs.Spelling.{items}
use Rattle.yaml_writing.proofs.SpellingLemmas.{view-Items}
use Rattle.object_writing.proofs.AddLemmas.{items_before_none}
use Rattle.object_writing.proofs.writing.fields.list_of.Goals as goal

pub returns : goal.returns
returns c = view-Items c.args.items ∙ ap items (items_before_none c.args.items.items)
