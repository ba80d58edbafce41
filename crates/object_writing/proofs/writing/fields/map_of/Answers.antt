use Rattle.std.proofs.Common.{ap, ◌∙◌}
use Rattle.yaml_terms.specs.Spelling.{fields}
use Rattle.yaml_writing.proofs.SpellingLemmas.{view-Fields}
use Rattle.object_writing.proofs.AddLemmas.{before_none}
use Rattle.object_writing.proofs.writing.fields.map_of.Goals as goal

pub returns : goal.returns
returns c = view-Fields c.args.fields ∙ ap fields (before_none c.args.fields.items)
