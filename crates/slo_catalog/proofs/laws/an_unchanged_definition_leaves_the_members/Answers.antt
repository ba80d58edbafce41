use Rattle.slo_catalog.proofs.SameLemmas.{unchanged}
use Rattle.slo_catalog.proofs.laws.an_unchanged_definition_leaves_the_members.Goals as goal

pub returns : goal.returns
returns c = unchanged c.objects_with_one_text_are_one.ensures.texts
