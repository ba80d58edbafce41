use Rattle.object_terms.specs.Inline.{reference}
use Rattle.object_fields.proofs.ReadLemmas.{reads_behind}
use Rattle.object_fields.proofs.inline.reference_name.Goals as goal

-- line by line
pub returns : goal.returns
unfolding reference
returns c =
    (reads_behind _ _ _ _ _ _ _ c.in_ok-name.ensures
    c.close_with.ensures)
