use Rattle.object_terms.specs.Inline.{inline_object}
use Rattle.object_fields.proofs.ReadLemmas.{reads_behind}
use Rattle.object_fields.proofs.inline.inline_object.Goals as goal

-- line by line
pub returns : goal.returns
unfolding inline_object
returns g c =
    (reads_behind _ _ _ _ _ _ _ c.in_ok-_version.ensures
    (reads_behind _ _ _ _ _ _ _ c.in_ok-_kind.ensures
    (reads_behind _ _ _ _ _ _ _ c.in_ok-metadata.ensures
    (reads_behind _ _ _ _ _ _ _ c.in-Ok.ensures
    (rw c.object_with-object.ensures at c.close_with.ensures)))))
