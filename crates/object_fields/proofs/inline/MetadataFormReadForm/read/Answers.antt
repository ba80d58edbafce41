use Rattle.std.proofs.Common.{sym}
use Rattle.object_terms.specs.Metadata.{metadata}
use Rattle.object_fields.proofs.ReadLemmas.{reads_behind}
use Rattle.object_fields.proofs.inline.MetadataFormReadForm.read.Goals as goal

-- line by line
pub returns : goal.returns
unfolding metadata
returns c =
    rw (sym c.in-Some.ensures)
    (reads_behind _ _ _ _ _ _ _ c.in_ok-name.ensures
    (reads_behind _ _ _ _ _ _ _ c.in_ok-display_name.ensures
    (reads_behind _ _ _ _ _ _ _ c.in-Ok.ensures
    (reads_behind _ _ _ _ _ _ _ c.in-Ok-optional.ensures
    c.close_with.ensures))))
