use Rattle.std.proofs.Common.{sym}
use Rattle.object_terms.specs.DataSource.{data_source}
use Rattle.object_fields.proofs.ReadLemmas.{reads_behind}
use Rattle.slo_objects.proofs.data_source.DataSourceFormReadForm.read.Goals as goal

-- line by line
pub returns : goal.returns
unfolding data_source
returns c =
    rw (sym c.in-Some.ensures)
    (reads_behind _ _ _ _ _ _ _ c.in_ok-description.ensures
    (reads_behind _ _ _ _ _ _ _ c.in-Ok.ensures
    (reads_behind _ _ _ _ _ _ _ c.in-Ok-optional.ensures
    c.close_with.ensures)))
