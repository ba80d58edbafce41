use Rattle.std.proofs.Common.{sym}
use Rattle.object_terms.specs.Service.{service}
use Rattle.object_fields.proofs.ReadLemmas.{reads_behind}
use Rattle.slo_objects.proofs.service.ServiceFormReadForm.read.Goals as goal

-- line by line
pub returns : goal.returns
unfolding service
returns c =
    rw (sym c.in-Some.ensures)
    (reads_behind _ _ _ _ _ _ _ c.in_ok-description.ensures
    c.close_with.ensures)
