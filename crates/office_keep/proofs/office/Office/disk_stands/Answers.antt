use Rattle.office_keep.proofs.Offices.{stands_now}
use Rattle.office_keep.proofs.office.Office.disk_stands.Goals as goal

pub returns-clause-stands : goal.returns-clause-stands
returns-clause-stands g c =
    rw (← c.self.view_is) (stands_now g.D.Disk.senses _ _ _ c.self.invariant)
