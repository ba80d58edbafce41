use Rattle.std.proofs.Common.{◌∙◌}
use Rattle.office_keep.proofs.Offices.{few_entries, tail_now}
use Rattle.office_keep.proofs.office.Office.entries_are_few.Goals as goal

-- the closed gate stands below the most bytes of a journal
pub returns : goal.returns
returns g c =
    let law = c.records_have_sizes.ensures in
    let fit = c.is_legal.ensures.fit in
    let tail = c.tail.ensures in
    rw (← c.self.view_is)
    (few_entries law _ fit c.tail.result
    (tail.place ∙ tail_now g.D.Disk.senses _ _ _ c.self.invariant) tail.within)
