use Rattle.std.proofs.Common.{◌≡◌, ◌∙◌, length, subst, rules}
use Rattle.std.specs.Prelude.{IfSome}
use Rattle.office_outside.specs.Disk.{IsRead}
use Rattle.slo_journal.specs.Front.{IsFront}
use Rattle.slo_journal.proofs.Fronts.{front_of_file}
use Rattle.slo_journal.proofs.Pieces.{bytes_read}
use Rattle.slo_journal.proofs.header.look_at_front.Goals as goal

pub returns-clause-front : goal.returns-clause-front
returns-clause-front g c file told =
    let long : length c.read_at.new.piece ≡ 13 = search rules in
    let read = subst (λ o. IfSome o (λ f. IsRead 0 f c.read_at.new.piece c.in_ok-count.count))
    (c.sync.ensures.content ∙ told) c.in_ok-count.ensures.bytes in
    front_of_file c.front_of.result file (subst (IsFront c.front_of.result) (bytes_read 0 13
    c.in_ok-count.count file c.read_at.new.piece long read) c.front_of.ensures.front)
