use Rattle.std.proofs.Common.{subst}
use Rattle.std.specs.Prelude.{is_some}
use Rattle.turn_desk.specs.Ledgers.{GoesOn}
use Rattle.office_keep.specs.Office.{OfficeOn}
use Rattle.turn_counter.specs.Seen.{ledger_of}
use Rattle.turn_counter.proofs.Going.{goes_on}
use Rattle.turn_counter.proofs.asking.AskingCallDeskOffice.act.Goals as goal

pub returns-clause-ledger : goal.returns-clause-ledger
returns-clause-ledger g c =
    subst (λ (o : OfficeOn g.row.D.Denot). GoesOn (ledger_of g.D.Disk.senses o)
    (ledger_of g.D.Disk.senses c.act.new.self) (is_some c.act.result.1)) c.value.view_is
    (goes_on g.D.Disk.senses c.value.inside.office c.act.new.self c.self.inside.reading
    c.self.inside.request.now c.act.result.0 c.act.result.1 c.act.ensures.ended)
