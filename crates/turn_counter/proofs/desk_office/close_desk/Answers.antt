use Rattle.std.proofs.Common.{All, sym, subst}
use Rattle.turn_desk.specs.Histories.{Extends}
use Rattle.turn_desk.specs.Sources.{Accounts, own_of, raised_of}
use Rattle.office_keep.specs.Office.{OfficeOn}
use Rattle.turn_counter.specs.Seen.{ledger_of}
use Rattle.turn_counter.proofs.desk_office.close_desk.Goals as goal

pub returns-clause-seen : goal.returns-clause-seen
returns-clause-seen g c =
    subst (λ (o : OfficeOn g.row.D.Denot).
    All (λ p. Extends p.seen (ledger_of g.D.Disk.senses o).history) c.args.passes.items)
    (sym c.result.view_is) c.close.ensures.seen

pub returns-clause-no_other : goal.returns-clause-no_other
returns-clause-no_other g c = λ opening are.
    subst (λ (o : OfficeOn g.row.D.Denot). Accounts opening (own_of c.args.passes.items)
    (raised_of c.args.passes.items) (ledger_of g.D.Disk.senses o).history)
    (sym c.result.view_is) (c.close.ensures.no_other opening are)
