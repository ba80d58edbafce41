use Rattle.std.proofs.Common.{◌≡◌, ◌∙◌, ◌+◌, ◌-◌, ap, sym, arith}
use Rattle.office_history.specs.Verdicts.{is_waiting}
use Rattle.notice_changes.proofs.BoxLemmas.{waiting_at, waits_there}
use Rattle.notice_changes.proofs.take.is_waiting.Goals as goal

pub returns-in-Some : goal.returns-in-Some
returns-in-Some c =
    let place : 1 + (c.args.number - 1) ≡ c.args.number = omega (arith, c.requires) in
    sym (ap waits_there (sym c.notice_at.ensures ∙ c.in-Some.is))
    ∙ sym (waiting_at 1 (c.args.number - 1) c.args.notices.now.made c.numbered.ensures)
    ∙ ap (is_waiting c.args.notices.now.made) place

pub returns-in-None : goal.returns-in-None
returns-in-None c =
    let place : 1 + (c.args.number - 1) ≡ c.args.number = omega (arith, c.requires) in
    sym (ap waits_there (sym c.notice_at.ensures ∙ c.in-None.is))
    ∙ sym (waiting_at 1 (c.args.number - 1) c.args.notices.now.made c.numbered.ensures)
    ∙ ap (is_waiting c.args.notices.now.made) place
