use Rattle.std.proofs.Common.{List, ℕ, ap, sym, subst}
use Rattle.turn_desk.specs.Histories.{Extends}
use Rattle.turn_desk.specs.Passes.{PassState}
use Rattle.turn_desk.proofs.Histories.{extends_trans}
use Rattle.turn_desk.proofs.Ledgers.{goes_extends}
use Rattle.turn_desk.proofs.desk.Desk.with_turn.Goals as goal

pub returns-clause-seen : goal.returns-clause-seen
returns-clause-seen g c =
    let before = (g.T.Ledgered.ledger c.take_out-value.result).history in
    let after = (g.T.Ledgered.ledger c.act-out.new.value).history in
    let began : Extends c.args.pass.now.seen before =
    subst (λ (p : PassState). Extends p.seen before) c.pass.view_is
    c.take_out-value.ensures.value.0 in
    subst (λ (s : List (List ℕ)). Extends c.args.pass.now.seen s)
    (sym (ap (λ m. m.0.seen) c.give_back.ensures.view)) (extends_trans c.args.pass.now.seen
    before after began (goes_extends _ _ _ c.act-out.ensures.ledger))
