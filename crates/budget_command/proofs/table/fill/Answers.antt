use Rattle.std.proofs.Common.{arith}
use Rattle.budget_command.proofs.FillLemmas.{if_ok-then, lines-all, lines-broken, other_err}
use Rattle.budget_command.proofs.table.fill.Goals as goal

pub returns-in-Ok-clause-ok : goal.returns-in-Ok-clause-ok
returns-in-Ok-clause-ok c =
    if_ok-then _ _ c.fill_rest.result c.fill_rest.ensures.ok (λ last goes before all.
    lines-all c.args.part.now c.args.number c.args.table.now c.fill_lines.new.table
    c.fill_rest.new.table c.in-Ok.end.at c.in-Ok.end.number last c.in-Ok.ensures.ok goes before all)

pub returns-in-Ok-clause-numbered : goal.returns-in-Ok-clause-numbered
returns-in-Ok-clause-numbered c =
    let lines = c.in-Ok.ensures.ok.numbered in
    if_ok-then _ _ c.fill_rest.result c.fill_rest.ensures.numbered
    (λ last few. omega (arith, few, lines))

pub returns-in-Ok-clause-broken : goal.returns-in-Ok-clause-broken
returns-in-Ok-clause-broken c = λ place fault e.
    lines-broken c.args.part.now c.args.number c.args.table.now c.fill_lines.new.table
    c.in-Ok.end.at c.in-Ok.end.number place fault c.in-Ok.ensures.ok
    (c.fill_rest.ensures.broken place fault e)

pub returns-in-Err-clause-broken : goal.returns-in-Err-clause-broken
returns-in-Err-clause-broken c = λ place fault e.
    c.in-Err.ensures.broken place fault (other_err c.in-Err.fault _ e)
