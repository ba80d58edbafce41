use Rattle.std.proofs.Common.{ℕ, List, ◌∷◌, ap, arith, drop, length, subst, sym}
use Rattle.csv_records.specs.Records.{Fields}
use Rattle.budget_command.specs.Tables.{IsBroken}
use Rattle.budget_command.proofs.FillLemmas.{fit-more, line-broken, lines-broken, lines-more}
use Rattle.budget_command.proofs.FillLemmas.{lines-none, other_err}
use Rattle.budget_command.proofs.table.fill_lines.Goals as goal

pub lines-init : goal.lines-init
lines-init c = lines-none c.args.part.now c.args.number c.args.table.now c.requires.begun
    c.requires.fit c.requires.tallied

pub lines-preserved : goal.lines-preserved
lines-preserved c =
    let line = rw c.in-Ok-Some.field-0-is at c.in-Ok-Some.ensures.taken in
    let old = c.lines.table in
    let new = c.take_next.new.self in
    lines-more c.args.part.now c.args.number c.args.table.now old new c.lines.at c.in-Ok-Some.end
    c.lines.next line.fields c.lines.invariant line.line line.behind line.taken
    (fit-more old new line.fields c.lines.invariant.fit line.taken c.in-Ok-Some.ensures.few)

pub lines-smaller : goal.lines-smaller
lines-smaller c =
    let line = rw c.in-Ok-Some.field-0-is at c.in-Ok-Some.ensures.taken in
    let fewer = ap (λ (rs : List Fields). length rs) line.line in
    omega (arith, fewer)

pub returns-in-Err-clause-broken : goal.returns-in-Err-clause-broken
returns-in-Err-clause-broken c = λ place fault e.
    let part = c.args.part.now in
    let broken = c.in-Err.ensures.broken place fault (other_err c.in-Err.fault _ e) in
    let line = broken.1 in
    lines-broken part c.args.number c.args.table.now c.lines.table c.lines.at c.lines.next place
    fault c.lines.invariant
    (subst (λ (n : ℕ). IsBroken (10 ∷ drop c.lines.at part) c.lines.next c.lines.table n fault)
    (sym broken.0)
    (line-broken part c.lines.at line.end c.lines.next c.lines.table line.fields fault line.line
    line.broken))
