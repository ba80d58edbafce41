use Rattle.std.proofs.Common.{ℕ, subst}
use Rattle.event_lines.specs.Lines.{IsEventLine}
use Rattle.budget_command.proofs.FillLemmas.{draft-broken, draft-taken, other_err}
use Rattle.budget_command.proofs.table.Table.take_next.Goals as goal

pub returns-in-Ok-clause-taken : goal.returns-in-Ok-clause-taken
returns-in-Ok-clause-taken c =
    let draft = c.in-Some-draft.ensures in
    draft-taken c.args.part.now c.args.at c.in-Some.line c.in-Some-draft.row.now
    c.args.self.now c.take.new.self draft (subst
    (λ (most : ℕ). IsEventLine most c.args.part.now c.args.at c.in-Some.line draft.label)
    c.from.ensures (c.in-Some.ensures.event draft.label draft.source))
    c.in-Ok.ensures.kept c.in-Ok.ensures.taken

pub returns-in-Err-clause-broken : goal.returns-in-Err-clause-broken
returns-in-Err-clause-broken c = λ place fault e.
    let draft = c.in-Some-draft.ensures in
    let broken = c.in-Err.ensures.broken place fault (other_err c.in-Err.fault _ e) in (
      broken.0,
      draft-broken c.args.part.now c.args.at c.in-Some.line c.in-Some-draft.row.now
          c.args.self.now fault draft (subst
          (λ (most : ℕ). IsEventLine most c.args.part.now c.args.at c.in-Some.line draft.label)
          c.from.ensures (c.in-Some.ensures.event draft.label draft.source)) broken.1,
    )
