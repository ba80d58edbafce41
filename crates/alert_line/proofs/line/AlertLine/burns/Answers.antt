use Rattle.std.proofs.Common.{◌≡◌, ◌∙◌, ap, subst, sym}
use Rattle.burn_core.specs.declared.alert.AlertRule.{AlertRule}
use Rattle.burn_core.specs.Condition.{burns_by}
use Rattle.burn_core.proofs.ConditionLemmas.{condition-from}
use Rattle.window_sums.specs.Slices.{leaf_at, width_of}
use Rattle.alert_line.specs.Cursor.{IsAt}
use Rattle.alert_line.specs.Line.{Line}
use Rattle.alert_line.proofs.line.AlertLine.burns.Goals as goal

pub returns-clause-value : goal.returns-clause-value
returns-clause-value g c =
    let line = c.args.self.now in
    let sums = c.args.sums.now in
    let minute = c.args.cursor.now.minute in
    let target : c.self.inside.target ≡ line.target = ap (λ (l : Line). l.target) c.self.view_is in
    c.burns.ensures.result ∙ (λ i. burns_by (c.requires.stands.rule i) (target i)
    (width_of sums.method) (leaf_at sums) minute)
    ∙ sym (condition-from line.rule line.target line.origin (width_of sums.method) (leaf_at sums)
    minute c.requires.minute.0)

pub returns-clause-stands : goal.returns-clause-stands
returns-clause-stands g c =
    let sums = c.args.sums.now in
    subst (λ (r : AlertRule). IsAt r (width_of sums.method) (leaf_at sums)
    c.args.cursor.now.minute c.burns.new.self) c.requires.stands.rule c.burns.ensures.value
