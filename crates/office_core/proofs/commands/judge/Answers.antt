use Rattle.std.proofs.Common.{sym, subst}
use Rattle.record_form.specs.declared.Command.{Command}
use Rattle.office_derived.specs.Derived.{IsJudged}
use Rattle.kept_lines.proofs.KnownLemmas.{all_know}
use Rattle.office_core.proofs.commands.judge.Goals as goal

pub returns-in-Exclude-clause-judged : goal.returns-in-Exclude-clause-judged
returns-in-Exclude-clause-judged c o reflects =
    subst (λ (command : Command). IsJudged o c.args.moment command c.judge_exclude.result)
    (sym c.in-Exclude.is) (c.judge_exclude.ensures o c.args.moment reflects)

pub returns-in-Lift-clause-judged : goal.returns-in-Lift-clause-judged
returns-in-Lift-clause-judged c o reflects =
    subst (λ (command : Command). IsJudged o c.args.moment command c.judge_lift.result)
    (sym c.in-Lift.is) (c.judge_lift.ensures o c.args.moment reflects)

pub returns-in-Take-clause-judged : goal.returns-in-Take-clause-judged
returns-in-Take-clause-judged c o reflects =
    subst (λ (command : Command). IsJudged o c.args.moment command c.judge_take.result)
    (sym c.in-Take.is) (c.judge_take.ensures o c.args.moment reflects)

pub returns-in-Upgrade-clause-judged : goal.returns-in-Upgrade-clause-judged
returns-in-Upgrade-clause-judged c o reflects =
    subst (λ (command : Command). IsJudged o c.args.moment command c.judge_upgrade.result)
    (sym c.in-Upgrade.is) (c.judge_upgrade.ensures o c.args.moment reflects)

pub returns-in-Define-clause-know : goal.returns-in-Define-clause-know
returns-in-Define-clause-know c = all_know c.args.lines.now.kept

pub returns-in-Remove-clause-know : goal.returns-in-Remove-clause-know
returns-in-Remove-clause-know c = all_know c.args.lines.now.kept

pub returns-in-PutZone-clause-know : goal.returns-in-PutZone-clause-know
returns-in-PutZone-clause-know c = all_know c.args.lines.now.kept

pub returns-in-Samples-clause-know : goal.returns-in-Samples-clause-know
returns-in-Samples-clause-know c = all_know c.args.lines.now.kept

pub returns-in-Exclude-clause-know : goal.returns-in-Exclude-clause-know
returns-in-Exclude-clause-know c = all_know c.args.lines.now.kept

pub returns-in-Lift-clause-know : goal.returns-in-Lift-clause-know
returns-in-Lift-clause-know c = all_know c.args.lines.now.kept

pub returns-in-Take-clause-know : goal.returns-in-Take-clause-know
returns-in-Take-clause-know c = all_know c.args.lines.now.kept

pub returns-in-Upgrade-clause-know : goal.returns-in-Upgrade-clause-know
returns-in-Upgrade-clause-know c = all_know c.args.lines.now.kept
