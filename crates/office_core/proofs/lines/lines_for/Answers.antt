use Rattle.office_core.proofs.lines.lines_for.Goals as goal

pub returns-clause-plan : goal.returns-clause-plan
returns-clause-plan c = c.in_ok-plan.ensures c.args.derived.now.catalog c.requires.lines.only
