use Rattle.office_keep.proofs.Adoptions.{fitting_revisions}
use Rattle.office_keep.proofs.adopting.judge_entry.Goals as goal

pub prepare-requires-clause-revisions : goal.prepare-requires-clause-revisions
prepare-requires-clause-revisions c = fitting_revisions c.args.entry.now.command c.requires.command
