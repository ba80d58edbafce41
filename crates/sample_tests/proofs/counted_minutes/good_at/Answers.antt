use Rattle.sample_tests.proofs.HeldEvents.{have_form}
use Rattle.sample_tests.proofs.counted_minutes.good_at.Goals as goal

pub counts_at-sum-requires-clause-form : goal.counts_at-sum-requires-clause-form
counts_at-sum-requires-clause-form c =
    have_form c.args.book.now.rows c.args.sli c.args.minute c.requires.held
