use Rattle.sample_tests.proofs.HeldEvents.{have_form}
use Rattle.sample_tests.proofs.counted_minutes.counted_at.Goals as goal

pub counted_at-sum-requires-clause-form : goal.counted_at-sum-requires-clause-form
counted_at-sum-requires-clause-form c =
    have_form c.args.book.now.rows c.args.sli c.args.minute c.requires.held
