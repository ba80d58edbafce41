use Rattle.sample_changes.proofs.OnceBatches.{batch_once}
use Rattle.sample_changes.proofs.laws.a_batch_acts_once.Goals as goal

pub returns : goal.returns
returns c = batch_once
