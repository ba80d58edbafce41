use Rattle.kept_sums.specs.Replacing.{HasMoved}
use Rattle.kept_sums.specs.Walks.{IsChanged}
use Rattle.line_forgetting.proofs.FollowingLemmas.{line-follows}
use Rattle.line_forgetting.proofs.laws.lines_follow_their_sums.Goals as goal

pub returns-clause-batches : goal.returns-clause-batches
returns-clause-batches c = λ m rows verdicts. line-follows m (HasMoved m rows verdicts)

pub returns-clause-exclusions : goal.returns-clause-exclusions
returns-clause-exclusions c = λ m made value rows. line-follows m (IsChanged m made value rows)
