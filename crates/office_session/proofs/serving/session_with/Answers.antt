use Rattle.std.proofs.Common.{rules}
use Rattle.office_session.proofs.Clerking.{counter_ends}
use Rattle.office_session.proofs.serving.session_with.Goals as goal

pub returns-clause-ends : goal.returns-clause-ends
returns-clause-ends g c = counter_ends _ _ _ _ _ c.session_with.ensures.ends (search rules)
