use Rattle.message_heads.proofs.LawLemmas.{kept}
use Rattle.message_heads.proofs.laws.heard_is_kept.Goals as goal

pub returns : goal.returns
returns c = kept
