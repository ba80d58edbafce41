use Rattle.entry_records.proofs.LawLemmas.{fed_are_most}
use Rattle.entry_records.proofs.laws.fed_are_most.Goals as goal

pub returns : goal.returns
returns c = fed_are_most
