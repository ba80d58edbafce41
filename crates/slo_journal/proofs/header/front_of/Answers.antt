use Rattle.std.proofs.Common.{◌≡◌, ◌≢◌, get_or, rules}
use Rattle.slo_journal.proofs.Fronts.{front_bare}
use Rattle.slo_journal.proofs.header.front_of.Goals as goal

pub returns-clause-front : goal.returns-clause-front
returns-clause-front c =
    let is_open : get_or c.args.bytes.now 0 0 ≢ 0 = search rules in
    front_bare c.args.bytes.now c.requires is_open (c.read_header.ensures.none c.in_default.is)
