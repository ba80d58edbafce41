use Rattle.std.proofs.Common.{◌≡◌, true, false, [], ◌∷◌, ◌++◌, rules}
use Rattle.turn_desk.proofs.NumberLists.{numbers_go_on}
use Rattle.turn_desk.proofs.numbers.AddCallNumbers.act.Goals as goal

pub returns-clause-ledger : goal.returns-clause-ledger
returns-clause-ledger c =
    let more : c.is_ok.result ≡ true
    → c.push.new.self.items ≡ c.args.value.now.items.items ++ c.args.self.now.number ∷ [] =
    search rules in
    let same : c.is_ok.result ≡ false → c.push.new.self.items ≡ c.args.value.now.items.items =
    search rules in
    numbers_go_on c.args.value.now.items.items c.push.new.self.items c.args.self.now.number
    c.is_ok.result more same
