use Rattle.std.proofs.Common.{refl}
use Rattle.turn_desk.proofs.NumberLists.{numbers_stay}
use Rattle.turn_desk.proofs.numbers.ReadCallNumbers.act.Goals as goal

pub returns-in_err-ok-clause-ledger : goal.returns-in_err-ok-clause-ledger
returns-in_err-ok-clause-ledger c =
    numbers_stay c.args.value.now.items.items c.args.value.now.items.items refl

pub returns-clause-ledger : goal.returns-clause-ledger
returns-clause-ledger c =
    numbers_stay c.args.value.now.items.items c.args.value.now.items.items refl
