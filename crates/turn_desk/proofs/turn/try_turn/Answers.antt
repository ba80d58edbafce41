use Rattle.std.proofs.Common.{arith}
use Rattle.turn_desk.proofs.Taking.{takes_turn}
use Rattle.turn_desk.proofs.turn.try_turn.Goals as goal

pub compare_exchange-requires : goal.compare_exchange-requires
compare_exchange-requires g c = (
  c.requires.board.0,
  omega (arith, c.requires.board.1.0),
  takes_turn g.T.Ledgered.ledger c.args.board.now.key.value.value
      c.args.board.now.key.passes c.args.board.now.table_id.slots
      c.args.seat.now.id c.args.seat.now.me c.requires.idle,
)
