use Rattle.std.proofs.Common.{rules, arith}
use Rattle.turn_desk.proofs.Sharing.{splits}
use Rattle.turn_desk.proofs.desk.Desk.split.Goals as goal

pub split_seat-seat-requires : goal.split_seat-seat-requires
split_seat-seat-requires g c = (
  search rules,
  omega (arith, c.self.invariant.0),
  splits g.T.Ledgered.ledger c.self.inside.table.shared.key.value.value
      c.self.inside.table.shared.key.passes c.pass.inside.seat.id
      c.pass.inside.seat.me.0 c.pass.invariant.idle c.pass.invariant.live,
)
