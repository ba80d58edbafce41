use Rattle.std.proofs.Common.{◌<◌, length, ap, ◌∙◌, subst, sym, arith, rules}
use Rattle.std.specs.Prelude.{All}
use Rattle.turn_desk.proofs.Histories.{all_positions}
use Rattle.turn_desk.proofs.Sharing.{joins}
use Rattle.turn_desk.proofs.Taking.{compares}
use Rattle.turn_desk.proofs.desk.Desk.join.Goals as goal

pub join_seat-requires : goal.join_seat-requires
join_seat-requires g c = (
  search rules,
  search rules,
  c.other.invariant.none_out,
  omega (arith, c.self.invariant.0),
  joins g.T.Ledgered.ledger c.self.inside.table.shared.key.value.value
      c.self.inside.table.shared.key.passes c.pass.inside.seat.id
      c.pass.inside.seat.me.0 c.other.inside.seat.id c.other.inside.seat.me.0
      c.pass.invariant.idle c.pass.invariant.live c.other.invariant.idle c.other.invariant.live,
)

pub load-requires : goal.load-requires
load-requires g c =
    let e = c.join_seat.ensures in (
      search rules,
      omega (arith, c.self.invariant.0),
      compares g.T.Ledgered.ledger c.self.inside.table.shared.key.value.value
          c.self.inside.table.shared.key.passes c.self.inside.table.shared.table_id.slots
          c.join_seat.new.seat.id
          c.join_seat.new.seat.me (ap (λ m. m.1) e.2 ∙ c.pass.invariant.none_out),
    )

pub returns-clause-within : goal.returns-clause-within
returns-clause-within g c =
    let told = c.load.ensures.2 in
    let m = c.join_seat.new.seat.me in
    subst (λ me. All (λ p. p < length me.0.seen) me.0.own) (sym told.same)
    (all_positions (λ p. p < length m.0.seen) m.0.own told.within)
