use Rattle.std.proofs.Common.{Some, ◌∷◌, ap, sym, ◌∙◌}
use Rattle.atomic_table.specs.Table.{rest}
use Rattle.turn_desk.proofs.turn.take_out.Goals as goal

pub exchange-found-requires : goal.exchange-found-requires
exchange-found-requires g c =
    let v = c.take_turn.ensures.turn in
    let out = ap (λ m. m.1) v.1 in (
      c.take_turn.ensures.seat.0 ∙ c.requires.board.0,
      (Some v.0, out ∙ ap (λ r. (0, Some v.0) ∷ rest r) (sym out)),
    )
