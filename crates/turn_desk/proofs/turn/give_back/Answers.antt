use Rattle.std.proofs.Common.{◌∷◌, Some, ◌∙◌, sym, ap, subst, arith}
use Rattle.atomic_table.specs.Table.{rest}
use Rattle.turn_desk.specs.Seats.{Knows}
use Rattle.turn_desk.proofs.Giving.{stores_length, clears_mark}
use Rattle.turn_desk.proofs.turn.give_back.Goals as goal

pub store-requires : goal.store-requires
store-requires g c =
    let e = c.exchange-none.ensures in
    let me =
    e.3
    ∙ ap (λ r. (c.args.seat.now.me.0, (0, Some c.args.value) ∷ rest r)) c.requires.holds.0 in
    let before = g.T.Ledgered.ledger c.args._before.value in (
      e.0 ∙ c.requires.board.0,
      omega (arith, c.requires.board.1.0),
      stores_length g.T.Ledgered.ledger c.args.board.now.key.value.value
          c.args.board.now.key.passes c.args.board.now.table_id.slots
          g.B.Did.added g.B.Did.rose g.B.Did.left c.exchange-none.new.seat.id
          c.exchange-none.new.seat.me before c.args.value c.length-length.result
          (ap (λ m. m.1) me) (ap (λ m. m.0.holds) me ∙ c.requires.holds.1)
          (ap (λ m. m.0.live) me ∙ c.requires.holds.2)
          (subst (λ m. Knows m.0 before) (sym me) c.requires.before)
          c.requires.went_on c.requires.left c.length-length.ensures,
    )

pub store-requires-2 : goal.store-requires-2
store-requires-2 g c =
    let e = c.exchange-none.ensures in
    let me =
    e.3
    ∙ ap (λ r. (c.args.seat.now.me.0, (0, Some c.args.value) ∷ rest r)) c.requires.holds.0 in
    let grew = c.store.ensures.2 c.args.value (ap (λ m. m.1) me) in (
      c.store.ensures.0 ∙ e.0 ∙ c.requires.board.0,
      omega (arith, c.requires.board.1.0),
      clears_mark g.T.Ledgered.ledger c.args.board.now.key.value.value
          c.args.board.now.key.passes c.args.board.now.table_id.slots
          c.store.new.seat.id c.store.new.seat.me c.args.value
          (ap (λ m. m.1) grew ∙ ap (λ m. m.1) me)
          (ap (λ m. m.0.holds) grew ∙ ap (λ m. m.0.holds) me ∙ c.requires.holds.1)
          (ap (λ m. m.0.live) grew ∙ ap (λ m. m.0.live) me ∙ c.requires.holds.2)
          (record {
            seen = ap (λ m. m.0.seen) grew;
            doubt = ap (λ m. m.0.doubt) grew;
            root = ap (λ m. m.0.root) grew ∙ ap (λ m. m.0.root) me
                ∙ c.requires.before.root ∙ sym c.requires.went_on.root;
          }),
    )
