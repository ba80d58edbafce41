use Rattle.std.proofs.Common.{map, ◌<◌, ◌∙◌, ◌++◌, ◌∷◌, [], arith, ap, sym, subst, List, length}
use Rattle.std.proofs.lemmas.List.{length-map, map_push}
use Rattle.sample_book.specs.Book.{Book}
use Rattle.cell_index.specs.Chains.{IsIndexed, IsReadyFor}
use Rattle.cell_index.specs.declared.Cell.{Cell}
use Rattle.sample_book.specs.History.{Came, Gains, MayComeAs, rows_after}
use Rattle.sample_book.specs.Rows.{cell_of, verdict_of}
use Rattle.sample_book.proofs.LastRowLemmas.{AreStill, IsAdded, came_added, came_still}
use Rattle.cell_index.proofs.ChainLemmas.{ready_fewer}
use Rattle.sample_book.proofs.HistoryLemmas.{gains-came}
use Rattle.sample_book.proofs.book.SampleBook.take.Goals as goal
use Rattle.sample_book.proofs.book.SampleBook.take.Goals.{After-len}

pub take-requires : goal.take-requires
take-requires c = subst
    (λ (book : Book). MayComeAs (verdict_of book.rows c.args.row.now) book.room
    (cell_of c.args.row.now)) (sym c.self.view_is) c.requires

-- where the rows got more, the row stands behind them
added : (c : After-len) → length c.self.inside.rows.rows < length c.take.new.self.rows
    → IsAdded c.self.inside.rows.rows c.take.new.self.rows c.args.row.now
    c.self.inside.rows.room c.take.new.self.room
added c longer =
    came_added c.self.inside.rows.rows c.take.new.self.rows c.args.row.now c.self.inside.rows.room
    c.take.new.self.room c.take.ensures.placed c.take.ensures.rows c.take.ensures.room
    (subst (λ (book : Book). MayComeAs (verdict_of book.rows c.args.row.now) book.room
    (cell_of c.args.row.now)) (sym c.self.view_is) c.requires)
    longer

pub push-requires-clause-ready : goal.push-requires-clause-ready
push-requires-clause-ready c =
    let added = added (goal.at.push-requires-clause-ready c).After-len
    (omega (arith, c.if-before-len.true, c.len-before.ensures.count, c.len.ensures.count)) in
    ready_fewer (length c.self.inside.rows.room) 1 c.self.inside.index (omega (arith, added.taken))
    c.self.invariant.ready

pub push-requires-clause-few : goal.push-requires-clause-few
push-requires-clause-few c = (
  map cell_of c.self.inside.rows.rows,
  c.self.invariant.indexed,
  omega (
    arith,
    length-map c.self.inside.rows.rows cell_of,
    c.if-before-len.true,
    c.len-before.ensures.count,
    c.len.ensures.count,
    c.len.ensures.few,
  ),
)

pub invariant_of-self : goal.invariant_of-self
invariant_of-self c =
    let rows = c.self.inside.rows.rows in
    let added = added (goal.at.invariant_of-self c).After-len
    (omega (arith, c.if-before-len.true, c.len-before.ensures.count, c.len.ensures.count)) in
    record {
      indexed = subst (λ (cells : List Cell). IsIndexed cells c.push.new.self)
          (sym (ap (map cell_of) added.grown ∙ map_push cell_of rows c.args.row.now))
          (subst (λ (cell : Cell). IsIndexed (map cell_of rows ++ cell ∷ []) c.push.new.self)
          c.cell.ensures (c.push.ensures.indexed (map cell_of rows) c.self.invariant.indexed));
      ready = c.push.ensures.ready (length c.take.new.self.room)
          (subst (λ n. IsReadyFor n c.self.inside.index) added.taken c.self.invariant.ready);
    }

pub invariant_of-self-else-before-len : goal.invariant_of-self-else-before-len
invariant_of-self-else-before-len c =
    let rows = c.self.inside.rows.rows in
    let still : AreStill rows c.take.new.self.rows c.self.inside.rows.room c.take.new.self.room =
    came_still rows c.take.new.self.rows c.args.row.now c.self.inside.rows.room
    c.take.new.self.room c.take.ensures.placed c.take.ensures.rows c.take.ensures.room
    (omega (arith, c.if-before-len.false, c.len-before.ensures.count, c.len.ensures.count)) in
    record {
      indexed = subst (λ (cells : List Cell). IsIndexed cells c.self.inside.index) (sym still.cells)
          c.self.invariant.indexed;
      ready = subst (λ (room : List Cell). IsReadyFor (length room) c.self.inside.index)
          (sym still.places) c.self.invariant.ready;
    }

-- the book behind the row
abbrev after : After-len → Book
after c = record {
  rows = c.take.new.self.rows;
  exclusions = c.self.inside.exclusions.made;
  room = c.take.new.self.room;
  spare = c.args.self.now.spare;
}

-- one row more came
gained : (c : After-len) → Gains c.args.self.now (Came c.args.row.now) (after c)
gained c = gains-came c.args.self.now (after c) c.args.row.now
    (c.take.ensures.rows
    ∙ ap (λ (book : Book). rows_after book.rows c.args.row.now) c.self.view_is)
    (ap (λ (book : Book). book.exclusions) c.self.view_is)

pub returns-then-before-len-clause-history : goal.returns-then-before-len-clause-history
returns-then-before-len-clause-history c =
    gained (goal.at.returns-then-before-len-clause-history c).After-len

pub returns-else-before-len-clause-history : goal.returns-else-before-len-clause-history
returns-else-before-len-clause-history c =
    gained (goal.at.returns-else-before-len-clause-history c).After-len
