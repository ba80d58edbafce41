use Rattle.std.proofs.Common.{◌≡◌, ◌+◌, ◌++◌, ◌∷◌, [], ◌∙◌, ◌/◌, List, arith, subst, sym, take}
use Rattle.sample_book.specs.declared.Row.{Row}
use Rattle.sample_book.specs.Rows.{cell_of}
use Rattle.cell_index.specs.declared.Cell.{Cell}
use Rattle.cell_index.specs.Chains.{IsIndexed}
use Rattle.objective_days.specs.Days.{BringDays}
use Rattle.cell_index.proofs.ChainLemmas.{length-few}
use Rattle.objective_days.proofs.Current.{brings_none, brings_one, known_day, next_rows}
use Rattle.objective_days.proofs.days.bring.Goals as goal
use Rattle.objective_days.proofs.days.bring.Goals.{After-index-rows-place}

-- the rows up to the place, and the one there
next : (c : After-index-rows-place) → take (c.args.place + 1) c.args.rows.now
    ≡ take c.args.place c.args.rows.now ++ c.index-rows-place.result ∷ []
next c = next_rows c.args.rows.now c.args.place c.index-rows-place.result c.requires.within
    c.index-rows-place.is

pub returns-then-is_day_of_last : goal.returns-then-is_day_of_last
returns-then-is_day_of_last c =
    let rows = c.args.book.now.rows in
    let came = take c.args.place c.args.rows.now in
    let row = c.index-rows-place.result in
    subst (λ (rs : List Row). BringDays rows rs c.args.new.now)
    (sym (next (goal.at.returns-then-is_day_of_last c).After-index-rows-place))
    (brings_none rows came c.args.new.now row c.requires.brought
    (known_day rows came c.args.new.now row.sli (row.minute / 1440) c.requires.brought
    (c.is_day_of_last.ensures c.if-is_day_of_last.true)))

pub returns-then-is_known : goal.returns-then-is_known
returns-then-is_known c =
    let rows = c.args.book.now.rows in
    let came = take c.args.place c.args.rows.now in
    let b = c.requires.brought in
    subst (λ (rs : List Row). BringDays rows rs c.args.new.now)
    (sym (next (goal.at.returns-then-is_known c).After-index-rows-place))
    (brings_none rows came c.args.new.now c.index-rows-place.result b
    (sym (c.is_known.ensures b.cells b.indexed) ∙ c.if-is_known.true))

pub push-requires-clause-ready : goal.push-requires-clause-ready
push-requires-clause-ready c = c.in_ok-reserve.ensures.ready

pub push-requires-clause-few : goal.push-requires-clause-few
push-requires-clause-few c =
    let b = c.requires.brought in (
      b.cells,
      c.reserve.ensures.indexed b.cells b.indexed,
      omega (
        arith,
        b.few,
        length-few c.args.place c.args.rows.now,
        c.requires.within,
        c.requires.few,
      ),
    )

pub returns : goal.returns
returns c =
    let rows = c.args.book.now.rows in
    let came = take c.args.place c.args.rows.now in
    let row = c.index-rows-place.result in
    let b = c.requires.brought in
    let indexed : IsIndexed (b.cells ++ cell_of row ∷ []) c.push.new.self =
    subst (λ (cell : Cell). IsIndexed (b.cells ++ cell ∷ []) c.push.new.self) c.cell.ensures
    (c.push.ensures.indexed b.cells (c.reserve.ensures.indexed b.cells b.indexed)) in
    subst (λ (rs : List Row). BringDays rows rs c.push.new.self)
    (sym (next (goal.at.returns c).After-index-rows-place))
    (brings_one rows came c.args.new.now c.push.new.self row b
    (sym (c.is_known.ensures b.cells b.indexed) ∙ c.if-is_known.false) indexed)
