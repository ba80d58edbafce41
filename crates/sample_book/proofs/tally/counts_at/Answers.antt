use Rattle.std.proofs.Common.{true, ◌-◌, ◌/◌, ◌≡◌, ◌∙◌, suc, map, subst, arith}
use Rattle.std.proofs.lemmas.List.{length-map}
use Rattle.slice_method.specs.Readings.{HasForm}
use Rattle.cell_index.proofs.ChainLemmas.{slice_get-map}
use Rattle.sample_book.proofs.IndexLemmas.{before-on, last-on}
use Rattle.sample_book.specs.Rows.{cell_of}
use Rattle.sample_book.specs.LastRows.{is_on}
use Rattle.sample_book.specs.Counting.{is_of}
use Rattle.sample_book.specs.declared.row.Row.{Row}
use Rattle.sample_book.proofs.LastRowLemmas.{last_below}
use Rattle.sample_book.proofs.TallyLemmas.{IsCounting, all_at, counting_from, counting_on}
use Rattle.sample_book.proofs.tally.counts_at.Goals as goal

pub loop-next-init : goal.loop-next-init
loop-next-init c =
    counting_from c.args.reading c.args.op c.args.value c.args.rows.now.rows c.args.sli
    c.args.minute c.last_on_day-next.result
    (c.last_on_day-next.ensures (map cell_of c.args.rows.now.rows) c.requires.indexed
    ∙ last-on c.args.sli (c.args.minute / 1440) c.args.rows.now.rows)

pub loop-next-smaller : goal.loop-next-smaller
loop-next-smaller c =
    let row = c.row.result in
    let below = last_below (is_on row.sli (row.minute / 1440)) c.args.rows.now.rows
    (c.loop-next.next - 1) c.before_on_day-next.result
    (c.before_on_day-next.ensures (map cell_of c.args.rows.now.rows) (cell_of c.row.result)
    c.requires.indexed (slice_get-map cell_of c.args.rows.now.rows (c.loop-next.next - 1)
    c.row.result c.row.ensures)
    ∙ before-on c.row.result.sli (c.row.result.minute / 1440) (c.loop-next.next - 1)
    c.args.rows.now.rows) in
    omega (arith, below, c.loop-next-test.true)

pub before_on_day-next-requires : goal.before_on_day-next-requires
before_on_day-next-requires c = (
  map cell_of c.args.rows.now.rows,
  c.requires.indexed,
  omega (
    arith,
    length-map c.args.rows.now.rows cell_of,
    c.loop-next.invariant.within,
    c.loop-next-test.true,
  ),
)

pub loop-next-preserved : goal.loop-next-preserved
loop-next-preserved c =
    let whole : c.loop-next.next ≡ suc (c.loop-next.next - 1) =
    omega (arith, c.loop-next-test.true) in
    counting_on c.args.reading c.args.op c.args.value c.args.rows.now.rows c.args.sli c.args.minute
    (c.loop-next.next - 1) c.before_on_day-next.result c.row.result c.loop-next.sum
    c.share_of-counts.result
    c.row.ensures c.share_of-counts.ensures.share c.share_of-counts.ensures.part
    c.share_of-counts.ensures.few
    (c.before_on_day-next.ensures (map cell_of c.args.rows.now.rows) (cell_of c.row.result)
    c.requires.indexed (slice_get-map cell_of c.args.rows.now.rows (c.loop-next.next - 1)
    c.row.result c.row.ensures)
    ∙ before-on c.row.result.sli (c.row.result.minute / 1440) (c.loop-next.next - 1)
    c.args.rows.now.rows)
    (subst (λ next. IsCounting c.args.reading c.args.op c.args.value c.args.rows.now.rows c.args.sli
    c.args.minute next c.loop-next.sum) whole c.loop-next.invariant)

pub share_of-counts-requires : goal.share_of-counts-requires
share_of-counts-requires c =
    all_at (λ (row : Row). is_of c.args.sli row ≡ true → row.minute ≡ c.args.minute
    → HasForm c.args.reading row.amount) c.args.rows.now.rows (c.loop-next.next - 1)
    c.row.result c.requires.form c.row.ensures
