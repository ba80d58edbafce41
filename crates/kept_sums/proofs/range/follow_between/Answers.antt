use Rattle.std.proofs.Common.{◌≡◌, ◌<◌, not, refl, ap, subst, sym, ◌∙◌, IsTrue, take, List, ℕ}
use Rattle.std.proofs.Common.{arith}
use Rattle.std.proofs.lemmas.Slice.Eq.{bytes_eq-Decides}
use Rattle.slice_method.specs.declared.Counts.{Counts}
use Rattle.sample_book.specs.declared.Row.{Row}
use Rattle.sample_book.specs.LastRows.{is_on, last_place}
use Rattle.window_sums.specs.Shares.{IsSumOf}
use Rattle.window_sums.specs.Slices.{day_of}
use Rattle.kept_sums.specs.Sums.{RowFits, HasItsDay, row_counts, shares_by}
use Rattle.kept_sums.specs.Walks.{IsOnKey, followed, made_on, rows_until}
use Rattle.kept_sums.proofs.DayLemmas.{day_is, day_own}
use Rattle.kept_sums.proofs.ListLemmas.{all_at}
use Rattle.kept_sums.proofs.RangeLemmas.{other_day, range_facts}
use Rattle.kept_sums.proofs.WalkLemmas.{walk_begins, walk_goes, walk_smaller}
use Rattle.kept_sums.proofs.range.follow_between.Goals as goal

-- no minute lies between them
pub returns-then-to-from-clause-counted : goal.returns-then-to-from-clause-counted
returns-then-to-from-clause-counted c =
    let same : c.args.from ≡ c.args.to = omega (arith, c.requires.order, c.if-to-from.true) in
    subst (λ n. IsSumOf c.args.sums.now (shares_by (followed c.args.measure.now
    c.args.book.now.exclusions c.args.value.now c.args.taken n) c.args.book.now.rows)) same
    c.requires.counted

pub loop-next-init : goal.loop-next-init
loop-next-init c =
    let m = c.args.measure.now in
    let made = c.args.book.now.exclusions in
    let value = c.args.value.now in
    let a : Row → Counts = row_counts m (made_on made value (not c.args.taken)) in
    let b : Row → Counts = row_counts m (made_on made value c.args.taken) in
    record {
      walking = walk_begins (is_on m.sli (day_of c.args.from))
          (followed m made value c.args.taken c.args.from)
          (followed m made value c.args.taken c.args.to) c.args.book.now.rows
          c.last_row_on-next.result c.args.sums.now c.last_row_on-next.ensures
          (λ row. other_day m.sli value.from c.args.from c.args.to a b row c.requires.order
          c.requires.one_day)
          c.requires.counted;
      method = refl;
      days = λ day. refl;
    }

pub row_at-row-requires : goal.row_at-row-requires
row_at-row-requires c =
    (subst (IsOnKey (is_on c.args.measure.now.sli (day_of c.args.from)) c.args.book.now.rows)
    c.in-Some.is c.loop-next.invariant.walking.place).0

pub row_before_on-next-requires : goal.row_before_on-next-requires
row_before_on-next-requires c =
    (subst (IsOnKey (is_on c.args.measure.now.sli (day_of c.args.from)) c.args.book.now.rows)
    c.in-Some.is c.loop-next.invariant.walking.place).0

pub follow_on_row-requires-clause-own : goal.follow_on_row-requires-clause-own
follow_on_row-requires-clause-own c =
    day_own c.args.measure.now.sli (day_of c.args.from) c.row_at-row.result
    ((subst (IsOnKey (is_on c.args.measure.now.sli (day_of c.args.from)) c.args.book.now.rows)
    c.in-Some.is c.loop-next.invariant.walking.place).1 c.row_at-row.result c.row_at-row.ensures)

pub follow_on_row-requires-clause-fits : goal.follow_on_row-requires-clause-fits
follow_on_row-requires-clause-fits c = all_at (RowFits c.args.measure.now) c.args.book.now.rows
    c.in-Some.place c.row_at-row.result c.row_at-row.ensures c.requires.forms

pub follow_on_row-requires-clause-day : goal.follow_on_row-requires-clause-day
follow_on_row-requires-clause-day c =
    let m = c.args.measure.now in
    let row = c.row_at-row.result in
    let own = day_own m.sli (day_of c.args.from) row
    ((subst (IsOnKey (is_on m.sli (day_of c.args.from)) c.args.book.now.rows)
    c.in-Some.is c.loop-next.invariant.walking.place).1 row c.row_at-row.ensures) in
    subst IsTrue (sym (c.loop-next.invariant.days (day_of row.minute)))
    (all_at (HasItsDay m c.args.sums.now)
    c.args.book.now.rows c.in-Some.place row c.row_at-row.ensures c.requires.days own)

pub follow_on_row-requires-clause-may : goal.follow_on_row-requires-clause-may
follow_on_row-requires-clause-may c =
    let m = c.args.measure.now in
    let made = c.args.book.now.exclusions in
    let value = c.args.value.now in
    let facts = range_facts m made value c.args.taken c.args.from c.args.to c.in-Some.place
    c.args.book.now.rows c.row_at-row.result c.loop-next.next c.loop-next.sums c.in-Some.is
    c.row_at-row.ensures c.requires.forms c.requires.few c.loop-next.invariant.walking in (
      facts.before,
      facts.after,
      facts.may,
    )

pub loop-next-smaller : goal.loop-next-smaller
loop-next-smaller c =
    let row = c.row_at-row.result in
    subst (λ n. rows_until c.row_before_on-next.result < rows_until n) (sym c.in-Some.is)
    (walk_smaller (is_on row.sli (day_of row.minute)) c.args.book.now.rows c.in-Some.place
    c.row_before_on-next.result (c.row_before_on-next.ensures row c.row_at-row.ensures))

pub loop-next-preserved : goal.loop-next-preserved
loop-next-preserved c =
    let m = c.args.measure.now in
    let made = c.args.book.now.exclusions in
    let value = c.args.value.now in
    let rows = c.args.book.now.rows in
    let row = c.row_at-row.result in
    let day = day_of c.args.from in
    let a : Row → Counts = row_counts m (made_on made value (not c.args.taken)) in
    let b : Row → Counts = row_counts m (made_on made value c.args.taken) in
    let on = subst (IsOnKey (is_on m.sli day) rows) c.in-Some.is
    c.loop-next.invariant.walking.place in
    let key = on.1 row c.row_at-row.ensures in
    let facts = range_facts m made value c.args.taken c.args.from c.args.to c.in-Some.place rows row
    c.loop-next.next c.loop-next.sums c.in-Some.is
    c.row_at-row.ensures c.requires.forms c.requires.few c.loop-next.invariant.walking in
    let counted = subst (IsSumOf c.follow_on_row.new.sums) facts.put
    (c.follow_on_row.ensures.counted facts.before facts.after facts.may.counted) in
    let same_sli : row.sli ≡ m.sli =
    (bytes_eq-Decides row.sli m.sli).0 (day_own m.sli day row key) in
    let here : c.row_before_on-next.result
    ≡ last_place (is_on m.sli day) (take c.in-Some.place rows) =
    c.row_before_on-next.ensures row c.row_at-row.ensures
    ∙ ap (λ (s : List ℕ). last_place (is_on s (day_of row.minute)) (take c.in-Some.place rows))
    same_sli
    ∙ ap (λ d. last_place (is_on m.sli d) (take c.in-Some.place rows)) (day_is m.sli day row key) in
    record {
      walking = walk_goes (is_on m.sli day) (followed m made value c.args.taken c.args.from)
          (followed m made value c.args.taken c.args.to) rows c.in-Some.place
          c.row_before_on-next.result c.follow_on_row.new.sums on.0 here
          (λ row. other_day m.sli value.from c.args.from c.args.to a b row c.requires.order
          c.requires.one_day)
          counted;
      method = c.follow_on_row.ensures.method ∙ c.loop-next.invariant.method;
      days = λ day. c.follow_on_row.ensures.days day ∙ c.loop-next.invariant.days day;
    }
