use Rattle.std.proofs.Common.{◌≡◌, ◌<◌, ◌≤◌, ℕ, List, ap, sym, subst, ◌∙◌, arith, take, length}
use Rattle.std.proofs.lemmas.Slice.Eq.{bytes_eq-Decides}
use Rattle.sample_book.specs.LastRows.{is_on, last_place}
use Rattle.window_sums.specs.Slices.{day_of}
use Rattle.kept_sums.specs.Sums.{RowFits}
use Rattle.kept_sums.specs.Walks.{IsOnKey, rows_until}
use Rattle.kept_sums.proofs.DayLemmas.{day_is, day_own}
use Rattle.kept_sums.proofs.ListLemmas.{all_at}
use Rattle.kept_sums.proofs.WalkLemmas.{walk_smaller}
use Rattle.line_forgetting.proofs.ChangedLemmas.{NoneFrom, none-behind, none-more, on-key}
use Rattle.line_forgetting.proofs.ChangedLemmas.{on-key_of_all}
use Rattle.line_forgetting.proofs.exclusion.has_changed.Goals as goal

pub loop-next-init : goal.loop-next-init
loop-next-init c =
    let m = c.args.measure.now in
    let rows = c.args.book.now.rows in
    let day = day_of c.args.from in
    let next = c.last_row_on-next.result in
    record {
      place = on-key_of_all (is_on m.sli day) rows next c.last_row_on-next.ensures;
      none = none-behind m c.args.book.now.exclusions c.args.value.now rows c.args.from c.args.to
          next c.requires.one_day c.last_row_on-next.ensures;
    }

pub row_at-row-requires : goal.row_at-row-requires
row_at-row-requires c =
    (subst (IsOnKey (is_on c.args.measure.now.sli (day_of c.args.from)) c.args.book.now.rows)
    c.in-Some.is c.loop-next.invariant.place).0

pub is_changed_between-requires : goal.is_changed_between-requires
is_changed_between-requires c =
    all_at (RowFits c.args.measure.now) c.args.book.now.rows c.in-Some.place c.row_at-row.result
    c.row_at-row.ensures c.requires.forms

pub returns-then-is_changed_between-clause-some : goal.returns-then-is_changed_between-clause-some
returns-then-is_changed_between-clause-some c = λ e. record {
  place = c.in-Some.place;
  row = c.row_at-row.result;
  here = c.row_at-row.ensures;
  is = c.is_changed_between.ensures.changed c.if-is_changed_between.true;
}

pub row_before_on-next-requires : goal.row_before_on-next-requires
row_before_on-next-requires c =
    (subst (IsOnKey (is_on c.args.measure.now.sli (day_of c.args.from)) c.args.book.now.rows)
    c.in-Some.is c.loop-next.invariant.place).0

pub loop-next-smaller : goal.loop-next-smaller
loop-next-smaller c =
    let row = c.row_at-row.result in
    let next = c.row_before_on-next.result in
    subst (λ n. rows_until next < rows_until n) (sym c.in-Some.is)
    (walk_smaller (is_on row.sli (day_of row.minute)) c.args.book.now.rows c.in-Some.place next
    (c.row_before_on-next.ensures row c.row_at-row.ensures))

pub loop-next-preserved : goal.loop-next-preserved
loop-next-preserved c =
    let m = c.args.measure.now in
    let made = c.args.book.now.exclusions in
    let value = c.args.value.now in
    let rows = c.args.book.now.rows in
    let day = day_of c.args.from in
    let place = c.in-Some.place in
    let row = c.row_at-row.result in
    let next = c.row_before_on-next.result in
    let on = subst (IsOnKey (is_on m.sli day) rows) c.in-Some.is c.loop-next.invariant.place in
    let key = on.1 row c.row_at-row.ensures in
    let same_sli : row.sli ≡ m.sli =
    (bytes_eq-Decides row.sli m.sli).0 (day_own m.sli day row key) in
    let is : next ≡ last_place (is_on m.sli day) (take place rows) =
    c.row_before_on-next.ensures row c.row_at-row.ensures
    ∙ ap (λ (s : List ℕ). last_place (is_on s (day_of row.minute)) (take place rows)) same_sli
    ∙ ap (λ d. last_place (is_on m.sli d) (take place rows)) (day_is m.sli day row key) in
    let within : place ≤ length rows = omega (arith, on.0) in
    record {
      place = on-key (is_on m.sli day) rows place next within is;
      none = none-more m made value rows c.args.from c.args.to place row next c.requires.one_day
          c.row_at-row.ensures is
          (c.is_changed_between.ensures.same c.if-is_changed_between.false)
          (subst (λ n. NoneFrom m made value rows c.args.from c.args.to (rows_until n))
          c.in-Some.is c.loop-next.invariant.none);
    }

pub returns-clause-none : goal.returns-clause-none
returns-clause-none c = λ e has.
    let none = subst (λ n. NoneFrom c.args.measure.now c.args.book.now.exclusions c.args.value.now
    c.args.book.now.rows c.args.from c.args.to (rows_until n)) c.in_default.is
    c.loop-next.invariant.none in
    none has.place has.row (omega arith) has.here has.is
