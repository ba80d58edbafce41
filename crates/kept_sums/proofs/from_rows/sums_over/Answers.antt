use Rattle.std.proofs.Common.{◌≡◌, ◌<◌, ap, subst, sym, ◌∙◌, IsTrue, take, drop, List, ℕ, Some}
use Rattle.std.specs.List.{AllByRecursion}
use Rattle.std.proofs.lemmas.Slice.Eq.{bytes_eq-Decides}
use Rattle.slice_method.specs.declared.Counts.{Counts}
use Rattle.sample_book.specs.declared.Row.{Row}
use Rattle.sample_book.specs.LastRows.{last_place}
use Rattle.sample_book.specs.Counting.{is_of}
use Rattle.window_sums.specs.Shares.{IsSumOf}
use Rattle.window_sums.specs.Slices.{day_of, no_counts}
use Rattle.kept_sums.specs.Objectives.{made_for}
use Rattle.kept_sums.specs.Replacing.{MayReplace, among}
use Rattle.kept_sums.specs.Sums.{RowFits, HasItsDay, row_counts}
use Rattle.kept_sums.specs.Walks.{IsWalking, rows_until}
use Rattle.kept_sums.proofs.DayLemmas.{other_counts_none}
use Rattle.kept_sums.proofs.DaysLemmas.{days_behind, days_down, days_here, more_days, none_counted}
use Rattle.kept_sums.proofs.DaysLemmas.{own_day, walking_same}
use Rattle.kept_sums.proofs.ListLemmas.{all_at}
use Rattle.kept_sums.proofs.RowLemmas.{small_rows, small_zeros}
use Rattle.kept_sums.proofs.WalkLemmas.{walk_begins, walk_facts, walk_goes, walk_smaller}
use Rattle.kept_sums.proofs.from_rows.sums_over.Goals as goal

pub loop-next-init : goal.loop-next-init
loop-next-init c =
    let m = c.args.measure.now in
    let rows = c.args.book.now.rows in
    record {
      walking =
          walk_begins (is_of m.sli) (λ row. no_counts)
          (row_counts m (made_for c.args.pool c.args.book.now.exclusions))
          rows c.last_row-next.result c.new-sums.result c.last_row-next.ensures
          (λ row other. sym (other_counts_none m (made_for c.args.pool c.args.book.now.exclusions)
          row other))
          (none_counted c.new-sums.result c.new-sums.ensures.days rows);
      method = c.new-sums.ensures.method;
      days = days_behind m c.new-sums.result rows c.last_row-next.result c.last_row-next.ensures;
    }

pub counts_near-counts-requires : goal.counts_near-counts-requires
counts_near-counts-requires c = all_at (RowFits c.args.measure.now) c.args.book.now.rows
    c.in-Some.place
    c.row_at-row.result c.row_at-row.ensures c.requires.forms

pub exchange-requires-clause-may : goal.exchange-requires-clause-may
exchange-requires-clause-may c =
    let m = c.args.measure.now in
    let row = c.row_at-row.result in
    let rows = c.args.book.now.rows in
    let h : Row → Counts = row_counts m (made_for c.args.pool c.args.book.now.exclusions) in
    let w = subst (λ n. IsWalking (is_of m.sli) (λ row. no_counts) h rows n c.loop-next.sums)
    c.in-Some.is c.loop-next.invariant.walking in
    let facts = walk_facts (is_of m.sli) (λ row. no_counts) h c.in-Some.place
    rows row c.reserve.new.self c.row_at-row.ensures (small_zeros rows)
    (small_rows m (made_for c.args.pool c.args.book.now.exclusions) rows c.requires.forms)
    c.requires.few
    (walking_same (is_of m.sli) (λ row. no_counts) h rows (Some c.in-Some.place) c.loop-next.sums
    c.reserve.new.self c.reserve.ensures.method c.reserve.ensures.counts w) in (
      facts.before,
      facts.after,
      subst (λ n. MayReplace c.reserve.new.self row.minute no_counts n facts.before facts.after)
          (sym c.counts_near-counts.ensures) facts.may,
    )

pub loop-next-smaller : goal.loop-next-smaller
loop-next-smaller c =
    let row = c.row_at-row.result in
    subst (λ n. rows_until c.row_before-next.result < rows_until n) (sym c.in-Some.is)
    (walk_smaller (is_of row.sli) c.args.book.now.rows c.in-Some.place c.row_before-next.result
    (c.row_before-next.ensures row c.row_at-row.ensures))

pub loop-next-preserved : goal.loop-next-preserved
loop-next-preserved c =
    let m = c.args.measure.now in
    let row = c.row_at-row.result in
    let rows = c.args.book.now.rows in
    let h : Row → Counts = row_counts m (made_for c.args.pool c.args.book.now.exclusions) in
    let new = c.exchange.new.sums in
    let w = subst (λ n. IsWalking (is_of m.sli) (λ row. no_counts) h rows n c.loop-next.sums)
    c.in-Some.is c.loop-next.invariant.walking in
    let facts = walk_facts (is_of m.sli) (λ row. no_counts) h c.in-Some.place
    rows row c.reserve.new.self c.row_at-row.ensures (small_zeros rows)
    (small_rows m (made_for c.args.pool c.args.book.now.exclusions) rows c.requires.forms)
    c.requires.few
    (walking_same (is_of m.sli) (λ row. no_counts) h rows (Some c.in-Some.place) c.loop-next.sums
    c.reserve.new.self c.reserve.ensures.method c.reserve.ensures.counts w) in
    let counted = subst (IsSumOf new)
    (ap (λ n. among facts.before row.minute n facts.after) c.counts_near-counts.ensures
    ∙ facts.put) (c.exchange.ensures.counted facts.before facts.after facts.may.counted) in
    let same_sli : row.sli ≡ m.sli =
    (bytes_eq-Decides row.sli m.sli).0 (w.place.1 row c.row_at-row.ensures) in
    let here : c.row_before-next.result ≡ last_place (is_of m.sli) (take c.in-Some.place rows) =
    c.row_before-next.ensures row c.row_at-row.ensures
    ∙ ap (λ (s : List ℕ). last_place (is_of s) (take c.in-Some.place rows)) same_sli in
    let days = subst (λ n. AllByRecursion (HasItsDay m c.loop-next.sums) (drop (rows_until n) rows))
    c.in-Some.is c.loop-next.invariant.days in
    record {
      walking = walk_goes (is_of m.sli)
          (λ row. no_counts) h rows c.in-Some.place c.row_before-next.result new w.place.0 here
          (λ row other. sym (other_counts_none m (made_for c.args.pool c.args.book.now.exclusions)
          row other)) counted;
      method = c.exchange.ensures.method ∙ c.reserve.ensures.method ∙ c.loop-next.invariant.method;
      days = days_down m new rows c.in-Some.place c.row_before-next.result here
          (days_here m c.loop-next.sums new rows c.in-Some.place row c.row_at-row.ensures
          (λ day has. subst IsTrue (sym (c.exchange.ensures.days day)) (more_days c.loop-next.sums
          c.reserve.new.self row.minute c.in_ok-reserve.ensures.days day has))
          (subst IsTrue (sym (c.exchange.ensures.days (day_of row.minute))) (own_day
          c.loop-next.sums c.reserve.new.self row.minute c.in_ok-reserve.ensures.days)) days);
    }
