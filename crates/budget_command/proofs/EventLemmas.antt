-- The events of a range, added up in one pass over rows of which no two are of one cell.
use Rattle.std.proofs.Common.{◌≡◌, ◌≤◌, ◌+◌, ◌∙◌, ◌⊎◌, ◌<◌, ℕ, List, None, Some, ap, get_or, inl}
use Rattle.std.proofs.Common.{inr, length, slice_get, sum_by, sym, take}
use Rattle.std.proofs.lemmas.List.Sums.{sum_by_more}
use Rattle.std.proofs.lemmas.Option.{get_or_from_slice_get, slice_get_cases, slice_get_within}
use Rattle.exact_fraction.specs.declared.Leaf.{Leaf}
use Rattle.slo_terms.specs.Sums.{share_within, sum_of_slices}
use Rattle.slo_terms.proofs.SumLemmas.{sum_of_slices-minutes}
use Rattle.sample_book.specs.declared.Row.{Row}
use Rattle.sample_book.specs.Rows.{current_rows}
use Rattle.budget_command.specs.Records.{good_of, total_of}
use Rattle.budget_command.specs.Lines.{Tallies, budget_lines, events_at, events_in, lines_of}
use Rattle.budget_command.specs.Lines.{tallies_of}
use Rattle.budget_command.specs.Tables.{AreKeptAs}
use Rattle.budget_command.specs.declared.order.BudgetOrder.{BudgetOrder}

-- the sum over one more row
pub sum-more : (f : Row → ℕ) (rows : List Row) (place : ℕ) (row : Row) (sum share : ℕ) →
    slice_get rows place ≡ Some row → sum ≡ sum_by f (take place rows) → share ≡ f row →
    sum + share ≡ sum_by f (take (place + 1) rows)
sum-more f rows place row sum share e so_far here =
    ap (λ n. n + share) so_far
    ∙ ap (λ n. sum_by f (take place rows) + n)
    (here ∙ ap f (sym (get_or_from_slice_get rows place row row e)))
    ∙ sym (sum_by_more f rows place row (slice_get_within rows place row e))

-- where no row stands, all rows stand before
pub past : (rows : List Row) (place : ℕ) → slice_get rows place ≡ None → length rows ≤ place
past rows place e = by (slice_get_cases rows place).1
  where
    by : ((x : Row) × (place < length rows) × (slice_get rows place ≡ Some x)
        × (get_or rows place x ≡ x)) ⊎ ((length rows ≤ place) × (slice_get rows place ≡ None))
        → length rows ≤ place
    by (inl (row, within, found, same)) = absurd (cc (e, found))
    by (inr (all, none)) = all

same_leaf : (events : Leaf) (num den : ℕ) → events.num ≡ num → events.den ≡ den
    → record { num = num; den = den } ≡ events
same_leaf events num den n d = λ i. record { num = sym n i; den = sym d i }

pub events_in-current : (order : BudgetOrder) (came : List Row) (rows : List Row) (events : Leaf) →
    rows ≡ current_rows came → order.from ≤ order.to →
    events.num ≡ sum_by (share_within (λ r. r.minute) good_of order.from order.to) rows →
    events.den ≡ sum_by (share_within (λ r. r.minute) total_of order.from order.to) rows →
    events_in order came ≡ events
events_in-current order came rows events current range good total =
    ap (λ (rows : List Row). sum_of_slices 1 (events_at rows) order.from order.to) (sym current)
    ∙ sum_of_slices-minutes (λ (r : Row). r.minute) good_of total_of rows order.from order.to range
    ∙ same_leaf events _ _ good total

-- The lines of what is kept are those of the rows that came.
pub budget_lines-kept : (order : BudgetOrder) (came rows : List Row)
    (cells corrected repeated superseded : ℕ) (events : Leaf) →
    AreKeptAs rows corrected repeated superseded came → cells ≡ length rows → order.from ≤ order.to
    →
    events.num ≡ sum_by (share_within (λ r. r.minute) good_of order.from order.to) rows →
    events.den ≡ sum_by (share_within (λ r. r.minute) total_of order.from order.to) rows →
    lines_of (record {
      cells = cells;
      corrected = corrected;
      repeated = repeated;
      superseded = superseded;
    }) order.target events ≡ budget_lines order came
budget_lines-kept order came rows cells corrected repeated superseded events kept all range good
    total =
    let tallies : ◌≡◌ {A = Tallies} (record {
      cells = cells;
      corrected = corrected;
      repeated = repeated;
      superseded = superseded;
    }) (tallies_of came) =
    λ i. record {
      cells = (all ∙ ap length kept.current) i;
      corrected = kept.newer i;
      repeated = kept.again i;
      superseded = kept.older i;
    } in
    ap (λ (tallies : Tallies). lines_of tallies order.target events) tallies
    ∙ ap (lines_of (tallies_of came) order.target)
    (sym (events_in-current order came rows events kept.current range good total))
