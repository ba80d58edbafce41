-- Sums in which one more day is there.
use Rattle.std.proofs.Common.{◌≡◌, ℕ, zero, suc, ◌+◌, ◌==◌, ◌||◌, add-one, Bool, true, false, cond}
use Rattle.std.proofs.Common.{refl, ap, sym, subst, ◌∙◌, arith, List, [], ◌∷◌, take, drop, length}
use Rattle.std.proofs.Common.{slice_get, Some, Option, Result, Ok, Err, OnOk, OnErr, IsTrue, ◌≤◌}
use Rattle.std.proofs.Common.{◌<◌, if◌then◌else◌}
use Rattle.std.specs.List.{AllByRecursion}
use Rattle.std.proofs.lemmas.List.Sums.{sum_by-cons}
use Rattle.slice_method.specs.declared.Counts.{Counts}
use Rattle.slo_terms.specs.Sums.{amount_at}
use Rattle.sample_book.specs.declared.Exclusion.{Exclusion}
use Rattle.sample_book.specs.declared.Row.{Row}
use Rattle.cell_index.specs.Chains.{last}
use Rattle.sample_book.specs.LastRows.{last_place}
use Rattle.sample_book.specs.Counting.{is_of}
use Rattle.cell_index.proofs.ChainLemmas.{last-behind, last-within}
use Rattle.std.proofs.lemmas.Cmp.{nat_eq_equiv}
use Rattle.window_sums.specs.Shares.{IsSumOf, Share, slice_counts}
use Rattle.window_sums.specs.Slices.{CountedDays, counts_of, day_of, has_day, no_counts, slice_of}
use Rattle.office_history.specs.declared.Measure.{Measure}
use Rattle.kept_sums.specs.Sums.{HasItsDay, SumsAreKept, row_counts, shares_by}
use Rattle.kept_sums.specs.Walks.{IsWalking, rows_until, walked_shares}
use Rattle.kept_sums.proofs.ListLemmas.{all_map, all_push, drop_all, drop_at, get_taken, take_all}
use Rattle.kept_sums.proofs.ListLemmas.{take_at}
use Rattle.kept_sums.proofs.WalkLemmas.{until_below}

-- the same counts are the same sums
pub sum_same : (old new : CountedDays) (shares : List Share) → new.method ≡ old.method
    → ((slice : ℕ) → counts_of new slice ≡ counts_of old slice) → IsSumOf old shares
    → IsSumOf new shares
sum_same old new shares methods same counted slice = same slice ∙ counted slice
    ∙ ap (λ m. slice_counts m shares slice) (sym methods)

or_true : (a b : Bool) → IsTrue a → IsTrue (a || b)
or_true true b h = h
or_true false b h = cc h

-- a day that was there is there
pub more_days : (old new : CountedDays) (minute : ℕ)
    → ((day : ℕ) → has_day new day ≡ (has_day old day || day == day_of minute)) → (day : ℕ)
    → IsTrue (has_day old day) → IsTrue (has_day new day)
more_days old new minute days day h =
    subst IsTrue (sym (days day)) (or_true (has_day old day) (day == day_of minute) h)

-- whether the day was made ready or memory ran out, a day that was there is there
pub kept_days : {E : Type 0} (result : Result (Unit {0}) E) (old new : CountedDays) (minute : ℕ) →
    OnOk result ((day : ℕ) → has_day new day ≡ (has_day old day || day == day_of minute)) →
    OnErr result (new ≡ old) →
    (day : ℕ) → IsTrue (has_day old day) → IsTrue (has_day new day)
kept_days (Ok done) old new minute days same day has = more_days old new minute days day has
kept_days (Err fault) old new minute days same day has =
    subst (λ (s : CountedDays). IsTrue (has_day s day)) (sym same) has

-- the sums of rows with one more day are those of the rows
pub kept_more : (m : Measure) (made : List (Exclusion × Bool)) (rows : List Row)
    (old new : CountedDays) → new.method ≡ old.method →
    ((slice : ℕ) → counts_of new slice ≡ counts_of old slice) →
    ((day : ℕ) → IsTrue (has_day old day) → IsTrue (has_day new day))
    → SumsAreKept m made rows old →
    SumsAreKept m made rows new
kept_more m made rows old new methods same more kept = record {
  method = methods ∙ kept.method;
  counted = sum_same old new (shares_by (row_counts m made) rows) methods same kept.counted;
  days = all_map (HasItsDay m old) (HasItsDay m new) (λ row has e. more (day_of row.minute) (has e))
      rows kept.days;
}

-- the days of one more row
pub days_more : (m : Measure) (old new : CountedDays) (rows : List Row) (place : ℕ) (row : Row) →
    slice_get rows place ≡ Some row →
    ((other : Row) → HasItsDay m old other → HasItsDay m new other) → HasItsDay m new row →
    AllByRecursion (HasItsDay m old) (take place rows) →
    AllByRecursion (HasItsDay m new) (take (place + 1) rows)
days_more m old new rows place row at more here days =
    subst (λ n. AllByRecursion (HasItsDay m new) (take n rows)) (sym (add-one place))
    (subst (AllByRecursion (HasItsDay m new)) (sym (take_at rows place row at))
    (all_push (HasItsDay m new) (take place rows) row
    (all_map (HasItsDay m old) (HasItsDay m new) more (take place rows) days) here))

none_of : (key : Share → ℕ) (f : Counts → ℕ) → f no_counts ≡ 0 → (rows : List Row) (k : ℕ)
    → amount_at key (λ s. f s.counts) (shares_by (λ row. no_counts) rows) k ≡ 0
none_of key f e [] k = refl
none_of key f e (row ∷ rows) k =
    let one : Share = record { minute = row.minute; counts = no_counts } in
    sum_by-cons (λ s. if key s == k then f s.counts else 0) one (shares_by (λ row. no_counts) rows)
    ∙ by (key one == k) (none_of key f e rows k)
  where
    by : (b : Bool) → amount_at key (λ s. f s.counts) (shares_by (λ row. no_counts) rows) k ≡ 0
        → cond b (f no_counts) 0
        + amount_at key (λ s. f s.counts) (shares_by (λ row. no_counts) rows) k ≡ 0
    by true rest = omega (arith, rest, e)
    by false rest = omega (arith, rest)

-- sums of no day are those of rows that count for nothing
pub none_counted : (sums : CountedDays) → sums.days ≡ [] → (rows : List Row)
    → IsSumOf sums (shares_by (λ row. no_counts) rows)
none_counted sums none rows slice =
    let key : Share → ℕ = λ s. slice_of sums.method s.minute in
    let good = sym (none_of key (λ c. c.good) refl rows slice) in
    let total = sym (none_of key (λ c. c.total) refl rows slice) in
    let both : no_counts ≡ slice_counts sums.method (shares_by (λ row. no_counts) rows) slice =
    λ i. record { good = good i; total = total i } in
    ap (λ (days : List (ℕ × List Counts)).
    counts_of (record { method = sums.method; days = days }) slice) none ∙ both

or_last : (a b : Bool) → b ≡ true → IsTrue (a || b)
or_last true b e = refl
or_last false b e = e

-- the day of a minute that was reserved is there
pub own_day : (old new : CountedDays) (minute : ℕ)
    → ((day : ℕ) → has_day new day ≡ (has_day old day || day == day_of minute))
    → IsTrue (has_day new (day_of minute))
own_day old new minute days =
    subst IsTrue (sym (days (day_of minute))) (or_last (has_day old (day_of minute))
    (day_of minute == day_of minute) (nat_eq_equiv.refl (day_of minute)))

-- a walk over sums in which one more day is there
pub walking_same : (key : Row → Bool) (f h : Row → Counts) (rows : List Row) (next : Option ℕ)
    (old new : CountedDays) → new.method ≡ old.method →
    ((slice : ℕ) → counts_of new slice ≡ counts_of old slice) →
    IsWalking key f h rows next old → IsWalking key f h rows next new
walking_same key f h rows next old new methods same walking = record {
  place = walking.place;
  counted =
      sum_same old new (walked_shares f h (rows_until next) rows) methods same walking.counted;
}

-- what holds from a place on and of each item before it, back to another, holds from that one on
all_down : {A : Type 0} (P : A → Type 0) (xs : List A) (m n : ℕ)
    → m ≤ n → ((place : ℕ) (x : A) → m ≤ place → place < n → slice_get xs place ≡ Some x → P x)
    → AllByRecursion P (drop n xs) → AllByRecursion P (drop m xs)
all_down P [] zero n le each h = tt
all_down P [] (suc m) n le each h = tt
all_down P (x ∷ xs) zero zero le each h = h
all_down P (x ∷ xs) zero (suc n) le each h = (
  each 0 x (omega arith) (omega arith) refl,
  all_down P xs zero n (omega arith)
      (λ place y from to at. each (suc place) y (omega arith) (omega (arith, to)) at) h,
)
all_down P (x ∷ xs) (suc m) zero le each h = absurd (omega (arith, le))
all_down P (x ∷ xs) (suc m) (suc n) le each h = all_down P xs m n (omega (arith, le))
    (λ place y from to at. each (suc place) y (omega (arith, from)) (omega (arith, to)) at) h

-- the rows between a link and its place are of other indicators
pub days_down : (m : Measure) (sums : CountedDays) (rows : List Row) (at : ℕ) (next : Option ℕ) →
    next ≡ last_place (is_of m.sli) (take at rows) →
    AllByRecursion (HasItsDay m sums) (drop at rows) →
    AllByRecursion (HasItsDay m sums) (drop (rows_until next) rows)
days_down m sums rows at next is days =
    subst (λ n. AllByRecursion (HasItsDay m sums) (drop n rows))
    (sym (ap rows_until is ∙ until_below (last (is_of m.sli) (take at rows))))
    (all_down (HasItsDay m sums) rows (last (is_of m.sli) (take at rows)) at most between days)
  where
    short : (n : ℕ) (xs : List Row) → length (take n xs) ≤ n
    short zero xs = omega arith
    short (suc n) [] = omega arith
    short (suc n) (x ∷ xs) = omega (arith, short n xs)

    most : last (is_of m.sli) (take at rows) ≤ at
    most = omega (arith, last-within (is_of m.sli) (take at rows), short at rows)

    between : (place : ℕ) (row : Row) → last (is_of m.sli) (take at rows) ≤ place → place < at
        → slice_get rows place ≡ Some row → HasItsDay m sums row
    between place row from to there own =
        let other : is_of m.sli row ≡ false = last-behind (is_of m.sli) (take at rows) place row
        from (get_taken rows at place to ∙ there) in
        let no : true ≡ false = sym own ∙ other in
        cc no

-- behind all rows
pub days_behind : (m : Measure) (sums : CountedDays) (rows : List Row) (next : Option ℕ)
    → next ≡ last_place (is_of m.sli) rows
    → AllByRecursion (HasItsDay m sums) (drop (rows_until next) rows)
days_behind m sums rows next is =
    days_down m sums rows (length rows) next
    (is ∙ ap (last_place (is_of m.sli)) (sym (take_all rows (length rows) refl)))
    (subst (AllByRecursion (HasItsDay m sums)) (sym (drop_all rows (length rows) refl)) tt)

-- the days from a place on
pub days_here : (m : Measure) (old new : CountedDays) (rows : List Row) (place : ℕ) (row : Row) →
    slice_get rows place ≡ Some row →
    ((day : ℕ) → IsTrue (has_day old day) → IsTrue (has_day new day)) →
    IsTrue (has_day new (day_of row.minute)) →
    AllByRecursion (HasItsDay m old) (drop (suc place) rows) →
    AllByRecursion (HasItsDay m new) (drop place rows)
days_here m old new rows place row at more here days =
    subst (AllByRecursion (HasItsDay m new)) (sym (drop_at rows place row at)) (
      λ own. here,
      all_map (HasItsDay m old) (HasItsDay m new)
          (λ other has e. more (day_of other.minute) (has e)) (drop (suc place) rows) days,
    )
