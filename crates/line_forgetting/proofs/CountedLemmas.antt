-- The slices that have counts, and those that an exclusion changes.
use Rattle.std.proofs.Common.{◌≡◌, ◌≢◌, ◌⊎◌, inl, inr, ℕ, zero, suc, ◌+◌, ◌-◌, ◌*◌, ◌/◌, ◌≤◌}
use Rattle.std.proofs.Common.{◌<◌, ◌==◌, nat_eq, nat_le, min, Bool, true, false, cond, refl, ap}
use Rattle.std.proofs.Common.{sym, subst, ◌∙◌, arith, List, [], ◌∷◌, slice_get, Some}
use Rattle.std.specs.Int.{div_ceil}
use Rattle.std.specs.List.{AllByRecursion}
use Rattle.std.specs.Str.{bytes_eq}
use Rattle.std.proofs.Math.Nat.{div-add-mod', div-mul-le_self, mul-le-mul_right}
use Rattle.std.proofs.lemmas.Bool.Decides.{eqb_tells, leb_tells}
use Rattle.std.proofs.lemmas.Grind.{div_ceil_times}
use Rattle.std.proofs.lemmas.Nat.{div-mul-add, le-div, mod_below}
use Rattle.slice_method.specs.declared.Counts.{Counts}
use Rattle.slice_method.specs.declared.Method.{Method}
use Rattle.sample_book.specs.declared.Exclusion.{Exclusion}
use Rattle.sample_book.specs.declared.Row.{Row}
use Rattle.sample_book.specs.Exclusions.{excludes}
use Rattle.slo_terms.specs.Sums.{amount_at}
use Rattle.window_sums.specs.Shares.{Share, slice_counts}
use Rattle.window_sums.specs.Slices.{CountedDays, counts_of, has_day, no_counts, slice_of}
use Rattle.window_sums.specs.Slices.{slices_a_day, width_of}
use Rattle.window_sums.proofs.ClearFacts as cleared
use Rattle.office_history.specs.declared.Measure.{Measure}
use Rattle.kept_sums.specs.Sums.{SumsAreKept, row_counts, shares_by}
use Rattle.kept_sums.specs.Walks.{IsChanged, made_on}
use Rattle.kept_sums.proofs.DayLemmas.{counts_more}
use Rattle.kept_sums.proofs.DaysLemmas.{none_counted}
use Rattle.kept_sums.proofs.ListLemmas.{all_at}
use Rattle.kept_sums.proofs.RangeLemmas.{taken_none}
use Rattle.kept_sums.proofs.ReplaceLemmas.{same_or_other}
use Rattle.kept_sums.proofs.ShareLemmas.{one-more, shares-like}
use Rattle.line_forgetting.specs.Touched.{IsCountedBefore, IsCountedIn, IsCountedOn, IsCountedUntil}
use Rattle.line_forgetting.specs.Touched.{IsCut, IsThatOne, LAST_MINUTE}
use Rattle.line_forgetting.proofs.ChangedLemmas.{Taken, changed-is}

-- a row of a slice that counts for something
record Found (method : Method) (f : Row → Counts) (rows : List Row) (k : ℕ) : Type 0 where
  pub place : ℕ
  pub row : Row
  pub here : slice_get rows place ≡ Some row
  pub lies : slice_of method row.minute ≡ k
  pub some : f row ≢ no_counts

-- a slice has such a row, or all its rows count for nothing
find : (method : Method) (f : Row → Counts) (rows : List Row) (k : ℕ) →
    Found method f rows k ⊎ ((place : ℕ) (row : Row) → slice_get rows place ≡ Some row →
    slice_of method row.minute ≡ k → f row ≡ no_counts)
find method f [] k = inr (λ place row at lies. cc at)
find method f (first ∷ rows) k =
    by (eqb_tells (slice_of method first.minute) k) (same_or_other (f first) no_counts)
    (find method f rows k)
  where
    later : Found method f rows k → Found method f (first ∷ rows) k
    later more = record {
      place = suc more.place;
      row = more.row;
      here = more.here;
      lies = more.lies;
      some = more.some;
    }

    both : (slice_of method first.minute ≡ k → f first ≡ no_counts) →
        ((place : ℕ) (row : Row) → slice_get rows place ≡ Some row →
        slice_of method row.minute ≡ k → f row ≡ no_counts) →
        (place : ℕ) (row : Row) → slice_get (first ∷ rows) place ≡ Some row →
        slice_of method row.minute ≡ k → f row ≡ no_counts
    both here rest zero row at lies =
        let same : first ≡ row = cc at in
        subst (λ (r : Row). f r ≡ no_counts) same
        (here (ap (λ (r : Row). slice_of method r.minute) same ∙ lies))
    both here rest (suc place) row at lies = rest place row at lies

    by : ((nat_eq (slice_of method first.minute) k ≡ true) × (slice_of method first.minute ≡ k))
        ⊎ ((nat_eq (slice_of method first.minute) k ≡ false)
        × (slice_of method first.minute ≢ k)) →
        (f first ≡ no_counts) ⊎ (f first ≢ no_counts) →
        Found method f rows k ⊎ ((place : ℕ) (row : Row) → slice_get rows place ≡ Some row →
        slice_of method row.minute ≡ k → f row ≡ no_counts) →
        Found method f (first ∷ rows) k ⊎ ((place : ℕ) (row : Row) →
        slice_get (first ∷ rows) place ≡ Some row → slice_of method row.minute ≡ k →
        f row ≡ no_counts)
    by lies counts (inl more) = inl (later more)
    by (inl lies) (inr some) (inr rest) = inl (record {
      place = 0;
      row = first;
      here = refl;
      lies = lies.1;
      some = some;
    })
    by lies (inl none) (inr rest) = inr (both (λ lies. none) rest)
    by (inr other) (inr some) (inr rest) = inr (both (λ lies. absurd (other.1 lies)) rest)

-- what the rows of a slice add up to
abbrev amount_in : (Counts → ℕ) → Method → (Row → Counts) → List Row → ℕ → ℕ
amount_in f method by rows k =
    amount_at (λ (s : Share). slice_of method s.minute) (λ (s : Share). f s.counts)
    (shares_by by rows) k

-- a part of nothing is nothing
no_part : (f : Counts → ℕ) (method : Method) (by : Row → Counts) (rows : List Row) (k : ℕ) →
    amount_in f method by rows k ≡ 0 → (place : ℕ) (row : Row) → slice_get rows place ≡ Some row →
    slice_of method row.minute ≡ k → f (by row) ≡ 0
no_part f method by [] k none place row at lies = cc at
no_part f method by (first ∷ rows) k none place row at lies =
    turn place at (λ less p at. no_part f method by rows k less p row at lies)
  where
    sum : cond (slice_of method first.minute == k) (f (by first)) 0
        + amount_in f method by rows k ≡ 0
    sum = sym (one-more f method by first rows k) ∙ none

    here : (b : Bool) → b ≡ true → cond b (f (by first)) 0 ≡ 0 → f (by first) ≡ 0
    here true e h = h
    here false e h = cc e

    lies-is : (a b : ℕ) → a ≡ b → nat_eq a b ≡ true
    lies-is a b e = turn (eqb_tells a b)
      where
        turn : ((nat_eq a b ≡ true) × (a ≡ b)) ⊎ ((nat_eq a b ≡ false) × (a ≢ b)) →
            nat_eq a b ≡ true
        turn (inl x) = x.0
        turn (inr x) = absurd (x.1 e)

    turn : (place : ℕ) → slice_get (first ∷ rows) place ≡ Some row →
        (amount_in f method by rows k ≡ 0 → (place : ℕ) → slice_get rows place ≡ Some row →
        f (by row) ≡ 0) →
        f (by row) ≡ 0
    turn zero at later =
        let same : first ≡ row = cc at in
        subst (λ (r : Row). f (by r) ≡ 0) same
        (here (slice_of method first.minute == k)
        (lies-is (slice_of method first.minute) k
        (ap (λ (r : Row). slice_of method r.minute) same ∙ lies)) (omega (arith, sum)))
    turn (suc place) at later = later (omega (arith, sum)) place at

-- so in a slice without counts each row counts for nothing
none_there : (method : Method) (by : Row → Counts) (rows : List Row) (k : ℕ) →
    slice_counts method (shares_by by rows) k ≡ no_counts → (place : ℕ) (row : Row) →
    slice_get rows place ≡ Some row → slice_of method row.minute ≡ k → by row ≡ no_counts
none_there method by rows k none place row at lies = λ i. record {
  good = no_part (λ c. c.good) method by rows k (ap (λ (c : Counts). c.good) none) place row at
      lies i;
  total = no_part (λ c. c.total) method by rows k (ap (λ (c : Counts). c.total) none) place row at
      lies i;
}

-- where a row counts for nothing, an exclusion can't change it
pub changed_some : (m : Measure) (made : List (Exclusion × Bool)) (value : Exclusion) (row : Row) →
    row_counts m (made_on made value false) row ≢ row_counts m (made_on made value true) row →
    row_counts m made row ≢ no_counts
changed_some m made value row differ none =
    differ (none ∙ sym (counts_more m made value row
    ∙ by (excludes m.slo row.minute (value, true))))
  where
    by : (b : Bool) → cond b no_counts (row_counts m made row) ≡ no_counts
    by true = refl
    by false = none

-- a slice that an exclusion changes has counts without it
pub changed-counts : (m : Measure) (made : List (Exclusion × Bool)) (value : Exclusion)
    (rows : List Row) (sums : CountedDays) (k : ℕ) → SumsAreKept m made rows sums →
    IsChanged m made value rows k → counts_of sums k ≢ no_counts
changed-counts m made value rows sums k kept is none =
    changed_some m made value is.row is.changed
    (none_there m.method (row_counts m made) rows k
    (ap (λ method. slice_counts method (shares_by (row_counts m made) rows) k) (sym kept.method)
    ∙ sym (kept.counted k) ∙ none)
    is.place is.row is.here is.lies)

-- a slice with counts has a row that counts for something
counts_found : (m : Measure) (made : List (Exclusion × Bool)) (rows : List Row)
    (sums : CountedDays) (k : ℕ) → SumsAreKept m made rows sums → counts_of sums k ≢ no_counts →
    Found m.method (row_counts m made) rows k
counts_found m made rows sums k kept some = by (find m.method (row_counts m made) rows k)
  where
    empty : CountedDays
    empty = record { method = m.method; days = [] }

    by : Found m.method (row_counts m made) rows k ⊎ ((place : ℕ) (row : Row) →
        slice_get rows place ≡ Some row → slice_of m.method row.minute ≡ k →
        row_counts m made row ≡ no_counts) → Found m.method (row_counts m made) rows k
    by (inl found) = found
    by (inr none) = absurd (some (kept.counted k
        ∙ ap (λ method. slice_counts method (shares_by (row_counts m made) rows) k) kept.method
        ∙ shares-like m.method (row_counts m made) (λ row. no_counts) rows k none
        ∙ sym (none_counted empty refl rows k)))

-- minutes of a slice
record IsInSlice (w k minute : ℕ) : Type 0 where
  pub from : k * w ≤ minute
  pub to : minute < k * w + w

in_slice : (w k minute : ℕ) → 0 < w → minute / w ≡ k → IsInSlice w k minute
in_slice w k minute some is = record {
  from = subst (λ q. q * w ≤ minute) is (div-mul-le_self minute w);
  to = subst (λ q. minute < q * w + w) is (omega (
    arith,
    div-add-mod' minute w,
    mod_below minute w some,
  ));
}

-- the range of an exclusion of the SLO, in slices: those from `first` up to `end` lie wholly in it
pub record IsRanged (m : Measure) (value : Exclusion) (width first end : ℕ) : Type 0 where
  pub wide : width ≡ width_of m.method
  pub some : 0 < width
  pub own : bytes_eq value.slo m.slo ≡ true
  pub from : value.from ≤ first * width
  pub to : end * width ≤ value.to

-- a slice with counts that lies wholly in the range is changed
pub counted-changed : (m : Measure) (made : List (Exclusion × Bool)) (value : Exclusion)
    (rows : List Row) (sums : CountedDays) (width first end k : ℕ) →
    IsRanged m value width first end → SumsAreKept m made rows sums →
    IsCountedIn sums first end k → IsChanged m made value rows k
counted-changed m made value rows sums width first end k range kept counted =
    let found = counts_found m made rows sums k kept counted.some in
    let inside : IsInSlice width k found.row.minute =
    in_slice width k found.row.minute range.some
    (ap (λ w. found.row.minute / w) range.wide ∙ found.lies) in
    let from : value.from ≤ found.row.minute = omega (
      arith,
      range.from,
      inside.from,
      mul-le-mul_right {m = first} {n = k} width counted.from,
    ) in
    let to : found.row.minute < value.to = omega (
      arith,
      range.to,
      inside.to,
      mul-le-mul_right {m = suc k} {n = end} width (omega (arith, counted.to)),
    ) in
    record {
      place = found.place;
      row = found.row;
      here = found.here;
      changed = λ same. found.some
          (same ∙ taken_none m made value found.row range.own from to);
      lies = found.lies;
    }

-- its first minute is an early one
pub changed-early : (m : Measure) (made : List (Exclusion × Bool)) (value : Exclusion)
    (rows : List Row) (width k : ℕ) → width ≡ width_of m.method →
    AllByRecursion (λ (row : Row). row.minute ≤ LAST_MINUTE) rows →
    IsChanged m made value rows k → k * width ≤ LAST_MINUTE
changed-early m made value rows width k wide early is =
    let row : is.row.minute ≤ LAST_MINUTE =
    all_at (λ (row : Row). row.minute ≤ LAST_MINUTE) rows is.place is.row is.here early in
    let first : k * width ≤ is.row.minute =
    subst (λ q. q * width ≤ is.row.minute)
    (ap (λ w. is.row.minute / w) wide ∙ is.lies) (div-mul-le_self is.row.minute width) in
    omega (arith, row, first)

-- the quotient of a minute that lies in a slice
quotient : (w k minute : ℕ) → k * w ≤ minute → minute < k * w + w → minute / w ≡ k
quotient w k minute from to =
    ap (λ n. n / w) parted ∙ div-mul-add k w (minute - k * w) (omega (arith, from, to))
  where
    parted : minute ≡ k * w + (minute - k * w)
    parted = omega (arith, from)

-- a changed row of minutes that all lie in one slice makes that a changed one
pub cut-changed : (m : Measure) (made : List (Exclusion × Bool)) (value : Exclusion)
    (rows : List Row) (width begin end k : ℕ) → width ≡ width_of m.method →
    ((minute : ℕ) → begin ≤ minute → minute < end → minute / width ≡ begin / width) →
    IsCut m made value rows width begin end k → IsChanged m made value rows k
cut-changed m made value rows width begin end k wide one cut = record {
  place = cut.some.place;
  row = cut.some.row;
  here = cut.some.here;
  changed = cut.some.is.changed;
  lies = ap (λ w. cut.some.row.minute / w) (sym wide)
      ∙ one cut.some.row.minute cut.some.is.from cut.some.is.to ∙ sym cut.is;
}

-- a changed slice whose row lies in these minutes is the one of them
pub changed-cut : (m : Measure) (made : List (Exclusion × Bool)) (value : Exclusion)
    (rows : List Row) (width begin end k : ℕ) → width ≡ width_of m.method →
    ((minute : ℕ) → begin ≤ minute → minute < end → minute / width ≡ begin / width) →
    (is : IsChanged m made value rows k) → begin ≤ is.row.minute → is.row.minute < end →
    IsCut m made value rows width begin end k
changed-cut m made value rows width begin end k wide one is from to = record {
  some = record {
    place = is.place;
    row = is.row;
    here = is.here;
    is = record { changed = is.changed; from = from; to = to };
  };
  is = sym is.lies ∙ ap (λ w. is.row.minute / w) (sym wide) ∙ one is.row.minute from to;
}

-- a changed slice is cut by the start of the range or by its end, or has counts
pub changed-parts : (m : Measure) (made : List (Exclusion × Bool)) (value : Exclusion)
    (rows : List Row) (sums : CountedDays) (width first end k : ℕ) →
    IsRanged m value width first end → SumsAreKept m made rows sums →
    ((minute : ℕ) → value.from ≤ minute → minute < first * width →
    minute / width ≡ value.from / width) →
    ((minute : ℕ) → end * width ≤ minute → minute < value.to →
    minute / width ≡ end * width / width) → IsChanged m made value rows k →
    (IsCut m made value rows width value.from (first * width) k
    ⊎ IsCountedIn sums first end k)
    ⊎ IsCut m made value rows width (end * width) value.to k
changed-parts m made value rows sums width first end k range kept start last is =
    by (leb_tells (first * width) is.row.minute) (leb_tells (end * width) is.row.minute)
  where
    taken : Taken m.slo is.row.minute value
    taken = changed-is m made value rows k is

    slice : is.row.minute / width ≡ k
    slice = ap (λ w. is.row.minute / w) range.wide ∙ is.lies

    below : (a b : ℕ) → is.row.minute < b * width → a ≡ is.row.minute / width → a < b
    below a b less e = turn (leb_tells (suc a) b)
      where
        turn : ((nat_le (suc a) b ≡ true) × (suc a ≤ b))
            ⊎ ((nat_le (suc a) b ≡ false) × (b < suc a)) → a < b
        turn (inl x) = omega (arith, x.1)
        turn (inr x) = absurd (omega (
          arith,
          less,
          subst (λ q. q * width ≤ is.row.minute) (sym e) (div-mul-le_self is.row.minute width),
          mul-le-mul_right {m = b} {n = a} width (omega (arith, x.1)),
        ))

    by : ((nat_le (first * width) is.row.minute ≡ true) × (first * width ≤ is.row.minute))
        ⊎ ((nat_le (first * width) is.row.minute ≡ false) × (is.row.minute < first * width)) →
        ((nat_le (end * width) is.row.minute ≡ true) × (end * width ≤ is.row.minute))
        ⊎ ((nat_le (end * width) is.row.minute ≡ false) × (is.row.minute < end * width)) →
        (IsCut m made value rows width value.from (first * width) k
        ⊎ IsCountedIn sums first end k)
        ⊎ IsCut m made value rows width (end * width) value.to k
    by (inr before) behind = inl (inl (changed-cut m made value rows width value.from
        (first * width) k range.wide start is taken.from before.1))
    by (inl from) (inl behind) = inr (changed-cut m made value rows width (end * width) value.to k
        range.wide last is behind.1 taken.to)
    by (inl from) (inr to) = inl (inr (record {
      from = subst (λ q. first ≤ q) slice (le-div first is.row.minute width range.some from.1);
      to = below k end to.1 (sym slice);
      some = changed-counts m made value rows sums k kept is;
    }))

-- where no slice lies wholly in the range, the minutes of one slice are all that it has
pub changed-one : (m : Measure) (made : List (Exclusion × Bool)) (value : Exclusion)
    (rows : List Row) (width k : ℕ) → width ≡ width_of m.method →
    ((minute : ℕ) → value.from ≤ minute → minute < value.to →
    minute / width ≡ value.from / width) → IsChanged m made value rows k →
    IsCut m made value rows width value.from value.to k
changed-one m made value rows width k wide one is =
    let taken = changed-is m made value rows k is in
    changed-cut m made value rows width value.from value.to k wide one is taken.from taken.to

-- a slice that the start cuts, or one with counts, is changed
pub part-changed : (m : Measure) (made : List (Exclusion × Bool)) (value : Exclusion)
    (rows : List Row) (sums : CountedDays) (width first end k : ℕ) →
    IsRanged m value width first end → SumsAreKept m made rows sums →
    ((minute : ℕ) → value.from ≤ minute → minute < first * width →
    minute / width ≡ value.from / width) →
    IsCut m made value rows width value.from (first * width) k
    ⊎ IsCountedIn sums first end k → IsChanged m made value rows k
part-changed m made value rows sums width first end k range kept start (inl cut) =
    cut-changed m made value rows width value.from (first * width) k range.wide start cut
part-changed m made value rows sums width first end k range kept start (inr counted) =
    counted-changed m made value rows sums width first end k range kept counted

-- at least the lesser of two numbers is at least one of them
pub either : (a b at : ℕ) → min a b ≤ at → (a ≤ at) ⊎ (b ≤ at)
either a b at le = by (leb_tells a at)
  where
    by : ((nat_le a at ≡ true) × (a ≤ at)) ⊎ ((nat_le a at ≡ false) × (at < a)) →
        (a ≤ at) ⊎ (b ≤ at)
    by (inl x) = inl x.1
    by (inr x) = inr (omega (arith, x.1, le))

-- before the day of the first slice none of them lies
pub none-before : (sums : CountedDays) (first end k : ℕ) → 0 < slices_a_day sums.method →
    IsCountedBefore sums first end (first / slices_a_day sums.method) k → ⊥
none-before sums first end k some is =
    let n = slices_a_day sums.method in
    omega (
      arith,
      is.is.from,
      div-add-mod' k n,
      mod_below k n some,
      div-mul-le_self first n,
      mul-le-mul_right {m = suc (k / n)} {n = first / n} n (omega (arith, is.before)),
    )

-- behind the day of the last slice none does
pub all-before : (sums : CountedDays) (first end day k : ℕ) → 0 < slices_a_day sums.method →
    div_ceil end (slices_a_day sums.method) ≤ day → IsCountedIn sums first end k →
    IsCountedBefore sums first end day k
all-before sums first end day k some passed is = record {
  is = is;
  before = turn (leb_tells (suc (k / slices_a_day sums.method)) day);
}
  where
    n : ℕ
    n = slices_a_day sums.method

    turn : ((nat_le (suc (k / n)) day ≡ true) × (suc (k / n) ≤ day))
        ⊎ ((nat_le (suc (k / n)) day ≡ false) × (day < suc (k / n))) → k / n < day
    turn (inl a) = omega (arith, a.1)
    turn (inr b) = absurd (omega (
      arith,
      is.to,
      (div_ceil_times end n some).0,
      mul-le-mul_right {m = div_ceil end n} {n = k / n} n (omega (arith, passed, b.1)),
      div-mul-le_self k n,
    ))

-- one day more
pub day-parts : (sums : CountedDays) (first end day k : ℕ) →
    IsCountedBefore sums first end (day + 1) k →
    IsCountedBefore sums first end day k ⊎ IsCountedOn sums first end day k
day-parts sums first end day k is = by (eqb_tells (k / slices_a_day sums.method) day)
  where
    by : ((nat_eq (k / slices_a_day sums.method) day ≡ true)
        × (k / slices_a_day sums.method ≡ day))
        ⊎ ((nat_eq (k / slices_a_day sums.method) day ≡ false)
        × (k / slices_a_day sums.method ≢ day)) →
        IsCountedBefore sums first end day k ⊎ IsCountedOn sums first end day k
    by (inl same) = inr (record { is = is.is; on = same.1 })
    by (inr other) = inl (record {
      is = is.is;
      before = less (k / slices_a_day sums.method)
          is.before other.1;
    })
      where
        less : (q : ℕ) → q < day + 1 → q ≢ day → q < day
        less q a b = omega (arith, a, b)

-- a day before the end begins before it
pub day-begun : (n end day : ℕ) → 0 < n → day < div_ceil end n → day * n < end
day-begun n end day some less = omega (
  arith,
  (div_ceil_times end n some).1,
  mul-le-mul_right {m = suc day} {n = div_ceil end n} n (omega (arith, less)),
)

-- the slice at a place of a day
day_place : (n day place : ℕ) → place < n → (day * n + place) / n ≡ day
day_place n day place less = div-mul-add day n place less

-- on a day that isn't there no slice has counts
pub none-on : (sums : CountedDays) (first end day k : ℕ) → has_day sums day ≡ false →
    IsCountedOn sums first end day k → ⊥
none-on sums first end day k absent is =
    is.is.some (cleared.none_there sums day k absent is.on)

-- before the first place none is passed
pub none-until : (sums : CountedDays) (first end day k : ℕ) → 0 < slices_a_day sums.method →
    IsCountedUntil sums first end day (day * slices_a_day sums.method
    + (first - day * slices_a_day sums.method)) k → ⊥
none-until sums first end day k some is =
    let n = slices_a_day sums.method in
    let begun : day * n ≤ k =
    subst (λ d. d * n ≤ k) is.is.on (div-mul-le_self k n) in
    omega (arith, is.is.is.from, is.before, begun)

-- the slice at a place is counted where its counts aren't nothing
pub one-counted : (sums : CountedDays) (first end day place : ℕ) (here : Counts) →
    first - day * slices_a_day sums.method ≤ place → place < slices_a_day sums.method →
    place < end - day * slices_a_day sums.method →
    here ≡ counts_of sums (day * slices_a_day sums.method + place) → (k : ℕ) →
    IsThatOne (day * slices_a_day sums.method + place) here k →
    IsCountedUntil sums first end day (day * slices_a_day sums.method + (place + 1)) k
one-counted sums first end day place here from less to at k is = record {
  is = record {
    is = record {
      from = omega (arith, is.is, from);
      to = omega (arith, is.is, to);
      some = λ none. is.some (at ∙ ap (counts_of sums) (sym is.is) ∙ none);
    };
    on = ap (λ q. q / slices_a_day sums.method) is.is
        ∙ day_place (slices_a_day sums.method) day place less;
  };
  before = omega (arith, is.is);
}

-- one place more
pub until-parts : (sums : CountedDays) (first end day place : ℕ) (here : Counts) →
    here ≡ counts_of sums (day * slices_a_day sums.method + place) → (k : ℕ) →
    IsCountedUntil sums first end day (day * slices_a_day sums.method + (place + 1)) k →
    IsCountedUntil sums first end day (day * slices_a_day sums.method + place) k
    ⊎ IsThatOne (day * slices_a_day sums.method + place) here k
until-parts sums first end day place here at k is =
    by (eqb_tells k (day * slices_a_day sums.method + place))
  where
    by : ((nat_eq k (day * slices_a_day sums.method + place) ≡ true)
        × (k ≡ day * slices_a_day sums.method + place))
        ⊎ ((nat_eq k (day * slices_a_day sums.method + place) ≡ false)
        × (k ≢ day * slices_a_day sums.method + place)) →
        IsCountedUntil sums first end day (day * slices_a_day sums.method + place) k
        ⊎ IsThatOne (day * slices_a_day sums.method + place) here k
    by (inl same) = inr (record {
      is = same.1;
      some = λ none. is.is.is.some (ap (counts_of sums) same.1 ∙ sym at ∙ none);
    })
    by (inr other) = inl (record {
      is = is.is;
      before = less_than k (day * slices_a_day sums.method) is.before other.1;
    })
      where
        less_than : (k s : ℕ) → k < s + (place + 1) → k ≢ s + place → k < s + place
        less_than k s a b = omega (arith, a, b)

-- behind the last place of the day, or of those that are wanted, none has counts
pub until-all : (sums : CountedDays) (first end day at : ℕ) → 0 < slices_a_day sums.method →
    (slices_a_day sums.method ≤ at) ⊎ (end - day * slices_a_day sums.method ≤ at) → (k : ℕ) →
    IsCountedOn sums first end day k →
    IsCountedUntil sums first end day (day * slices_a_day sums.method + at) k
until-all sums first end day at some passed k is = record { is = is; before = by passed }
  where
    n : ℕ
    n = slices_a_day sums.method

    begun : day * n ≤ k
    begun = subst (λ d. d * n ≤ k) is.on (div-mul-le_self k n)

    ends : k < day * n + n
    ends = subst (λ d. k < d * n + n) is.on (omega (
      arith,
      div-add-mod' k n,
      mod_below k n some,
    ))

    by : (n ≤ at) ⊎ (end - day * n ≤ at) → k < day * n + at
    by (inl whole) = omega (arith, ends, whole)
    by (inr few) = omega (arith, begun, few, is.is.to)
