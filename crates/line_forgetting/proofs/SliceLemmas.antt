-- Slices whose counts stay while rows or an exclusion come.
use Rattle.std.proofs.Common.{◌≡◌, ◌≢◌, ◌⊎◌, inl, inr, ℕ, suc, ◌+◌, ◌*◌, ◌<◌, ◌==◌, nat_eq, not}
use Rattle.std.proofs.Common.{Bool, true, false, cond, refl, ap, sym, ◌∙◌, List, [], ◌∷◌, ◌++◌}
use Rattle.std.proofs.Common.{append_assoc}
use Rattle.std.specs.Str.{bytes_eq}
use Rattle.std.proofs.lemmas.Bool.Decides.{eqb_tells}
use Rattle.std.proofs.lemmas.List.{append-nil}
use Rattle.slice_method.specs.declared.Counts.{Counts}
use Rattle.slice_method.specs.declared.Method.{Method}
use Rattle.slo_terms.specs.Sums.{amount_at, sum_over}
use Rattle.cell_index.specs.declared.Cell.{Cell}
use Rattle.sample_book.specs.declared.Exclusion.{Exclusion}
use Rattle.sample_book.specs.declared.Row.{Row}
use Rattle.sample_book.specs.declared.RowVerdict.{RowVerdict}
use Rattle.sample_book.specs.Counting.{counts_of_minute, is_of}
use Rattle.sample_book.specs.Exclusions.{is_excluded}
use Rattle.sample_book.specs.History.{is_put}
use Rattle.sample_book.specs.Puts.{IsPutInto, behind, in_place, verdicts}
use Rattle.sample_book.specs.Rows.{current_rows, verdict_of}
use Rattle.sample_book.proofs.CameLemmas.{pass-current}
use Rattle.window_sums.specs.Shares.{Share}
use Rattle.window_sums.specs.Shares as days
use Rattle.window_sums.specs.Slices.{no_counts, slice_of, width_of}
use Rattle.office_history.specs.declared.Measure.{Measure}
use Rattle.office_history.specs.Counts.{slice_counts}
use Rattle.kept_sums.specs.Replacing.{HasMoved, among, changes_counts}
use Rattle.kept_sums.specs.Sums.{row_counts, shares_by}
use Rattle.kept_sums.specs.Walks.{IsChanged, made_on}
use Rattle.kept_sums.proofs.FollowLemmas.{standing}
use Rattle.kept_sums.proofs.MinuteLemmas.{same_slices}
use Rattle.kept_sums.proofs.ReplaceLemmas.{around, nothing-added}
use Rattle.kept_sums.proofs.RowLemmas.{shares_around}
use Rattle.kept_sums.proofs.ShareLemmas.{unchanged}

-- a share that takes another's place changes no other slice
elsewhere : (method : Method) (xs ys : List Share) (minute : ℕ) (old new : Counts) (k : ℕ) →
    slice_of method minute ≢ k →
    days.slice_counts method (among xs minute old ys) k
    ≡ days.slice_counts method (among xs minute new ys) k
elsewhere method xs ys minute old new k other = λ i. record {
  good = one (λ c. c.good) i;
  total = one (λ c. c.total) i;
}
  where
    key : Share → ℕ
    key share = slice_of method share.minute

    free : ((nat_eq (slice_of method minute) k ≡ true) × (slice_of method minute ≡ k))
        ⊎ ((nat_eq (slice_of method minute) k ≡ false) × (slice_of method minute ≢ k)) →
        (slice_of method minute == k) ≡ false
    free (inl same) = absurd (other same.1)
    free (inr is) = is.0

    without : (f : Counts → ℕ) (c : Counts) →
        amount_at key (λ s. f s.counts) (among xs minute c ys) k
        ≡ amount_at key (λ s. f s.counts) xs k + (0 + amount_at key (λ s. f s.counts) ys k)
    without f c =
        around key (λ s. f s.counts) xs ys (record { minute = minute; counts = c }) k
        ∙ rw (free (eqb_tells (slice_of method minute) k)) refl

    one : (f : Counts → ℕ) →
        amount_at key (λ s. f s.counts) (among xs minute old ys) k
        ≡ amount_at key (λ s. f s.counts) (among xs minute new ys) k
    one f = without f old ∙ sym (without f new)

-- the counts of a slice, by the shares of rows
abbrev by-shares : Measure → List (Exclusion × Bool) → List Row → ℕ → Counts
by-shares m made rows k = days.slice_counts m.method (shares_by (row_counts m made) rows) k

-- a share of nothing, or one of another slice, leaves a slice as it is
share-same : (method : Method) (xs ys : List Share) (minute : ℕ) (old new : Counts) (k : ℕ) →
    (slice_of method minute ≢ k) ⊎ (old ≡ new) →
    days.slice_counts method (among xs minute old ys) k
    ≡ days.slice_counts method (among xs minute new ys) k
share-same method xs ys minute old new k (inl other) =
    elsewhere method xs ys minute old new k other
share-same method xs ys minute old new k (inr same) =
    ap (λ c. days.slice_counts method (among xs minute c ys) k) same

-- a row that is put leaves each slice as it is but for its own, where it is of the indicator
put-same : (m : Measure) (made : List (Exclusion × Bool)) (rows : List Row) (row : Row)
    (verdict : RowVerdict) (rows' : List Row) (k : ℕ) → IsPutInto rows row verdict rows' →
    (is_of m.sli row ≡ true → slice_of m.method row.minute ≢ k) →
    by-shares m made rows k ≡ by-shares m made rows' k
put-same m made _ _ _ _ k (behind rows row) free =
    sym (nothing-added m.method (shares_by f rows) row.minute k)
    ∙ share-same m.method (shares_by f rows) [] row.minute no_counts (f row) k
    (by (is_of m.sli row) refl)
    ∙ ap (λ shares. days.slice_counts m.method shares k) (sym (shares_around f rows row []))
  where
    f : Row → Counts
    f = row_counts m made

    by : (b : Bool) → is_of m.sli row ≡ b → (slice_of m.method row.minute ≢ k) ⊎ (no_counts ≡ f row)
    by true e = inl (free e)
    by false e = inr (rw e refl)
put-same m made _ _ _ _ k (in_place before after kept row same) free =
    ap (λ shares. days.slice_counts m.method shares k) (shares_around f before kept after)
    ∙ ap (λ u. days.slice_counts m.method (among (shares_by f before) u (f kept)
    (shares_by f after)) k) minute
    ∙ share-same m.method (shares_by f before) (shares_by f after) row.minute (f kept) (f row) k
    (by (is_of m.sli row) refl)
    ∙ ap (λ shares. days.slice_counts m.method shares k) (sym (shares_around f before row after))
  where
    f : Row → Counts
    f = row_counts m made

    minute : kept.minute ≡ row.minute
    minute = ap (λ (c : Cell). c.minute) same

    own : is_of m.sli kept ≡ is_of m.sli row
    own = ap (λ (c : Cell). bytes_eq c.sli m.sli) same

    by : (b : Bool) → is_of m.sli row ≡ b → (slice_of m.method row.minute ≢ k) ⊎ (f kept ≡ f row)
    by true e = inl (free e)
    by false e = inr (rw (e, own ∙ e) refl)

-- a row that comes leaves a slice as it is in which it doesn't move
came-same : (m : Measure) (made : List (Exclusion × Bool)) (came : List Row) (row : Row) (k : ℕ) →
    (changes_counts m row (verdict_of (current_rows came) row) ≡ true
    → slice_of m.method row.minute ≢ k) →
    by-shares m made (current_rows came) k ≡ by-shares m made (current_rows (came ++ row ∷ [])) k
came-same m made came row k free = by (is_put (verdict_of (current_rows came) row)) refl
  where
    by : (b : Bool) → is_put (verdict_of (current_rows came) row) ≡ b →
        by-shares m made (current_rows came) k
        ≡ by-shares m made (current_rows (came ++ row ∷ [])) k
    by true e =
        put-same m made (current_rows came) row (verdict_of (current_rows came) row)
        (current_rows (came ++ row ∷ [])) k (standing came row e) (λ own. free (rw (own, e) refl))
    by false e = ap (λ rows. by-shares m made rows k) (sym (pass-current came row e))

-- so do the rows of a batch, where none of those that move lies in the slice
rows-same : (m : Measure) (made : List (Exclusion × Bool)) (came batch : List Row) (k : ℕ) →
    (HasMoved m batch (verdicts came batch) k → ⊥) →
    by-shares m made (current_rows came) k ≡ by-shares m made (current_rows (came ++ batch)) k
rows-same m made came [] k free =
    ap (λ rows. by-shares m made (current_rows rows) k) (sym (append-nil came))
rows-same m made came (row ∷ batch) k free =
    came-same m made came row k (λ moved lies. free (record {
      place = 0;
      row = row;
      verdict = verdict_of (current_rows came) row;
      here = refl;
      judged = refl;
      moved = moved;
      lies = lies;
    }))
    ∙ rows-same m made (came ++ row ∷ []) batch k (λ later. free (record {
      place = suc later.place;
      row = later.row;
      verdict = later.verdict;
      here = later.here;
      judged = later.judged;
      moved = later.moved;
      lies = later.lies;
    }))
    ∙ ap (λ rows. by-shares m made (current_rows rows) k) (append_assoc came (row ∷ []) batch)

-- the counts of a slice are the same with a batch, where no row of it that moves lies there
pub batch-same : (m : Measure) (made : List (Exclusion × Bool)) (rows batch : List Row) (k : ℕ) →
    0 < width_of m.method → current_rows rows ≡ rows →
    (HasMoved m batch (verdicts rows batch) k → ⊥) →
    slice_counts (record { rows = rows; exclusions = made }) m k
    ≡ slice_counts (record { rows = current_rows (rows ++ batch); exclusions = made }) m k
batch-same m made rows batch k some current free =
    sym (same_slices m made rows k some)
    ∙ ap (λ rows. by-shares m made rows k) (sym current)
    ∙ rows-same m made rows batch k free
    ∙ same_slices m made (current_rows (rows ++ batch)) k some

-- so are they with an exclusion or without it, where it changes no row of the slice
pub exclusion-same : (m : Measure) (made : List (Exclusion × Bool)) (value : Exclusion)
    (taken : Bool) (rows : List Row) (k : ℕ) → 0 < width_of m.method →
    (IsChanged m made value rows k → ⊥) →
    slice_counts (record { rows = rows; exclusions = made_on made value (not taken) }) m k
    ≡ slice_counts (record { rows = rows; exclusions = made_on made value taken }) m k
exclusion-same m made value taken rows k some free =
    sym (same_slices m (made_on made value (not taken)) rows k some)
    ∙ unchanged m made value taken rows k free
    ∙ same_slices m (made_on made value taken) rows k some

-- so are they over exclusions that take the same minutes
pub alike-same : (m : Measure) (made other : List (Exclusion × Bool)) (rows : List Row) (k : ℕ) →
    ((minute : ℕ) → is_excluded made m.slo minute ≡ is_excluded other m.slo minute) →
    slice_counts (record { rows = rows; exclusions = made }) m k
    ≡ slice_counts (record { rows = rows; exclusions = other }) m k
alike-same m made other rows k alike = λ i. record {
  good = sum_over (λ minute. (at minute (alike minute i)).good) (k * width) width;
  total = sum_over (λ minute. (at minute (alike minute i)).total) (k * width) width;
}
  where
    width : ℕ
    width = width_of m.method

    at : ℕ → Bool → Counts
    at minute taken =
        cond taken no_counts (counts_of_minute m.reading m.op m.value rows m.sli minute)
