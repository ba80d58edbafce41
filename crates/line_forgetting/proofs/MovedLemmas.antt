-- The rows of a batch that move, up to a place.
use Rattle.std.proofs.Common.{◌≡◌, ◌⊎◌, ℕ, suc, ◌+◌, ◌/◌, ◌≤◌, ◌<◌, true, false, Option, Some, inl}
use Rattle.std.proofs.Common.{inr, arith, ap, sym, ◌∙◌, List, slice_get, length, nat_le}
use Rattle.std.proofs.lemmas.Bool.Decides.{leb_tells}
use Rattle.sample_book.specs.declared.Row.{Row}
use Rattle.sample_book.specs.declared.RowVerdict.{RowVerdict}
use Rattle.window_sums.specs.Slices.{slice_of, width_of}
use Rattle.office_history.specs.declared.Measure.{Measure}
use Rattle.kept_sums.specs.Replacing.{HasMoved, changes_counts}
use Rattle.kept_sums.proofs.ListLemmas.{place_within}
use Rattle.line_forgetting.specs.Touched.{HasMovedBefore}

-- before the first row there is none
pub none-moved : (m : Measure) (rows : List Row) (verdicts : List RowVerdict) (slice : ℕ) →
    HasMovedBefore m rows verdicts 0 slice → ⊥
none-moved m rows verdicts slice is = none is.before
  where
    none : {n : ℕ} → n < 0 → ⊥
    none h = omega (arith, h)

-- an item at the place of another is that one
pub same_item : {A : Type 0} (xs : List A) (n k : ℕ) (x y : A) → slice_get xs n ≡ Some x →
    slice_get xs k ≡ Some y → k ≡ n → y ≡ x
same_item xs n k x y a b e =
    let both : ◌≡◌ {A = Option _} (Some y) (Some x) = sym b ∙ ap (slice_get xs) e ∙ a in
    cc both

-- a place up to another and with it is before it, or it
pub split : (at k : ℕ) → k < at + 1 → (k < at) ⊎ (k ≡ at)
split at k h = turn (leb_tells (suc k) at)
  where
    turn : ((nat_le (suc k) at ≡ true) × (suc k ≤ at))
        ⊎ ((nat_le (suc k) at ≡ false) × (at < suc k)) → (k < at) ⊎ (k ≡ at)
    turn (inl a) = inl a.1
    turn (inr b) = inr (omega (arith, h, b.1))

-- of the rows up to a place and with it, one moved before it, or it is the row at the place
pub moved-next : (m : Measure) (rows : List Row) (verdicts : List RowVerdict) (width at : ℕ)
    (row : Row) (slice : ℕ) → width ≡ width_of m.method → slice_get rows at ≡ Some row →
    HasMovedBefore m rows verdicts (at + 1) slice →
    HasMovedBefore m rows verdicts at slice ⊎ (slice ≡ row.minute / width)
moved-next m rows verdicts width at row slice widths here is =
    by (split at is.moved.place is.before)
  where
    by : (is.moved.place < at) ⊎ (is.moved.place ≡ at) →
        HasMovedBefore m rows verdicts at slice ⊎ (slice ≡ row.minute / width)
    by (inl less) = inl (record { moved = is.moved; before = less })
    by (inr e) =
        let r = same_item rows at is.moved.place row is.moved.row here is.moved.here e in
        inr (sym is.moved.lies ∙ ap (λ (x : Row). slice_of m.method x.minute) r
        ∙ ap (λ w. row.minute / w) (sym widths))

-- a row that doesn't move isn't one of them
pub moved-passes : (m : Measure) (rows : List Row) (verdicts : List RowVerdict) (at : ℕ) (row : Row)
    (verdict : RowVerdict) (slice : ℕ) → slice_get rows at ≡ Some row →
    slice_get verdicts at ≡ Some verdict → changes_counts m row verdict ≡ false →
    HasMovedBefore m rows verdicts (at + 1) slice → HasMovedBefore m rows verdicts at slice
moved-passes m rows verdicts at row verdict slice here judged still is =
    by (split at is.moved.place is.before)
  where
    by : (is.moved.place < at) ⊎ (is.moved.place ≡ at) → HasMovedBefore m rows verdicts at slice
    by (inl less) = record { moved = is.moved; before = less }
    by (inr e) =
        let r = same_item rows at is.moved.place row is.moved.row here is.moved.here e in
        let v = same_item verdicts at is.moved.place verdict is.moved.verdict judged
        is.moved.judged e in
        let no : true ≡ false = sym is.moved.moved ∙ ap (λ x. changes_counts m x is.moved.verdict) r
        ∙ ap (changes_counts m row) v ∙ still in
        cc no

-- a row that moves lies in its slice
pub moved-here : (m : Measure) (rows : List Row) (verdicts : List RowVerdict) (width at : ℕ)
    (row : Row) (verdict : RowVerdict) (slice : ℕ) → width ≡ width_of m.method →
    slice_get rows at ≡ Some row → slice_get verdicts at ≡ Some verdict →
    changes_counts m row verdict ≡ true → slice ≡ row.minute / width
    → HasMoved m rows verdicts slice
moved-here m rows verdicts width at row verdict slice widths here judged is lies = record {
  place = at;
  row = row;
  verdict = verdict;
  here = here;
  judged = judged;
  moved = is;
  lies = ap (λ w. row.minute / w) (sym widths) ∙ sym lies;
}

-- all rows are before the end
pub moved-ends : (m : Measure) (rows : List Row) (verdicts : List RowVerdict) (at slice : ℕ) →
    length rows ≤ at → HasMoved m rows verdicts slice → HasMovedBefore m rows verdicts at slice
moved-ends m rows verdicts at slice all moved = record {
  moved = moved;
  before = omega (arith, all, place_within rows moved.place moved.row moved.here);
}
