-- What is told of the minutes of rows that move, row by row.
use Rattle.std.proofs.Common.{◌≡◌, ◌⊎◌, ℕ, ◌+◌, ◌-◌, ◌≤◌, ◌<◌, ◌==◌, ◌&&◌, nat_le, Bool, true}
use Rattle.std.proofs.Common.{false, Some, inl, inr, refl, arith, ap, sym, subst, ◌∙◌, List}
use Rattle.std.proofs.Common.{length, slice_get, if◌then◌else◌}
use Rattle.std.proofs.lemmas.Bool.{and_parts}
use Rattle.std.proofs.lemmas.Bool.Decides.{leb_tells, nat_tests}
use Rattle.sample_book.specs.declared.Row.{Row}
use Rattle.sample_book.specs.declared.RowVerdict.{RowVerdict}
use Rattle.sample_book.specs.Counting.{is_of}
use Rattle.sample_book.specs.History.{is_put}
use Rattle.kept_sums.proofs.ListLemmas.{place_within}
use Rattle.line_forgetting.specs.Moves.{AreFilled, AreTold, IsMovedMinute, IsMovedSoFar}
use Rattle.line_forgetting.specs.Moves.{with_minute}
use Rattle.line_forgetting.specs.Touched.{IsInRun}
use Rattle.line_forgetting.specs.declared.moves.MovedMinutes.{MovedMinutes}
use Rattle.line_forgetting.specs.declared.moves.MovedMinutes.TheVariants.{Nothing, Scattered}
use Rattle.line_forgetting.specs.declared.moves.MovedMinutes.TheVariants.{Stretch}
use Rattle.line_forgetting.proofs.MovedLemmas.{same_item, split}

-- the same minutes in other words
pub told-same : (these those : ℕ → Type 0) (minutes : MovedMinutes) →
    ((minute : ℕ) → those minute → these minute) → ((minute : ℕ) → these minute → those minute) →
    AreTold these minutes → AreTold those minutes
told-same these those Nothing back to told = λ minute is. told minute (back minute is)
told-same these those (Stretch first last) back to told = record {
  order = told.order;
  within = λ minute is. told.within minute (back minute is);
  filled = λ minute inside. to minute (told.filled minute inside);
}
told-same these those Scattered back to told = tt

one-behind : (a b : ℕ) → (a - b == 1) ≡ true → a ≡ b + 1
one-behind a b e = grind (arith, nat_tests, e)

-- a minute up to one behind the last is up to the last, or that one
up-to : (minute last : ℕ) → minute ≤ last + 1 → (minute ≤ last) ⊎ (minute ≡ last + 1)
up-to minute last le = turn (leb_tells minute last)
  where
    turn : ((nat_le minute last ≡ true) × (minute ≤ last))
        ⊎ ((nat_le minute last ≡ false) × (last < minute)) → (minute ≤ last) ⊎ (minute ≡ last + 1)
    turn (inl a) = inl a.1
    turn (inr b) = inr (omega (arith, le, b.1))

-- a minute from one before the first on is from the first on, or that one
down-to : (minute first : ℕ) → first ≤ minute + 1 → (first ≤ minute) ⊎ (first ≡ minute + 1)
down-to minute first le = turn (leb_tells first minute)
  where
    turn : ((nat_le first minute ≡ true) × (first ≤ minute))
        ⊎ ((nat_le first minute ≡ false) × (minute < first)) →
        (first ≤ minute) ⊎ (first ≡ minute + 1)
    turn (inl a) = inl a.1
    turn (inr b) = inr (omega (arith, le, b.1))

-- minutes that fill a stretch, with one of its own
filled-still : (these those : ℕ → Type 0) (first last more : ℕ) → IsInRun first last more →
    ((minute : ℕ) → those minute → these minute ⊎ (minute ≡ more)) →
    ((minute : ℕ) → these minute → those minute) → AreFilled these first last →
    AreFilled those first last
filled-still these those first last more inside parts still is = record {
  order = is.order;
  within = λ minute b. by minute (parts minute b);
  filled = λ minute b. still minute (is.filled minute b);
}
  where
    by : (minute : ℕ) → these minute ⊎ (minute ≡ more) → IsInRun first last minute
    by minute (inl a) = is.within minute a
    by minute (inr e) = subst (IsInRun first last) (sym e) inside

-- with the one behind it
filled-up : (these those : ℕ → Type 0) (first last more : ℕ) → more ≡ last + 1 →
    ((minute : ℕ) → those minute → these minute ⊎ (minute ≡ more)) →
    ((minute : ℕ) → these minute → those minute) → those more → AreFilled these first last →
    AreFilled those first more
filled-up these those first last more e parts still has is = record {
  order = omega (arith, e, is.order);
  within = λ minute b. by minute (parts minute b);
  filled = λ minute b. mine minute b (up-to minute last (omega (arith, e, b.to)));
}
  where
    by : (minute : ℕ) → these minute ⊎ (minute ≡ more) → IsInRun first more minute
    by minute (inl a) =
        let old = is.within minute a in
        record { from = old.from; to = omega (arith, e, old.to) }
    by minute (inr d) =
        record { from = omega (arith, e, d, is.order); to = omega (arith, d) }

    mine : (minute : ℕ) → IsInRun first more minute → (minute ≤ last) ⊎ (minute ≡ last + 1) →
        those minute
    mine minute b (inl le) = still minute (is.filled minute (record { from = b.from; to = le }))
    mine minute b (inr d) = subst those (e ∙ sym d) has

-- with the one before it
filled-down : (these those : ℕ → Type 0) (first last more : ℕ) → first ≡ more + 1 →
    ((minute : ℕ) → those minute → these minute ⊎ (minute ≡ more)) →
    ((minute : ℕ) → these minute → those minute) → those more → AreFilled these first last →
    AreFilled those more last
filled-down these those first last more e parts still has is = record {
  order = omega (arith, e, is.order);
  within = λ minute b. by minute (parts minute b);
  filled = λ minute b. mine minute b (down-to minute first (omega (arith, e, b.from)));
}
  where
    by : (minute : ℕ) → these minute ⊎ (minute ≡ more) → IsInRun more last minute
    by minute (inl a) =
        let old = is.within minute a in
        record { from = omega (arith, e, old.from); to = old.to }
    by minute (inr d) =
        record { from = omega (arith, d); to = omega (arith, e, d, is.order) }

    mine : (minute : ℕ) → IsInRun more last minute → (first ≤ minute) ⊎ (first ≡ minute + 1) →
        those minute
    mine minute b (inl le) = still minute (is.filled minute (record { from = le; to = b.to }))
    mine minute b (inr d) =
        let same : more ≡ minute = omega (arith, d, e) in
        subst those same has

-- what is told of minutes holds with one more
told-with : (these those : ℕ → Type 0) (minutes : MovedMinutes) (more : ℕ) →
    ((minute : ℕ) → those minute → these minute ⊎ (minute ≡ more)) →
    ((minute : ℕ) → these minute → those minute) → those more → AreTold these minutes →
    AreTold those (with_minute minutes more)
told-with these those Nothing more parts still has told = record {
  order = omega arith;
  within = λ minute b. by minute (parts minute b);
  filled = λ minute b.
      let same : more ≡ minute = omega (arith, b.from, b.to) in
      subst those same has;
}
  where
    by : (minute : ℕ) → these minute ⊎ (minute ≡ more) → IsInRun more more minute
    by minute (inl a) = absurd (told minute a)
    by minute (inr e) = record { from = omega (arith, e); to = omega (arith, e) }
told-with these those (Stretch first last) more parts still has told =
    by (nat_le first more && nat_le more last) (more - last == 1) (first - more == 1) refl refl refl
  where
    inside : (nat_le first more && nat_le more last) ≡ true → IsInRun first last more
    inside e =
        let p = and_parts (nat_le first more) (nat_le more last) e in
        let from : nat_le first more ≡ true = p.0 in
        let to : nat_le more last ≡ true = p.1 in
        record { from = grind (arith, nat_tests, from); to = grind (arith, nat_tests, to) }

    by : (in_it behind before : Bool) → (nat_le first more && nat_le more last) ≡ in_it →
        (more - last == 1) ≡ behind → (first - more == 1) ≡ before →
        AreTold those (if in_it then Stretch first last else if behind then Stretch first more
        else if before then Stretch more last else Scattered)
    by true behind before a b c =
        filled-still these those first last more (inside a) parts still told
    by false true before a b c =
        filled-up these those first last more (one-behind more last b) parts still has told
    by false false true a b c =
        filled-down these those first last more (one-behind first more c) parts still has told
    by false false false a b c = tt
told-with these those Scattered more parts still has told = tt

-- no row has come yet
pub told-begins : (sli : List ℕ) (rows : List Row) (verdicts : List RowVerdict) →
    AreTold (IsMovedSoFar sli rows verdicts 0) Nothing
told-begins sli rows verdicts minute is = none is.before
  where
    none : {n : ℕ} → n < 0 → ⊥
    none h = omega (arith, h)

-- a row more moves
pub told-goes : (sli : List ℕ) (rows : List Row) (verdicts : List RowVerdict) (at : ℕ) (row : Row)
    (verdict : RowVerdict) (minutes : MovedMinutes) → slice_get rows at ≡ Some row →
    slice_get verdicts at ≡ Some verdict → (is_of sli row && is_put verdict) ≡ true →
    AreTold (IsMovedSoFar sli rows verdicts at) minutes →
    AreTold (IsMovedSoFar sli rows verdicts (at + 1)) (with_minute minutes row.minute)
told-goes sli rows verdicts at row verdict minutes here judged moved told =
    told-with (IsMovedSoFar sli rows verdicts at) (IsMovedSoFar sli rows verdicts (at + 1)) minutes
    row.minute (λ minute is. by minute is (split at is.moved.place is.before))
    (λ minute is. record { moved = is.moved; before = omega (arith, is.before) })
    (record {
      moved = record {
        place = at;
        row = row;
        verdict = verdict;
        here = here;
        judged = judged;
        moved = moved;
        is = refl;
      };
      before = omega arith;
    })
    told
  where
    by : (minute : ℕ) (is : IsMovedSoFar sli rows verdicts (at + 1) minute) →
        (is.moved.place < at) ⊎ (is.moved.place ≡ at) →
        IsMovedSoFar sli rows verdicts at minute ⊎ (minute ≡ row.minute)
    by minute is (inl less) = inl (record { moved = is.moved; before = less })
    by minute is (inr e) =
        let same = same_item rows at is.moved.place row is.moved.row here is.moved.here e in
        inr (sym is.moved.is ∙ ap (λ (x : Row). x.minute) same)

-- a row is passed that doesn't move
pub told-passes : (sli : List ℕ) (rows : List Row) (verdicts : List RowVerdict) (at : ℕ)
    (row : Row) (verdict : RowVerdict) (minutes : MovedMinutes) → slice_get rows at ≡ Some row →
    slice_get verdicts at ≡ Some verdict → (is_of sli row && is_put verdict) ≡ false →
    AreTold (IsMovedSoFar sli rows verdicts at) minutes →
    AreTold (IsMovedSoFar sli rows verdicts (at + 1)) minutes
told-passes sli rows verdicts at row verdict minutes here judged still told =
    told-same (IsMovedSoFar sli rows verdicts at) (IsMovedSoFar sli rows verdicts (at + 1)) minutes
    (λ minute is. by minute is (split at is.moved.place is.before))
    (λ minute is. record { moved = is.moved; before = omega (arith, is.before) }) told
  where
    by : (minute : ℕ) (is : IsMovedSoFar sli rows verdicts (at + 1) minute) →
        (is.moved.place < at) ⊎ (is.moved.place ≡ at) → IsMovedSoFar sli rows verdicts at minute
    by minute is (inl less) = record { moved = is.moved; before = less }
    by minute is (inr e) =
        let r = same_item rows at is.moved.place row is.moved.row here is.moved.here e in
        let v = same_item verdicts at is.moved.place verdict is.moved.verdict judged
        is.moved.judged e in
        let no : true ≡ false = sym is.moved.moved
        ∙ ap (λ x. is_of sli x && is_put is.moved.verdict) r
        ∙ ap (λ x. is_of sli row && is_put x) v ∙ still in
        cc no

-- all rows have come
pub told-ends : (sli : List ℕ) (rows : List Row) (verdicts : List RowVerdict) (at : ℕ)
    (minutes : MovedMinutes) → length rows ≤ at →
    AreTold (IsMovedSoFar sli rows verdicts at) minutes →
    AreTold (IsMovedMinute sli rows verdicts) minutes
told-ends sli rows verdicts at minutes all told =
    told-same (IsMovedSoFar sli rows verdicts at) (IsMovedMinute sli rows verdicts) minutes
    (λ minute is. record {
      moved = is;
      before = omega (arith, all, place_within rows is.place is.row is.here);
    })
    (λ minute is. is.moved) told
