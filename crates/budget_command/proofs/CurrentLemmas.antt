-- What holds of all rows holds of the current ones, and they are no more.
use Rattle.std.proofs.Common.{◌≡◌, ◌≤◌, ◌<◌, ◌+◌, ◌∙◌, ℕ, List, [], ◌∷◌, ◌++◌, Bool, true, false}
use Rattle.std.proofs.Common.{All, arith, ap, refl, sym}
use Rattle.std.specs.Prelude.{Ok, Err}
use Rattle.std.proofs.lemmas.Bool.Decides.{nat_tests}
use Rattle.std.proofs.Common.{length, length-append, filter, fold, map, nat_lt, not, if◌then◌else◌}
use Rattle.std.proofs.lemmas.List.Elements.{All-cons, All-filter, All-head, All-nil, All-push}
use Rattle.std.proofs.lemmas.List.Elements.{All-tail}
use Rattle.slo_terms.specs.Rows.{first_of_each, newer, newest}
use Rattle.sample_book.specs.declared.Row.{Row}
use Rattle.sample_book.specs.Rows.{current_rows, same_cell, verdict_of}
use Rattle.sample_book.specs.History.{is_put}
use Rattle.sample_book.specs.declared.RowVerdict.{RowVerdict}
use Rattle.sample_book.specs.declared.RowVerdict.TheVariants.{New, Newer, Repeated, Superseded}
use Rattle.sample_book.specs.declared.RowVerdict.TheVariants.{Conflict}
use Rattle.sample_book.specs.Puts.{IsPutInto, behind, in_place, is_new}
use Rattle.slo_limits.specs.declared.TheConstants.{MAX_CELLS}
use Rattle.budget_command.specs.declared.fault.RecordFault.TheVariants as fault
use Rattle.budget_command.specs.Records.{row_by_verdict}
use Rattle.budget_command.specs.Tables.{one_if, rows_after}

newer-holds : {A : Type 0} (P : A → Type 0) (revision_of : A → ℕ) (kept row : A) → P kept → P row
    → P (newer revision_of kept row)
newer-holds P revision_of kept row k r = by (nat_lt (revision_of kept) (revision_of row))
  where
    by : (b : Bool) → P (if b then row else kept)
    by true = r
    by false = k

fold-holds : {A : Type 0} (P : A → Type 0) (revision_of : A → ℕ) (kept : A) (rows : List A) → P kept
    → All P rows → P (fold (newer revision_of) kept rows)
fold-holds P revision_of kept [] k all = k
fold-holds P revision_of kept (row ∷ rows) k all =
    fold-holds P revision_of (newer revision_of kept row) rows
    (newer-holds P revision_of kept row k (All-head P row rows all)) (All-tail P row rows all)

first-holds : {A : Type 0} (P : A → Type 0) (same : A → A → Bool) (rows : List A) → All P rows
    → All P (first_of_each same rows)
first-holds P same [] all = All-nil P
first-holds P same (row ∷ rows) all =
    All-cons P row _ (All-head P row rows all)
    (All-filter (λ later. not (same row later)) P (first_of_each same rows)
    (first-holds P same rows (All-tail P row rows all)))

newest-holds : {A : Type 0} (P : A → Type 0) (same : A → A → Bool) (revision_of : A → ℕ)
    (rows xs : List A) → All P rows → All P xs →
    All P (map (newest same revision_of rows) xs)
newest-holds P same revision_of rows [] all each = All-nil P
newest-holds P same revision_of rows (x ∷ xs) all each =
    All-cons P _ _ (fold-holds P revision_of x (filter (same x) rows) (All-head P x xs each)
    (All-filter (same x) P rows all))
    (newest-holds P same revision_of rows xs all (All-tail P x xs each))

current-holds : (P : Row → Type 0) (rows : List Row) → All P rows → All P (current_rows rows)
current-holds P rows all = newest-holds P same_cell (λ row. row.revision) rows
    (first_of_each same_cell rows) all (first-holds P same_cell rows all)

-- What holds of the rows and of one that comes holds of those after it.
pub after-holds : (P : Row → Type 0) (rows : List Row) (row : Row) → All P rows → P row
    → All P (rows_after rows row)
after-holds P rows row all holds = by (is_put (verdict_of rows row))
  where
    by : (b : Bool) → All P (if b then current_rows (rows ++ row ∷ []) else rows)
    by true = current-holds P (rows ++ row ∷ []) (All-push P rows row all holds)
    by false = all

-- A row that is put is one more where it is new.
pub length-put : (rows after : List Row) (row : Row) (verdict : RowVerdict)
    → IsPutInto rows row verdict after → length after ≤ length rows + one_if (is_new verdict)
length-put _ _ _ _ (behind rows row) = omega (arith, length-append rows (row ∷ []))
length-put _ _ _ _ (in_place before after kept row same) = omega
    (arith, length-append before (kept ∷ after), length-append before (row ∷ after))

-- a row that isn't put changes nothing
unmoved : (rows after : List Row) (row : Row) (verdict : RowVerdict)
    → verdict ≡ verdict_of rows row → after ≡ rows_after rows row → is_put verdict ≡ false →
    length after ≡ length rows
unmoved rows after row verdict v e passed =
    ap (λ (rs : List Row). length rs) e
    ∙ ap (λ (b : Bool). length (if b then current_rows (rows ++ row ∷ []) else rows))
    (ap is_put (sym v) ∙ passed)

-- A row that is taken leaves no more rows than there may be.
pub few-after : (rows after : List Row) (row : Row) (verdict : RowVerdict)
    → verdict ≡ verdict_of rows row → after ≡ rows_after rows row →
    (is_put verdict ≡ true → IsPutInto rows row verdict after) →
    row_by_verdict (length rows) verdict row ≡ Ok row → length rows ≤ MAX_CELLS
    → length after ≤ MAX_CELLS
few-after rows after row New v e put taken few =
    let more = length-put rows after row New (put refl) in
    let room = room_left (nat_lt (length rows) MAX_CELLS) refl taken in
    omega (arith, more, room)
  where
    room_left : (b : Bool) → nat_lt (length rows) MAX_CELLS ≡ b
        → (if b then Ok row else Err fault.Limit) ≡ Ok row → length rows < MAX_CELLS
    room_left true lt h = grind (arith, nat_tests, lt)
    room_left false lt h = cc h
few-after rows after row (Newer old) v e put taken few =
    let more = length-put rows after row (Newer old) (put refl) in
    omega (arith, more, few)
few-after rows after row Repeated v e put taken few =
    let same = unmoved rows after row Repeated v e refl in omega (arith, same, few)
few-after rows after row (Superseded revision) v e put taken few =
    let same = unmoved rows after row (Superseded revision) v e refl in omega (arith, same, few)
few-after rows after row (Conflict kept) v e put taken few =
    let same = unmoved rows after row (Conflict kept) v e refl in omega (arith, same, few)
