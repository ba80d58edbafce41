-- Rows that move and fill a stretch of minutes: the slices of these are those of the rows.
use Rattle.std.proofs.Common.{◌≡◌, ◌⊎◌, ℕ, ◌+◌, ◌*◌, ◌/◌, ◌≤◌, ◌<◌, nat_le, true, false, inl, inr}
use Rattle.std.proofs.Common.{refl, arith, ap, sym, subst, suc, ◌∙◌, List, [], ◌∷◌, ◌++◌, length}
use Rattle.std.proofs.Math.Nat.{div-mul-le_self, mul-le-mul_right}
use Rattle.std.proofs.lemmas.Nat.{div-mul-add, le-div}
use Rattle.std.proofs.lemmas.Bool.Decides.{leb_tells}
use Rattle.std.specs.List.{AllByRecursion}
use Rattle.sample_book.specs.declared.Row.{Row}
use Rattle.sample_book.specs.declared.RowVerdict.{RowVerdict}
use Rattle.sample_book.specs.Puts.{verdicts as verdicts_of}
use Rattle.window_sums.specs.Slices.{width_of}
use Rattle.alert_line.specs.Line.{Line}
use Rattle.office_history.specs.declared.Measure.{Measure}
use Rattle.kept_sums.specs.Replacing.{HasMoved}
use Rattle.kept_sums.proofs.ListLemmas.{all_at}
use Rattle.line_forgetting.specs.Moves.{AreFilled, IsMovedMinute}
use Rattle.line_forgetting.specs.Touched.{Forgets, IsInRun, LAST_MINUTE}
use Rattle.line_forgetting.specs.declared.run.SliceRun.{SliceRun}
use Rattle.line_forgetting.proofs.ForgetLemmas.{forgets-none}

-- a later minute lies in a later slice, or in the same
pub later-slice : (width a b : ℕ) → 0 < width → a ≤ b → a / width ≤ b / width
later-slice width a b some le =
    le-div (a / width) b width some (omega (arith, div-mul-le_self a width, le))

-- a row that moves at a minute of the slice
moved-at : (m : Measure) (rows : List Row) (verdicts : List RowVerdict) (width minute slice : ℕ) →
    width ≡ width_of m.method → minute / width ≡ slice → IsMovedMinute m.sli rows verdicts minute →
    HasMoved m rows verdicts slice
moved-at m rows verdicts width minute slice widths lies is = record {
  place = is.place;
  row = is.row;
  verdict = is.verdict;
  here = is.here;
  judged = is.judged;
  moved = is.moved;
  lies = subst (λ n. is.row.minute / n ≡ slice) widths
      (ap (λ n. n / width) is.is ∙ lies);
}

-- the minute of a row that moves
minute-of : (m : Measure) (rows : List Row) (verdicts : List RowVerdict) (slice : ℕ)
    (moved : HasMoved m rows verdicts slice) → IsMovedMinute m.sli rows verdicts moved.row.minute
minute-of m rows verdicts slice moved = record {
  place = moved.place;
  row = moved.row;
  verdict = moved.verdict;
  here = moved.here;
  judged = moved.judged;
  moved = moved.moved;
  is = refl;
}

-- a minute of a stretch lies in the slice
record HasMinute (width first last slice : ℕ) : Type 0 where
  pub minute : ℕ
  pub inside : IsInRun first last minute
  pub lies : minute / width ≡ slice

-- a slice between those of two minutes begins at a minute between them, or has the first of them
slice-has : (width first last slice : ℕ) → 0 < width → first ≤ last →
    IsInRun (first / width) (last / width) slice → HasMinute width first last slice
slice-has width first last slice some order inside = by (leb_tells first (slice * width))
  where
    begins : slice * width ≤ last
    begins = omega (
      arith,
      mul-le-mul_right {m = slice} {n = last / width} width inside.to,
      div-mul-le_self last width,
    )

    own : slice * width / width ≡ slice
    own =
        let whole : slice * width ≡ slice * width + 0 = omega arith in
        ap (λ n. n / width) whole ∙ div-mul-add slice width 0 some

    one : (a b : ℕ) → a ≤ b → b ≤ a → a ≡ b
    one a b le ge = omega (arith, le, ge)

    by : ((nat_le first (slice * width) ≡ true) × (first ≤ slice * width))
        ⊎ ((nat_le first (slice * width) ≡ false) × (slice * width < first)) →
        HasMinute width first last slice
    by (inl a) = record {
      minute = slice * width;
      inside = record { from = a.1; to = begins };
      lies = own;
    }
    by (inr b) = record {
      minute = first;
      inside = record { from = omega arith; to = order };
      lies = one (first / width) slice inside.from
          (le-div slice first width some (omega (arith, b.1)));
    }

-- where the slices are the same, what is near them is
pub forgets-alike : (these those : ℕ → Type 0) (width : ℕ) (before after : Line) →
    ((slice : ℕ) → these slice → those slice) → ((slice : ℕ) → those slice → these slice) →
    Forgets these width before after → Forgets those width before after
forgets-alike these those width before after to back forgets = record {
  only = record {
    alert = forgets.only.alert;
    kept = λ minute holds e apart.
        forgets.only.kept minute holds e (λ slice is. apart slice (to slice is));
    learnt_nothing = forgets.only.learnt_nothing;
    agrees = forgets.only.agrees;
  };
  clear = λ slice is. forgets.clear slice (back slice is);
}

-- A line that has forgotten what is near the slices of the stretch has forgotten what is near those
-- of the rows.
pub stretch-forgets : (m : Measure) (rows : List Row) (verdicts : List RowVerdict)
    (width first last : ℕ) (run : SliceRun) (before after : Line) → width ≡ width_of m.method →
    0 < width → AreFilled (IsMovedMinute m.sli rows verdicts) first last →
    run.first ≡ first / width → run.last ≡ last / width →
    Forgets (IsInRun run.first run.last) width before after →
    Forgets (HasMoved m rows verdicts) width before after
stretch-forgets m rows verdicts width first last run before after widths some filled begin end =
    forgets-alike (IsInRun run.first run.last) (HasMoved m rows verdicts) width before after
    (λ slice inside. to slice (subst (λ n. IsInRun n run.last slice) begin inside)) back
  where
    to : (slice : ℕ) → IsInRun (first / width) run.last slice → HasMoved m rows verdicts slice
    to slice inside =
        let has = slice-has width first last slice some filled.order
        (subst (λ n. IsInRun (first / width) n slice) end inside) in
        moved-at m rows verdicts width has.minute slice widths has.lies
        (filled.filled has.minute has.inside)

    back : (slice : ℕ) → HasMoved m rows verdicts slice → IsInRun run.first run.last slice
    back slice moved =
        let inside = filled.within moved.row.minute (minute-of m rows verdicts slice moved) in
        let lies : moved.row.minute / width ≡ slice =
        subst (λ n. moved.row.minute / n ≡ slice) (sym widths) moved.lies in
        subst (IsInRun run.first run.last) lies (record {
          from = subst (λ n. n ≤ moved.row.minute / width) (sym begin)
              (later-slice width first moved.row.minute some inside.from);
          to = subst (λ n. moved.row.minute / width ≤ n) (sym end)
              (later-slice width moved.row.minute last some inside.to);
        })

-- where no row moves, nothing has to be forgotten
pub nothing-forgets : (m : Measure) (rows : List Row) (verdicts : List RowVerdict) (width : ℕ)
    (line : Line) → ((minute : ℕ) → IsMovedMinute m.sli rows verdicts minute → ⊥) →
    Forgets (HasMoved m rows verdicts) width line line
nothing-forgets m rows verdicts width line none =
    forgets-none (HasMoved m rows verdicts) width line
    (λ slice moved. none moved.row.minute (minute-of m rows verdicts slice moved))

-- the last minute of rows that move is one of a row
pub stretch-early : (sli : List ℕ) (rows : List Row) (verdicts : List RowVerdict)
    (first last : ℕ) → AreFilled (IsMovedMinute sli rows verdicts) first last →
    AllByRecursion (λ (row : Row). row.minute ≤ LAST_MINUTE) rows → last ≤ LAST_MINUTE
stretch-early sli rows verdicts first last filled early =
    let is = filled.filled last (record { from = filled.order; to = omega arith }) in
    subst (λ n. n ≤ LAST_MINUTE) is.is
    (all_at (λ (row : Row). row.minute ≤ LAST_MINUTE) rows is.place is.row is.here early)

-- each row of a batch has a verdict
pub all-judged : (came rows : List Row) → length (verdicts_of came rows) ≡ length rows
all-judged came [] = refl
all-judged came (row ∷ rows) = ap suc (all-judged (came ++ row ∷ []) rows)
