-- The lines forget only near what an accepted entry touches.
use Rattle.std.proofs.Common.{◌≡◌, ◌≢◌, ◌∙◌, ℕ, ◌++◌, ◌∷◌, ◌||◌, inl, inr, [], Bool, true, false}
use Rattle.std.proofs.Common.{List, Option, Some, ap, cond, refl, slice_get, subst, sym}
use Rattle.std.specs.Global.{Vec}
use Rattle.burn_core.specs.declared.AlertRule.{AlertRule}
use Rattle.burn_core.specs.Alert.{reach_of}
use Rattle.sample_book.specs.declared.Exclusion.{Exclusion}
use Rattle.sample_book.specs.declared.Row.{Row}
use Rattle.sample_book.specs.declared.RowVerdict.{RowVerdict}
use Rattle.sample_book.specs.Counting.{counts_of_minute}
use Rattle.sample_book.specs.Exclusions.{excludes, exclusion_of, is_excluded}
use Rattle.sample_book.specs.Puts.{verdicts}
use Rattle.slice_method.specs.declared.Counts.{Counts}
use Rattle.window_sums.specs.Slices.{no_counts, slice_of, width_of}
use Rattle.alert_line.specs.Line.{Line}
use Rattle.record_form.specs.declared.Entry.{Entry}
use Rattle.office_history.specs.declared.Measure.{Measure}
use Rattle.office_history.specs.Alerts.{Watch}
use Rattle.office_history.specs.Counts.{Samples, counts_at}
use Rattle.office_history.specs.History.{Office, changes_of, current_in, rows_of, with_entry}
use Rattle.office_history.specs.Notices.{samples_in}
use Rattle.kept_sums.specs.Replacing.{HasMoved}
use Rattle.kept_sums.specs.Sums.{row_counts}
use Rattle.kept_sums.specs.Walks.{IsChanged, made_on}
use Rattle.line_forgetting.specs.Right.{IsRight}
use Rattle.line_forgetting.specs.Touched.{is_near}
use Rattle.office_derived.specs.declared.Derived.{Derived}
use Rattle.office_derived.specs.declared.BatchTally.{BatchTally}
use Rattle.office_derived.specs.declared.Work.{Work}
use Rattle.office_derived.specs.declared.Work.TheVariants as works
use Rattle.office_derived.specs.Derived.{IsNext, Reflects, command_of, entry_of}
use Rattle.sample_changes.proofs.Following.{made_anew}
use Rattle.kept_lines.specs.Changes.{AllForget, ForgetsNear, IsChangedBy, IsMovedBy}
use Rattle.kept_lines.specs.Known.{IsLineOf}
use Rattle.kept_lines.specs.Lines.{AreRight}
use Rattle.kept_lines.specs.Sums.{samples_of}
use Rattle.kept_lines.specs.declared.WatchLine.{WatchLine}
use Rattle.kept_lines.proofs.KnownLemmas.{line_again, of_line, one_line}
use Rattle.office_core.specs.Forgetting.{ForgetsOnlyNear, IsTouched, brought, counted}
use Rattle.office_core.proofs.LinesLemmas.{same_rows}
use Rattle.office_core.proofs.TouchedLemmas.{changed_minute}

-- lines that are found again as they were forget nothing
pub forgets_none : (o : Office) (e : Entry) (old new : List WatchLine) →
    ((w : Watch) (before after : Line) → IsLineOf old w before → IsLineOf new w after →
    after ≡ before) → ForgetsOnlyNear o e old new
forgets_none o e old new same = record {
  each = λ w before after was is minute holds known apart.
      rw (same w before after was is) known;
}

pub forgets_still : (o : Office) (e : Entry) (kept : List WatchLine) → ForgetsOnlyNear o e kept kept
forgets_still o e kept =
    forgets_none o e kept kept (λ w before after was is. one_line kept w after before is was)

-- the line of an alert is of its rule
line_rule : (begin : ℕ) (s : Samples) (kept : List WatchLine) (w : Watch) (line : Line) →
    AreRight begin s kept → IsLineOf kept w line → line.rule ≡ w.rule
line_rule begin s [] w line right is = absurd is
line_rule begin s (k ∷ kept) w line right (inl here) =
    ap (λ (l : Line). l.rule) (sym here.1) ∙ right.0.rule ∙ ap (λ (v : Watch). v.rule) here.0
line_rule begin s (k ∷ kept) w line right (inr there) =
    line_rule begin s kept w line right.1 there.1

-- so do lines that forget near slices that the entry touches
pub forgets_apart : (begin : ℕ) (s : Samples) (o : Office) (e : Entry)
    (touched : Watch → ℕ → Type 0) (old new : List WatchLine) → AreRight begin s old →
    AllForget touched old new →
    ((w : Watch) (slice : ℕ) → touched w slice → IsTouched o e w.measure slice) →
    ForgetsOnlyNear o e old new
forgets_apart begin s o e touched old new right all touches = record {
  each = λ w before after was is minute holds known apart.
      let line = (line_again (ForgetsNear touched) (λ k k' f. f.watch)
      (λ k k' f. record { watch = f.watch; line = f.line }) old new w before after all was is).line
      in
      let rule = line_rule begin s old w before right was in
      line.only.kept minute holds known
      (λ slice is_touched. subst (λ (r : AlertRule).
      is_near (width_of w.measure.method) (reach_of r) slice minute ≡ false) (sym rule)
      (apart slice (touches w slice is_touched)));
}

-- the samples that are kept are the history's
samples : (d : Derived) (o : Office) → Reflects d o → samples_in o.history ≡ samples_of d.book
samples d o r = λ i. record { rows = sym r.rows i; exclusions = sym r.exclusions i }

-- A BATCH

pub batch_forgets : (d : Derived) (o : Office) (m : ℕ) (rows : List Row) (tally : BatchTally)
    (becomes : Vec RowVerdict) (found : List RowVerdict) (old new : List WatchLine) →
    IsNext d o m (works.Samples rows tally becomes) → found ≡ becomes.items →
    AreRight d.origin (samples_of d.book) old → AllForget (IsMovedBy rows found) old new →
    ForgetsOnlyNear o (entry_of m (works.Samples rows tally becomes)) old new
batch_forgets d o m rows tally becomes found old new n is right all =
    forgets_apart d.origin (samples_of d.book) o
    (entry_of m (works.Samples rows tally becomes)) (IsMovedBy rows found) old new right all
    (λ w slice moved. brought (subst (λ (vs : List RowVerdict). HasMoved w.measure rows vs slice)
    (is ∙ n.found.1) moved))

-- AN EXCLUSION

-- a row that counts otherwise touches its slice
row_touches : (o : Office) (e : Entry) (m : Measure) (slice : ℕ) (rows : List Row)
    (made other : List (Exclusion × Bool)) (place : ℕ) (row : Row) →
    counts_at (samples_in o.history) m row.minute
    ≡ counts_at (record { rows = rows; exclusions = made }) m row.minute →
    counts_at (samples_in (with_entry o e).history) m row.minute
    ≡ counts_at (record { rows = rows; exclusions = other }) m row.minute →
    slice_get rows place ≡ Some row → slice_of m.method row.minute ≡ slice →
    row_counts m made row ≢ row_counts m other row → IsTouched o e m slice
row_touches o e m slice rows made other place row before after here lies differ =
    counted row.minute lies
    (λ same. changed_minute m rows place row made other here differ
    (sym before ∙ same ∙ after))

module _ (d d' : Derived) (o : Office) (m : ℕ) where
  pub exclusion_forgets : (value : Exclusion) (old new : List WatchLine) →
      IsNext d o m (works.Exclude value) →
      Reflects d' (with_entry o (entry_of m (works.Exclude value))) →
      d'.book.exclusions ≡ d.book.exclusions ++ (value, true) ∷ [] →
      AreRight d.origin (samples_of d.book) old → AllForget (IsChangedBy d.book value) old new →
      ForgetsOnlyNear o (entry_of m (works.Exclude value)) old new
  exclusion_forgets value old new n r' made right all =
      forgets_apart d.origin (samples_of d.book) o e (IsChangedBy d.book value) old new right all
      (λ w slice changed. row_touches o e w.measure slice d.book.rows d.book.exclusions
      (d.book.exclusions ++ (value, true) ∷ []) changed.place changed.row
      (ap (λ (s : Samples). counts_at s w.measure changed.row.minute) (samples d o n.reflects))
      (ap (λ (s : Samples). counts_at s w.measure changed.row.minute)
      (samples d' (with_entry o e) r' ∙ after)) changed.here changed.lies changed.changed)
    where
      e : Entry
      e = entry_of m (works.Exclude value)

      rows : d'.book.rows ≡ d.book.rows
      rows = same_rows d d' o e n.reflects r' refl

      after : samples_of d'.book
          ≡ record { rows = d.book.rows; exclusions = d.book.exclusions ++ (value, true) ∷ [] }
      after = λ i. record { rows = rows i; exclusions = made i }

  -- exclusions that take the same minutes leave the same counts
  alike_counts : (measure : Measure) (minute : ℕ) (rows : List Row)
      (made other : List (Exclusion × Bool)) →
      is_excluded made measure.slo minute ≡ is_excluded other measure.slo minute →
      counts_at (record { rows = rows; exclusions = made }) measure minute
      ≡ counts_at (record { rows = rows; exclusions = other }) measure minute
  alike_counts measure minute rows made other same =
      ap (λ (b : Bool). cond b no_counts
      (counts_of_minute measure.reading measure.op measure.value rows measure.sli minute)) same

  pub lifting_forgets : (id : List ℕ) (value : Exclusion) (old new : List WatchLine) →
      IsNext d o m (works.Lift id) → Reflects d' (with_entry o (entry_of m (works.Lift id))) →
      ((slo : List ℕ) (minute : ℕ) → is_excluded d.book.exclusions slo minute
      ≡ (is_excluded d'.book.exclusions slo minute || excludes slo minute (value, true))) →
      AreRight d.origin (samples_of d.book) old → AllForget (IsChangedBy d'.book value) old new →
      ForgetsOnlyNear o (entry_of m (works.Lift id)) old new
  lifting_forgets id value old new n r' lifts right all =
      forgets_apart d.origin (samples_of d.book) o e (IsChangedBy d'.book value) old new right all
      (λ w slice changed. row_touches o e w.measure slice d'.book.rows
      (d'.book.exclusions ++ (value, true) ∷ []) d'.book.exclusions changed.place changed.row
      (ap (λ (s : Samples). counts_at s w.measure changed.row.minute)
      (samples d o n.reflects ∙ before)
      ∙ alike_counts w.measure changed.row.minute d'.book.rows d.book.exclusions
      (d'.book.exclusions ++ (value, true) ∷ [])
      (made_anew d.book.exclusions d'.book.exclusions value lifts w.measure.slo
      changed.row.minute))
      (ap (λ (s : Samples). counts_at s w.measure changed.row.minute)
      (samples d' (with_entry o e) r')) changed.here changed.lies
      (λ same. changed.changed (sym same)))
    where
      e : Entry
      e = entry_of m (works.Lift id)

      rows : d'.book.rows ≡ d.book.rows
      rows = same_rows d d' o e n.reflects r' refl

      before : samples_of d.book ≡ record { rows = d'.book.rows; exclusions = d.book.exclusions }
      before = λ i. record { rows = sym rows i; exclusions = d.book.exclusions }
