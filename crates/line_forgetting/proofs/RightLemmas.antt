-- Lines that know what holds over the samples, and stay right while these change.
use Rattle.std.proofs.Common.{◌≡◌, ℕ, ◌<◌, ◌++◌, not, Bool, true, false, Some, ap, sym, ◌∙◌}
use Rattle.sample_book.specs.Puts.{verdicts}
use Rattle.sample_book.specs.Rows.{current_rows}
use Rattle.slice_method.specs.Leaves.{leaf}
use Rattle.burn_core.specs.declared.AlertRule.{AlertRule}
use Rattle.burn_core.specs.Alert.{reach_of}
use Rattle.burn_core.specs.Condition.{condition}
use Rattle.window_sums.specs.Slices.{CountedDays, width_of}
use Rattle.alert_line.specs.Line.{Line, condition_on, knowledge}
use Rattle.office_history.specs.Alerts.{Watch, holds_at}
use Rattle.office_history.specs.Counts.{Samples, leaf_at, slice_counts}
use Rattle.kept_sums.specs.Replacing.{HasMoved}
use Rattle.kept_sums.specs.Walks.{IsChanged, made_on}
use Rattle.line_forgetting.specs.Right.{AgreeingLinesAreRight, AreAbout, IsRight}
use Rattle.line_forgetting.specs.Right.{LinesStayRightOverBatches, LinesStayRightOverExclusions}
use Rattle.line_forgetting.specs.Right.{LinesStayRightOverLikeExclusions, RightLinesAgree}
use Rattle.line_forgetting.specs.Touched.{Forgets, is_near}
use Rattle.line_forgetting.proofs.NearLemmas.{condition-same, near-is}
use Rattle.line_forgetting.proofs.SliceLemmas.{alike-same, batch-same, exclusion-same}

-- over sums with the leaves of the samples the condition is that of the samples
same-condition : (begin : ℕ) (s : Samples) (w : Watch) (sums : CountedDays) (line : Line) →
    AreAbout begin s w sums line → (minute : ℕ) →
    condition_on line sums minute ≡ holds_at begin s w minute
same-condition begin s w sums line about minute =
    λ i. condition (about.rule i) (about.target i) (about.origin i) (width_of (about.method i))
    (λ slice. about.leaves slice i) minute

pub right-agree : RightLinesAgree
right-agree begin s w sums line about right = record {
  each = λ minute holds e.
      right.each minute holds e ∙ sym (same-condition begin s w sums line about minute);
}

pub agree-right : AgreeingLinesAreRight
agree-right begin s w sums line about agrees = record {
  rule = about.rule;
  target = about.target;
  origin = about.origin;
  each = λ minute holds e.
      agrees.each minute holds e ∙ same-condition begin s w sums line about minute;
}

-- a line that is clear of the slices whose counts change stays right
pub stays-right : (touched : ℕ → Type 0) (begin : ℕ) (s s' : Samples) (w : Watch)
    (before after : Line) → 0 < width_of w.measure.method →
    ((slice : ℕ) → (touched slice → ⊥) →
    slice_counts s w.measure slice ≡ slice_counts s' w.measure slice) →
    Forgets touched (width_of w.measure.method) before after → IsRight begin s w before →
    IsRight begin s' w after
stays-right touched begin s s' w before after some same forgets right = record {
  rule = rule;
  target = alert.target ∙ right.target;
  origin = alert.origin ∙ right.origin;
  each = λ minute holds e.
      right.each minute holds (forgets.only.learnt_nothing minute holds e)
      ∙ condition-same w.rule w.measure.target begin width (leaf_at s w.measure)
      (leaf_at s' w.measure) minute some (λ k a b.
      ap (leaf w.measure.method) (same k (apart minute holds e k
      (near-is width (reach_of w.rule) k minute a b))));
}
  where
    width : ℕ
    width = width_of w.measure.method

    alert : Rattle.alert_line.specs.Line.SameAlert before after
    alert = forgets.only.alert

    rule : after.rule ≡ w.rule
    rule = alert.rule ∙ right.rule

    apart : (minute : ℕ) (holds : Bool) → knowledge after minute ≡ Some holds → (k : ℕ) →
        is_near width (reach_of w.rule) k minute ≡ true → touched k → ⊥
    apart minute holds e k near is =
        let no : true ≡ false =
        sym near ∙ ap (λ (r : AlertRule). is_near width (reach_of r) k minute) (sym rule)
        ∙ forgets.clear k is minute holds e in
        cc no

pub right-over-batches : LinesStayRightOverBatches
right-over-batches begin made rows batch w before after some current =
    stays-right (HasMoved w.measure batch (verdicts rows batch)) begin
    (record { rows = rows; exclusions = made })
    (record { rows = current_rows (rows ++ batch); exclusions = made }) w before after some
    (λ slice free. batch-same w.measure made rows batch slice some current free)

pub right-over-exclusions : LinesStayRightOverExclusions
right-over-exclusions begin made value taken rows w before after some =
    stays-right (IsChanged w.measure made value rows) begin
    (record { rows = rows; exclusions = made_on made value (not taken) })
    (record { rows = rows; exclusions = made_on made value taken }) w before after some
    (λ slice free. exclusion-same w.measure made value taken rows slice some free)

pub right-alike : LinesStayRightOverLikeExclusions
right-alike begin made other rows w line alike right = record {
  rule = right.rule;
  target = right.target;
  origin = right.origin;
  each = λ minute holds e. right.each minute holds e ∙ same minute;
}
  where
    same : (minute : ℕ) →
        holds_at begin (record { rows = rows; exclusions = made }) w minute
        ≡ holds_at begin (record { rows = rows; exclusions = other }) w minute
    same minute = λ i. condition w.rule w.measure.target begin (width_of w.measure.method)
        (λ slice. leaf w.measure.method
        (alike-same w.measure made other rows slice (alike w.measure.slo) i)) minute
