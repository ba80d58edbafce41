-- Lines that are right: what they know of a minute is what holds there over the samples.
use Rattle.std.specs.Prelude.{◌≡◌, ℕ, ◌<◌, ◌++◌, not, Bool, List, Some}
use Rattle.sample_book.specs.declared.Exclusion.{Exclusion}
use Rattle.sample_book.specs.declared.Row.{Row}
use Rattle.sample_book.specs.Exclusions.{is_excluded}
use Rattle.sample_book.specs.Puts.{verdicts}
use Rattle.sample_book.specs.Rows.{current_rows}
use Rattle.window_sums.specs.Slices.{CountedDays, width_of, leaf_at as leaf_of_days}
use Rattle.alert_line.specs.Line.{Agrees, Line, knowledge}
use Rattle.office_history.specs.Alerts.{Watch, holds_at}
use Rattle.office_history.specs.Counts.{Samples, leaf_at}
use Rattle.kept_sums.specs.Replacing.{HasMoved}
use Rattle.kept_sums.specs.Walks.{IsChanged, made_on}
use Rattle.line_forgetting.specs.Touched.{Forgets}

-- A line is of a watched alert from the office's origin on, and what it knows of a minute is
-- whether the condition holds there over these samples.
pub record IsRight (begin : ℕ) (s : Samples) (w : Watch) (line : Line) : Type 0 where
  pub rule : line.rule ≡ w.rule
  pub target : line.target ≡ w.measure.target
  pub origin : line.origin ≡ begin
  pub each : (minute : ℕ) (holds : Bool) → knowledge line minute ≡ Some holds →
      holds ≡ holds_at begin s w minute

-- the line is about the alert that is watched, and the sums are those of its objective
pub record AreAbout (begin : ℕ) (s : Samples) (w : Watch) (sums : CountedDays) (line : Line) : Type
    0 where
  pub rule : line.rule ≡ w.rule
  pub target : line.target ≡ w.measure.target
  pub origin : line.origin ≡ begin
  pub method : sums.method ≡ w.measure.method
  pub leaves : (slice : ℕ) → leaf_of_days sums slice ≡ leaf_at s w.measure slice

-- a line that is right agrees with the sums of its objective
abbrev pub RightLinesAgree : Type 0
RightLinesAgree =
    (begin : ℕ) (s : Samples) (w : Watch) (sums : CountedDays) (line : Line) →
    AreAbout begin s w sums line → IsRight begin s w line → Agrees line sums

-- a line that agrees with the sums of its objective is right
abbrev pub AgreeingLinesAreRight : Type 0
AgreeingLinesAreRight =
    (begin : ℕ) (s : Samples) (w : Watch) (sums : CountedDays) (line : Line) →
    AreAbout begin s w sums line → Agrees line sums → IsRight begin s w line

-- A line that is right stays so over a batch of rows, where it has forgotten what is near the
-- slices of the rows that move.
abbrev pub LinesStayRightOverBatches : Type 0
LinesStayRightOverBatches =
    (begin : ℕ) (made : List (Exclusion × Bool)) (rows batch : List Row) (w : Watch)
    (before after : Line) → 0 < width_of w.measure.method → current_rows rows ≡ rows →
    Forgets (HasMoved w.measure batch (verdicts rows batch)) (width_of w.measure.method) before
    after → IsRight begin (record { rows = rows; exclusions = made }) w before →
    IsRight begin (record { rows = current_rows (rows ++ batch); exclusions = made }) w after

-- So it does over an exclusion that is made (`taken`), or one that is lifted.
abbrev pub LinesStayRightOverExclusions : Type 0
LinesStayRightOverExclusions =
    (begin : ℕ) (made : List (Exclusion × Bool)) (value : Exclusion) (taken : Bool)
    (rows : List Row) (w : Watch) (before after : Line) → 0 < width_of w.measure.method →
    Forgets (IsChanged w.measure made value rows) (width_of w.measure.method) before after →
    IsRight begin (record { rows = rows; exclusions = made_on made value (not taken) }) w before →
    IsRight begin (record { rows = rows; exclusions = made_on made value taken }) w after

-- A line that is right is right over other exclusions that take the same minutes.
abbrev pub LinesStayRightOverLikeExclusions : Type 0
LinesStayRightOverLikeExclusions =
    (begin : ℕ) (made other : List (Exclusion × Bool)) (rows : List Row) (w : Watch)
    (line : Line) → ((slo : List ℕ) (minute : ℕ) →
    is_excluded made slo minute ≡ is_excluded other slo minute) →
    IsRight begin (record { rows = rows; exclusions = made }) w line →
    IsRight begin (record { rows = rows; exclusions = other }) w line
