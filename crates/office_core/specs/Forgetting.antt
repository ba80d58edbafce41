-- What the lines of alerts may forget as an entry is added.
use Rattle.std.specs.Prelude.{◌≡◌, ◌≢◌, ℕ, Bool, List, Some}
use Rattle.burn_core.specs.Alert.{reach_of}
use Rattle.sample_book.specs.Puts.{verdicts}
use Rattle.window_sums.specs.Slices.{slice_of, width_of}
use Rattle.alert_line.specs.Line.{Line, knowledge}
use Rattle.record_form.specs.declared.Entry.{Entry}
use Rattle.office_history.specs.declared.Measure.{Measure}
use Rattle.office_history.specs.Alerts.{Watch}
use Rattle.office_history.specs.Counts.{counts_at}
use Rattle.office_history.specs.History.{Office, current_in, rows_of, with_entry}
use Rattle.office_history.specs.Notices.{samples_in}
use Rattle.kept_sums.specs.Replacing.{HasMoved}
use Rattle.line_forgetting.specs.Touched.{IsApart}
use Rattle.kept_lines.specs.Known.{IsLineOf}
use Rattle.kept_lines.specs.declared.WatchLine.{WatchLine}

-- An entry touches a slice of an objective: the slice has a minute whose counts the entry changes,
-- or the minute of a new or a newer row of the objective's indicator that the entry brings.
pub data IsTouched (o : Office) (e : Entry) (m : Measure) (slice : ℕ) : Type 0 where
  counted : (minute : ℕ) → slice_of m.method minute ≡ slice
      → counts_at (samples_in o.history) m minute
      ≢ counts_at (samples_in (with_entry o e).history) m minute → IsTouched o e m slice
  brought : HasMoved m (rows_of e.command) (verdicts (current_in o.history) (rows_of e.command))
      slice → IsTouched o e m slice

-- A line of an alert still knows what it knew of each minute that is near no touched slice. Near a
-- slice [l, l + s) are the minutes of [l + s, l + reach + 1).
abbrev pub KnowsApart : (ℕ → Type 0) → Watch → Line → Line → Type 0
KnowsApart touched w before after =
    (minute : ℕ) (holds : Bool) → knowledge before minute ≡ Some holds →
    IsApart touched (width_of w.measure.method) (reach_of w.rule) minute →
    knowledge after minute ≡ Some holds

-- Lines forget only near what an entry touches: of each alert that is watched before it and after
-- it, the line still knows what it knew elsewhere.
pub record ForgetsOnlyNear (o : Office) (e : Entry) (old new : List WatchLine) : Type 0 where
  pub each : (w : Watch) (before after : Line) → IsLineOf old w before → IsLineOf new w after →
      KnowsApart (IsTouched o e w.measure) w before after
