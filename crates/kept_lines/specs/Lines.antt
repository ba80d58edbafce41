-- The lines of the alerts that a catalog watches, over the samples of a history.
use Rattle.std.specs.Prelude.{◌≡◌, ℕ, List, IfSome, Option, Some, map}
use Rattle.std.specs.List.{AllByRecursion, Contains}
use Rattle.object_terms.specs.declared.Object.{Object}
use Rattle.catalog_terms.specs.declared.Binding.{Binding}
use Rattle.alert_line.specs.Line.{Line}
use Rattle.line_forgetting.specs.Right.{IsRight}
use Rattle.office_history.specs.Alerts.{Watch, watch_of}
use Rattle.office_history.specs.Counts.{Samples}
use Rattle.kept_lines.specs.Sums.{samples_of}
use Rattle.kept_lines.specs.Watches.{IsWatched}
use Rattle.office_derived.specs.declared.Derived.{Derived}
use Rattle.kept_lines.specs.declared.kept.WatchLine.{WatchLine}

-- lines, each beside what it watches, and room for more
pub record LinesKept : Type 0 where
  pub kept : List WatchLine
  pub spare : ℕ

-- what the lines watch
abbrev pub watches_of : List WatchLine → List Watch
watches_of kept = map (λ (k : WatchLine). k.watch) kept

-- what is known of them
abbrev pub lines_of : List WatchLine → List Line
lines_of kept = map (λ (k : WatchLine). k.line) kept

-- what they remember: a binding, or none
abbrev pub bounds_of : List WatchLine → List (Option Binding)
bounds_of kept = map (λ (k : WatchLine). k.bound) kept

-- each line knows only what holds over these samples
abbrev pub AreRight : ℕ → Samples → List WatchLine → Type 0
AreRight begin s kept = AllByRecursion (λ (k : WatchLine). IsRight begin s k.watch k.line) kept

-- each line is of an alert that the catalog watches
abbrev pub AreWatched : List Object → List WatchLine → Type 0
AreWatched members kept = AllByRecursion (λ (k : WatchLine). IsWatched members k.watch) kept

-- a line is of what the binding watches that it remembers
abbrev pub IsBound : List Object → WatchLine → Type 0
IsBound members k = IfSome k.bound (λ (b : Binding). watch_of members b ≡ Some k.watch)

abbrev pub AreBound : List Object → List WatchLine → Type 0
AreBound members kept = AllByRecursion (IsBound members) kept

-- the lines are right, are those of just the alerts that the catalog watches, and remember only
-- bindings that watch them
pub record KeepsLines (begin : ℕ) (members : List Object) (s : Samples) (kept : List WatchLine) :
    Type 0 where
  pub right : AreRight begin s kept
  pub only : AreWatched members kept
  pub all : (w : Watch) → IsWatched members w → Contains (watches_of kept) w
  pub bound : AreBound members kept

-- the lines are those of what is kept beside a history
abbrev pub HasLines : Derived → List WatchLine → Type 0
HasLines d kept = KeepsLines d.origin d.catalog (samples_of d.book) kept
