-- What becomes of the lines as a catalog takes the place of another.
use Rattle.std.specs.Prelude.{◌≡◌, ◌⊎◌, ℕ, List, [], ◌∷◌, Option, None, Some}
use Rattle.std.specs.List.{AllByRecursion, Contains, flat_map}
use Rattle.object_terms.specs.declared.Object.{Object}
use Rattle.catalog_terms.specs.declared.Binding.{Binding}
use Rattle.catalog_terms.specs.Bindings.{bindings}
use Rattle.alert_line.specs.Line.{knowledge}
use Rattle.office_history.specs.Alerts.{Watch, watch_of}
use Rattle.kept_lines.specs.Watches.{IsWatched}
use Rattle.kept_lines.specs.Lines.{watches_of}
use Rattle.kept_lines.specs.declared.kept.WatchLine.{WatchLine}
use Rattle.kept_lines.specs.declared.plan.LinesPlan.{LinesPlan}

-- a line of its alert that knows nothing yet
pub record IsFresh (begin : ℕ) (k : WatchLine) : Type 0 where
  pub rule : k.line.rule ≡ k.watch.rule
  pub target : k.line.target ≡ k.watch.measure.target
  pub origin : k.line.origin ≡ begin
  pub unknown : (minute : ℕ) → knowledge k.line minute ≡ None

-- a plan wants the alerts that the catalog watches, and brings fresh lines of those that the one
-- before didn't watch
pub record IsLinesPlan (begin : ℕ) (before after : List Object) (plan : LinesPlan) : Type 0 where
  pub only : AllByRecursion (IsWatched after) plan.wanted.items
  pub all : (w : Watch) → IsWatched after w → Contains plan.wanted.items w
  pub fresh : AllByRecursion (IsFresh begin) plan.made.items
  pub there : (w : Watch) → Contains plan.wanted.items w →
      Contains (watches_of plan.made.items) w ⊎ IsWatched before w

abbrev pub one_watch : Option Watch → List Watch
one_watch None = []
one_watch (Some w) = w ∷ []

-- what a binding watches, as a list
abbrev pub watches_at : List Object → Binding → List Watch
watches_at members b = one_watch (watch_of members b)

-- what the bindings of a catalog watch, binding by binding
abbrev pub watches_in : List Object → List Watch
watches_in members = flat_map (watches_at members) (bindings members)

-- the alert's line is among those that were made, or among those that were kept
abbrev pub HasLine : List WatchLine → List WatchLine → Watch → Type 0
HasLine kept made w = Contains (watches_of made) w ⊎ Contains (watches_of kept) w
