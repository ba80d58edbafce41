-- How the bindings of a catalog stand.
use Rattle.std.specs.Prelude.{ℕ}
use Rattle.burn_core.specs.declared.State.{State}
use Rattle.catalog_terms.specs.declared.Binding.{Binding}
use Rattle.office_history.specs.Alerts.{state_if, watch_of}
use Rattle.office_derived.specs.declared.Derived.{Derived}
use Rattle.kept_lines.specs.Sums.{samples_of}

-- a binding with its state at a minute
abbrev pub with_state : Derived → ℕ → Binding → Binding × State
with_state d minute b =
    (b, state_if d.origin (samples_of d.book) minute (watch_of d.catalog b))
