-- How the alert of a binding stands.
use Rattle.std.specs.Prelude.{ℕ, Option, option_map}
use Rattle.burn_core.specs.declared.State.{State}
use Rattle.catalog_terms.specs.declared.Binding.{Binding}
use Rattle.office_history.specs.History.{Office}
use Rattle.office_history.specs.Catalog.{catalog_in}
use Rattle.office_history.specs.Alerts.{watched, state_at}
use Rattle.office_history.specs.Notices.{samples_in}

-- the state of a binding at a minute, where it is one of the catalog's
abbrev pub binding_state : Office → Binding → ℕ → Option State
binding_state o b at = option_map (λ w. state_at o.origin (samples_in o.history) w at)
    (watched (catalog_in o.history) b)
