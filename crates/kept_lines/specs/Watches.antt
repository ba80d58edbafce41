-- The alerts that a catalog watches.
use Rattle.std.specs.Prelude.{◌≡◌, ◌&&◌, ℕ, nat_lt, Bool, false, List, length, Option, None, Some}
use Rattle.std.specs.List.{Contains, list_any}
use Rattle.std.specs.Str.{bytes_eq}
use Rattle.object_terms.specs.Slo.{slo_in}
use Rattle.object_terms.specs.declared.Object.{Object}
use Rattle.object_terms.specs.declared.Slo.{Slo}
use Rattle.catalog_terms.specs.declared.Binding.{Binding}
use Rattle.catalog_terms.specs.Bindings.{bindings}
use Rattle.catalog_terms.specs.References.{names_in}
use Rattle.office_history.specs.Alerts.{Watch, watch_of}

-- the catalog has a binding that watches this
pub record IsWatched (members : List Object) (w : Watch) : Type 0 where
  pub binding : Binding
  pub among : Contains (bindings members) binding
  pub watches : watch_of members binding ≡ Some w

-- an SLO has the objective of a binding, and lists its policy
abbrev pub has_both : Binding → Slo → Bool
has_both b slo = nat_lt b.objective (length slo.objectives)
    && list_any (bytes_eq b.policy) (names_in slo.alert_policies)

-- an object of this name is the SLO of a binding, with its objective and its policy
abbrev pub is_bound_by : Binding → List ℕ → Option Slo → Bool
is_bound_by b name None = false
is_bound_by b name (Some slo) = bytes_eq b.slo name && has_both b slo

abbrev pub is_bound_in : Binding → Object → Bool
is_bound_in b o = is_bound_by b o.name (slo_in o.body)
