-- Each binding of the catalog stands as its state says.
use Rattle.std.proofs.Common.{◌≡◌, ◌∙◌, ℕ, ◌==◌, ◌||◌, ◌&&◌, Bool, true, cond, List, [], ◌∷◌, ◌++◌}
use Rattle.std.proofs.Common.{map, Option, Some, None, option_map, unwrap_or, refl, ap, sym}
use Rattle.std.proofs.Common.{append_assoc, arith}
use Rattle.std.proofs.Math.Bool.{or-true}
use Rattle.std.proofs.lemmas.Bool.Decides.{nat_tests}
use Rattle.std.proofs.lemmas.List.Folds.{list_any-append}
use Rattle.std.proofs.lemmas.Slice.Eq.{bytes_eq-Decides}
use Rattle.std.specs.List.{list_any}
use Rattle.std.specs.Str.{bytes_eq}
use Rattle.burn_core.specs.declared.State.{State}
use Rattle.burn_core.specs.declared.State.TheVariants.{Quiet}
use Rattle.catalog_terms.specs.declared.Binding.{Binding}
use Rattle.catalog_terms.specs.Bindings.{bindings}
use Rattle.office_history.specs.Alerts.{Watch, same_binding, state_at, state_if, watch_of}
use Rattle.office_history.specs.Catalog.{catalog_in}
use Rattle.office_history.specs.History.{Office}
use Rattle.office_history.specs.Notices.{samples_in, states_over}
use Rattle.history_answers.specs.States.{binding_state}
use Rattle.office_report.specs.Bound.{with_state}

same_bytes : (xs : List ℕ) → bytes_eq xs xs ≡ true
same_bytes xs = (bytes_eq-Decides xs xs).1 refl

same_as_itself : (b : Binding) → same_binding b b ≡ true
same_as_itself b =
    let slo = same_bytes b.slo in
    let policy = same_bytes b.policy in
    let number : (b.objective == b.objective) ≡ true = grind (arith, nat_tests) in
    λ i. slo i && (number i && policy i)

-- a binding that stands between others is one of them
among : (before : List Binding) (b : Binding) (rest : List Binding) →
    list_any (same_binding b) (before ++ b ∷ rest) ≡ true
among before b rest =
    list_any-append (same_binding b) before (b ∷ rest)
    ∙ ap (λ (t : Bool). list_any (same_binding b) before || (t || list_any (same_binding b) rest))
    (same_as_itself b)
    ∙ or-true (list_any (same_binding b) before)

-- the state of what a binding watches; quiet where it watches nothing
abbrev state_of : Office → ℕ → Binding → State
state_of o at b = state_if o.origin (samples_in o.history) at (watch_of (catalog_in o.history) b)

state_of_watch : (o : Office) (at : ℕ) (w : Option Watch) →
    unwrap_or (option_map (λ (w : Watch). state_at o.origin (samples_in o.history) w at) w) Quiet
    ≡ state_if o.origin (samples_in o.history) at w
state_of_watch o at None = refl
state_of_watch o at (Some w) = refl

-- a binding of the catalog has that state
state_of_one : (o : Office) (at : ℕ) (b : Binding) →
    list_any (same_binding b) (bindings (catalog_in o.history)) ≡ true →
    unwrap_or (binding_state o b at) Quiet ≡ state_of o at b
state_of_one o at b is =
    let found = watch_of (catalog_in o.history) b in
    let state = λ (w : Option Watch).
    unwrap_or (option_map (λ (w : Watch). state_at o.origin (samples_in o.history) w at) w)
    Quiet in
    ap (λ (t : Bool). state (cond t found None)) is ∙ state_of_watch o at found

each_from : (o : Office) (at : ℕ) (before rest : List Binding) →
    bindings (catalog_in o.history) ≡ before ++ rest →
    map (with_state o at) rest ≡ map (λ b. (b, state_of o at b)) rest
each_from o at before [] is = refl
each_from o at before (b ∷ rest) is =
    let one = state_of_one o at b (ap (list_any (same_binding b)) is ∙ among before b rest) in
    let more = each_from o at (before ++ b ∷ []) rest
    (is ∙ sym (append_assoc before (b ∷ []) rest)) in
    λ i. (b, one i) ∷ more i

pub states_stand : (o : Office) (at : ℕ) (bs : List Binding) →
    bs ≡ bindings (catalog_in o.history) → map (with_state o at) bs ≡ states_over o at
states_stand o at bs is =
    ap (map (with_state o at)) is ∙ each_from o at [] (bindings (catalog_in o.history)) refl
