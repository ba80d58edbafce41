-- The states of bindings, one more.
use Rattle.std.proofs.Common.{◌≡◌, ◌∙◌, ℕ, ◌+◌, ◌<◌, ◌++◌, ◌∷◌, [], List, ap, drop, length, map}
use Rattle.std.proofs.Common.{sym}
use Rattle.std.proofs.Math.ListN.{get_or}
use Rattle.std.proofs.lemmas.List.{append_assoc, drop_more}
use Rattle.burn_core.specs.declared.State.{State}
use Rattle.catalog_terms.specs.declared.Binding.{Binding}
use Rattle.office_history.specs.Alerts.{state_if, watch_of}
use Rattle.office_derived.specs.declared.Derived.{Derived}
use Rattle.kept_lines.specs.States.{with_state}
use Rattle.kept_lines.specs.Sums.{samples_of}

-- the states so far with the next, and then those that are left, are those of all
pub next_state : (d : Derived) (minute : ℕ) (bs : List Binding) (i : ℕ) (b : Binding)
    (state : State) (states states' : List (Binding × State)) → i < length bs →
    b ≡ get_or bs i b →
    state ≡ state_if d.origin (samples_of d.book) minute (watch_of d.catalog b) →
    states ++ map (with_state d minute) (drop i bs) ≡ map (with_state d minute) bs →
    states' ≡ states ++ (b, state) ∷ [] →
    states' ++ map (with_state d minute) (drop (i + 1) bs) ≡ map (with_state d minute) bs
next_state d minute bs i b state states states' below item is before more =
    ap (λ (ss : List (Binding × State)). ss ++ map (with_state d minute) (drop (i + 1) bs))
    (more ∙ ap (λ (s : State). states ++ (b, s) ∷ []) is)
    ∙ append_assoc states (with_state d minute b ∷ [])
    (map (with_state d minute) (drop (i + 1) bs))
    ∙ ap (λ (left : List Binding). states ++ map (with_state d minute) left) (sym ahead)
    ∙ before
  where
    ahead : drop i bs ≡ b ∷ drop (i + 1) bs
    ahead = drop_more bs i b below ∙ ap (λ (x : Binding). x ∷ drop (i + 1) bs) (sym item)
