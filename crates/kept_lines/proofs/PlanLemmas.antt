-- What is known of the lines that a plan needs, and of the alerts that it wants.
use Rattle.std.proofs.Common.{◌≡◌, ◌⊎◌, inl, inr, List, [], ◌∷◌, Option, Some, None, arith, refl}
use Rattle.std.proofs.Common.{sym, subst}
use Rattle.std.specs.List.{AllByRecursion, Contains, flat_map}
use Rattle.std.proofs.lemmas.List.Elements.{All-contains, All-contains_itself, All-from_recursion}
use Rattle.std.proofs.lemmas.List.Elements.{All-map, recursion_from_All}
use Rattle.object_terms.specs.declared.Object.{Object}
use Rattle.catalog_terms.specs.declared.Binding.{Binding}
use Rattle.catalog_terms.specs.Bindings.{bindings}
use Rattle.office_history.specs.Alerts.{Watch, watch_of}
use Rattle.kept_sums.proofs.KeyLemmas.{all_append, flat_contains}
use Rattle.kept_lines.specs.Watches.{IsWatched}
use Rattle.kept_lines.specs.Lines.{AreWatched, watches_of}
use Rattle.kept_lines.specs.Plans.{HasLine, one_watch, watches_at, watches_in}
use Rattle.kept_lines.specs.declared.kept.WatchLine.{WatchLine}

-- LINES

-- what a line is of that was kept was watched
kept_watched : (before : List Object) (kept : List WatchLine) (w : Watch) →
    AreWatched before kept → Contains (watches_of kept) w → IsWatched before w
kept_watched before kept w all has =
    All-contains (IsWatched before) (watches_of kept) w
    (All-map (IsWatched before) (λ (k : WatchLine). k.watch) kept
    (All-from_recursion (λ (k : WatchLine). IsWatched before k.watch) kept all)) has

-- an alert that has a line has one that was made, or was watched before
pub has_or_watched : (before : List Object) (kept made : List WatchLine) (w : Watch) →
    AreWatched before kept → HasLine kept made w → Contains (watches_of made) w ⊎ IsWatched before w
has_or_watched before kept made w all (inl has) = inl has
has_or_watched before kept made w all (inr has) = inr (kept_watched before kept w all has)

-- WATCHES

one_watched : (members : List Object) (b : Binding) → Contains (bindings members) b →
    (found : Option Watch) → watch_of members b ≡ found →
    AllByRecursion (IsWatched members) (one_watch found)
one_watched members b among None is = tt
one_watched members b among (Some w) is =
    (record { binding = b; among = among; watches = is }, tt)

all_watched : (members : List Object) (bs : List Binding) →
    AllByRecursion (Contains (bindings members)) bs →
    AllByRecursion (IsWatched members) (flat_map (watches_at members) bs)
all_watched members [] among = tt
all_watched members (b ∷ bs) among =
    all_append (IsWatched members) (watches_at members b) (flat_map (watches_at members) bs)
    (one_watched members b among.0 (watch_of members b) refl) (all_watched members bs among.1)

-- what the bindings of a catalog watch is watched
pub only_watched : (members : List Object) →
    AllByRecursion (IsWatched members) (watches_in members)
only_watched members =
    all_watched members (bindings members)
    (recursion_from_All (Contains (bindings members)) (bindings members)
    (All-contains_itself (bindings members)))

-- and what is watched is among it
pub each_watched : (members : List Object) (w : Watch) → IsWatched members w →
    Contains (watches_in members) w
each_watched members w is =
    flat_contains (watches_at members) (bindings members) is.binding w is.among
    (subst (λ (found : Option Watch). Contains (one_watch found) w) (sym is.watches) here)
  where
    here : Contains (w ∷ []) w
    here = (0, omega arith, refl)
