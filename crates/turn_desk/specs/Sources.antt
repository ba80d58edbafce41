-- By whom the entries of a history come.
use Rattle.std.specs.Prelude.{◌≡◌, ◌⊎◌, ℕ, ◌+◌, ◌<◌, false, List, [], ◌∷◌, All, Some, flat_map}
use Rattle.std.specs.Prelude.{slice_get}
use Rattle.turn_desk.specs.Histories.{Has}
use Rattle.turn_desk.specs.Passes.{PassState}
use Rattle.turn_desk.specs.declared.view.Doubt.{Doubt}
use Rattle.turn_desk.specs.declared.view.Opening.{Opening}

-- the entry is among these, at this place
abbrev pub HasDoubt : List Doubt → ℕ → List ℕ → Type 0
HasDoubt [] place entry = ⊥
HasDoubt (d ∷ ds) place entry = ((place ≡ d.place) × (entry ≡ d.entry)) ⊎ HasDoubt ds place entry

-- the entry stood there when the desk was opened, or was in doubt then
abbrev pub IsOld : Opening → ℕ → List ℕ → Type 0
IsOld opening place entry =
    (place < opening.length) ⊎ ((place ≡ opening.length) × (opening.doubt ≡ Some entry))

-- the place is one of these own ones, or the entry is one that was left in doubt there
abbrev pub IsMadeBy : List ℕ → List Doubt → ℕ → List ℕ → Type 0
IsMadeBy own raised place entry = Has own place ⊎ HasDoubt raised place entry

-- Each entry of the history was there when the desk was opened, or in doubt then, or is one of
-- these: there is no other.
abbrev pub Accounts : Opening → List ℕ → List Doubt → List (List ℕ) → Type 0
Accounts opening own raised history =
    (place : ℕ) (entry : List ℕ) → slice_get history place ≡ Some entry
    → IsOld opening place entry ⊎ IsMadeBy own raised place entry

-- a number of each, added up
abbrev pub total : {X : Type 0} → (X → ℕ) → List X → ℕ
total f [] = 0
total f (x ∷ xs) = f x + total f xs

-- These passes stand for all that the desk was opened for, and none was split off them: so no
-- other pass has made an entry.
pub record AreAll (opening : Opening) (passes : List PassState) : Type 0 where
  pub opened : All (λ p. p.opening ≡ opening) passes
  pub whole : total (λ p. p.parts) passes ≡ opening.passes
  pub none_split : All (λ p. p.has_split ≡ false) passes

-- all own positions of passes, and all that they left in doubt
abbrev pub own_of : List PassState → List ℕ
own_of passes = flat_map (λ p. p.own) passes

abbrev pub raised_of : List PassState → List Doubt
raised_of passes = flat_map (λ p. p.raised) passes
