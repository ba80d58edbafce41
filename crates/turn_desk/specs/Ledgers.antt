-- What a value with a history is seen as, and how it goes on in one turn.
use Rattle.std.specs.Prelude.{◌≡◌, ℕ, ◌+◌, ◌-◌, ◌^◌, min, nat_le, Bool, List, [], ◌∷◌, ◌++◌, length}
use Rattle.std.specs.Prelude.{◌&&◌, ◌==◌, false, if◌then◌else◌, Some, None}
use Rattle.std.specs.Str.{bytes_eq}
use Rattle.std.specs.declared.option.Option.{Option}
use Rattle.turn_desk.specs.declared.view.Doubt.{Doubt}

-- Root and entries are lists of bytes. The entry in doubt is one of which the value can't say
-- whether it was made.
pub record Ledger : Type 0 where
  pub root : List ℕ
  pub history : List (List ℕ)
  pub doubt : Option (List ℕ)
  pub faults : ℕ

-- nothing is settled, or the entry in doubt is
abbrev pub MaySettle : {E : Type 0} → Option E → List E → Type 0
MaySettle doubt [] = Unit {0}
MaySettle doubt (e ∷ []) = doubt ≡ Some e
MaySettle doubt (e ∷ f ∷ more) = ⊥

-- The root stays. The history goes on by the entry in doubt, if at all, and then by one entry of
-- the caller's own where it added one.
pub record GoesOn (old new : Ledger) (added : Bool) : Type 0 where
  pub settled : List (List ℕ)
  pub own : List (List ℕ)
  pub may : MaySettle old.doubt settled
  pub one : length own ≡ (if added then 1 else 0)
  pub grows : new.history ≡ (old.history ++ settled) ++ own
  pub root : new.root ≡ old.root

-- whether a count of faults rose: it is greater, or stands at its last value
abbrev pub has_risen : ℕ → ℕ → Bool
has_risen before after = nat_le (min (before + 1) (2 ^ 64 - 1)) after

-- the entry in doubt at this place, if there is one
abbrev pub doubt_at : ℕ → Option (List ℕ) → List Doubt
doubt_at place None = []
doubt_at place (Some entry) = record { place = place; entry = entry } ∷ []

-- the entry in doubt behind the history
abbrev pub doubt_of : Ledger → List Doubt
doubt_of ledger = doubt_at (length ledger.history) ledger.doubt

-- the same entry is in doubt at the same place
abbrev pub is_same_doubt : List Doubt → List Doubt → Bool
is_same_doubt (d ∷ ds) (e ∷ es) = (d.place == e.place) && bytes_eq d.entry e.entry
is_same_doubt ds es = false

-- what a turn left in doubt that wasn't so before it
abbrev pub left_in_doubt : Ledger → Ledger → List Doubt
left_in_doubt before after =
    if is_same_doubt (doubt_of before) (doubt_of after) then [] else doubt_of after
