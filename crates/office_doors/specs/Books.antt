-- What a door tells of its visits, and how its calls change that.
use Rattle.std.specs.Prelude.{◌≡◌, ◌<◌, ◌≤◌, List, [], ◌∷◌, ◌++◌, length, Bool, true, false}
use Rattle.std.specs.Prelude.{Option, Some, None, IfSome, ⊤}

-- What a door tells of its visits, each as it was when it went out or came back.
pub record Book (V : Type 0) : Type 0 where
  pub handed : List V
  pub back : List V
  -- the visits that it has left
  pub left : List V
  -- whether its last answer to `next` was that there are no more
  pub ended : Bool

-- A change of what an object tells. Whether it tells doesn't change.
abbrev pub Moves : {B : Type 0} → (B → B → Type 0) → Option B → Option B → Type 0
Moves Change None None = ⊤
Moves Change None (Some new) = ⊥
Moves Change (Some old) None = ⊥
Moves Change (Some old) (Some new) = Change old new

-- a fact of what an object tells, where it does
abbrev pub WhereTold : {B : Type 0} → (B → Type 0) → Option B → Type 0
WhereTold Fact told = IfSome told Fact

-- the first visit that is left is handed out
pub record HandsOut {V : Type 0} (visit : V) (old new : Book V) : Type 0 where
  pub first : old.left ≡ visit ∷ new.left
  pub handed : new.handed ≡ old.handed ++ visit ∷ []
  pub back : new.back ≡ old.back
  pub goes_on : new.ended ≡ false

-- all visits were handed out before
pub record FindsNone {V : Type 0} (old new : Book V) : Type 0 where
  pub none_left : old.left ≡ []
  pub same : new ≡ record old { ended = true }

-- no visit is handed out, and none is lost
abbrev pub FailsToHand : {V : Type 0} → Book V → Book V → Type 0
FailsToHand old new = new ≡ record old { ended = false }

-- a visit came back
abbrev pub TakesBack : {V : Type 0} → V → Book V → Book V → Type 0
TakesBack visit old new = new ≡ record old { back = old.back ++ visit ∷ [] }

-- fewer visits came back than were handed out
abbrev pub HasOneOut : {V : Type 0} → Book V → Type 0
HasOneOut book = length book.back < length book.handed

-- never more visits came back than were handed out
abbrev pub IsWithin : {V : Type 0} → Book V → Type 0
IsWithin book = length book.back ≤ length book.handed

-- all visits that were handed out came back
abbrev pub HasAllBack : {V : Type 0} → Book V → Type 0
HasAllBack book = length book.back ≡ length book.handed

-- a door that was opened just now
pub record IsFresh {V : Type 0} (book : Book V) : Type 0 where
  pub none_handed : book.handed ≡ []
  pub none_back : book.back ≡ []
  pub not_ended : book.ended ≡ false
