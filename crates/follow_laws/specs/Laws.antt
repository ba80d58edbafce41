-- Laws of following.
use Rattle.std.specs.Prelude.{◌≡◌, ℕ, suc, ◌≤◌, ◌<◌, ◌^◌, List, [], ◌∷◌, ◌++◌, take, length}
use Rattle.std.specs.List.{AllByRecursion}
use Rattle.record_form.specs.declared.Entry.{Entry}
use Rattle.record_form.specs.Ranges.{FitsRecord}
use Rattle.office_history.specs.History.{Office}
use Rattle.office_history.specs.Legal.{IsLegal, office}
use Rattle.follow_terms.specs.declared.FollowEnd.{FollowEnd}
use Rattle.follow_terms.specs.declared.FollowEnd.TheVariants as ends
use Rattle.follow_terms.specs.Follows.{Place, Between, Follows, IsDiskEnd, IsOutside, Says}
use Rattle.follow_terms.specs.Prefixes.{Asked, AreFeedsOf, furthest}

-- the ends that true feeds can have
abbrev pub IsHarmless : FollowEnd → Type 0
IsHarmless ends.Done = Unit {0}
IsHarmless ends.ReadFault = Unit {0}
IsHarmless ends.TooLarge = Unit {0}
IsHarmless ends.Cut = ⊥
IsHarmless (ends.Broken at) = ⊥
IsHarmless (ends.OtherOrigin origin) = ⊥
IsHarmless (ends.Gap at) = Unit {0}
IsHarmless (ends.Diverges at) = ⊥
IsHarmless (ends.Illegal at) = ⊥
IsHarmless ends.JournalFull = Unit {0}
IsHarmless ends.DiskFault = Unit {0}
IsHarmless ends.NoMemory = Unit {0}

-- The office has a front of the history that begins with what it held, and reaches so far where all
-- was followed.
pub record HasFollowed (origin : ℕ) (g : List Entry) (held reach : ℕ) (last : Office)
    (end : FollowEnd) : Type 0 where
  pub reached : ℕ
  pub least : held ≤ reached
  pub most : reached ≤ length g
  pub office_is : last ≡ office origin (take reached g)
  pub harmless : IsHarmless end
  pub whole : end ≡ ends.Done → reached ≡ reach

-- A history that an office keeps: its numbers have 32 bits, and each entry has a record.
pub record IsKeepable (origin : ℕ) (g : List Entry) : Type 0 where
  pub origin_fits : origin < 2 ^ 32
  pub counted : length g < 2 ^ 32
  pub fit : AllByRecursion FitsRecord g

-- Feeds of fronts of a legal history, over an office that holds a front of it, lead to the history.
abbrev pub LeadsToTheHistory : Type 0
LeadsToTheHistory = (origin : ℕ) (g : List Entry) (n at : ℕ) (asked : List Asked) (bytes : List ℕ)
    (last : Office) (end : FollowEnd)
    → IsLegal origin g → IsKeepable origin g → n ≤ length g → AreFeedsOf origin g asked bytes
    → Follows Between (office origin (take n g)) at bytes last end
    → HasFollowed origin g n (furthest g n asked) last end

-- each entry is the input's at its position
abbrev pub AreSaid : ℕ → Place → List ℕ → ℕ → List Entry → Type 0
AreSaid origin place bytes position [] = Unit {0}
AreSaid origin place bytes position (e ∷ es) =
    Says origin place bytes position e × AreSaid origin place bytes (suc position) es

-- What was held stays, and what was taken is the input's.
pub record HasKept (place : Place) (bytes : List ℕ) (o last : Office) : Type 0 where
  pub more : List Entry
  pub origin_is : last.origin ≡ o.origin
  pub history_is : last.history ≡ o.history ++ more
  pub said : AreSaid o.origin place bytes (length o.history) more

-- At each end the office has what it held, and behind it entries of the input at their positions.
abbrev pub KeepsWhatWasHeld : Type 0
KeepsWhatWasHeld = (place : Place) (o : Office) (at : ℕ) (bytes : List ℕ) (last : Office)
    (end : FollowEnd)
    → Follows place o at bytes last end → HasKept place bytes o last

-- ends that neither the office nor the bytes decide
pub data IsFree : FollowEnd → Type 0 where
  by_outside : {end : FollowEnd} → IsOutside end → IsFree end
  by_disk : {end : FollowEnd} → IsDiskEnd end → IsFree end

-- two ends of an input are one, but where one of them is free
pub data Agree (one : Office) (end : FollowEnd) (other : Office) (end2 : FollowEnd) : Type 0 where
  one_free : IsFree end → Agree one end other end2
  other_free : IsFree end2 → Agree one end other end2
  alike : one ≡ other → end ≡ end2 → Agree one end other end2

-- An input has one end, and leaves one office, but where the outside or the disk ended it.
abbrev pub HasOneEnd : Type 0
HasOneEnd = (place : Place) (o : Office) (at : ℕ) (left : List ℕ) (one : Office) (end : FollowEnd)
    (other : Office) (end2 : FollowEnd) → Follows place o at left one end
    → Follows place o at left other end2 → Agree one end other end2
