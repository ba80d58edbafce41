-- Laws of feeds.
use Rattle.std.specs.Prelude.{◌≡◌, ℕ, ◌≤◌, ◌<◌, ◌+◌, ◌-◌, List, [], ◌∷◌, ◌++◌, length}
use Rattle.entry_records.specs.declared.limits.TheConstants.{MAX_FEED_BYTES}
use Rattle.entry_records.specs.Feeds.{fed}

-- how many bytes the records take, each behind its length
abbrev pub sized : List (List ℕ) → ℕ
sized [] = 0
sized (r ∷ rs) = 4 + length r + sized rs

-- the first of these records takes more than there is room
abbrev pub IsTooMuch : ℕ → List (List ℕ) → Type 0
IsTooMuch room [] = Unit {0}
IsTooMuch room (r ∷ rs) = room < 4 + length r

-- These records go into a feed: they are from the front of all, and some where there is one. They
-- fit into a feed, or there is one alone; and the next would be too much.
pub record GoIntoFeed (all those : List (List ℕ)) : Type 0 where
  pub left : List (List ℕ)
  pub front : all ≡ those ++ left
  pub some : 1 ≤ length all → 1 ≤ length those
  pub few : 2 ≤ length those → 20 + sized those ≤ MAX_FEED_BYTES
  pub most : IsTooMuch (MAX_FEED_BYTES - (20 + sized those)) left

-- A feed has as many records as fit, and one at least where there is one.
abbrev pub FedAreMost : Type 0
FedAreMost = (records : List (List ℕ)) → GoIntoFeed records (fed records)
