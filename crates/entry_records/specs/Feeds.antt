-- Feeds: the records of a history from a position on, as bytes.
use Rattle.std.specs.Prelude.{ℕ, ◌+◌, ◌-◌, nat_lt, cond, List, [], ◌∷◌, ◌++◌, length, codes}
use Rattle.std.specs.Int.{w32, to_be_bytes}
use Rattle.entry_records.specs.declared.limits.TheConstants.{MAX_FEED_BYTES}

-- the bytes with which a feed begins
abbrev pub feed_mark : List ℕ
feed_mark = codes "OSLOFEED"

-- each record behind four bytes of its length, and what follows them
abbrev pub with_lengths : List (List ℕ) → List ℕ → List ℕ
with_lengths [] rest = rest
with_lengths (r ∷ rs) rest = to_be_bytes w32 (length r) ++ (r ++ with_lengths rs rest)

-- A feed, and what follows it: the mark, and in four bytes each the office's origin, the position
-- of the first record in the history, and how many records there are; then the records.
abbrev pub feed_text : ℕ → ℕ → List (List ℕ) → List ℕ → List ℕ
feed_text origin first records rest = feed_mark ++ (to_be_bytes w32 origin
    ++ (to_be_bytes w32 first ++ (to_be_bytes w32 (length records) ++ with_lengths records rest)))

-- the room that a feed has behind its head of 20 bytes and so many of records
abbrev pub room_behind : ℕ → ℕ
room_behind bytes = MAX_FEED_BYTES - 20 - bytes

-- the records from the front that fit into so many bytes, each behind its length
abbrev pub that_fit : ℕ → List (List ℕ) → List (List ℕ)
that_fit room [] = []
that_fit room (r ∷ rs) =
    cond (nat_lt room (4 + length r)) [] (r ∷ that_fit (room - (4 + length r)) rs)

-- as many as fit into a feed, and one at least where there is one
abbrev pub fed : List (List ℕ) → List (List ℕ)
fed [] = []
fed (r ∷ rs) = r ∷ that_fit (room_behind (4 + length r)) rs

-- the feed of the records from that position on
abbrev pub feed_of : ℕ → ℕ → List (List ℕ) → List ℕ
feed_of origin first records = feed_text origin first (fed records) []
