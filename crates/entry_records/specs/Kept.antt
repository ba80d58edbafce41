-- The entries that are kept as their records.
use Rattle.std.specs.Prelude.{◌≡◌, ◌≤◌, ◌+◌, ◌-◌, ℕ, zero, suc, List, [], ◌∷◌, ◌++◌, length, map}
use Rattle.std.specs.Prelude.{take, drop, slice_get, Some}
use Rattle.record_form.specs.declared.Entry.{Entry}
use Rattle.record_form.specs.Records.{record_of}
use Rattle.record_form.specs.Histories.{AreRecords, history_of}

-- the entries, and for how many bytes and places there is room
pub record Entries : Type 0 where
  pub history : List Entry
  pub spare : ℕ
  pub places : ℕ

-- records one behind another
abbrev pub joined : List (List ℕ) → List ℕ
joined [] = []
joined (r ∷ rs) = r ++ joined rs

-- where each record ends, the first of which begins there
abbrev pub ends_from : ℕ → List (List ℕ) → List ℕ
ends_from at [] = []
ends_from at (r ∷ rs) = (at + length r) ∷ ends_from (at + length r) rs

-- where the record at a place begins
abbrev pub start_of : ℕ → List (List ℕ) → ℕ → ℕ
start_of at rs zero = at
start_of at [] (suc i) = at
start_of at (r ∷ rs) (suc i) = start_of (at + length r) rs i

-- the records of the history that the bytes stand for
abbrev pub records_in : List ℕ → List (List ℕ)
records_in bytes = map record_of (history_of bytes)

-- the bytes are these records, and these are their ends
pub record Holds (bytes ends : List ℕ) (rs : List (List ℕ)) : Type 0 where
  pub bytes_are : bytes ≡ joined rs
  pub ends_are : ends ≡ ends_from 0 rs

-- The bytes are the records of the history that they stand for, with their ends, and few enough
-- for ends of 32 bits.
pub record IsKept (bytes ends : List ℕ) : Type 0 where
  pub records : AreRecords bytes
  pub holds : Holds bytes ends (records_in bytes)
  pub few : length bytes ≤ 4294967295
  pub counted : length (history_of bytes) ≤ length bytes

-- The record at a place is the bytes from this start to this end.
pub record IsAt (bytes : List ℕ) (rs : List (List ℕ)) (i end start : ℕ) : Type 0 where
  pub ordered : start ≤ end
  pub within : end ≤ length bytes
  pub piece : slice_get rs i ≡ Some (take (end - start) (drop start bytes))

-- how many bytes a record takes in a feed, with its length before it
abbrev pub taken_by : List ℕ → ℕ
taken_by r = 4 + length r
