-- Feeds of prefixes of one history.
use Rattle.std.specs.Prelude.{◌≡◌, ℕ, ◌≤◌, ◌+◌, max, List, [], ◌∷◌, map, drop, take, length}
use Rattle.std.specs.List.{AllByRecursion}
use Rattle.record_form.specs.declared.Entry.{Entry}
use Rattle.record_form.specs.Records.{record_of}
use Rattle.entry_records.specs.Feeds.{feed_text, fed}

-- a feed of the first `reached` entries from position `from` on
pub record Asked : Type 0 where
  pub reached : ℕ
  pub from : ℕ

-- the records of that feed
abbrev pub records_fed : List Entry → Asked → List (List ℕ)
records_fed g a = fed (map record_of (drop a.from (take a.reached g)))

-- the feeds, one behind another
abbrev pub feeds_text : ℕ → List Entry → List Asked → List ℕ
feeds_text origin g [] = []
feeds_text origin g (a ∷ more) =
    feed_text origin a.from (records_fed g a) (feeds_text origin g more)

-- it can be asked of an office that holds so many entries of the history
pub record CanBeAsked (g : List Entry) (a : Asked) : Type 0 where
  pub from : a.from ≤ a.reached
  pub reached : a.reached ≤ length g

-- The bytes are feeds of prefixes of the history, one behind another.
pub record AreFeedsOf (origin : ℕ) (g : List Entry) (asked : List Asked) (bytes : List ℕ)
    : Type 0 where
  pub spelled : bytes ≡ feeds_text origin g asked
  pub asked_of : AllByRecursion (CanBeAsked g) asked

-- the furthest position that was held or that a feed reached
abbrev pub furthest : List Entry → ℕ → List Asked → ℕ
furthest g held [] = held
furthest g held (a ∷ more) = furthest g (max held (a.from + length (records_fed g a))) more
