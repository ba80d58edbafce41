-- Where a byte of a text stands, as far as quotes and line feeds ask, and where the text may be
-- cut.
use Rattle.std.specs.Prelude.{◌≡◌, ◌≢◌, ℕ, List, ◌<◌, ◌-◌, Bool, true, false, fold, get_or, length}
use Rattle.std.specs.Prelude.{take, ◌==◌, ◌||◌, if◌then◌else◌}
use Rattle.csv_records.specs.declared.places.Place.{Place}
use Rattle.csv_records.specs.declared.places.Place.TheVariants as place

-- a comma, a carriage return or a line feed ends a field
abbrev pub ends_field : ℕ → Bool
ends_field byte = (byte == 44) || ((byte == 13) || (byte == 10))

-- the place behind a byte of a field in which no quote is open
abbrev pub after_plain : ℕ → Place
after_plain byte = if ends_field byte then place.FieldStart else place.Plain

-- the place behind the first byte of a field: a quote opens it there alone
abbrev pub after_start : ℕ → Place
after_start byte = if byte == 34 then place.Quoted else after_plain byte

-- The place after one more byte. A byte order mark (EF BB BF) at the start of the text is passed
-- over, and a doubled quote within quotes is one quote.
abbrev pub next_place : Place → ℕ → Place
next_place place.TextStart byte = if byte == 0xEF then place.MarkFirst else after_start byte
next_place place.MarkFirst byte = if byte == 0xBB then place.MarkSecond else after_plain byte
next_place place.MarkSecond byte = if byte == 0xBF then place.FieldStart else after_plain byte
next_place place.FieldStart byte = after_start byte
next_place place.Plain byte = after_plain byte
next_place place.Quoted byte = if byte == 34 then place.QuoteEnd else place.Quoted
next_place place.QuoteEnd byte = after_start byte

-- the place after these bytes
abbrev pub place_after : Place → List ℕ → Place
place_after from bytes = fold next_place from bytes

-- between quotes
abbrev pub in_quotes : Place → Bool
in_quotes place.Quoted = true
in_quotes _ = false

-- a line feed outside quotes ends a line
abbrev pub ends_line : Place → ℕ → Bool
ends_line place.Quoted byte = false
ends_line _ byte = byte == 10

-- none of these bytes is a quote
abbrev pub HasNoQuote : List ℕ → Type 0
HasNoQuote bytes = (k : ℕ) → k < length bytes → get_or bytes k 0 ≢ 34

-- Behind so many bytes, read from a place, the text may be cut: the last of them is a line feed
-- that stands in no quotes.
pub record IsCut (from : Place) (bytes : List ℕ) (count : ℕ) : Type 0 where
  pub feed : get_or bytes (count - 1) 0 ≡ 10
  pub outside : in_quotes (place_after from (take (count - 1) bytes)) ≡ false
