-- Lines of fields without quotes, and the places of a text where lines begin.
use Rattle.std.specs.Prelude.{◌≡◌, ◌<◌, ◌≤◌, ◌+◌, ◌-◌, ◌==◌, ◌||◌, ◌∷◌, [], ⊤, ℕ, Bool, List, drop}
use Rattle.std.specs.Prelude.{get_or, length, take}
use Rattle.csv_records.specs.Records.{Fields, csv_records}
use Rattle.plain_fields.specs.declared.line.LineOfFive.{LineOfFive}
use Rattle.plain_fields.specs.declared.line.LineOfSix.{LineOfSix}

-- a byte that stands between fields, ends a line or opens quotes
abbrev pub is_mark : ℕ → Bool
is_mark byte = (byte == 44) || ((byte == 10) || ((byte == 13) || (byte == 34)))

-- the ends of fields: the first one begins at a place, and each other one behind the end before it
abbrev pub AreEnds : ℕ → List ℕ → Type 0
AreEnds from [] = ⊤
AreEnds from (end ∷ ends) = (from ≤ end) × AreEnds (end + 1) ends

-- the place behind the last of them
abbrev pub place_behind : ℕ → List ℕ → ℕ
place_behind from [] = from
place_behind from (end ∷ ends) = place_behind (end + 1) ends

-- the fields that end there
abbrev pub fields_between : List ℕ → ℕ → List ℕ → Fields
fields_between text from [] = []
fields_between text from (end ∷ ends) =
    take (end - from) (drop from text) ∷ fields_between text (end + 1) ends

-- the place behind a line feed of a text
pub record StandsBehindFeed (text : List ℕ) (at : ℕ) : Type 0 where
  pub some : 0 < at
  pub within : at ≤ length text
  pub feed : get_or text (at - 1) 0 ≡ 10

-- A place where a line begins: it stands behind a line feed, or at the start of a text whose
-- records are the same behind one.
pub record IsLineStart (text : List ℕ) (at : ℕ) : Type 0 where
  pub first : at ≡ 0 → csv_records text ≡ csv_records (10 ∷ text)
  pub later : 0 < at → StandsBehindFeed text at

-- The line from a place behind a line feed up to the next one is the record of the fields that end
-- at these places.
pub record IsLine (text : List ℕ) (from next : ℕ) (ends : List ℕ) : Type 0 where
  pub ascending : AreEnds from ends
  pub last : place_behind from ends ≡ next
  pub behind : StandsBehindFeed text next
  pub records : csv_records (10 ∷ drop from text)
      ≡ fields_between text from ends ∷ csv_records (10 ∷ drop next text)

-- the same of five ends
pub record AreFive (text : List ℕ) (from : ℕ) (ends : ℕ × ℕ × ℕ × ℕ × ℕ) : Type 0 where
  pub first : from ≤ ends.0
  pub second : ends.0 + 1 ≤ ends.1
  pub third : ends.1 + 1 ≤ ends.2
  pub fourth : ends.2 + 1 ≤ ends.3
  pub fifth : ends.3 + 1 ≤ ends.4
  pub inside : ends.4 < length text
  pub behind : StandsBehindFeed text (ends.4 + 1)
  pub records : csv_records (10 ∷ drop from text)
      ≡ (take (ends.0 - from) (drop from text)
      ∷ take (ends.1 - (ends.0 + 1)) (drop (ends.0 + 1) text)
      ∷ take (ends.2 - (ends.1 + 1)) (drop (ends.1 + 1) text)
      ∷ take (ends.3 - (ends.2 + 1)) (drop (ends.2 + 1) text)
      ∷ take (ends.4 - (ends.3 + 1)) (drop (ends.3 + 1) text) ∷ [])
      ∷ csv_records (10 ∷ drop (ends.4 + 1) text)

-- the same of six ends
pub record AreSix (text : List ℕ) (from : ℕ) (ends : ℕ × ℕ × ℕ × ℕ × ℕ × ℕ) : Type 0 where
  pub first : from ≤ ends.0
  pub second : ends.0 + 1 ≤ ends.1
  pub third : ends.1 + 1 ≤ ends.2
  pub fourth : ends.2 + 1 ≤ ends.3
  pub fifth : ends.3 + 1 ≤ ends.4
  pub sixth : ends.4 + 1 ≤ ends.5
  pub inside : ends.5 < length text
  pub start : IsLineStart text (ends.5 + 1)
  pub records : csv_records (10 ∷ drop from text)
      ≡ (take (ends.0 - from) (drop from text)
      ∷ take (ends.1 - (ends.0 + 1)) (drop (ends.0 + 1) text)
      ∷ take (ends.2 - (ends.1 + 1)) (drop (ends.1 + 1) text)
      ∷ take (ends.3 - (ends.2 + 1)) (drop (ends.2 + 1) text)
      ∷ take (ends.4 - (ends.3 + 1)) (drop (ends.3 + 1) text)
      ∷ take (ends.5 - (ends.4 + 1)) (drop (ends.4 + 1) text) ∷ [])
      ∷ csv_records (10 ∷ drop (ends.5 + 1) text)

-- the fields of a line of five, and of six
abbrev pub five_of : LineOfFive → Fields
five_of line = line.fields.0.now ∷ line.fields.1.now ∷ line.fields.2.now ∷ line.fields.3.now
    ∷ line.fields.4.now ∷ []

abbrev pub six_of : LineOfSix → Fields
six_of line = line.fields.0.now ∷ line.fields.1.now ∷ line.fields.2.now ∷ line.fields.3.now
    ∷ line.fields.4.now ∷ line.fields.5.now ∷ []
