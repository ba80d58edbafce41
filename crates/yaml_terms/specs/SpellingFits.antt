-- Which spellings can be written: plain texts are read as they stand, the others have escapes for
-- what they may hold, no key comes twice, and the levels aren't too many.
use Rattle.std.specs.Prelude.{◌≡◌, ℕ, zero, suc, ◌==◌, ◌&&◌, ◌||◌, nat_le, Bool, true, false, not}
use Rattle.std.specs.Prelude.{List, [], ◌∷◌, ⊤, length, slice_index}
use Rattle.std.specs.List.{list_all}
use Rattle.std.specs.Str.{IsUtf8, bytes_eq}
use Rattle.yaml_terms.specs.Tree.{Tree}
use Rattle.yaml_terms.specs.Block.{is_blank_byte}
use Rattle.yaml_terms.specs.Line.{is_control, has_control, is_plain_start, plain_len}
use Rattle.yaml_terms.specs.Profile.{max_depth}
use Rattle.yaml_terms.specs.Spelling.{Spelling, word, quoted, fields, items, Fields, no_fields}
use Rattle.yaml_terms.specs.Spelling.{field, Items, no_items, one_item, spelled}

-- A text that is read as it stands where it is written plain (YAML 1.2.2, section 7.3.3): it begins
-- as a plain scalar does, with no blank, has no colon before a blank or its end, no `#` behind a
-- blank, no blank at its end, and no control character but tabs.
abbrev pub is_plain : List ℕ → Bool
is_plain [] = true
is_plain (c ∷ cs) =
    not (is_blank_byte c) && (is_plain_start c cs && (plain_len (c ∷ cs) == length (c ∷ cs)
    && (not (is_blank_byte (slice_index (c ∷ cs) (length cs))) && not (has_control (c ∷ cs)))))

-- an ASCII letter
abbrev pub is_letter : ℕ → Bool
is_letter c = (nat_le 65 c && nat_le c 90) || (nat_le 97 c && nat_le c 122)

-- A plain key is a word of letters, as the names of fields are: so no line that it begins is a
-- marker, and no text has a byte order mark for it.
abbrev pub is_plain_key : List ℕ → Bool
is_plain_key [] = false
is_plain_key (c ∷ cs) = list_all is_letter (c ∷ cs)

-- A text that can stand in double quotes: of the control characters it has tabs and
-- line feeds alone.
abbrev pub is_quotable : List ℕ → Bool
is_quotable text = list_all (λ c. not (is_control c) || c == 10) text

abbrev pub is_key_text : Bool → List ℕ → Bool
is_key_text true k = is_quotable k
is_key_text false k = is_plain_key k

-- a map has a key
abbrev pub has_field : List ℕ → Fields → Bool
has_field k no_fields = false
has_field k (field q j s fs) = bytes_eq k j || has_field k fs

-- A spelling that can be written, where maps and lists may nest so deep.
abbrev mutual
  pub SpellingFits : ℕ → Spelling → Type 0
  SpellingFits d (word text) = IsUtf8 text × (is_plain text ≡ true)
  SpellingFits d (quoted text) = IsUtf8 text × (is_quotable text ≡ true)
  SpellingFits zero (fields fs) = ⊥
  SpellingFits (suc d) (fields fs) = FitFields d fs
  SpellingFits zero (items is) = ⊥
  SpellingFits (suc d) (items is) = FitItems d is

  pub FitFields : ℕ → Fields → Type 0
  FitFields d no_fields = ⊤
  FitFields d (field q k s fs) = (IsUtf8 k × (is_key_text q k ≡ true)) × (has_field k fs ≡ false)
      × SpellingFits d s × FitFields d fs

  pub FitItems : ℕ → Items → Type 0
  FitItems d no_items = ⊤
  FitItems d (one_item s is) = SpellingFits d s × FitItems d is

-- a node that can be written: as every node is that stands in a text
abbrev pub IsWritable : Tree → Type 0
IsWritable x = SpellingFits max_depth (spelled x)
