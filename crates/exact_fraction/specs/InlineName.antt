use Rattle.std.specs.Prelude.{◌≡◌, ℕ, zero, suc, ◌+◌, ◌-◌, ◌≤◌, IsTrue, Bool, ◌&&◌, nat_le, nat_lt}
use Rattle.std.specs.Prelude.{List, [], ◌∷◌, ◌++◌, length, take, replicate, slice_index}
use Rattle.std.specs.List.{list_all}
use Rattle.std.specs.Int.{from_be_bytes, w64}
use Rattle.slo_limits.specs.declared.TheConstants.{MAX_LABEL_BYTES}

-- as long as a label or a time zone's name can be
abbrev pub has_name_length : List ℕ → Bool
has_name_length text = nat_le 1 (length text) && nat_le (length text) MAX_LABEL_BYTES

-- an ASCII byte but 0
abbrev pub is_inline_byte : ℕ → Bool
is_inline_byte byte = nat_lt 0 byte && nat_lt byte 128

-- no longer than a name, each byte ASCII and none 0
pub record IsInline (text : List ℕ) : Type 0 where
  pub short : length text ≤ MAX_LABEL_BYTES
  pub bytes : IsTrue (list_all is_inline_byte text)

-- the text, then zeros up to the length of the longest name, then its own length
abbrev pub padded : List ℕ → List ℕ
padded text = text ++ (replicate (MAX_LABEL_BYTES - length text) 0 ++ (length text ∷ []))

-- 64 bytes that hold a text so
pub record IsPadded (bytes : List ℕ) : Type 0 where
  pub legal : IsInline (take (slice_index bytes MAX_LABEL_BYTES) bytes)
  pub fills : bytes ≡ padded (take (slice_index bytes MAX_LABEL_BYTES) bytes)

-- eight bytes, read as one number, the first the highest
abbrev pub word_from : ℕ → List ℕ → ℕ
word_from at bytes =
    from_be_bytes
    w64
    (slice_index bytes at ∷ slice_index bytes (at + 1) ∷ slice_index bytes (at + 2)
    ∷ slice_index bytes (at + 3) ∷ slice_index bytes (at + 4) ∷ slice_index bytes (at + 5)
    ∷ slice_index bytes (at + 6) ∷ slice_index bytes (at + 7) ∷ [])

-- so many words, from a place on
abbrev pub words_from : ℕ → ℕ → List ℕ → List ℕ
words_from zero at bytes = []
words_from (suc count) at bytes = word_from at bytes ∷ words_from count (at + 8) bytes

-- the eight words of a padded text
abbrev pub words_of : List ℕ → List ℕ
words_of text = words_from 8 0 (padded text)
