-- The copy of its keys that an open map keeps in order.
use Rattle.std.specs.Prelude.{ℕ, ◌≡◌, ◌||◌, ◌+◌, ◌*◌, ◌^◌, ◌%◌, List}
use Rattle.std.specs.List.{fold, list_any}
use Rattle.std.specs.Str.{bytes_eq}
use Rattle.std.specs.declared.cmp.Ordering.{Ordering}
use Rattle.std.specs.Ordering.{nat_cmp, ordering_then}
use Rattle.std.specs.Cmp.Lexicographic.{slice_cmp}
use Rattle.std.specs.BTreeSet.{BTreeSet, contains_by}
use Rattle.yaml_terms.specs.declared.ScalarText.{ScalarText}
use Rattle.yaml_terms.specs.declared.Node.{Node}

-- a number with one more byte, but for what passes 64 bits
abbrev pub with_byte : ℕ → ℕ → ℕ
with_byte number byte = ((number * 256) % 2 ^ 64 + byte) % 2 ^ 64

-- a number of a text: of its last eight bytes
abbrev pub number_of : List ℕ → ℕ
number_of text = fold with_byte 0 text

abbrev pub numbered : List ℕ → ℕ × ScalarText
numbered text = (number_of text, text)

-- numbered texts by their numbers, and those of one number by their bytes
abbrev pub in_order : ℕ × ScalarText → ℕ × ScalarText → Ordering
in_order x y = ordering_then (nat_cmp x.0 y.0) (slice_cmp nat_cmp x.1 y.1)

-- a set has a text exactly where one of the entries has it as its key, or it is the open key
abbrev pub AreKeysOf : List (ScalarText × Node) → ScalarText → BTreeSet (ℕ × ScalarText) → Type 0
AreKeysOf entries key keys = (text : List ℕ) → contains_by (in_order (numbered text)) keys
    ≡ (list_any (λ p. bytes_eq text p.0) entries || bytes_eq text key)
