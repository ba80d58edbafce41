use Rattle.std.specs.Prelude.{ℕ, Bool, ◌&&◌, ◌||◌, ◌==◌, cond, List, Option, Some, None}
use Rattle.std.specs.Char.{is_ascii_alphanumeric}
use Rattle.std.specs.List.{list_all}
use Rattle.exact_fraction.specs.InlineName.{has_name_length}

-- letters, digits, `.`, `_` and `-`
abbrev pub is_label_byte : ℕ → Bool
is_label_byte byte = is_ascii_alphanumeric byte || byte == 46 || byte == 95 || byte == 45

-- a text of such bytes, as long as a name can be
abbrev pub is_label : List ℕ → Bool
is_label text = has_name_length text && list_all is_label_byte text

-- the label that a text is, where it is one
abbrev pub label_of : List ℕ → Option (List ℕ)
label_of text = cond (is_label text) (Some text) None
