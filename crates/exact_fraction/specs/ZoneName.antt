use Rattle.std.specs.Prelude.{ℕ, Bool, ◌&&◌, ◌||◌, ◌==◌, cond, List, Option, Some, None}
use Rattle.std.specs.List.{list_all}
use Rattle.exact_fraction.specs.InlineName.{has_name_length}
use Rattle.exact_fraction.specs.Label.{is_label_byte}

-- the bytes of a label, `/` and `+`
abbrev pub is_zone_byte : ℕ → Bool
is_zone_byte byte = is_label_byte byte || byte == 47 || byte == 43

-- a text of such bytes, as long as a name can be
abbrev pub is_zone_name : List ℕ → Bool
is_zone_name text = has_name_length text && list_all is_zone_byte text

-- the zone's name that a text is, where it is one
abbrev pub zone_name_of : List ℕ → Option (List ℕ)
zone_name_of text = cond (is_zone_name text) (Some text) None
