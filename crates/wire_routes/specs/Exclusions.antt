-- The body of an exclusion: a JSON object with exactly the members `from`, `slo` and `to`.
use Rattle.std.specs.Prelude.{ℕ, ◌==◌, cond, nat_lt, List, Option, Some, None, option_map}
use Rattle.std.specs.Prelude.{option_and_then, codes}
use Rattle.std.specs.Str.{is_utf8}
use Rattle.exact_fraction.specs.Label.{label_of}
use Rattle.sample_book.specs.declared.exclusions.Exclusion.{Exclusion}
use Rattle.serde_json.specs.Data.{Data}
use Rattle.serde_json.specs.Events.{members_len}
use Rattle.serde_json.specs.Find.{get, as_object, as_number, as_u64, as_str}
use Rattle.serde_json.specs.Read.{read}

-- the value that bytes are read as (RFC 8259, as `serde_json` reads it: of two members of one name
-- the last one stays)
abbrev pub json_of : List ℕ → Option Data
json_of bytes = cond (is_utf8 bytes) (read bytes) None

abbrev pub below_2_32 : ℕ → Option ℕ
below_2_32 n = cond (nat_lt n 4_294_967_296) (Some n) None

-- a member that is a whole number below 2^32, written in digits alone
abbrev pub whole_at : List ℕ → Data → Option ℕ
whole_at key d =
    option_and_then below_2_32 (option_and_then as_u64 (option_and_then as_number (get key d)))

-- a member that is a text that is a label
abbrev pub label_at : List ℕ → Data → Option (List ℕ)
label_at key d = option_and_then label_of (option_and_then as_str (get key d))

abbrev pub with_from : List ℕ → Data → ℕ → Option Exclusion
with_from id d from =
    option_and_then (λ slo. option_map (λ to. record { id = id; slo = slo; from = from; to = to })
    (whole_at (codes "to") d)) (label_at (codes "slo") d)

-- the exclusion of a value that has the three members and no others
abbrev pub exclusion_in : List ℕ → Data → Option Exclusion
exclusion_in id d =
    option_and_then (λ ms. cond (members_len ms == 3)
    (option_and_then (with_from id d) (whole_at (codes "from") d)) None) (as_object d)

-- the exclusion of that id that a body tells
abbrev pub exclusion_of : List ℕ → List ℕ → Option Exclusion
exclusion_of id body = option_and_then (exclusion_in id) (json_of body)
