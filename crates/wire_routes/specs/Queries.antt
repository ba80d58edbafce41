-- What stands behind the `?` of a target: items between `&`s (38), each a key, `=` (61) and a
-- value. Nothing is percent-decoded.
use Rattle.std.specs.Prelude.{ℕ, ◌==◌, ◌||◌, Bool, false, cond, List, [], ◌∷◌, Option, Some, None}
use Rattle.std.specs.Prelude.{option_map, option_and_then}
use Rattle.std.specs.Borrow.{Bor}
use Rattle.std.specs.List.{list_all, slice_split, filter_map}
use Rattle.std.specs.Str.{bytes_eq}
use Rattle.wire_routes.specs.Cuts.{cut_at}

-- the bytes of a query, where there is one
abbrev pub bytes_of : Option (Bor (List ℕ)) → Option (List ℕ)
bytes_of query = option_map (λ q. q.now) query

-- the items of a query; one of no text too
abbrev pub items_of : List ℕ → List (List ℕ)
items_of query = slice_split (λ b. b == 38) query

-- the key of an item is one of three
abbrev pub has_key : List ℕ → List ℕ → List ℕ → Option (List ℕ × List ℕ) → Bool
has_key first second third None = false
has_key first second third (Some item) =
    bytes_eq item.0 first || (bytes_eq item.0 second || bytes_eq item.0 third)

abbrev pub is_known : List ℕ → List ℕ → List ℕ → List ℕ → Bool
is_known first second third item = has_key first second third (cut_at 61 item)

-- the value of an item that has the key
abbrev pub value_in : List ℕ → List ℕ × List ℕ → Option (List ℕ)
value_in key item = cond (bytes_eq item.0 key) (Some item.1) None

abbrev pub value_of : List ℕ → List ℕ → Option (List ℕ)
value_of key item = option_and_then (value_in key) (cut_at 61 item)

-- the values of a key, in order
abbrev pub values_of : List ℕ → List (List ℕ) → List (List ℕ)
values_of key items = filter_map (value_of key) items

-- the one value or that there is none; none where there are several
abbrev pub only_of : List (List ℕ) → Option (Option (List ℕ))
only_of [] = Some None
only_of (value ∷ []) = Some (Some value)
only_of _ = None

-- the values of three keys, which may be one key or two, where no item has another key, and none
-- is there twice
abbrev pub key_values_in : List (List ℕ) → List ℕ → List ℕ → List ℕ
    → Option (Option (List ℕ) × Option (List ℕ) × Option (List ℕ))
key_values_in items first second third =
    cond (list_all (is_known first second third) items)
    (option_and_then (λ a. option_and_then (λ b. option_map (λ c. (a, b, c))
    (only_of (values_of third items))) (only_of (values_of second items)))
    (only_of (values_of first items))) None

-- the same of a target, which may have no query
abbrev pub key_values : Option (List ℕ) → List ℕ → List ℕ → List ℕ
    → Option (Option (List ℕ) × Option (List ℕ) × Option (List ℕ))
key_values None first second third = Some (None, None, None)
key_values (Some query) first second third = key_values_in (items_of query) first second third

-- the items that a reader has left
abbrev pub items_left : Option (List ℕ) → List (List ℕ)
items_left None = []
items_left (Some query) = items_of query
