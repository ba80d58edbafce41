-- Lists of values, and a short text of JSON.
use Rattle.std.proofs.Common.{◌≡◌, ℕ, ◌+◌, ◌<◌, ◌≤◌, List, [], ◌∷◌, ◌++◌, Bool, true, false, Vec}
use Rattle.std.proofs.Common.{Global, length, get_or, take, map, codes, decimal, subst, ap, ◌∙◌}
use Rattle.std.proofs.Common.{refl}
use Rattle.std.proofs.lemmas.List.{map-append, map_more, take_all}
use Rattle.std.specs.Prelude.{◌||◌}
use Rattle.serde_json.specs.Data.{Data, array}
use Rattle.serde_json.specs.View.{items_of, view}
use Rattle.serde_json.specs.Written.{compact_text, has_float, items_have_float}
use Rattle.serde_json.specs.declared.value.Value.{Value, Array}
use Rattle.serde_json.proofs.OnLiterals.{serde_json_on_literals}
use Rattle.serde_json.proofs.Views.{view-Array}
use Rattle.wire_replies.specs.Bodies.{list_of}
use Rattle.wire_replies.specs.Outcomes.{clock_range_data}
use Rattle.wire_replies.specs.Values.{IsValue}

neither : (a b c : Bool) → (a || b) ≡ false → (b ≡ false → c ≡ false) → (a || c) ≡ false
neither true b c h k = h
neither false b c h k = k h

whole_with : (ds : List Data) (d : Data) → items_have_float (items_of ds) ≡ false
    → has_float d ≡ false
    → items_have_float (items_of (ds ++ d ∷ [])) ≡ false
whole_with [] d h k = rw k refl
whole_with (e ∷ ds) d h k =
    neither (has_float e) (items_have_float (items_of ds))
    (items_have_float (items_of (ds ++ d ∷ []))) h (λ i. whole_with ds d i k)

-- one value more, of numbers that are whole
pub whole_more : (vs new : List Value) (v : Value) (d : Data) → new ≡ vs ++ v ∷ [] → IsValue d v
    → items_have_float (items_of (map view vs)) ≡ false
    → items_have_float (items_of (map view new)) ≡ false
whole_more vs new v d e is h = rw (
  e,
  map-append view vs (v ∷ []),
  is.same,
) (whole_with (map view vs) d h is.whole)

-- one item more, and its value
pub item_more : {T : Type 0} (content : T → Data) (vs new : List Value) (items : List T) (i : ℕ)
    (x : T) (v : Value)
    → new ≡ vs ++ v ∷ [] → i < length items → x ≡ get_or items i x → IsValue (content x) v
    → map view vs ≡ map content (take i items) → map view new ≡ map content (take (i + 1) items)
item_more content vs new items i x v e h at is so_far =
    let last : content (get_or items i x) ≡ content x = rw (← at) refl in
    rw (e, map-append view vs (v ∷ []), so_far, is.same, map_more content items i x h, last) refl

-- the values of all items
pub listed : {T : Type 0} (content : T → Data) (values : Vec Value Global) (items : List T) (n : ℕ)
    → length items ≤ n
    → map view values.items ≡ map content (take n items)
    → items_have_float (items_of (map view values.items)) ≡ false
    → IsValue (list_of content items) (Array values)
listed content values items n h same whole =
    let all : map view values.items ≡ map content items = same
    ∙ ap (map content) (take_all n items h) in
    record {
      same = view-Array values ∙ ap (λ (ds : List Data). array (items_of ds)) all;
      whole = subst (λ (ds : List Data). items_have_float (items_of ds) ≡ false) all whole;
    }

pub clock_range_text : (end reading : ℕ)
    → codes "{\"end\":" ++ (decimal end
    ++ (codes ",\"error\":\"clock_range\",\"reading\":" ++ (decimal reading ++ codes "}")))
    ≡ compact_text (clock_range_data end reading)
unfolding serde_json_on_literals
clock_range_text end reading = refl
