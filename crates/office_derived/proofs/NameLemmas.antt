-- Names in their order, put at their places one after another.
use Rattle.std.proofs.Common.{◌≡◌, ◌∙◌, ℕ, ◌+◌, ◌≤◌, ◌<◌, true, false, List, [], ◌∷◌, ◌++◌, refl}
use Rattle.std.proofs.Common.{sym, ap, length, take, drop, nat_cmp, Ordering, Less, Equal, Greater}
use Rattle.std.proofs.Common.{append_assoc, get_or}
use Rattle.std.specs.Prelude.{insert}
use Rattle.std.specs.Ordering.{match_ordering}
use Rattle.std.specs.Cmp.Lexicographic.{slice_cmp}
use Rattle.office_history.specs.Names.{is_behind, names_in_order, with_name}
use Rattle.office_derived.proofs.Lists.{all_past, from_index, to_index}

-- a name that comes behind a name at the front belongs behind it
pub behind_front : (name n : List ℕ) (ns : List (List ℕ)) → is_behind name n ≡ true
    → with_name name (n ∷ ns) ≡ n ∷ with_name name ns
behind_front name n ns h = by (slice_cmp nat_cmp name n) h
  where
    by : (r : Ordering) → match_ordering r false false true ≡ true
        → match_ordering r (name ∷ n ∷ ns) (name ∷ n ∷ ns) (n ∷ with_name name ns)
        ≡ n ∷ with_name name ns
    by Less e = cc e
    by Equal e = cc e
    by Greater e = refl

-- and one that doesn't, before it
pub before_front : (name n : List ℕ) (ns : List (List ℕ)) → is_behind name n ≡ false
    → with_name name (n ∷ ns) ≡ name ∷ n ∷ ns
before_front name n ns h = by (slice_cmp nat_cmp name n) h
  where
    by : (r : Ordering) → match_ordering r false false true ≡ false
        → match_ordering r (name ∷ n ∷ ns) (name ∷ n ∷ ns) (n ∷ with_name name ns)
        ≡ name ∷ n ∷ ns
    by Less e = refl
    by Equal e = refl
    by Greater e = cc e

-- a name belongs before the first name that it doesn't come behind
pub place_here : (names : List (List ℕ)) (name n d : List ℕ) (place : ℕ) → place < length names
    → n ≡ get_or names place d → is_behind name n ≡ false
    → take place names ++ with_name name (drop place names) ≡ with_name name names
    → insert names place name ≡ with_name name names
place_here names name n d place below there other h =
    let at = from_index place names n d below there in
    let front : with_name name (drop place names) ≡ name ∷ drop place names =
    ap (with_name name) at ∙ before_front name n (drop (place + 1) names) other
    ∙ ap (λ ns. name ∷ ns) (sym at) in
    ap (λ ns. take place names ++ ns) (sym front) ∙ h

-- and behind one that it comes behind
pub place_on : (names : List (List ℕ)) (name n d : List ℕ) (place : ℕ) → place < length names
    → n ≡ get_or names place d → is_behind name n ≡ true
    → take place names ++ with_name name (drop place names) ≡ with_name name names
    → take (place + 1) names ++ with_name name (drop (place + 1) names) ≡ with_name name names
place_on names name n d place below there behind h =
    let rest : List (List ℕ) = drop (place + 1) names in
    ap (λ ns. ns ++ with_name name rest) (to_index place names n d below there)
    ∙ append_assoc (take place names) (n ∷ []) (with_name name rest)
    ∙ ap (λ ns. take place names ++ ns) (sym (ap (with_name name)
    (from_index place names n d below there) ∙ behind_front name n rest behind))
    ∙ h

-- or behind all
pub place_last : (names : List (List ℕ)) (name : List ℕ) (place : ℕ) → length names ≤ place
    → take place names ++ with_name name (drop place names) ≡ with_name name names
    → insert names place name ≡ with_name name names
place_last names name place past h =
    let none = all_past place names past in
    (λ i. take place names ++ name ∷ none i)
    ∙ sym (ap (λ ns. take place names ++ with_name name ns) none) ∙ h

-- the names from one place before, in their order
pub one_before : (names : List (List ℕ)) (left : ℕ) (name d : List ℕ) → left < length names
    → name ≡ get_or names left d
    → with_name name (names_in_order (drop (left + 1) names)) ≡ names_in_order (drop left names)
one_before names left name d below there =
    ap names_in_order (sym (from_index left names name d below there))
