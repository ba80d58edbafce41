-- The keys of an open map, in order.
use Rattle.std.proofs.Common.{◌≡◌, ℕ, List, [], ◌∷◌, ◌++◌, Bool, true, false, ◌&&◌, ◌||◌, refl, sym}
use Rattle.std.proofs.Common.{ap, ◌∙◌, arith, Ordering}
use Rattle.std.proofs.lemmas.Bool.Decides.{nat_tests}
use Rattle.std.specs.List.{list_any}
use Rattle.std.specs.Str.{bytes_eq}
use Rattle.std.specs.declared.cmp.Ordering.TheVariants.{Less, Equal, Greater}
use Rattle.std.specs.Ordering.{nat_cmp, is_eq, ordering_reverse, match_ordering}
use Rattle.std.specs.Cmp.{IsTotalOrder, tied_then}
use Rattle.std.specs.Cmp.Lexicographic.{slice_cmp}
use Rattle.std.specs.BTreeSet.{BTreeSet, insert_key}
use Rattle.std.proofs.lemmas.Cmp.{on_total, then_total, nat_cmp_total, nat_list_cmp_total}
use Rattle.std.proofs.lemmas.Map.Text.{is_eq-slice_cmp}
use Rattle.std.proofs.lemmas.Slice.Eq.{bytes_eq-Decides}
use Rattle.std.proofs.lemmas.List.Folds.{list_any-append}
use Rattle.yaml_subset.specs.KeysView.{AreKeysOf, in_order, number_of, numbered}
use Rattle.yaml_terms.specs.declared.ScalarText.{ScalarText}
use Rattle.yaml_terms.specs.declared.Node.{Node}

abbrev among : ℕ × ScalarText → List (ℕ × ScalarText) → Bool
among t ks = list_any (λ k. is_eq (in_order t k)) ks

tied : (n : ℕ) → is_eq (nat_cmp n n) ≡ true
tied n = grind (arith, nat_tests)

of_both : (s t : Bool) → (t ≡ true → s ≡ true) → (s && t) ≡ t
of_both true t h = refl
of_both false true h = h refl
of_both false false h = refl

-- two texts are the same exactly where neither comes first
same_in_order : (a b : List ℕ) → is_eq (in_order (numbered a) (numbered b)) ≡ bytes_eq a b
same_in_order a b = sym (tied_then (nat_cmp (number_of a) (number_of b)) (slice_cmp nat_cmp a b))
    ∙ ap (λ (t : Bool). is_eq (nat_cmp (number_of a) (number_of b)) && t) (is_eq-slice_cmp a b)
    ∙ of_both (is_eq (nat_cmp (number_of a) (number_of b))) (bytes_eq a b) one_number
  where
    one_number : bytes_eq a b ≡ true → is_eq (nat_cmp (number_of a) (number_of b)) ≡ true
    one_number e =
        ap (λ (t : List ℕ). is_eq (nat_cmp (number_of a) (number_of t)))
        (sym ((bytes_eq-Decides a b).0 e))
        ∙ tied (number_of a)

total_order : IsTotalOrder in_order
total_order = then_total (on_total (λ (x : ℕ × ScalarText). x.0) nat_cmp_total)
    (on_total (λ (x : ℕ × ScalarText). x.1) nat_list_cmp_total)

-- a text compares with the same texts alike
alike : (t k x : ℕ × ScalarText) → in_order k x ≡ Equal → in_order t k ≡ in_order t x
alike t k x e = total_order.antisymm t k
    ∙ ap ordering_reverse (total_order.congr k x t e) ∙ sym (total_order.antisymm t x)

or_first : (a b c : Bool) → (b || (a || c)) ≡ (a || (b || c))
or_first true true c = refl
or_first true false c = refl
or_first false b c = refl

or_again : (a b c : Bool) → a ≡ b → (b || c) ≡ (a || (b || c))
or_again true true c e = refl
or_again false false c e = refl
or_again true false c e = absurd (cc e)
or_again false true c e = absurd (cc e)

-- a text is among the keys and one more where it is that one, or is among them
among-inserted : (t k : ℕ × ScalarText) (ks : List (ℕ × ScalarText))
    → among t (insert_key in_order ks k) ≡ (is_eq (in_order t k) || among t ks)
among-inserted t k [] = refl
among-inserted t k (x ∷ ks) = by (in_order k x) refl (among-inserted t k ks)
  where
    by : (r : Ordering) → in_order k x ≡ r
        → among t (insert_key in_order ks k) ≡ (is_eq (in_order t k) || among t ks)
        → among t (match_ordering r (k ∷ x ∷ ks) (x ∷ ks) (x ∷ insert_key in_order ks k))
        ≡ (is_eq (in_order t k) || among t (x ∷ ks))
    by Less e h = refl
    by Equal e h = or_again (is_eq (in_order t k)) (is_eq (in_order t x)) (among t ks)
        (ap is_eq (alike t k x e))
    by Greater e h = ap (λ (b : Bool). is_eq (in_order t x) || b) h
        ∙ or_first (is_eq (in_order t k)) (is_eq (in_order t x)) (among t ks)

or_false : (a : Bool) → (a || false) ≡ a
or_false true = refl
or_false false = refl

or_moved : (a b c : Bool) → (a || (b || c)) ≡ ((b || (c || false)) || a)
or_moved true true c = refl
or_moved true false true = refl
or_moved true false false = refl
or_moved false true c = refl
or_moved false false true = refl
or_moved false false false = refl

-- the first key of a map
pub keys-first : (old new : BTreeSet (ℕ × ScalarText)) (key : ScalarText) → old.keys ≡ []
    → new.keys ≡ insert_key in_order old.keys (numbered key) → AreKeysOf [] key new
keys-first old new key none inserted text =
    ap (among (numbered text)) (inserted
    ∙ ap (λ (ks : List (ℕ × ScalarText)). insert_key in_order ks (numbered key)) none)
    ∙ or_false (is_eq (in_order (numbered text) (numbered key))) ∙ same_in_order text key

-- the entries with a value behind the open key, and another key, have the keys and one more
pub keys-more : (es : List (ScalarText × Node)) (old new : BTreeSet (ℕ × ScalarText))
    (key next : ScalarText)
    (value : Node)
    → AreKeysOf es key old → new.keys ≡ insert_key in_order old.keys (numbered next)
    → AreKeysOf (es ++ (key, value) ∷ []) next new
keys-more es old new key next value are inserted text =
    ap (among (numbered text)) inserted
    ∙ among-inserted (numbered text) (numbered next) old.keys
    ∙ ap (λ (b : Bool). b || among (numbered text) old.keys) (same_in_order text next)
    ∙ ap (λ (b : Bool). bytes_eq text next || b) (are text)
    ∙ or_moved (bytes_eq text next) (list_any (λ p. bytes_eq text p.0) es) (bytes_eq text key)
    ∙ ap (λ (b : Bool). b || bytes_eq text next)
    (sym (list_any-append (λ (p : ScalarText × Node). bytes_eq text p.0) es ((key, value) ∷ [])))
