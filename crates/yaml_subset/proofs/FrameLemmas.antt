-- Frames, closed.
use Rattle.std.proofs.Common.{◌≡◌, ℕ, List, [], ◌∷◌, ◌++◌, map, refl, ap, length, ◌<◌, Bool, true}
use Rattle.std.proofs.Common.{false, ◌||◌, arith, not, sym, ◌∙◌, Option, None}
use Rattle.std.proofs.lemmas.List.{map-append}
use Rattle.std.specs.List.{list_any}
use Rattle.std.specs.Str.{bytes_eq}
use Rattle.yaml_terms.specs.Tree.{Tree, mapping, sequence, trees, entry}
use Rattle.yaml_terms.specs.Mark.{Mark, dash, key}
use Rattle.yaml_terms.specs.Profile.{collection, entries, is_key, is_repeated, with_child, no_text}
use Rattle.yaml_terms.specs.Profile.{or_no_text}
use Rattle.yaml_terms.specs.NodeView.{node_view, entries_of}
use Rattle.yaml_subset.specs.OpenView.{child, entry_child}
use Rattle.yaml_terms.specs.declared.ScalarText.{ScalarText}
use Rattle.yaml_terms.specs.declared.Node.{Node}

entries-map : (n : ℕ) (es : List (ScalarText × Node))
    → entries (map (entry_child n) es) ≡ entries_of (map (λ p. (p.0, node_view p.1)) es)
entries-map n [] = refl
entries-map n (p ∷ es) = ap (entry p.0 (node_view p.1)) (entries-map n es)

-- entries that begin with a key are a map
pub collection-entries : (n : ℕ) (e : ScalarText × Node) (es : List (ScalarText × Node))
    → collection
    (map (entry_child n) (e ∷ es)) ≡ mapping (entries_of (map (λ p. (p.0, node_view p.1)) (e ∷ es)))
collection-entries n e es = ap mapping (entries-map n (e ∷ es))

pub collection-map : (n : ℕ) (es : List (ScalarText × Node)) → 0 < length es → collection
    (map (entry_child n) es) ≡ mapping (entries_of (map (λ p. (p.0, node_view p.1)) es))
collection-map n [] h = absurd (omega arith)
collection-map n (e ∷ es) h = collection-entries n e es

pub trees-map : (m : Mark) (xs : List Node)
    → map (λ c. c.tree) (map (child m) xs) ≡ map node_view xs
trees-map m [] = refl
trees-map m (x ∷ xs) = ap (λ (l : List Tree). node_view x ∷ l) (trees-map m xs)

pub collection-items : (n : ℕ) (xs : List Node)
    → collection (map (child (dash n)) xs) ≡ sequence (trees (map node_view xs))
collection-items n [] = refl
collection-items n (x ∷ xs) =
    ap (λ (l : List Tree). sequence (trees (node_view x ∷ l))) (trees-map (dash n) xs)

-- a key among the entries so far, or the open one
pub repeated_entries : (n m : ℕ) (es : List (ScalarText × Node)) (k next : List ℕ) (x : Tree)
    → (list_any (λ p. bytes_eq next p.0) es || bytes_eq next k) ≡ list_any (λ c. is_key next c.mark)
    (map (entry_child n) es ++ (record { mark = key m k; tree = x } ∷ []))
repeated_entries n m [] k next x = or_false (bytes_eq next k)
  where
    or_false : (b : Bool) → b ≡ (b || false)
    or_false true = refl
    or_false false = refl
repeated_entries n m (e ∷ es) k next x =
    or_behind (bytes_eq next e.0) _ _ _ (repeated_entries n m es k next x)
  where
    or_behind : (a b c d : Bool) → (b || c) ≡ d → ((a || b) || c) ≡ (a || d)
    or_behind true b c d e = refl
    or_behind false b c d e = e

known : (b : Bool) → false ≡ not b → b ≡ true
known true e = refl
known false e = absurd (cc e)

fresh : (b : Bool) → true ≡ not b → b ≡ false
fresh true e = absurd (cc e)
fresh false e = refl

-- a key that a map has already, or the open one, is repeated, and no other is
pub repeated_known : (n : ℕ) (es : List (ScalarText × Node)) (k next : List ℕ)
    → false ≡ not (list_any (λ p. bytes_eq next p.0) es || bytes_eq next k)
    → is_repeated (key n next) (with_child (map (entry_child n) es) (key n k) None) ≡ true
repeated_known n es k next e = sym (repeated_entries n n es k next no_text) ∙ known _ e

pub not_repeated : (n : ℕ) (es : List (ScalarText × Node)) (k next : List ℕ)
    → true ≡ not (list_any (λ p. bytes_eq next p.0) es || bytes_eq next k)
    → is_repeated (key n next) (with_child (map (entry_child n) es) (key n k) None) ≡ false
not_repeated n es k next e = sym (repeated_entries n n es k next no_text) ∙ fresh _ e

-- the children of the entries and one more
pub entry_more : (n : ℕ) (es : List (ScalarText × Node)) (k : ScalarText) (x : Node)
    (v : Option Tree)
    → node_view x ≡ or_no_text v → map (entry_child n) (es ++ (k, x) ∷ [])
    ≡ with_child (map (entry_child n) es) (key n k) v
entry_more n es k x v e = map-append (entry_child n) es ((k, x) ∷ [])
    ∙ ap (λ (t : Tree). map (entry_child n) es ++ (record { mark = key n k; tree = t } ∷ [])) e
