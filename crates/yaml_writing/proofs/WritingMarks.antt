-- The marks of a value as it is written, and that they are the node which it stands for.
use Rattle.std.proofs.Common.{◌≡◌, ℕ, zero, suc, ◌+◌, ◌<◌, Bool, true, false, List, [], ◌∷◌, ◌++◌}
use Rattle.std.proofs.Common.{Option, Some, None, cond, map, length, option_map, refl, sym, ap, ◌∙◌}
use Rattle.std.proofs.Common.{append_assoc, append-nil, arith, bytes_eq}
use Rattle.std.specs.Prelude.{nat_lt, ◌==◌, ◌&&◌, ◌||◌, ⊤}
use Rattle.std.proofs.lemmas.Bool.{false≢true}
use Rattle.std.specs.List.{list_all, list_any}
use Rattle.std.proofs.lemmas.Bool.Decides.{nat_tests}
use Rattle.std.proofs.lemmas.List.Folds.{list_all-append, list_any-append}
use Rattle.std.proofs.lemmas.Slice.Eq.{bytes_eq-Decides}
use Rattle.yaml_terms.specs.Tree.{Tree, mapping, sequence, scalar, Entries, no_entries, entry}
use Rattle.yaml_terms.specs.Tree.{Trees, no_trees, item, trees}
use Rattle.yaml_terms.specs.Mark.{Mark, start, dash, key, value, header, raw, Child}
use Rattle.yaml_terms.specs.Profile.{max_depth, is_deeper, has_room, Pieces, last_piece, piece}
use Rattle.yaml_terms.specs.Profile.{is_next, with_first, pieces, or_no_text, with_child, is_key}
use Rattle.yaml_terms.specs.Profile.{children, entries, behind, node, documents}
use Rattle.yaml_terms.specs.Spelling.{Spelling, word, quoted, fields, items, Fields, no_fields}
use Rattle.yaml_terms.specs.Spelling.{field, Items, no_items, one_item, meant, entries_meant}
use Rattle.yaml_terms.specs.Spelling.{items_meant, key_text, step}
use Rattle.yaml_terms.specs.SpellingFits.{SpellingFits, FitFields, FitItems, has_field}
use Rattle.yaml_terms.specs.SpellingView.{has_lines}

-- the column of a value behind a key
abbrev pub behind_key : ℕ → Bool → List ℕ → Spelling → ℕ
behind_key n q k s = cond (has_lines s) (n + step) (n + (length (key_text q k) + 2))

-- the marks of a value that stands at a column: the text of no length has none
abbrev mutual
  pub marks_at : ℕ → Spelling → List Mark
  marks_at n (word []) = []
  marks_at n (word (c ∷ cs)) = value n (scalar (c ∷ cs) true) ∷ []
  marks_at n (quoted text) = value n (scalar text false) ∷ []
  marks_at n (fields no_fields) = value n (mapping no_entries) ∷ []
  marks_at n (fields (field q k s fs)) = marks_of_fields n (field q k s fs)
  marks_at n (items no_items) = value n (sequence no_trees) ∷ []
  marks_at n (items (one_item s is)) = marks_of_items n (one_item s is)

  pub marks_of_fields : ℕ → Fields → List Mark
  marks_of_fields n no_fields = []
  marks_of_fields n (field q k s fs) =
      key n k ∷ (marks_at (behind_key n q k s) s ++ marks_of_fields n fs)

  pub marks_of_items : ℕ → Items → List Mark
  marks_of_items n no_items = []
  marks_of_items n (one_item s is) = dash n ∷ (marks_at (n + step) s ++ marks_of_items n is)

-- COLUMNS

-- a mark of a node that stands deeper than a key or dash at this column
abbrev pub is_past : ℕ → Mark → Bool
is_past n (key m k) = nat_lt n m
is_past n (dash m) = nat_lt n m
is_past n (value m x) = true
is_past n _ = false

behind_key_past : (n : ℕ) (q : Bool) (k : List ℕ) (s : Spelling) → n < behind_key n q k s
behind_key_past n q k s = by_lines (has_lines s)
  where
    by_lines : (b : Bool) → n < cond b (n + step) (n + (length (key_text q k) + 2))
    by_lines true = omega arith
    by_lines false = omega arith

all_joined : (p : Mark → Bool) (xs ys : List Mark) → list_all p xs ≡ true → list_all p ys ≡ true
    → list_all p (xs ++ ys) ≡ true
all_joined p xs ys e f = rw (list_all-append p xs ys, e, f) refl

lt_test : (m n : ℕ) → m < n → nat_lt m n ≡ true
lt_test m n h = grind (arith, nat_tests)

lt_step : (m n : ℕ) → m < n → m < n + step
lt_step m n h = omega arith

lt_behind : (m n : ℕ) (q : Bool) (k : List ℕ) (s : Spelling) → m < n → m < behind_key n q k s
lt_behind m n q k s h = let e : n < behind_key n q k s = behind_key_past n q k s in omega arith

-- all marks of a value stand deeper than what is before its column
mutual
  pub marks_past : (m n : ℕ) (s : Spelling) → m < n → list_all (is_past m) (marks_at n s) ≡ true
  marks_past m n (word []) h = refl
  marks_past m n (word (c ∷ cs)) h = refl
  marks_past m n (quoted text) h = refl
  marks_past m n (fields no_fields) h = refl
  marks_past m n (fields (field q k s fs)) h = fields_past m n (field q k s fs) h
  marks_past m n (items no_items) h = refl
  marks_past m n (items (one_item s is)) h = items_past m n (one_item s is) h

  fields_past : (m n : ℕ) (fs : Fields) → m < n → list_all (is_past m) (marks_of_fields n fs) ≡ true
  fields_past m n no_fields h = refl
  fields_past m n (field q k s fs) h = rw (lt_test m n h)
      (all_joined (is_past m) (marks_at (behind_key n q k s) s) (marks_of_fields n fs)
      (marks_past m (behind_key n q k s) s (lt_behind m n q k s h)) (fields_past m n fs h))

  items_past : (m n : ℕ) (is : Items) → m < n → list_all (is_past m) (marks_of_items n is) ≡ true
  items_past m n no_items h = refl
  items_past m n (one_item s is) h =
      rw (lt_test m n h) (all_joined (is_past m) (marks_at (n + step) s) (marks_of_items n is)
      (marks_past m (n + step) s (lt_step m n h)) (items_past m n is h))

-- PIECES

-- a mark that stands deeper begins no entry or item of the map or list
not_next_key : (n : ℕ) (k : List ℕ) (m : Mark) → is_past n m ≡ true → is_next (key n k) m ≡ false
not_next_key n k start e = refl
not_next_key n k (dash m) e = refl
not_next_key n k (key m j) e = grind (arith, nat_tests)
not_next_key n k (value m x) e = refl
not_next_key n k (header m s) e = refl
not_next_key n k (raw l) e = refl

not_next_dash : (n : ℕ) (m : Mark) → is_past n m ≡ true → is_next (dash n) m ≡ false
not_next_dash n start e = refl
not_next_dash n (dash m) e = grind (arith, nat_tests)
not_next_dash n (key m j) e = refl
not_next_dash n (value m x) e = refl
not_next_dash n (header m s) e = refl
not_next_dash n (raw l) e = refl

-- marks that come first in the first piece
abbrev ahead : List Mark → Pieces → Pieces
ahead ms (last_piece h ns) = last_piece h (ms ++ ns)
ahead ms (piece h ns ps) = piece h (ms ++ ns) ps

ahead_more : (m : Mark) (ms : List Mark) (ps : Pieces)
    → with_first m (ahead ms ps) ≡ ahead (m ∷ ms) ps
ahead_more m ms (last_piece h ns) = refl
ahead_more m ms (piece h ns ps) = refl

ahead_none : (ps : Pieces) → ps ≡ ahead [] ps
ahead_none (last_piece h ns) = refl
ahead_none (piece h ns ps) = refl

and_first : (a b : Bool) → (a && b) ≡ true → a ≡ true
and_first true b e = refl
and_first false b e = e

and_second : (a b : Bool) → (a && b) ≡ true → b ≡ true
and_second true b e = e
and_second false b e = absurd (false≢true e)

-- marks of which none begins a piece belong to the first one
pieces_ahead : (h : Mark) (test : Mark → Bool) → ((m : Mark) → test m ≡ true → is_next h m ≡ false)
    → (ms ns : List Mark) → list_all test ms ≡ true → pieces h (ms ++ ns) ≡ ahead ms (pieces h ns)
pieces_ahead h test none [] ns e = ahead_none (pieces h ns)
pieces_ahead h test none (m ∷ ms) ns e = rw (
  none m (and_first (test m) (list_all test ms) e),
  pieces_ahead h test none ms ns (and_second (test m) (list_all test ms) e),
)
    (ahead_more m ms (pieces h ns))

-- the pieces of a map's marks, and of a list's: the first entry or item, and those after it
abbrev pieces_of_fields : ℕ → Bool → List ℕ → Spelling → Fields → Pieces
pieces_of_fields n q k s no_fields = last_piece (key n k) (marks_at (behind_key n q k s) s)
pieces_of_fields n q k s (field r j t fs) =
    piece (key n k) (marks_at (behind_key n q k s) s) (pieces_of_fields n r j t fs)

abbrev pieces_of_items : ℕ → Spelling → Items → Pieces
pieces_of_items n s no_items = last_piece (dash n) (marks_at (n + step) s)
pieces_of_items n s (one_item t is) =
    piece (dash n) (marks_at (n + step) s) (pieces_of_items n t is)

same_column : (n : ℕ) → (n == n) ≡ true
same_column n = grind (arith, nat_tests)

fields_cut : (n : ℕ) (q : Bool) (k : List ℕ) (s : Spelling) (fs : Fields) → pieces (key n k)
    (marks_at (behind_key n q k s) s ++ marks_of_fields n fs) ≡ pieces_of_fields n q k s fs
fields_cut n q k s no_fields =
    pieces_ahead (key n k) (is_past n) (not_next_key n k) (marks_at (behind_key n q k s) s) []
    (marks_past n (behind_key n q k s) s (behind_key_past n q k s)) ∙ rw append-nil refl
fields_cut n q k s (field r j t fs) =
    pieces_ahead (key n k) (is_past n)
    (not_next_key n k) (marks_at (behind_key n q k s) s) (marks_of_fields n (field r j t fs))
    (marks_past n (behind_key n q k s) s (behind_key_past n q k s))
    ∙ rw (same_column n, append-nil)
    (ap (piece (key n k) (marks_at (behind_key n q k s) s)) (fields_cut n r j t fs))

items_cut : (n : ℕ) (s : Spelling) (is : Items)
    → pieces (dash n) (marks_at (n + step) s ++ marks_of_items n is) ≡ pieces_of_items n s is
items_cut n s no_items =
    pieces_ahead (dash n) (is_past n) (not_next_dash n) (marks_at (n + step) s) []
    (marks_past n (n + step) s (omega arith)) ∙ rw append-nil refl
items_cut n s (one_item t is) =
    pieces_ahead (dash n) (is_past n) (not_next_dash n) (marks_at (n + step) s)
    (marks_of_items n (one_item t is)) (marks_past n (n + step) s (omega arith))
    ∙ rw (same_column n, append-nil)
    (ap (piece (dash n) (marks_at (n + step) s)) (items_cut n t is))

-- CHILDREN

-- the node that a value stands for behind a key or dash: the text of no length is left out there
abbrev pub kept : Spelling → Option Tree
kept (word []) = None
kept s = Some (meant s)

kept_meant : (s : Spelling) → or_no_text (kept s) ≡ meant s
kept_meant (word []) = refl
kept_meant (word (c ∷ cs)) = refl
kept_meant (quoted text) = refl
kept_meant (fields fs) = refl
kept_meant (items is) = refl

abbrev entries_read : ℕ → Fields → List Child
entries_read n no_fields = []
entries_read n (field q k s fs) = record { mark = key n k; tree = meant s } ∷ entries_read n fs

abbrev items_read : ℕ → Items → List Child
items_read n no_items = []
items_read n (one_item s is) = record { mark = dash n; tree = meant s } ∷ items_read n is

-- no key of these is among the finished children
abbrev AreNew : Fields → List Child → Type 0
AreNew no_fields done = ⊤
AreNew (field q k s fs) done = (list_any (λ c. is_key k c.mark) done ≡ false) × AreNew fs done

bytes_eq_sym : (a b : List ℕ) → bytes_eq a b ≡ false → bytes_eq b a ≡ false
bytes_eq_sym a b e = by_test (bytes_eq b a) refl
  where
    by_test : (t : Bool) → bytes_eq b a ≡ t → t ≡ false
    by_test false f = refl
    by_test true f = sym ((bytes_eq-Decides a b).1 (sym ((bytes_eq-Decides b a).0 f))) ∙ e

or_first : (a b : Bool) → (a || b) ≡ false → a ≡ false
or_first true b e = e
or_first false b e = refl

or_second : (a b : Bool) → (a || b) ≡ false → b ≡ false
or_second true b e = absurd (false≢true (sym e))
or_second false b e = e

new_more : (fs : Fields) (done : List Child) (n : ℕ) (k : List ℕ) (x : Tree) → AreNew fs done
    → has_field k fs ≡ false → AreNew fs (done ++ (record { mark = key n k; tree = x } ∷ []))
new_more no_fields done n k x h e = tt
new_more (field q j s fs) done n k x h e = (
  list_any-append (λ c. is_key j c.mark) done (record { mark = key n k; tree = x } ∷ [])
      ∙ rw (h.0, bytes_eq_sym k j (or_first (bytes_eq k j) (has_field k fs) e)) refl,
  new_more fs done n k x h.1 (or_second (bytes_eq k j) (has_field k fs) e),
)

new_at_start : (fs : Fields) → AreNew fs []
new_at_start no_fields = tt
new_at_start (field q k s fs) = (refl, new_at_start fs)

with_child_key : (done : List Child) (n : ℕ) (k : List ℕ) (s : Spelling)
    → with_child done (key n k) (kept s) ≡ done ++ (record { mark = key n k; tree = meant s } ∷ [])
with_child_key done n k s =
    ap (λ (x : Tree). done ++ (record { mark = key n k; tree = x } ∷ [])) (kept_meant s)

with_child_dash : (done : List Child) (n : ℕ) (s : Spelling)
    → with_child done (dash n) (kept s) ≡ done ++ (record { mark = dash n; tree = meant s } ∷ [])
with_child_dash done n s =
    ap (λ (x : Tree). done ++ (record { mark = dash n; tree = x } ∷ [])) (kept_meant s)

deeper_key : (n : ℕ) (q : Bool) (k : List ℕ) (s : Spelling) → nat_lt n (behind_key n q k s) ≡ true
deeper_key n q k s = lt_test n (behind_key n q k s) (behind_key_past n q k s)

deeper_dash : (n : ℕ) → nat_lt n (n + step) ≡ true
deeper_dash n = lt_test n (n + step) (omega arith)

entries_meant_read : (n : ℕ) (fs : Fields) → entries (entries_read n fs) ≡ entries_meant fs
entries_meant_read n no_fields = refl
entries_meant_read n (field q k s fs) = ap (entry k (meant s)) (entries_meant_read n fs)

items_meant_read : (n : ℕ) (is : Items)
    → trees (map (λ c. c.tree) (items_read n is)) ≡ items_meant is
items_meant_read n no_items = refl
items_meant_read n (one_item s is) = ap (item (meant s)) (items_meant_read n is)

has_room_dash : (h : Mark) (n : ℕ) → is_deeper h n ≡ true → has_room h (dash n) ≡ true
has_room_dash (key m k) n e = grind (arith, nat_tests)
has_room_dash start n e = refl
has_room_dash (dash m) n e = e
has_room_dash (value m x) n e = e
has_room_dash (header m s) n e = e
has_room_dash (raw l) n e = e

has_room_key : (h : Mark) (n : ℕ) (k : List ℕ) → is_deeper h n ≡ true → has_room h (key n k) ≡ true
has_room_key (key m j) n k e = e
has_room_key start n k e = refl
has_room_key (dash m) n k e = e
has_room_key (value m x) n k e = e
has_room_key (header m s) n k e = e
has_room_key (raw l) n k e = e

has_room_value : (h : Mark) (n : ℕ) (x : Tree) → is_deeper h n ≡ true
    → has_room h (value n x) ≡ true
has_room_value (key m j) n x e = e
has_room_value start n x e = refl
has_room_value (dash m) n x e = e
has_room_value (value m y) n x e = e
has_room_value (header m s) n x e = e
has_room_value (raw l) n x e = e

-- what the pieces of a map and of a list hold, after these children
abbrev children_of_fields : ℕ → List Child → ℕ → Fields → Option (List Child)
children_of_fields d done n no_fields = Some done
children_of_fields d done n (field q k s fs) =
    children (behind (node d)) done (pieces_of_fields n q k s fs)

abbrev children_of_items : ℕ → List Child → ℕ → Items → Option (List Child)
children_of_items d done n no_items = Some done
children_of_items d done n (one_item s is) =
    children (behind (node d)) done (pieces_of_items n s is)

-- THE LAW OF MARKS

fields_step : (d : ℕ) (done : List Child) (n : ℕ) (q : Bool) (k : List ℕ) (s : Spelling)
    (fs : Fields) → list_any (λ c. is_key k c.mark) done ≡ false
    → behind (node d) (key n k) (marks_at (behind_key n q k s) s) ≡ Some (kept s)
    → children_of_fields d (done ++ (record { mark = key n k; tree = meant s } ∷ [])) n fs
    ≡ Some ((done ++ (record { mark = key n k; tree = meant s } ∷ [])) ++ entries_read n fs)
    → children_of_fields d done n (field q k s fs) ≡ Some (done ++ entries_read n (field q k s fs))
fields_step d done n q k s no_fields new inside more =
    rw (new, inside) (ap Some (with_child_key done n k s))
fields_step d done n q k s (field r j t fs) new inside more = rw (new, inside)
    (ap (λ (cs : List Child). children (behind (node d)) cs (pieces_of_fields n r j t fs))
    (with_child_key done n k s) ∙ more
    ∙ ap Some (append_assoc done (record { mark = key n k; tree = meant s } ∷ [])
    (entries_read n (field r j t fs))))

items_step : (d : ℕ) (done : List Child) (n : ℕ) (s : Spelling) (is : Items)
    → behind (node d) (dash n) (marks_at (n + step) s) ≡ Some (kept s)
    → children_of_items d (done ++ (record { mark = dash n; tree = meant s } ∷ [])) n is
    ≡ Some ((done ++ (record { mark = dash n; tree = meant s } ∷ [])) ++ items_read n is)
    → children_of_items d done n (one_item s is) ≡ Some (done ++ items_read n (one_item s is))
items_step d done n s no_items inside more = rw inside (ap Some (with_child_dash done n s))
items_step d done n s (one_item t is) inside more = rw inside
    (ap (λ (cs : List Child). children (behind (node d)) cs (pieces_of_items n t is))
    (with_child_dash done n s) ∙ more
    ∙ ap Some (append_assoc done (record { mark = dash n; tree = meant s } ∷ [])
    (items_read n (one_item t is))))

lt_zero : (d : ℕ) → nat_lt 0 (suc d) ≡ true
lt_zero d = grind (arith, nat_tests)

shallow : (d : ℕ) (x : Tree)
    → option_map Some (cond (nat_lt 0 (suc d)) (Some x) None) ≡ Some (Some x)
shallow d x = rw (lt_zero d) refl

mutual
  -- what the marks of a value stand for behind a key, a dash or a document's start
  pub value_read : (d : ℕ) (h : Mark) (n : ℕ) (s : Spelling) → SpellingFits d s
      → is_deeper h n ≡ true
      → behind (node d) h (marks_at n s) ≡ Some (kept s)
  value_read d h n (word []) f e = refl
  value_read zero h n (word (c ∷ cs)) f e = rw (has_room_value h n (scalar (c ∷ cs) true) e) refl
  value_read (suc d) h n (word (c ∷ cs)) f e = rw (has_room_value h n (scalar (c ∷ cs) true) e) refl
  value_read zero h n (quoted text) f e = rw (has_room_value h n (scalar text false) e) refl
  value_read (suc d) h n (quoted text) f e = rw (has_room_value h n (scalar text false) e) refl
  value_read zero h n (fields fs) f e = absurd f
  value_read (suc d) h n (fields no_fields) f e =
      rw (has_room_value h n (mapping no_entries) e) (shallow d (mapping no_entries))
  value_read (suc d) h n (fields (field q k s fs)) f e = rw (
    has_room_key h n k e,
    fields_cut n q k s fs,
    fields_read d [] n (field q k s fs) f (new_at_start (field q k s fs)),
  )
      (ap (λ (es : Entries). Some (Some (mapping es))) (entries_meant_read n (field q k s fs)))
  value_read zero h n (items is) f e = absurd f
  value_read (suc d) h n (items no_items) f e =
      rw (has_room_value h n (sequence no_trees) e) (shallow d (sequence no_trees))
  value_read (suc d) h n (items (one_item s is)) f e =
      rw (has_room_dash h n e, items_cut n s is, all_items_read d [] n (one_item s is) f)
      (ap (λ (xs : Trees). Some (Some (sequence xs))) (items_meant_read n (one_item s is)))

  fields_read : (d : ℕ) (done : List Child) (n : ℕ) (fs : Fields) → FitFields d fs → AreNew fs done
      → children_of_fields d done n fs ≡ Some (done ++ entries_read n fs)
  fields_read d done n no_fields f new = ap Some (sym (append-nil done))
  fields_read d done n (field q k s fs) f new = fields_step d done n q k s fs new.0
      (value_read d (key n k) (behind_key n q k s) s f.2 (deeper_key n q k s))
      (fields_read d (done ++ (record { mark = key n k; tree = meant s } ∷ [])) n fs f.3
      (new_more fs done n k (meant s) new.1 f.1))

  all_items_read : (d : ℕ) (done : List Child) (n : ℕ) (is : Items) → FitItems d is
      → children_of_items d done n is ≡ Some (done ++ items_read n is)
  all_items_read d done n no_items f = ap Some (sym (append-nil done))
  all_items_read d done n (one_item s is) f = items_step d done n s is
      (value_read d (dash n) (n + step) s f.0 (deeper_dash n))
      (all_items_read d (done ++ (record { mark = dash n; tree = meant s } ∷ [])) n is f.1)

-- a mark that ends no document and opens no block scalar
abbrev pub is_own : Mark → Bool
is_own (key n k) = true
is_own (dash n) = true
is_own (value n x) = true
is_own _ = false

own_joined : (xs ys : List Mark) → list_all is_own xs ≡ true → list_all is_own ys ≡ true
    → list_all is_own (xs ++ ys) ≡ true
own_joined xs ys e f = all_joined is_own xs ys e f

mutual
  pub marks_own : (n : ℕ) (s : Spelling) → list_all is_own (marks_at n s) ≡ true
  marks_own n (word []) = refl
  marks_own n (word (c ∷ cs)) = refl
  marks_own n (quoted text) = refl
  marks_own n (fields no_fields) = refl
  marks_own n (fields (field q k s fs)) = fields_own n (field q k s fs)
  marks_own n (items no_items) = refl
  marks_own n (items (one_item s is)) = items_own n (one_item s is)

  fields_own : (n : ℕ) (fs : Fields) → list_all is_own (marks_of_fields n fs) ≡ true
  fields_own n no_fields = refl
  fields_own n (field q k s fs) = own_joined (marks_at (behind_key n q k s) s)
      (marks_of_fields n fs) (marks_own (behind_key n q k s) s) (fields_own n fs)

  items_own : (n : ℕ) (is : Items) → list_all is_own (marks_of_items n is) ≡ true
  items_own n no_items = refl
  items_own n (one_item s is) = own_joined (marks_at (n + step) s) (marks_of_items n is)
      (marks_own (n + step) s) (items_own n is)

own_no_start : (m : Mark) → is_own m ≡ true → is_next start m ≡ false
own_no_start start e = sym e
own_no_start (dash m) e = refl
own_no_start (key m j) e = refl
own_no_start (value m x) e = refl
own_no_start (header m s) e = refl
own_no_start (raw l) e = refl

start_alone : (ms : List Mark) → list_all is_own ms ≡ true → pieces start ms ≡ last_piece start ms
start_alone ms e = ap (pieces start) (sym (append-nil ms))
    ∙ pieces_ahead start is_own own_no_start ms [] e ∙ rw append-nil refl

-- the marks of a value that isn't the text of no length are those of one document with
-- its node alone
pub document_read : (s : Spelling) → SpellingFits max_depth s → kept s ≡ Some (meant s)
    → documents (marks_at 0 s) ≡ Some (meant s ∷ [])
document_read s f e = rw (
  start_alone (marks_at 0 s) (marks_own 0 s),
  value_read max_depth start 0 s f refl,
  e,
) refl
