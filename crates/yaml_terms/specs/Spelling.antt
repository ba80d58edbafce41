-- The canonical writing of a value: which scalars are plain, which keys are in quotes, and every
-- byte of the text.
use Rattle.std.specs.Prelude.{ℕ, ◌+◌, ◌==◌, Bool, true, false, List, [], ◌∷◌, ◌++◌, cond, replicate}
use Rattle.std.specs.List.{flat_map}
use Rattle.yaml_terms.specs.Tree.{Tree, mapping, sequence, scalar, Entries, no_entries, entry}
use Rattle.yaml_terms.specs.Tree.{Trees, no_trees, item}

-- A value as it is written: a scalar plain or in double quotes, a map, a list.
-- A field has its key, and `true` where the key stands in double quotes.
mutual
  pub data Spelling : Type 0 where
    word : List ℕ → Spelling
    quoted : List ℕ → Spelling
    fields : Fields → Spelling
    items : Items → Spelling

  pub data Fields : Type 0 where
    no_fields : Fields
    field : Bool → List ℕ → Spelling → Fields → Fields

  pub data Items : Type 0 where
    no_items : Items
    one_item : Spelling → Items → Items

-- the node that it stands for
abbrev mutual
  pub meant : Spelling → Tree
  meant (word text) = scalar text true
  meant (quoted text) = scalar text false
  meant (fields fs) = mapping (entries_meant fs)
  meant (items is) = sequence (items_meant is)

  pub entries_meant : Fields → Entries
  entries_meant no_fields = no_entries
  entries_meant (field in_quotes k s fs) = entry k (meant s) (entries_meant fs)

  pub items_meant : Items → Trees
  items_meant no_items = no_trees
  items_meant (one_item s is) = item (meant s) (items_meant is)

-- A node as it is written: its keys in quotes, plain scalars plain, other scalars in quotes.
abbrev mutual
  pub spelled : Tree → Spelling
  spelled (scalar text true) = word text
  spelled (scalar text false) = quoted text
  spelled (mapping es) = fields (fields_spelled es)
  spelled (sequence xs) = items (items_spelled xs)

  pub fields_spelled : Entries → Fields
  fields_spelled no_entries = no_fields
  fields_spelled (entry k x es) = field true k (spelled x) (fields_spelled es)

  pub items_spelled : Trees → Items
  items_spelled no_trees = no_items
  items_spelled (item x xs) = one_item (spelled x) (items_spelled xs)

-- a byte in double quotes: the four escapes (YAML 1.2.2, section 5.7)
abbrev pub escape_of : ℕ → List ℕ
escape_of c = cond (c == 92) (92 ∷ 92 ∷ []) (cond (c == 34) (92 ∷ 34 ∷ [])
    (cond (c == 10) (92 ∷ 110 ∷ []) (cond (c == 9) (92 ∷ 116 ∷ []) (c ∷ []))))

abbrev pub in_quotes : List ℕ → List ℕ
in_quotes text = 34 ∷ (flat_map escape_of text ++ (34 ∷ []))

abbrev pub key_text : Bool → List ℕ → List ℕ
key_text true k = in_quotes k
key_text false k = k

abbrev pub spaces : ℕ → List ℕ
spaces n = replicate n 32

-- how many columns deeper a map or list stands than its key or dash
abbrev pub step : ℕ
step = 2

-- What stands between a key's colon and its value: nothing before the text of no length, its own
-- lines before a map or list, else a space.
abbrev pub gap_at_colon : ℕ → Spelling → List ℕ
gap_at_colon n (word []) = []
gap_at_colon n (fields (field q k s fs)) = 10 ∷ spaces (n + step)
gap_at_colon n (items (one_item s is)) = 10 ∷ spaces (n + step)
gap_at_colon n s = 32 ∷ []

-- what stands between a dash and its item, whose first line goes on there
abbrev pub gap_at_dash : Spelling → List ℕ
gap_at_dash (word []) = []
gap_at_dash s = 32 ∷ []

-- The text of a value at column n, with these bytes before it. Each entry and item but the first
-- begins a line at column n; what stands behind its key or dash has its further lines two columns
-- deeper. Each line ends with a line feed.
abbrev mutual
  pub written : List ℕ → ℕ → Spelling → List ℕ
  written lead n (word text) = lead ++ (text ++ (10 ∷ []))
  written lead n (quoted text) = lead ++ (in_quotes text ++ (10 ∷ []))
  written lead n (fields no_fields) = lead ++ (123 ∷ 125 ∷ 10 ∷ [])
  written lead n (fields (field q k s fs)) = written_fields lead n (field q k s fs)
  written lead n (items no_items) = lead ++ (91 ∷ 93 ∷ 10 ∷ [])
  written lead n (items (one_item s is)) = written_items lead n (one_item s is)

  pub written_fields : List ℕ → ℕ → Fields → List ℕ
  written_fields lead n no_fields = []
  written_fields lead n (field q k s fs) = lead ++ (key_text q k
      ++ (58 ∷ (written (gap_at_colon n s) (n + step) s ++ written_fields (spaces n) n fs)))

  pub written_items : List ℕ → ℕ → Items → List ℕ
  written_items lead n no_items = []
  written_items lead n (one_item s is) =
      lead ++ (45 ∷ (written (gap_at_dash s) (n + step) s ++ written_items (spaces n) n is))

-- the text of a value whose lines are all indented so far
abbrev pub writing : ℕ → Spelling → List ℕ
writing n s = written (spaces n) n s

-- A scalar that is written plain: it reads back behind a key or a dash, and not as a text of its
-- own, since the text of no length is no document there, and a plain text may be a line that
-- ends a document.
abbrev pub is_word : Spelling → Bool
is_word (word text) = true
is_word _ = false
