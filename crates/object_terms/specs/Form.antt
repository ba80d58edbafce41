-- How the maps of documents are told: each map is a table with a line for each field, and the line
-- stands once for reading, for refusing and for writing. What is read is a node, what is written
-- is a spelling.
use Rattle.std.specs.Prelude.{ℕ, ◌+◌, Bool, false, ◌&&◌, ◌||◌, not, cond, is_none, List, [], ◌∷◌}
use Rattle.std.specs.Prelude.{◌++◌, Option, Some, None, Result, Ok, Err, codes}
use Rattle.std.specs.Str.{bytes_eq, is_utf8}
use Rattle.yaml_terms.specs.Tree.{Tree, mapping, sequence, scalar, Entries, no_entries, entry}
use Rattle.yaml_terms.specs.Tree.{Trees, no_trees, item}
use Rattle.yaml_terms.specs.Spelling.{Spelling, fields, items, Fields, no_fields, field, Items}
use Rattle.yaml_terms.specs.Spelling.{no_items, one_item, spelled}
use Rattle.object_terms.specs.declared.fault.ObjectFault.{ObjectFault}
use Rattle.object_terms.specs.declared.fault.Rule.{Rule}
use Rattle.object_terms.specs.declared.fault.Rule.TheVariants as rules
use Rattle.object_terms.specs.declared.object.Object.{Object}

abbrev pub Key : Type 0
Key = List ℕ

-- what a reader answers: the objects that stood inline, in order, and the value; or the first fault
abbrev pub Answer : Type 0 → Type 0
Answer A = Result (List Object × A) ObjectFault

abbrev pub gives : {A : Type 0} → A → Answer A
gives a = Ok ([], a)

abbrev pub refused : {A : Type 0} → Key → Rule → Answer A
refused key rule = Err (record { field = key; rule = rule })

-- one reading, and then another: its objects come behind those of the first
abbrev pub after : {A : Type 0} → List Object → Answer A → Answer A
after objects (Ok p) = Ok (objects ++ p.0, p.1)
after objects (Err f) = Err f

abbrev pub and_then : {A B : Type 0} → Answer A → (A → Answer B) → Answer B
and_then (Ok p) f = after p.0 (f p.1)
and_then (Err e) f = Err e

abbrev pub mapped : {A B : Type 0} → (A → B) → Answer A → Answer B
mapped f (Ok p) = Ok (p.0, f p.1)
mapped f (Err e) = Err e

-- what follows where something is there, and what where it isn't
abbrev pub on_some : {A B : Type 0} → Answer B → (A → Answer B) → Option A → Answer B
on_some none some None = none
on_some none some (Some a) = some a

-- A form: how a value is read (the key is named where it is at fault), and what it is written as.
pub record Form (A : Type 0) : Type 0 where
  pub read : Key → Tree → Answer A
  pub write : A → Spelling

-- A line of a table: its keys, how their fields are read, and the fields that a value is written
-- as, before those behind them.
pub record FieldLine (B : Type 0) : Type 0 where
  pub keys : List Key
  pub read : Entries → Answer B
  pub write : B → Fields → Fields

-- A table: lines, each with the part of the whole that it tells, and at the end the whole. Later
-- lines may depend on what earlier ones told.
pub data FieldTable (A : Type 0) : Type 1 where
  done : A → FieldTable A
  next_line : {B : Type 0} → FieldLine B → (A → B) → (B → FieldTable A) → FieldTable A

-- a line as it stands in a table: `name ← line of part`
pub record Line (A : Type 0) (B : Type 0) : Type 0 where
  pub line : FieldLine B
  pub part : A → B

infixl 12 ◌of◌
abbrev pub ◌of◌ : {A B : Type 0} → FieldLine B → (A → B) → Line A B
r of part = record { line = r; part = part }

infixl 10 ◌>>=◌
abbrev pub ◌>>=◌ : {A B : Type 0} → Line A B → (B → FieldTable A) → FieldTable A
l >>= rest = next_line l.line l.part rest

-- a scalar's text, a map's entries, a list's items
abbrev pub scalar_in : Tree → Option (List ℕ)
scalar_in (scalar text plain) = Some text
scalar_in (mapping es) = None
scalar_in (sequence ts) = None

abbrev pub mapping_in : Tree → Option Entries
mapping_in (scalar text plain) = None
mapping_in (mapping es) = Some es
mapping_in (sequence ts) = None

abbrev pub list_in : Tree → Option Trees
list_in (scalar text plain) = None
list_in (mapping es) = None
list_in (sequence ts) = Some ts

-- The plain scalars that stand for nothing (YAML 1.2.2, section 10.3.2): a field with such a value
-- is as omitted.
abbrev pub nulls : List Key
nulls = [] ∷ codes "~" ∷ codes "null" ∷ codes "Null" ∷ codes "NULL" ∷ []

abbrev pub is_among : List Key → Key → Bool
is_among [] key = false
is_among (k ∷ ks) key = bytes_eq k key || is_among ks key

abbrev pub is_null : Tree → Bool
is_null (scalar text plain) = plain && is_among nulls text
is_null (mapping es) = false
is_null (sequence ts) = false

-- the value of the first field with that key which isn't null
abbrev pub field_of : Key → Entries → Option Tree
field_of key no_entries = None
field_of key (entry k t es) = cond (bytes_eq k key && not (is_null t)) (Some t) (field_of key es)

-- bytes that are UTF-8, as all bytes of a document are
unfoldable pub utf8_in : List ℕ → Option (List ℕ)
utf8_in bytes = cond (is_utf8 bytes) (Some bytes) None

-- a key as a fault names it; a key that isn't UTF-8 has no name
abbrev pub shown_by : Option Key → Key
shown_by None = []
shown_by (Some key) = key

unfoldable pub shown : Key → Key
shown key = shown_by (utf8_in key)

-- no field stands in a map but the known ones
abbrev pub closed : List Key → Entries → Answer (Unit {0})
closed known no_entries = gives tt
closed known (entry k t es) =
    cond (is_among known k || is_null t) (closed known es) (refused (shown k) rules.UnknownField)

-- A map is read line by line, in the order of its table, and its unknown fields last.
abbrev pub answer_by : {A : Type 0} → FieldTable A → List Key → Entries → Answer A
answer_by (done a) known es = and_then (closed known es) (λ _. gives a)
answer_by (next_line r part rest) known es = and_then (r.read es)
    (λ b. answer_by (rest b) (known ++ r.keys) es)

-- A map is written line by line, in the order of its table.
abbrev pub fields_by : {A : Type 0} → FieldTable A → A → Fields
fields_by (done a) v = no_fields
fields_by (next_line r part rest) v = r.write (part v) (fields_by (rest (part v)) v)

-- a field of an object: its key stands plain
abbrev pub own : Key → Spelling → Fields → Fields
own key s behind = field false key s behind

abbrev pub own_where : Key → Option Spelling → Fields → Fields
own_where key None behind = behind
own_where key (Some s) behind = own key s behind

abbrev pub spelled_where : {A : Type 0} → Form A → Option A → Option Spelling
spelled_where f None = None
spelled_where f (Some a) = Some (f.write a)

-- A field where it stands; where it doesn't, `omitted` is the answer.
abbrev pub field_or : {A : Type 0} → Answer (Option A) → Form A → Key → Option Tree
    → Answer (Option A)
field_or omitted f key value = on_some omitted (λ t. mapped Some (f.read key t)) value

-- a field that may be omitted
abbrev pub optional : {A : Type 0} → Key → Form A → FieldLine (Option A)
optional key f = record {
  keys = key ∷ [];
  read = λ es. field_or (gives None) f key (field_of key es);
  write = λ a behind. own_where key (spelled_where f a) behind;
}

-- a field that must stand
abbrev pub required : {A : Type 0} → Key → Form A → FieldLine A
required key f = record {
  keys = key ∷ [];
  read = λ es. on_some (refused key rules.Missing) (f.read key) (field_of key es);
  write = λ a behind. own key (f.write a) behind;
}

-- a field that must stand where `needed`, and may stand elsewhere
abbrev pub required_where : {A : Type 0} → Bool → Key → Form A → FieldLine (Option A)
required_where needed key f = record {
  keys = key ∷ [];
  read =
      λ es. field_or (cond needed (refused key rules.Missing) (gives None)) f key (field_of key es);
  write = λ a behind. own_where key (spelled_where f a) behind;
}

-- a field that must stand, unless `barred`, where it may not
abbrev pub barred_field : {A : Type 0} → Key → Option Tree → Answer (Option A)
barred_field key value = on_some (gives None) (λ _. refused key rules.Both) value

abbrev pub required_unless : {A : Type 0} → Bool → Key → Form A → FieldLine (Option A)
required_unless barred key f = record {
  keys = key ∷ [];
  read = λ es. cond barred (barred_field key (field_of key es))
      (field_or (refused key rules.Missing) f key (field_of key es));
  write = λ a behind. own_where key (spelled_where f a) behind;
}

-- a field that may be omitted, and beside which none of the others may stand
abbrev pub has_one_of : List Key → Entries → Bool
has_one_of [] es = false
has_one_of (k ∷ ks) es = not (is_none (field_of k es)) || has_one_of ks es

abbrev pub alone_field : {A : Type 0} → Bool → Form A → Key → Option Tree → Answer (Option A)
alone_field others f key value = on_some (gives None)
    (λ t. cond others (refused key rules.Both) (mapped Some (f.read key t))) value

abbrev pub optional_alone : {A : Type 0} → Key → List Key → Form A → FieldLine (Option A)
optional_alone key others f = record {
  keys = key ∷ [];
  read = λ es. alone_field (has_one_of others es) f key (field_of key es);
  write = λ a behind. own_where key (spelled_where f a) behind;
}

-- exactly one of two fields, whose fault has the first one's name
abbrev pub either_field : {A : Type 0} → Form A → Key → Form A → Key → Option Tree
    → Option Tree → Answer A
either_field f key g other None None = refused key rules.Neither
either_field f key g other (Some t) None = f.read key t
either_field f key g other None (Some t) = g.read other t
either_field f key g other (Some t) (Some u) = refused key rules.Both

-- is_first says of a value whether it is written under the first key
abbrev pub one_of : {A : Type 0} → Key → Form A → Key → Form A → (A → Bool) → FieldLine A
one_of key f other g is_first = record {
  keys = key ∷ other ∷ [];
  read = λ es. either_field f key g other (field_of key es) (field_of other es);
  write = λ a behind. cond (is_first a) (own key (f.write a) behind) (own other (g.write a) behind);
}

-- what must hold of the fields before, where else the field of that key is at fault
abbrev pub holding : Bool → Key → Rule → FieldLine (Unit {0})
holding holds key rule = record {
  keys = [];
  read = λ es. cond holds (gives tt) (refused key rule);
  write = λ _ behind. behind;
}

-- a value that a scalar's text stands for
abbrev pub told : {A : Type 0} → Key → Result A Rule → Answer A
told key (Ok a) = gives a
told key (Err rule) = refused key rule

abbrev pub scalar_read : {A : Type 0} → Rule → (List ℕ → Result A Rule) → Key → Tree → Answer A
scalar_read rule parse key t =
    on_some (refused key rule) (λ text. told key (parse text)) (scalar_in t)

-- a scalar: the rule that another node breaks, how its text is read, and how a value is written
abbrev pub scalar_form : {A : Type 0} → Rule → (List ℕ → Result A Rule) → (A → Spelling) → Form A
scalar_form rule parse write = record { read = scalar_read rule parse; write = write }

-- a map that is told by a table
abbrev pub map_read : {A : Type 0} → (Entries → Answer A) → Key → Tree → Answer A
map_read inside key t = on_some (refused key rules.NotMap) inside (mapping_in t)

abbrev pub map_with : {A : Type 0} → FieldTable A → Form A
map_with table = record {
  read = λ key t. map_read (λ es. answer_by table [] es) key t;
  write = λ v. fields (fields_by table v);
}

-- a variant of a type: how its content is made one, and how each of the type's values is written
abbrev pub variant : {A B : Type 0} → Form A → (A → B) → (B → Spelling) → Form B
variant f made write = record { read = λ key t. mapped made (f.read key t); write = write }

-- what is written of a value, where it has the part that the form tells
abbrev pub written_where : {A B : Type 0} → Form A → (B → Option A) → B → Spelling
written_where f part b = written_or_nothing f (part b)
  where
    written_or_nothing : {A : Type 0} → Form A → Option A → Spelling
    written_or_nothing f None = fields no_fields
    written_or_nothing f (Some a) = f.write a

-- a list that is read item by item, each with the values before it; faults of the list have its key
abbrev pub count : Trees → ℕ
count no_trees = 0
count (item t ts) = 1 + count ts

abbrev pub with_item : {A : Type 0} → List Object → List A → Answer A
    → (List Object → List A → Answer (List A)) → Answer (List A)
with_item objects values (Ok p) rest = rest (objects ++ p.0) (values ++ p.1 ∷ [])
with_item objects values (Err e) rest = Err e

abbrev pub each : {A : Type 0} → (List A → Tree → Answer A) → List Object → List A → Trees
    → Answer (List A)
each read objects values no_trees = Ok (objects, values)
each read objects values (item t ts) =
    with_item objects values (read values t) (λ os vs. each read os vs ts)

abbrev pub list_read : {A : Type 0} → (ℕ → Bool) → (Key → List A → Tree → Answer A) → Key → Tree
    → Answer (List A)
list_read may_have read key t = on_some (refused key rules.NotList)
    (λ ts. cond (may_have (count ts)) (each (read key) [] [] ts) (refused key rules.ListLength))
    (list_in t)

abbrev pub written_items : {A : Type 0} → (A → Spelling) → List A → Items
written_items write [] = no_items
written_items write (a ∷ rest) = one_item (write a) (written_items write rest)

abbrev pub list_with : {A : Type 0} → (ℕ → Bool) → (Key → List A → Tree → Answer A) → (A → Spelling)
    → Form (List A)
list_with may_have read write = record {
  read = list_read may_have read;
  write = λ v. items (written_items write v);
}

-- a list of exactly one item
abbrev pub only_in : Trees → Option Tree
only_in no_trees = None
only_in (item t no_trees) = Some t
only_in (item t (item u ts)) = None

abbrev pub single_read : {A : Type 0} → (Key → Tree → Answer A) → Key → Tree → Answer A
single_read read key t = on_some (refused key rules.NotList)
    (λ ts. on_some (refused key rules.ListLength) (read key) (only_in ts)) (list_in t)

abbrev pub single : {A : Type 0} → Form A → Form A
single f = record { read = single_read f.read; write = λ a. items (one_item (f.write a) no_items) }

-- a free part: any node, which is kept and written as it is
abbrev pub free : Form Tree
free = record { read = λ key t. gives t; write = spelled }

abbrev pub free_map_read : Key → Tree → Answer Tree
free_map_read key t = on_some (refused key rules.NotMap) (λ _. gives t) (mapping_in t)

abbrev pub free_map : Form Tree
free_map = record { read = free_map_read; write = spelled }
