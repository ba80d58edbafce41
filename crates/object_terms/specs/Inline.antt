-- Objects that stand inline, and references.
use Rattle.std.specs.Prelude.{ℕ, is_none, cond, List, [], ◌∷◌, ◌++◌, None, Ok, Err, codes}
use Rattle.yaml_terms.specs.Tree.{Tree, Entries}
use Rattle.yaml_terms.specs.Spelling.{Spelling, quoted, fields, no_fields}
use Rattle.object_terms.specs.declared.kind.Kind.{Kind}
use Rattle.object_terms.specs.declared.object.Object.{Object}
use Rattle.object_terms.specs.declared.object.Body.{Body}
use Rattle.object_terms.specs.Form.{Key, Answer, Form, FieldTable, done, answer_by, field_of, ◌of◌}
use Rattle.object_terms.specs.Form.{◌>>=◌, required, optional, map_with, map_read, own}
use Rattle.object_terms.specs.Metadata.{metadata, object_with, metadata_of}
use Rattle.object_terms.specs.Scalars.{name, version, only_kind}
use Rattle.object_terms.specs.declared.keys.TheConstants.{API_VERSION, KIND, METADATA, SPEC}

-- An object that stands inline: its version and its kind may be omitted.
unfoldable pub inline_object : Kind → Form Body → FieldTable Object
inline_object kind body = do
  _ ← optional API_VERSION.now version of λ o. None
  _ ← optional KIND.now (only_kind kind) of λ o. None
  metadata ← required METADATA.now (map_with metadata) of metadata_of
  spec ← required SPEC.now body of λ o. o.body
  done (object_with kind metadata spec)

-- it is taken out behind those that stood in it, and its name stays
abbrev pub taken_out : Answer Object → Answer (List ℕ)
taken_out (Ok p) = Ok (p.0 ++ p.1 ∷ [], p.1.name)
taken_out (Err f) = Err f

abbrev pub inline_read : Kind → Form Body → Entries → Answer (List ℕ)
inline_read kind body es = taken_out (answer_by (inline_object kind body) [] es)

-- a reference: a map of that key alone
unfoldable pub reference : Key → FieldTable (List ℕ)
reference key = do
  target ← required key name of λ n. n
  done target

abbrev pub reference_written : Key → List ℕ → Spelling
reference_written key n = fields (own key (quoted n) no_fields)

-- an item that is a map: a reference where the reference's key stands, else an object
abbrev pub item_read : Key → Kind → Form Body → Entries → Answer (List ℕ)
item_read key kind body es =
    cond (is_none (field_of key es)) (inline_read kind body es) (answer_by (reference key) [] es)

-- an item of a list of references: a fault of its form is the list's
abbrev pub reference_item : Key → Kind → Form Body → Key → List (List ℕ) → Tree → Answer (List ℕ)
reference_item key kind body listed before t = map_read (item_read key kind body) listed t
