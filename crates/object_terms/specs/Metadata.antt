-- The metadata of an object, and the object that they and a `spec` make.
use Rattle.std.specs.Prelude.{codes}
use Rattle.object_terms.specs.declared.kind.Kind.{Kind}
use Rattle.object_terms.specs.declared.object.Object.{Object}
use Rattle.object_terms.specs.declared.object.Body.{Body}
use Rattle.object_terms.specs.declared.metadata.Metadata.{Metadata}
use Rattle.object_terms.specs.Form.{FieldTable, done, ◌of◌, ◌>>=◌, required, optional, free_map}
use Rattle.object_terms.specs.Scalars.{name, text}
use Rattle.object_terms.specs.declared.keys.TheConstants.{ANNOTATIONS, LABELS, NAME, DISPLAY_NAME}

-- `metadata` (OpenSLO v1, general schema)
unfoldable pub metadata : FieldTable Metadata
metadata = do
  name ← required NAME.now name of λ m. m.name
  display_name ← optional DISPLAY_NAME.now text of λ m. m.display_name
  labels ← optional LABELS.now free_map of λ m. m.labels
  annotations ← optional ANNOTATIONS.now free_map of λ m. m.annotations
  done (record {
    name = name;
    display_name = display_name;
    labels = labels;
    annotations = annotations;
  })

abbrev pub object_with : Kind → Metadata → Body → Object
object_with kind m body = record {
  kind = kind;
  name = m.name;
  display_name = m.display_name;
  labels = m.labels;
  annotations = m.annotations;
  body = body;
}

abbrev pub metadata_of : Object → Metadata
metadata_of o = record {
  name = o.name;
  display_name = o.display_name;
  labels = o.labels;
  annotations = o.annotations;
}
