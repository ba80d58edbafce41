-- Data sources (OpenSLO v1, DataSource).
use Rattle.std.specs.Prelude.{codes, Option, Some, None}
use Rattle.object_terms.specs.declared.data_source.DataSource.{DataSource}
use Rattle.object_terms.specs.declared.object.Body.{Body}
use Rattle.object_terms.specs.declared.object.Body.TheVariants as bodies
use Rattle.object_terms.specs.Form.{FieldTable, done, ◌of◌, ◌>>=◌, required, optional, free, Form}
use Rattle.object_terms.specs.Form.{map_with, variant, written_where}
use Rattle.object_terms.specs.Scalars.{description, text}
use Rattle.object_terms.specs.declared.keys.TheConstants.{CONNECTION_DETAILS, DESCRIPTION, TYPE}

unfoldable pub data_source : FieldTable DataSource
data_source = do
  description ← optional DESCRIPTION.now description of λ s. s.description
  type_text ← required TYPE.now text of λ s. s.type_text
  connection_details ← optional CONNECTION_DETAILS.now free of λ s. s.connection_details
  done (record {
    description = description;
    type_text = type_text;
    connection_details = connection_details;
  })

-- the object's body
abbrev pub data_source_in : Body → Option DataSource
data_source_in (bodies.DataSource s) = Some s
data_source_in _ = None

abbrev pub data_source_body : Form Body
data_source_body = variant (map_with data_source) bodies.DataSource
    (written_where (map_with data_source) data_source_in)
