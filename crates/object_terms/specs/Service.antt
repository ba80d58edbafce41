-- Services (OpenSLO v1, Service).
use Rattle.std.specs.Prelude.{codes, Option, Some, None}
use Rattle.object_terms.specs.declared.service.Service.{Service}
use Rattle.object_terms.specs.declared.object.Body.{Body}
use Rattle.object_terms.specs.declared.object.Body.TheVariants as bodies
use Rattle.object_terms.specs.Form.{FieldTable, done, ◌of◌, ◌>>=◌, optional, Form, map_with}
use Rattle.object_terms.specs.Form.{variant, written_where}
use Rattle.object_terms.specs.Scalars.{description}
use Rattle.object_terms.specs.declared.keys.TheConstants.{DESCRIPTION}

unfoldable pub service : FieldTable Service
service = do
  description ← optional DESCRIPTION.now description of λ s. s.description
  done (record { description = description })

-- the object's body
abbrev pub service_in : Body → Option Service
service_in (bodies.Service s) = Some s
service_in _ = None

abbrev pub service_body : Form Body
service_body =
    variant (map_with service) bodies.Service (written_where (map_with service) service_in)
