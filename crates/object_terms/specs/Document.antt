-- Documents, and the objects that they stand for (OpenSLO v1, general schema).
use Rattle.std.specs.Prelude.{◌≡◌, List, [], ◌∷◌, ◌++◌, Result, Ok, Err, Contains, codes}
use Rattle.yaml_terms.specs.Tree.{Tree}
use Rattle.yaml_terms.specs.Spelling.{Spelling}
use Rattle.yaml_terms.specs.SpellingFits.{IsWritable}
use Rattle.object_terms.specs.declared.kind.Kind.{Kind}
use Rattle.object_terms.specs.declared.kind.Kind.TheVariants as kinds
use Rattle.object_terms.specs.declared.object.Object.{Object}
use Rattle.object_terms.specs.declared.object.Body.{Body}
use Rattle.object_terms.specs.declared.fault.ObjectFault.{ObjectFault}
use Rattle.object_terms.specs.Form.{Answer, Form, FieldTable, done, ◌of◌, ◌>>=◌, required, map_with}
use Rattle.object_terms.specs.Metadata.{metadata, object_with, metadata_of}
use Rattle.object_terms.specs.Scalars.{version, kind}
use Rattle.object_terms.specs.DataSource.{data_source_body}
use Rattle.object_terms.specs.Service.{service_body}
use Rattle.object_terms.specs.Sli.{sli_body}
use Rattle.object_terms.specs.Slo.{slo_body}
use Rattle.object_terms.specs.AlertPolicy.{policy_body}
use Rattle.object_terms.specs.AlertCondition.{condition_body}
use Rattle.object_terms.specs.AlertNotificationTarget.{target_body}
use Rattle.object_terms.specs.declared.fault.TheConstants.{DOCUMENT}
use Rattle.object_terms.specs.declared.keys.TheConstants.{API_VERSION, KIND, METADATA, SPEC}

-- the form of `spec`, by the kind
abbrev pub body_form : Kind → Form Body
body_form kinds.DataSource = data_source_body
body_form kinds.Service = service_body
body_form kinds.Sli = sli_body
body_form kinds.Slo = slo_body
body_form kinds.AlertPolicy = policy_body
body_form kinds.AlertCondition = condition_body
body_form kinds.AlertNotificationTarget = target_body

unfoldable pub body : Kind → Form Body
body kind = body_form kind

-- a document
unfoldable pub document : FieldTable Object
document = do
  _ ← required API_VERSION.now version of λ o. tt
  kind ← required KIND.now kind of λ o. o.kind
  metadata ← required METADATA.now (map_with metadata) of metadata_of
  spec ← required SPEC.now (body kind) of λ o. o.body
  done (object_with kind metadata spec)

-- the objects that stood inline, in order, and then the document's own
abbrev pub with_own : Answer Object → Result (List Object) ObjectFault
with_own (Ok p) = Ok (p.0 ++ p.1 ∷ [])
with_own (Err f) = Err f

-- The objects that a node stands for, or its first fault: in the order of the tables, depth first,
-- unknown fields of a map last.
abbrev pub objects_of : Tree → Result (List Object) ObjectFault
objects_of t = with_own ((map_with document).read DOCUMENT.now t)

-- what an object is written as
abbrev pub written : Object → Spelling
written o = (map_with document).write o

-- An object that a document stands for: its own, or one that stood inline in it. Every node of a
-- text can be written.
pub record IsOfDocument (o : Object) : Type 0 where
  pub node : Tree
  pub objects : List Object
  pub can_be_written : IsWritable node
  pub are_read : objects_of node ≡ Ok objects
  pub is_among : Contains objects o
