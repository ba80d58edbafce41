-- The verdict on a text that is to be defined.
use Rattle.std.specs.Prelude.{◌≡◌, ℕ, Bool, true, false, List, length, Option, Some, None, Result}
use Rattle.std.specs.Prelude.{Ok, Err}
use Rattle.yaml_terms.specs.Tree.{Tree}
use Rattle.yaml_terms.specs.Text.{StandsFor}
use Rattle.sample_book.specs.declared.Row.{Row}
use Rattle.object_terms.specs.declared.Object.{Object}
use Rattle.catalog_terms.specs.Define.{is_unchanged, proposed_members}
use Rattle.catalog_terms.specs.Limits.{first_limit}
use Rattle.catalog_terms.specs.declared.CatalogFault.{CatalogFault}
use Rattle.catalog_terms.specs.declared.CatalogFault.TheVariants as faults
use Rattle.catalog_terms.specs.declared.CatalogLimit.{CatalogLimit}
use Rattle.catalog_terms.specs.declared.CatalogLimit.TheVariants as catalog_limits
use Rattle.record_form.specs.declared.LimitName.{LimitName}
use Rattle.record_form.specs.declared.LimitName.TheVariants as limits
use Rattle.record_form.specs.declared.Refusal.{Refusal}
use Rattle.record_form.specs.declared.Refusal.TheVariants as refusals
use Rattle.record_form.specs.declared.YamlWord.{YamlWord}
use Rattle.office_history.specs.Documents.{objects_in}
use Rattle.office_history.specs.Readings.{first_read_anew}
use Rattle.office_history.specs.Starts.{one_begins_too_often}
use Rattle.office_history.specs.Texts.{IsYamlFault}
use Rattle.office_history.specs.KnownZones.{first_unknown_zone}

-- what an office keeps, as far as a definition is judged by it
pub record Known : Type 0 where
  -- the members of the catalog
  pub members : List Object
  -- the names of the zones that are known beside `UTC`
  pub zones : List (List ℕ)
  -- the current rows, in the order in which their cells first came
  pub rows : List Row
  -- calendars begin at most MAX_STARTS times below this minute
  pub horizon : ℕ

abbrev pub known : List Object → List (List ℕ) → List Row → ℕ → Known
known members zones rows horizon =
    record { members = members; zones = zones; rows = rows; horizon = horizon }

abbrev pub limit_name : CatalogLimit → LimitName
limit_name catalog_limits.Objects = limits.Objects
limit_name catalog_limits.Catalog = limits.Catalog
limit_name catalog_limits.Slis = limits.Slis
limit_name catalog_limits.Slos = limits.Slos
limit_name catalog_limits.Bindings = limits.Bindings

-- a fault of the catalog as a refusal
abbrev pub catalog_refusal : CatalogFault → Refusal
catalog_refusal (faults.Reserved name) = refusals.ReservedPolicy name
catalog_refusal (faults.DuplicateInText kind name) = refusals.Duplicate kind name
catalog_refusal (faults.Unresolved from_kind from_name kind name) =
    refusals.Unresolved from_kind from_name kind name
catalog_refusal (faults.NeedsOp slo objective) = refusals.NeedsOp objective slo
catalog_refusal (faults.Limit limit) = refusals.Limit (limit_name limit)

-- an indicator of this row would get another reading
abbrev pub has_samples : Row → Refusal
has_samples row = refusals.HasSamples row.minute row.sli row.source

-- the first refusal that is found, or what comes of the tests behind it
abbrev pub unless : {A : Type 0} → (A → Refusal) → Option A → Result (List Object) Refusal →
    Result (List Object) Refusal
unless refusal None rest = rest
unless refusal (Some found) rest = Err (refusal found)

abbrev pub unless_many_starts : Bool → Result (List Object) Refusal → Result (List Object) Refusal
unless_many_starts true rest = Err (refusals.Limit limits.Starts)
unless_many_starts false rest = rest

-- the members that would be there, judged by their limits
abbrev pub within_limits : ℕ → List Object → Result (List Object) Refusal
within_limits horizon members =
    unless (λ limit. refusals.Limit (limit_name limit)) (first_limit members)
    (unless_many_starts (one_begins_too_often horizon members) (Ok members))

-- what the catalog proposes, judged by what else the office keeps
abbrev pub judged_by : Known → List Object → Result (List Object) CatalogFault →
    Result (List Object) Refusal
judged_by known objects (Err fault) = Err (catalog_refusal fault)
judged_by known objects (Ok members) =
    unless refusals.UnknownZone (first_unknown_zone known.zones objects)
    (unless has_samples (first_read_anew known.members known.rows objects)
    (within_limits known.horizon members))

-- The members after the objects are defined; or the first refusal, in the order: a built-in
-- policy's name, a duplicate, a reference to nothing, an objective that needs `op`, an unknown
-- zone, an indicator with samples that would be read otherwise, and the limits of objects, bytes,
-- SLIs, SLOs, bindings and starts.
abbrev pub defined_over : Known → List Object → Result (List Object) Refusal
defined_over known objects = judged_by known objects (proposed_members known.members objects)

abbrev pub then_defined : Known → Result (List Object) Refusal → Result (List Object) Refusal
then_defined known (Ok objects) = defined_over known objects
then_defined known (Err refusal) = Err refusal

-- The members after the documents are defined, or the first refusal: of a document that stands for
-- no objects, or of the objects.
abbrev pub definition_of : Known → List Tree → Result (List Object) Refusal
definition_of known documents = then_defined known (objects_in documents)

-- What a text defines: the members of the catalog with its objects, how many documents and objects
-- it stands for, and whether the catalog stays as it is.
pub record Definition : Type 0 where
  pub catalog : List Object
  pub documents : ℕ
  pub objects : ℕ
  pub same : Bool

-- The text stands for documents, these for objects, and they can be defined: so many they are, and
-- these are the members then. The catalog stays as it is where each object is written as the member
-- of its kind and name.
pub record IsDefinition (known : Known) (text : List ℕ) (made : Definition) : Type 0 where
  pub nodes : List Tree
  pub all : List Object
  pub stands : StandsFor text nodes
  pub read : objects_in nodes ≡ Ok all
  pub defined : defined_over known all ≡ Ok made.catalog
  pub of_documents : made.documents ≡ length nodes
  pub of_objects : made.objects ≡ length all
  pub unchanged : made.same ≡ is_unchanged known.members all

-- The text is refused: it stands for no documents, by the first line that has no place; or its
-- documents can't be defined.
pub data IsRefused (known : Known) (text : List ℕ) : Refusal → Type 0 where
  no_text : {line : ℕ} {word : YamlWord} → IsYamlFault text line word →
      IsRefused known text (refusals.Yaml line word)
  no_definition : {nodes : List Tree} {refusal : Refusal} → StandsFor text nodes →
      definition_of known nodes ≡ Err refusal →
      IsRefused known text refusal
