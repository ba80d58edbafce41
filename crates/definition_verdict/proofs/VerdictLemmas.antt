-- A text has one verdict at most.
use Rattle.std.proofs.Common.{◌≡◌, ℕ, List, length, ap, sym, ◌∙◌}
use Rattle.std.specs.Prelude.{Result, Ok, Err}
use Rattle.yaml_terms.specs.Tree.{Tree}
use Rattle.yaml_terms.specs.Text.{StandsFor}
use Rattle.yaml_terms.proofs.ReadLemmas.{one_list}
use Rattle.object_terms.specs.declared.Object.{Object}
use Rattle.record_form.specs.declared.Refusal.{Refusal}
use Rattle.record_form.specs.declared.Refusal.TheVariants.{Yaml}
use Rattle.catalog_terms.specs.Define.{is_unchanged}
use Rattle.office_history.specs.Definitions.{Definition, IsDefinition, IsRefused, Known}
use Rattle.office_history.specs.Definitions.{defined_over, definition_of, no_definition, no_text}
use Rattle.office_history.specs.Definitions.{then_defined}
use Rattle.definition_verdict.specs.declared.definition.Definition.{Definition as Answered}
use Rattle.definition_verdict.specs.declared.definition.VerdictError.{VerdictError}
use Rattle.definition_verdict.specs.declared.definition.VerdictError.TheVariants.{Refused}
use Rattle.office_history.specs.Documents.{objects_in}
use Rattle.definition_verdict.proofs.FaultLemmas.{no_yaml_fault, one_yaml_fault}

-- what two lists of documents of one text define is the same
same_definition : (known : Known) (text : List ℕ) (xs ys : List Tree) → StandsFor text xs
    → StandsFor text ys → definition_of known xs ≡ definition_of known ys
same_definition known text xs ys p q = ap (definition_of known) (one_list text xs ys p q)

pub one_refusal : (known : Known) (text : List ℕ) (a b : Refusal) → IsRefused known text a
    → IsRefused known text b → a ≡ b
one_refusal known text _ _ (no_text {line = j} {word = v} p) (no_text {line = k} {word = w} q) =
    let same = one_yaml_fault text j k v w p q in
    ap (λ n. Yaml n v) same.0 ∙ ap (Yaml k) same.1
one_refusal known text _ b (no_text {line = j} {word = v} p) (no_definition {nodes = ys} q e) =
    absurd (no_yaml_fault text ys j v q p)
one_refusal known text a _ (no_definition {nodes = xs} p e) (no_text {line = k} {word = w} q) =
    absurd (no_yaml_fault text xs k w p q)
one_refusal known text a b (no_definition {nodes = xs} p e) (no_definition {nodes = ys} q f) =
    let same = same_definition known text xs ys p q in
    cc (same, e, f)

-- what is defined, by the one definition of the text
defined : (known : Known) (text : List ℕ) (made : Definition) (m : IsDefinition known text made)
    → definition_of known m.nodes ≡ Ok made.catalog
defined known text made m = ap (then_defined known) m.read ∙ m.defined

same_made : (a b : Definition) → a.catalog ≡ b.catalog → a.documents ≡ b.documents
    → a.objects ≡ b.objects → a.same ≡ b.same → a ≡ b
same_made a b c d o s = λ i. record { catalog = c i; documents = d i; objects = o i; same = s i }

pub one_definition : (known : Known) (text : List ℕ) (a b : Definition) → IsDefinition known text a
    → IsDefinition known text b → a ≡ b
one_definition known text a b m n =
    let nodes : m.nodes ≡ n.nodes = one_list text m.nodes n.nodes m.stands n.stands in
    let read : ◌≡◌ {A = Result (List Object) Refusal} (Ok m.all) (Ok n.all) = sym m.read
    ∙ ap objects_in nodes ∙ n.read in
    let all : m.all ≡ n.all = cc read in
    let whole : ◌≡◌ {A = Result (List Object) Refusal} (Ok a.catalog) (Ok b.catalog) =
    sym (defined known text a m) ∙ ap (definition_of known) nodes ∙ defined known text b n in
    let members : a.catalog ≡ b.catalog = cc whole in
    same_made a b members
    (m.of_documents ∙ ap length nodes ∙ sym n.of_documents)
    (m.of_objects ∙ ap length all ∙ sym n.of_objects)
    (m.unchanged ∙ ap (is_unchanged known.members) all ∙ sym n.unchanged)

pub no_refusal : (known : Known) (text : List ℕ) (made : Definition) (refusal : Refusal)
    → IsDefinition known text made → IsRefused known text refusal → ⊥
no_refusal known text made _ m (no_text {line = k} {word = w} q) =
    no_yaml_fault text m.nodes k w m.stands q
no_refusal known text made refusal m (no_definition {nodes = ys} q f) =
    let same = same_definition known text m.nodes ys m.stands q in
    let here = defined known text made m in
    cc (same, here, f)

-- the refusal that is answered
pub same_refused : (a b : Refusal)
    → ◌≡◌ {A = Result Answered VerdictError} (Err (Refused a)) (Err (Refused b)) → a ≡ b
same_refused a b e = cc e

-- a text with a document that stands for no objects
pub refused_documents : (known : Known) (text : List ℕ) (nodes : List Tree) (refusal : Refusal) →
    StandsFor text nodes → objects_in nodes ≡ Err refusal → IsRefused known text refusal
refused_documents known text nodes refusal stands e =
    no_definition stands (ap (then_defined known) e)

-- a text whose objects can't be defined
pub refused_objects : (known : Known) (text : List ℕ) (nodes : List Tree) (all : List Object)
    (refusal : Refusal) →
    StandsFor text nodes → objects_in nodes ≡ Ok all → defined_over known all ≡ Err refusal →
    IsRefused known text refusal
refused_objects known text nodes all refusal stands read e =
    no_definition stands (ap (then_defined known) read ∙ e)
