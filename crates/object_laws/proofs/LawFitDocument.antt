-- The writing of each object of a document can be written, where the document can.
use Rattle.std.proofs.Common.{◌≡◌, ℕ, ◌≤◌, false, List, [], ◌∷◌, ◌++◌, Ok, Err, length, refl, subst}
use Rattle.std.proofs.Common.{arith}
use Rattle.std.specs.Prelude.{codes}
use Rattle.std.specs.List.{AllByRecursion}
use Rattle.slo_limits.specs.declared.TheConstants.{MAX_TEXT_BYTES}
use Rattle.yaml_terms.specs.Tree.{Tree}
use Rattle.yaml_terms.specs.Spelling.{Spelling, word, no_fields, meant, writing, is_word}
use Rattle.yaml_terms.specs.Profile.{max_depth}
use Rattle.yaml_terms.specs.SpellingFits.{SpellingFits, FitFields, IsWritable}
use Rattle.yaml_terms.specs.Text.{StandsFor}
use Rattle.object_terms.specs.declared.object.Object.{Object}
use Rattle.object_terms.specs.declared.object.Body.{Body}
use Rattle.object_terms.specs.declared.metadata.Metadata.{Metadata}
use Rattle.object_terms.specs.declared.kind.Kind.{Kind}
use Rattle.object_terms.specs.declared.kind.Kind.TheVariants as kinds
use Rattle.object_terms.specs.Form.{Answer, fields_by, own, map_with}
use Rattle.object_terms.specs.Metadata.{metadata, object_with}
use Rattle.object_terms.specs.Scalars.{version, version_text, kind, kind_word}
use Rattle.object_terms.specs.AlertPolicy.{policy_body}
use Rattle.object_terms.specs.Document.{body_form, body, document, with_own, objects_of, written}
use Rattle.object_terms.proofs.AnswerLemmas.{ok_same, err_not_ok}
use Rattle.object_laws.proofs.LawFieldTables.{all_joined}
use Rattle.object_laws.proofs.LawDocument.{document_law}
use Rattle.object_laws.proofs.LawFits.{deeper, own_fits, FormFit, TableFit, Within, map_fit}
use Rattle.object_laws.proofs.LawFits.{required_fit}
use Rattle.object_laws.proofs.LawFitForms.{word_fit}
use Rattle.object_laws.proofs.LawTables.{version_fit, kind_fit, kind_fits, metadata_fit}
use Rattle.object_laws.proofs.LawTables.{service_body_fit, data_source_body_fit, condition_body_fit}
use Rattle.object_laws.proofs.LawTables.{target_body_fit, sli_body_fit}
use Rattle.object_laws.proofs.LawObjectives.{OwnFit, roomy, policy_body_fit, slo_body_fit}
use Rattle.object_terms.specs.declared.fault.TheConstants.{DOCUMENT}
use Rattle.object_terms.specs.declared.keys.TheConstants.{API_VERSION, KIND, METADATA, SPEC}

abbrev Any : Object → Type 0
Any o = Unit {0}

-- the object's writing can be written
abbrev pub IsFit : Object → Type 0
IsFit o = SpellingFits max_depth (written o)

-- one level below the document's
abbrev inside : ℕ
inside = 31

document_fits : (k : Kind) (m : Metadata) (b : Body)
    → SpellingFits inside ((map_with metadata).write m)
    → SpellingFits inside ((body_form k).write b)
    → FitFields inside (fields_by document (object_with k m b))
unfolding document body
document_fits k m b fm fb =
    own_fits inside API_VERSION.now (word version_text)
    (own KIND.now (word (kind_word k)) (own METADATA.now ((map_with metadata).write m)
    (own SPEC.now ((body_form k).write b) no_fields))) refl refl
    (word_fit version_text inside refl refl)
    (own_fits inside KIND.now (word (kind_word k)) (own METADATA.now ((map_with metadata).write m)
    (own SPEC.now ((body_form k).write b) no_fields)) refl refl (kind_fits k inside)
    (own_fits inside METADATA.now ((map_with metadata).write m)
    (own SPEC.now ((body_form k).write b) no_fields) refl refl fm
    (own_fits inside SPEC.now ((body_form k).write b) no_fields refl refl fb tt)))

-- an object that stood inline
own_fit : (k : Kind) → FormFit IsFit 0 (body_form k) → OwnFit IsFit k (body_form k)
own_fit k fit tm ts m b em eb d h ft fs =
    let low : d ≤ inside = omega arith in
    let below : d ≤ max_depth = omega arith in
    let none : 0 ≤ d = omega arith in
    document_fits k m.1 b.1 (deeper d inside ((map_with metadata).write m.1) low
    (metadata_fit IsFit METADATA.now tm m em d none below ft).0)
    (deeper d inside ((body_form k).write b.1) low (fit SPEC.now ts b eb d none below fs).0)

policy_fit : FormFit IsFit 0 policy_body
policy_fit = policy_body_fit IsFit (own_fit kinds.AlertCondition (condition_body_fit IsFit))
    (own_fit kinds.AlertNotificationTarget (target_body_fit IsFit))

body_fit : (k : Kind) → FormFit IsFit 3 (body k)
unfolding body
body_fit kinds.DataSource = roomy IsFit 3 (body_form kinds.DataSource) (data_source_body_fit IsFit)
body_fit kinds.Service = roomy IsFit 3 (body_form kinds.Service) (service_body_fit IsFit)
body_fit kinds.Sli = roomy IsFit 3 (body_form kinds.Sli) (sli_body_fit IsFit)
body_fit kinds.Slo = slo_body_fit IsFit policy_fit (own_fit kinds.AlertPolicy policy_fit)
    (own_fit kinds.Sli (sli_body_fit IsFit))
body_fit kinds.AlertPolicy = roomy IsFit 3 (body_form kinds.AlertPolicy) policy_fit
body_fit kinds.AlertCondition =
    roomy IsFit 3 (body_form kinds.AlertCondition) (condition_body_fit IsFit)
body_fit kinds.AlertNotificationTarget =
    roomy IsFit 3 (body_form kinds.AlertNotificationTarget) (target_body_fit IsFit)

document_table : TableFit IsFit 3 document
unfolding document
document_table = (
  required_fit IsFit 3 API_VERSION.now version refl (version_fit IsFit 3),
  λ v. (
    required_fit IsFit 3 KIND.now kind refl (kind_fit IsFit 3),
    λ k. (
      required_fit IsFit 3 METADATA.now (map_with metadata) refl
          (roomy IsFit 3 (map_with metadata) (metadata_fit IsFit)),
      λ m.
          (required_fit IsFit 3 SPEC.now (body k) refl (body_fit k), λ s. tt),
    ),
  ),
)

four_levels : Within 4 3
four_levels d h = omega arith

document_fit : FormFit IsFit 4 (map_with document)
document_fit = map_fit IsFit 4 3 Any document four_levels
    (document_law Any (λ k tm ts m b nm ns em eb. tt)) document_table

pub each_fits : (t : Tree) (os : List Object) → IsWritable t → objects_of t ≡ Ok os
    → AllByRecursion (λ o. SpellingFits max_depth (written o)) os
each_fits t os w e = by ((map_with document).read DOCUMENT.now t) refl e
  where
    by : (a : Answer Object) → (map_with document).read DOCUMENT.now t ≡ a → with_own a ≡ Ok os
        → AllByRecursion IsFit os
    by (Ok p) f g = let r =
        document_fit DOCUMENT.now t p f max_depth (omega arith) (omega arith) w in
        subst (AllByRecursion IsFit) (ok_same (p.0 ++ p.1 ∷ []) os g)
        (all_joined IsFit p.0 (p.1 ∷ []) r.1 (r.0, tt))
    by (Err x) f g = absurd (err_not_ok x os g)

-- the text of an object's writing stands for its node, where every spelling's text does
pub texts_stand : ((s : Spelling) → SpellingFits max_depth s → is_word s ≡ false
    → length (writing 0 s) ≤ MAX_TEXT_BYTES → StandsFor (writing 0 s) (meant s ∷ []))
    → (t : Tree) (os : List Object) → IsWritable t
    → objects_of t ≡ Ok os → AllByRecursion (λ o. length (writing 0 (written o)) ≤ MAX_TEXT_BYTES
    → StandsFor (writing 0 (written o)) (meant (written o) ∷ [])) os
texts_stand law t os w e = each os (each_fits t os w e)
  where
    each : (os : List Object) → AllByRecursion IsFit os
        → AllByRecursion (λ o. length (writing 0 (written o)) ≤ MAX_TEXT_BYTES
        → StandsFor (writing 0 (written o)) (meant (written o) ∷ [])) os
    each [] h = tt
    each (o ∷ os) h = (λ b. law (written o) h.0 refl b, each os h.1)
