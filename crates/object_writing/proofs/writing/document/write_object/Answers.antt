use Rattle.std.proofs.Common.{◌≡◌, ◌≤◌, [], ◌∷◌, Ok, length, subst, sym}
use Rattle.slo_limits.specs.declared.TheConstants.{MAX_TEXT_BYTES}
use Rattle.yaml_terms.specs.Profile.{max_depth}
use Rattle.yaml_terms.specs.SpellingFits.{SpellingFits}
use Rattle.yaml_terms.specs.Text.{StandsFor}
use Rattle.yaml_terms.specs.Spelling.{meant, writing}
use Rattle.object_terms.specs.Document.{objects_of, written}
use Rattle.object_writing.proofs.OriginLemmas.{of_document}
use Rattle.object_writing.proofs.writing.document.write_object.Goals as goal

pub returns-in_err-document-clause-stands : goal.returns-in_err-document-clause-stands
returns-in_err-document-clause-stands c =
    of_document (λ o. length (writing 0 (written o)) ≤ MAX_TEXT_BYTES
    → StandsFor (writing 0 (written o)) (meant (written o) ∷ []))
    c.each_object_can_be_written.ensures.stands c.args.value.now c.requires

pub returns-in_err-document-clause-alone : goal.returns-in_err-document-clause-alone
returns-in_err-document-clause-alone c =
    of_document (λ o. objects_of (meant (written o)) ≡ Ok (o ∷ []))
    (λ t os w. c.each_object_reads_back.ensures t os) c.args.value.now c.requires

pub write_spelling-requires : goal.write_spelling-requires
write_spelling-requires c =
    subst (SpellingFits max_depth) (sym c.in_ok-document.ensures)
    (of_document (λ o. SpellingFits max_depth (written o)) c.each_object_can_be_written.ensures.fits
    c.args.value.now c.requires)

pub returns-clause-stands : goal.returns-clause-stands
returns-clause-stands c =
    of_document (λ o. length (writing 0 (written o)) ≤ MAX_TEXT_BYTES
    → StandsFor (writing 0 (written o)) (meant (written o) ∷ []))
    c.each_object_can_be_written.ensures.stands c.args.value.now c.requires

pub returns-clause-alone : goal.returns-clause-alone
returns-clause-alone c = of_document (λ o. objects_of (meant (written o)) ≡ Ok (o ∷ []))
    (λ t os w. c.each_object_reads_back.ensures t os) c.args.value.now c.requires
