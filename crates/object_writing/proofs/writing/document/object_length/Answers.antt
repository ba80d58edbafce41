use Rattle.std.proofs.Common.{subst, sym}
use Rattle.yaml_terms.specs.Profile.{max_depth}
use Rattle.yaml_terms.specs.SpellingFits.{SpellingFits}
use Rattle.object_terms.specs.Document.{written}
use Rattle.object_writing.proofs.OriginLemmas.{of_document}
use Rattle.object_writing.proofs.writing.document.object_length.Goals as goal

pub written_length-requires : goal.written_length-requires
written_length-requires c =
    subst (SpellingFits max_depth) (sym c.in_ok-document.ensures)
    (of_document (λ o. SpellingFits max_depth (written o)) c.each_object_can_be_written.ensures.fits
    c.args.value.now c.requires)
