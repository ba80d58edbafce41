use Rattle.std.proofs.Common.{◌∙◌, ap, flat_map, subst, sym}
use Rattle.office_outside.specs.Told.{Gained, GainedPrefix}
use Rattle.export_terms.specs.Parts.{part_of}
use Rattle.export_terms.specs.Sizes.{first_too_large}
use Rattle.office_export.specs.Steps.{Content, content, text_at}
use Rattle.office_export.proofs.StepLemmas.{part_is}
use Rattle.office_export.proofs.exporting.export.Goals as goal

pub returns-in-Ok-write_steps-clause-exports : goal.returns-in-Ok-write_steps-clause-exports
returns-in-Ok-write_steps-clause-exports g c = λ o legal is.
    let held = g.K.Sink.held in
    let k : Content = content c.args.upgraded c.args.zones.now.kept c.args.catalog.now
    c.args.book.now.rows c.args.book.now.exclusions in
    let written = c.part_of.ensures
    ∙ ap (part_of c.args.part) (c.deref.ensures.value ∙ c.in-Ok.ensures) in (
      ap (λ (m : Content). first_too_large m.members) is
          ∙ sym c.in-Ok-None.ensures ∙ c.in-Ok-None.field-0-is,
      subst (λ l. Gained l (held c.args.output.now) (held c.write_steps.new.output))
          (ap (flat_map (text_at k)) written ∙ part_is o c.args.part k legal is)
          (c.in-Ok-write_steps.ensures.gained c.args.upgraded),
    )

pub returns-in-Err-Write-clause-exports : goal.returns-in-Err-Write-clause-exports
returns-in-Err-Write-clause-exports g c = λ o legal is.
    let held = g.K.Sink.held in
    let k : Content = content c.args.upgraded c.args.zones.now.kept c.args.catalog.now
    c.args.book.now.rows c.args.book.now.exclusions in
    let written = c.part_of.ensures
    ∙ ap (part_of c.args.part) (c.deref.ensures.value ∙ c.in-Ok.ensures) in
    subst (λ l. GainedPrefix l (held c.args.output.now) (held c.write_steps.new.output))
    (ap (flat_map (text_at k)) written ∙ part_is o c.args.part k legal is)
    (c.in-Err-Write.ensures.part c.args.upgraded)

pub returns-clause-exports : goal.returns-clause-exports
returns-clause-exports g c = λ o legal is.
    let held = g.K.Sink.held in
    let k : Content = content c.args.upgraded c.args.zones.now.kept c.args.catalog.now
    c.args.book.now.rows c.args.book.now.exclusions in
    let written = c.part_of.ensures
    ∙ ap (part_of c.args.part) (c.deref.ensures.value ∙ c.in-Ok.ensures) in
    subst (λ l. GainedPrefix l (held c.args.output.now) (held c.write_steps.new.output))
    (ap (flat_map (text_at k)) written ∙ part_is o c.args.part k legal is)
    (c.in-Err-Memory.ensures.part c.args.upgraded)
