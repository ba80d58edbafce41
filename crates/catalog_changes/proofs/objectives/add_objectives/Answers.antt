use Rattle.std.proofs.Common.{◌≡◌, ◌∙◌, ◌++◌, All, List, ap, subst, sym}
use Rattle.std.proofs.lemmas.List.Elements.{All-append}
use Rattle.catalog_measures.specs.Measures.{IsMeasure}
use Rattle.office_history.specs.declared.Measure.{Measure}
use Rattle.catalog_changes.proofs.objectives.add_objectives.Goals as goal

pub returns-clause-ranges : goal.returns-clause-ranges
returns-clause-ranges c =
    let before : List Measure = c.args.wanted.now.items in
    let more : List Measure = c.in_ok-measures.measures.items in
    let all : c.extend_from_slice.new.self.items ≡ before ++ more =
    c.in_ok-extend_from_slice.ensures.items
    ∙ ap (λ (ms : List Measure). before ++ ms) c.deref.ensures.value in
    subst (All IsMeasure) (sym all)
    (All-append IsMeasure before more c.requires.ranges c.in_ok-measures.ensures.ranges)
