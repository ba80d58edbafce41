use Rattle.std.proofs.Common.{◌∙◌, ◌++◌, ◌∷◌, [], ap, sym}
use Rattle.history_answers.proofs.ListLemmas.{up_to_end, up_to_next}
use Rattle.history_answers.proofs.exclusion_list.exclusions_of.Goals as goal

pub loop-place-preserved : goal.loop-place-preserved
loop-place-preserved c =
    c.in_ok-push-in-Some.ensures
    ∙ ap (λ listed. listed ++ c.in-Some.kept ∷ []) c.loop-place.invariant
    ∙ sym (up_to_next c.loop-place.place c.args.book.now.exclusions c.in-Some.kept
    (sym c.exclusion_at.ensures ∙ c.in-Some.is))

pub returns-in-None : goal.returns-in-None
returns-in-None c =
    c.loop-place.invariant
    ∙ up_to_end c.loop-place.place c.args.book.now.exclusions
    (sym c.exclusion_at.ensures ∙ c.in-None.is)
