use Rattle.std.proofs.Common.{◌≡◌, ◌∙◌, ◌-◌, ◌<◌, ◌++◌, ◌∷◌, List, ℕ, ap, arith, drop, length}
use Rattle.std.proofs.Common.{subst, sym, take}
use Rattle.std.proofs.lemmas.Grind.{common_steps}
use Rattle.csv_records.specs.Parts.{EndsWithRecord}
use Rattle.csv_records.specs.Records.{csv_records}
use Rattle.budget_command.specs.Tables.{HasJudged, HasJudgedTo}
use Rattle.budget_command.proofs.JudgingLemmas.{judged_to-part, on_ok-then}
use Rattle.budget_command.proofs.judging.take_piece.Goals as goal

pub returns : goal.returns
returns c =
    let piece = c.args.piece.now in
    let count = c.in_ok-count.count in
    let waiting = c.args.waiting.now in
    let new = c.judge_part.new.self in
    let some : 0 < count = grind (arith, c.if-count-eq0.false) in
    let part : c.add.new.self ≡ waiting ++ take count piece = c.in_ok-count.ensures.part some in
    let ends = subst EndsWithRecord part (c.in_ok-count.ensures.ends some) in
    let rest : take (length piece - count) (drop count piece)
    ≡ drop count piece = grind (arith, common_steps) in
    on_ok-then _ _ c.restart.result
    (λ is seen to.
    subst (λ (text : List ℕ). HasJudgedTo (seen ++ piece) text new)
    (sym (is ∙ ap (λ (text : List ℕ). 10 ∷ text) rest))
    (judged_to-part seen waiting piece count c.args.judging.now new ends
    (λ before judged. subst (λ (text : List ℕ). HasJudged (before ++ csv_records text) new)
    (c.text.ensures ∙ part)
    (c.in_ok-judge_part.ensures before judged))
    to))
    c.restart.ensures
