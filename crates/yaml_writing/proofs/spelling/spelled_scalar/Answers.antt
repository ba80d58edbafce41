use Rattle.std.proofs.Common.{sym, ap, ◌∙◌, refl}
use Rattle.yaml_terms.specs.Spelling.{word, quoted, spelled}
use Rattle.yaml_terms.proofs.NodeLemmas.{view-Scalar}
use Rattle.yaml_writing.proofs.SpellingLemmas.{view-Word, view-Quoted}
use Rattle.yaml_writing.proofs.spelling.spelled_scalar.Goals as goal

pub returns-then-plain : goal.returns-then-plain
returns-then-plain c = view-Word c.in_ok-text.text ∙ ap word c.in_ok-text.ensures
    ∙ sym (ap spelled (view-Scalar c.args.text.now c.args.plain) ∙ rw c.if-plain.true refl)

pub returns-else-plain : goal.returns-else-plain
returns-else-plain c = view-Quoted c.in_ok-text.text ∙ ap quoted c.in_ok-text.ensures
    ∙ sym (ap spelled (view-Scalar c.args.text.now c.args.plain) ∙ rw c.if-plain.false refl)
