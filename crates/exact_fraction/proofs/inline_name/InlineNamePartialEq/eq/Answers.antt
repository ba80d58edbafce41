use Rattle.std.proofs.Common.{◌∙◌}
use Rattle.exact_fraction.proofs.WordOrder.{eq-words_of}
use Rattle.exact_fraction.proofs.inline_name.InlineNamePartialEq.eq.Goals as goal

pub returns : goal.returns
returns c = c.eq.ensures ∙ rw (
  c.words.ensures.words,
  c.words-2.ensures.words,
) (eq-words_of _ _ c.words.ensures.legal c.words-2.ensures.legal)
