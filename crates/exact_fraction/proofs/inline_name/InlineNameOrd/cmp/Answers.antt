use Rattle.std.proofs.Common.{◌∙◌}
use Rattle.exact_fraction.proofs.WordOrder.{cmp-words_of}
use Rattle.exact_fraction.proofs.inline_name.InlineNameOrd.cmp.Goals as goal

pub returns : goal.returns
returns c = c.cmp.ensures ∙ rw (
  c.words.ensures.words,
  c.words-2.ensures.words,
) (cmp-words_of _ _ c.words.ensures.legal c.words-2.ensures.legal)
