use Rattle.std.proofs.Common.{refl}
use Rattle.record_form.specs.declared.YamlWord.TheVariants.{TooLarge}
use Rattle.office_history.specs.Definitions.{no_text}
use Rattle.check_command.proofs.answer.too_large_text.Goals as goal

-- a text of documents that is too large has that fault
pub returns : goal.returns
returns c = λ bytes large. no_text {line = 0} {word = TooLarge} (refl, large)
