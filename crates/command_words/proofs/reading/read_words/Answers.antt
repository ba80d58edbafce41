use Rattle.std.proofs.Common.{◌∙◌, sym, map, string_bytes}
use Rattle.clap.proofs.WalkLemmas.{list_any-map}
use Rattle.command_words.specs.Commands.{is_dashed}
use Rattle.command_words.proofs.Dashes.{none_of}
use Rattle.command_words.proofs.reading.read_words.Goals as goal

pub returns-then-has_dashes-clause-usage : goal.returns-then-has_dashes-clause-usage
returns-then-has_dashes-clause-usage c usage =
    none_of (map string_bytes c.args.words.now)
    (sym (list_any-map is_dashed string_bytes c.args.words.now)
    ∙ sym c.has_dashes.ensures ∙ c.if-has_dashes.true)
