use Rattle.std.proofs.Common.{◌∙◌, map, string_bytes}
use Rattle.command_words.proofs.Reports.{by_words}
use Rattle.command_words.proofs.reading.only_reads.Goals as goal

pub returns : goal.returns
returns c asked is =
    c.begins_with_reader.ensures ∙ by_words (map string_bytes c.args.words.now) asked is
