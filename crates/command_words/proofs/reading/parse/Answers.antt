use Rattle.std.proofs.Common.{map, ◌≡◌, ◌∙◌, sym, false, true, string_bytes}
use Rattle.clap.specs.Simple.{app_of, subcommand_rows_of}
use Rattle.clap.proofs.WalkLemmas.{list_any-map}
use Rattle.command_words.specs.Commands.{is_dashed}
use Rattle.command_words.proofs.Sorts.{taken_by, refused_by}
use Rattle.command_words.proofs.reading.parse.Goals as goal

pub returns-in-Ok-try_get_matches_from-clause-ok :
    goal.returns-in-Ok-try_get_matches_from-clause-ok
returns-in-Ok-try_get_matches_from-clause-ok c =
    taken_by (app_of c.in-Ok.forms) (map string_bytes c.args.words.now) _
    (subcommand_rows_of c.in-Ok-try_get_matches_from.matches)
    c.in-Ok.ensures (sym (list_any-map is_dashed string_bytes c.args.words.now) ∙ c.requires)
    c.in-Ok-try_get_matches_from.ensures.kinds
    c.in-Ok-try_get_matches_from.ensures.matches

pub returns-else-eq-clause-usage : goal.returns-else-eq-clause-usage
returns-else-eq-clause-usage c _ =
    refused_by (app_of c.in-Ok.forms) (map string_bytes c.args.words.now) c.in-Err.error
    c.in-Ok.ensures (sym (list_any-map is_dashed string_bytes c.args.words.now) ∙ c.requires)
    c.in-Err.ensures.kinds
    (λ memory. let bad : false ≡ true = rw (c.kind.ensures, memory) at c.if-eq.ensures in cc bad)
