-- The forms of the commands, as `clap` reads them.
use Rattle.std.specs.Prelude.{Bool, true, false, List, [], ◌∷◌, codes}
use Rattle.clap.specs.Walk.{Rule, Text}
use Rattle.clap.specs.Simple.{App, new_app, new_rule, new_shape, with_rule, with_subcommand}

-- a word in its place, which may have to be there
abbrev pub word_rule : Text → Bool → Rule
word_rule id is_needed = record (new_rule id) { required = is_needed }

-- a command with one word behind its name
abbrev pub one_word_form : Text → Text → Bool → App
one_word_form name id is_needed = with_rule (new_app name) (word_rule id is_needed)

abbrev pub budget_form : App
budget_form =
    with_rule
    (with_rule (one_word_form (codes "budget") (codes "target") true)
    (word_rule (codes "from") true))
    (word_rule (codes "to") true)

abbrev pub check_form : App
check_form = new_app (codes "check")

abbrev pub init_form : App
init_form = one_word_form (codes "init") (codes "origin") false

abbrev pub pipe_form : App
pipe_form = new_app (codes "pipe")

abbrev pub report_form : App
report_form = one_word_form (codes "report") (codes "at") false

abbrev pub serve_form : App
serve_form = one_word_form (codes "serve") (codes "port") true

abbrev pub generate_form : App
generate_form = one_word_form (codes "generate") (codes "number") true

abbrev pub counters_form : App
counters_form = one_word_form (codes "counters") (codes "sli") true

abbrev pub migrate_form : App
migrate_form = new_app (codes "migrate")

abbrev pub export_form : App
export_form = one_word_form (codes "export") (codes "part") true

abbrev pub follow_form : App
follow_form = new_app (codes "follow")

-- the program without its commands: no flag and no command for help, and a command has to be there
abbrev pub bare_form : App
bare_form = record {
  top = record (new_shape (codes "slo_office")) {
    no_binary_name = true;
    disable_help_flag = true;
    disable_help_subcommand = true;
    disable_version_flag = true;
    subcommand_required = true;
  };
  subs = [];
}

-- the program with these commands
abbrev pub with_forms : App → List App → App
with_forms program [] = program
with_forms program (form ∷ forms) = with_forms (with_subcommand program form.top) forms

-- the program with the commands up to `report`
abbrev pub first_form : App
first_form =
    with_forms bare_form
    (budget_form ∷ check_form ∷ init_form ∷ pipe_form ∷ report_form ∷ [])

-- all commands
abbrev pub whole_form : App
whole_form =
    with_forms first_form
    (serve_form ∷ generate_form ∷ counters_form ∷ migrate_form ∷ export_form ∷ follow_form
    ∷ [])
