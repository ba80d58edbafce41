use Rattle.std.proofs.Common.{ap, ◌∙◌}
use Rattle.std.proofs.lemmas.Result.{IfOk-weaker}
use Rattle.clap.specs.Simple.{App, with_subcommand}
use Rattle.command_words.specs.Forms.{counters_form, export_form, follow_form, generate_form}
use Rattle.command_words.specs.Forms.{migrate_form, serve_form}
use Rattle.command_words.proofs.forms.forms.Goals as goal

-- a program with a command more
abbrev with_form : App → App → App
with_form form program = with_subcommand program form.top

pub returns : goal.returns
returns c =
    let serve =
    c.in_ok-program-2.ensures ∙ ap (with_form serve_form) c.in_ok-program.ensures in
    let generate = c.in_ok-program-3.ensures ∙ ap (with_form generate_form) serve in
    let counters = c.in_ok-program-4.ensures ∙ ap (with_form counters_form) generate in
    let migrate = c.in_ok-program-5.ensures ∙ ap (with_form migrate_form) counters in
    let export = c.in_ok-program-6.ensures ∙ ap (with_form export_form) migrate in
    IfOk-weaker c.with_name-2.result _ _
    (λ r follow. follow ∙ ap (with_form follow_form) export) c.with_name-2.ensures
