use Rattle.std.proofs.Common.{ap, ◌∙◌}
use Rattle.std.proofs.lemmas.Result.{IfOk-weaker}
use Rattle.clap.specs.Simple.{App, with_subcommand}
use Rattle.command_words.specs.Forms.{budget_form, check_form, init_form, pipe_form}
use Rattle.command_words.specs.Forms.{report_form}
use Rattle.command_words.proofs.forms.first_forms.Goals as goal

-- a program with a command more
abbrev with_form : App → App → App
with_form form program = with_subcommand program form.top

pub returns : goal.returns
returns c =
    let budget = c.in_ok-program.ensures ∙ ap (with_form budget_form) c.bare-program.ensures in
    let check = c.in_ok-program-2.ensures ∙ ap (with_form check_form) budget in
    let init = c.in_ok-program-3.ensures ∙ ap (with_form init_form) check in
    let pipe = c.in_ok-program-4.ensures ∙ ap (with_form pipe_form) init in
    IfOk-weaker c.with_one_word-2.result _ _
    (λ r report. report ∙ ap (with_form report_form) pipe) c.with_one_word-2.ensures
