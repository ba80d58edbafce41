use Rattle.std.proofs.Common.{◌∙◌, ap}
use Rattle.record_form.specs.declared.Outcome.TheVariants.{Status}
use Rattle.office_history.specs.History.{tail_of}
use Rattle.history_answers.proofs.StatusLemmas.{fullness_is}
use Rattle.history_answers.proofs.status.status.Goals as goal

pub returns : goal.returns
returns c = λ o r is legal.
    ap Status (c.status_of-status.ensures
    ∙ fullness_is c.args.derived.now o c.args.moment c.tail_of-tail.result r legal
    (c.tail_of-tail.ensures ∙ ap tail_of is))
