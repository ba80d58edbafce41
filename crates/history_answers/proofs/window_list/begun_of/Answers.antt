use Rattle.std.proofs.Common.{Option, subst, sym}
use Rattle.std.specs.Prelude.{IfOk}
use Rattle.object_terms.specs.declared.Calendar.{Calendar}
use Rattle.office_history.specs.Windows.{IsStartBy}
use Rattle.history_answers.specs.declared.window_list.Begun.{Begun}
use Rattle.history_answers.specs.Starts.{AreBegun}
use Rattle.history_answers.proofs.StartLemmas.{no_calendar}
use Rattle.history_answers.proofs.window_list.begun_of.Goals as goal

pub returns-in-Some : goal.returns-in-Some
returns-in-Some c =
    subst (λ (calendar : Option Calendar). IfOk c.begun_by.result (λ (begun : Begun). AreBegun
    (IsStartBy c.args.zones.now.kept c.args.window.now.duration.span c.args.horizon calendar)
    c.args.from c.args.to begun.starts.items begun.next)) (sym c.in-Some.is) c.begun_by.ensures

pub returns-in-None : goal.returns-in-None
returns-in-None c =
    no_calendar c.args.zones.now.kept c.args.window.now c.args.horizon c.args.from c.args.to
    c.none_begun.result.starts.items c.none_begun.result.next c.in-None.is
    c.none_begun.ensures.starts c.none_begun.ensures.next
