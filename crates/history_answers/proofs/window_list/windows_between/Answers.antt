use Rattle.std.proofs.Common.{◌≡◌, ◌∙◌, ℕ, List, subst, sym}
use Rattle.std.specs.Prelude.{IfOk}
use Rattle.record_form.specs.declared.Outcome.{Outcome}
use Rattle.history_answers.proofs.StartLemmas.{are_open}
use Rattle.history_answers.proofs.WindowLemmas.{in_order, is_over, stretch_refused}
use Rattle.history_answers.proofs.WindowLemmas.{windows_answered}
use Rattle.history_answers.specs.Starts.{AreOpen}
use Rattle.office_history.specs.Answers.{windows_of}
use Rattle.office_history.specs.Catalog.{catalog_in}
use Rattle.office_history.specs.Objectives.{measures_named}
use Rattle.office_history.specs.Windows.{IsStart}
use Rattle.office_history.specs.History.{end_of}
use Rattle.history_answers.proofs.window_list.windows_between.Goals as goal

pub returns-then-not-is_stretch : goal.returns-then-not-is_stretch
returns-then-not-is_stretch c = λ o r.
    stretch_refused c.args.derived.now o r c.args.moment c.args.from c.args.to c.args.name
    c.args.slo.now (sym c.is_stretch.ensures ∙ c.if-not-is_stretch.true)

pub begun_of-requires-clause-order : goal.begun_of-requires-clause-order
begun_of-requires-clause-order c =
    in_order c.args.derived.now.origin c.args.moment c.args.from c.args.to
    (sym c.is_stretch.ensures ∙ c.if-not-is_stretch.false)

pub windows_of-requires-clause-begun : goal.windows_of-requires-clause-begun
windows_of-requires-clause-begun c =
    subst (λ (starts : List ℕ). AreOpen c.args.moment starts c.in_ok-begun.begun.next)
    (sym c.deref.ensures.value)
    (are_open (IsStart c.args.derived.now.zones.kept c.args.slo.now.time_window
    (end_of c.args.derived.now.origin)) c.args.from c.args.to c.args.moment
    c.in_ok-begun.begun.starts.items c.in_ok-begun.begun.next
    c.in_ok-begun.ensures.starts_are c.in_ok-begun.ensures.next_is
    (is_over c.args.derived.now.origin c.args.moment c.args.from c.args.to
    (sym c.is_stretch.ensures ∙ c.if-not-is_stretch.false)))

pub returns : goal.returns
returns c = λ o r.
    windows_answered c.args.derived.now o r c.args.moment c.args.from c.args.to c.args.name
    c.args.slo.now c.in_ok-begun.begun.starts.items c.in_ok-begun.begun.next
    c.windows_of.result (sym c.is_stretch.ensures ∙ c.if-not-is_stretch.false)
    c.in_ok-begun.ensures
    (subst (λ (starts : List ℕ). IfOk c.windows_of.result (λ (outcome : Outcome). outcome
    ≡ windows_of o c.args.moment (measures_named (catalog_in o.history) c.args.name) starts
    c.in_ok-begun.begun.next)) c.deref.ensures.value (c.windows_of.ensures o r))
