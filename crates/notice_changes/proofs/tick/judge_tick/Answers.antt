use Rattle.std.proofs.Common.{◌≡◌, ◌∙◌, ap, sym, length, refl}
use Rattle.office_history.specs.declared.Judgement.TheVariants.{Accepted, Refused}
use Rattle.office_history.specs.Notices.{last_states, states_over, tick_changes}
use Rattle.office_derived.specs.declared.Work.{Work}
use Rattle.office_derived.specs.declared.Work.TheVariants as works
use Rattle.notice_changes.proofs.TickLemmas.{by_binding, found_changes, found_states, judged_tick}
use Rattle.notice_changes.proofs.tick.judge_tick.Goals as goal

pub returns-in-Accepted-clause-judged : goal.returns-in-Accepted-clause-judged
returns-in-Accepted-clause-judged c = λ o r.
    let d = c.args.derived.now in
    let moment = c.args.moment in
    let work : Work = works.Tick c.in-Ok.states c.in-Ok.told in
    let states : c.in-Ok.states.items ≡ states_over o moment =
    c.in-Ok.ensures.states ∙ found_states d o moment r in
    let told : c.in-Ok.told.items ≡ tick_changes (last_states o) o moment =
    c.in-Ok.ensures.told (by_binding d o r)
    ∙ found_changes d o moment c.in-Ok.states.items r states in
    judged_tick d o moment (length c.deref.result.now) work r (states, told) refl
    (ap length c.deref.ensures.value ∙ ap length told) Accepted
    (sym c.in-Accepted.is ∙ c.tick_judgement.ensures)

pub returns-in-Refused-clause-judged : goal.returns-in-Refused-clause-judged
returns-in-Refused-clause-judged c = λ o r.
    let d = c.args.derived.now in
    let moment = c.args.moment in
    let work : Work = works.Tick c.in-Ok.states c.in-Ok.told in
    let states : c.in-Ok.states.items ≡ states_over o moment =
    c.in-Ok.ensures.states ∙ found_states d o moment r in
    let told : c.in-Ok.told.items ≡ tick_changes (last_states o) o moment =
    c.in-Ok.ensures.told (by_binding d o r)
    ∙ found_changes d o moment c.in-Ok.states.items r states in
    judged_tick d o moment (length c.deref.result.now) work r (states, told) refl
    (ap length c.deref.ensures.value ∙ ap length told) (Refused c.in-Refused.refusal)
    (sym c.in-Refused.is ∙ c.tick_judgement.ensures)
