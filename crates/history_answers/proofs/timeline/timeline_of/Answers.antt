use Rattle.std.proofs.Common.{◌≡◌, ◌∙◌, ℕ, true, List, subst, sym}
use Rattle.burn_core.specs.Timeline.{AreSpansOf}
use Rattle.office_history.specs.Alerts.{is_watch_active}
use Rattle.kept_lines.specs.Sums.{samples_of}
use Rattle.kept_lines.proofs.KnownLemmas.{all_know, know_on, knows_still}
use Rattle.history_answers.proofs.TimelineLemmas.{answers}
use Rattle.history_answers.proofs.timeline.timeline_of.Goals as goal

pub returns-clause-answer : goal.returns-clause-answer
returns-clause-answer c = λ o r.
    let d = c.args.derived.now in
    let w = c.args.watch.now in
    answers d o r c.args.moment c.args.from c.args.to w c.from_vec-intervals.result
    c.state_at-state.result (sym c.is_timeline.ensures ∙ c.if-not-is_timeline.false)
    (subst (λ (spans : List (ℕ × ℕ)). AreSpansOf (λ minute. is_watch_active d.origin
    (samples_of d.book) w minute ≡ true) c.args.from c.args.to spans)
    (sym c.from_vec-intervals.ensures) c.in_ok-intervals.ensures.value)
    c.state_at-state.ensures.value

pub returns-clause-know : goal.returns-clause-know
returns-clause-know c =
    know_on c.args.lines.now.kept c.intervals.new.self.kept c.state_at-state.new.self.kept
    c.in_ok-intervals.ensures.know c.state_at-state.ensures.know

pub returns-clause-learnt : goal.returns-clause-learnt
returns-clause-learnt c =
    knows_still c.intervals.new.self.kept c.state_at-state.new.self.kept c.args.watch.now
    c.args.from c.args.to c.state_at-state.ensures.know c.in_ok-intervals.ensures.learnt

pub returns-then-not-is_timeline-clause-know : goal.returns-then-not-is_timeline-clause-know
returns-then-not-is_timeline-clause-know c = all_know c.args.lines.now.kept
