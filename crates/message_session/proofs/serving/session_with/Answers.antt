use Rattle.std.proofs.Common.{[], arith, subst, inl, refl, true}
use Rattle.office_outside.specs.Told.{Gained, GainedPrefix}
use Rattle.message_heads.specs.declared.message.Heard.{Heard}
use Rattle.message_session.specs.Hearings.{Concludes}
use Rattle.message_session.specs.Sessions.{EndsAt}
use Rattle.message_session.proofs.Turns.{serves_none, serves_fills, ends_at, ends_by_bad}
use Rattle.message_session.proofs.Turns.{ends_by_turn, goes_on}
use Rattle.message_session.proofs.serving.session_with.Goals as goal

pub serving-init : goal.serving-init
serving-init g c = record {
  turns = [];
  serves = serves_none _ _ _ c.clear.ensures;
  counted = refl;
  few = omega arith;
  read = omega arith;
  written = omega arith;
}

pub returns-in_default-clause-ends : goal.returns-in_default-clause-ends
returns-in_default-clause-ends g c = record {
  turns = c.serving.invariant.turns;
  waiting = c.hear_next.new.buffer;
  serves = serves_fills _ c.serving.invariant.turns c.serving.buffer c.hear_next.new.buffer _ _ _
      c.serving.invariant.serves c.hear_next.ensures.fills c.hear_next.ensures.few;
  more = c.in_default.ensures.more;
  rest = tt;
}

pub returns-in-More-clause-ends : goal.returns-in-More-clause-ends
returns-in-More-clause-ends g c =
    let s = serves_fills _ c.serving.invariant.turns c.serving.buffer c.hear_next.new.buffer _ _ _
    c.serving.invariant.serves c.hear_next.ensures.fills c.hear_next.ensures.few in
    let end = subst (λ (h : Heard). Concludes c.hear_next.new.buffer
    (g.S.Source.left c.hear_next.new.input) h) c.in-More.is c.in-Ok.ensures.heard in
    ends_at _ _ c.end_at.result c.serving.invariant.turns c.hear_next.new.buffer _ _ s end.0 end.1
    (subst (λ n. EndsAt n c.end_at.result) c.len.ensures.len c.end_at.ensures.ends)

pub returns-in-Bad-clause-ends : goal.returns-in-Bad-clause-ends
returns-in-Bad-clause-ends g c =
    let s = serves_fills _ c.serving.invariant.turns c.serving.buffer c.hear_next.new.buffer _ _ _
    c.serving.invariant.serves c.hear_next.ensures.fills c.hear_next.ensures.few in
    let bad = subst (λ (h : Heard). Concludes c.hear_next.new.buffer
    (g.S.Source.left c.hear_next.new.input) h) c.in-Bad.is c.in-Ok.ensures.heard in
    ends_by_bad _ _ c.refuse.result c.serving.invariant.turns c.hear_next.new.buffer c.in-Bad.status
    _ _ _ s bad c.refuse.ensures.ends

pub returns-in_default-take_turn-clause-ends : goal.returns-in_default-take_turn-clause-ends
returns-in_default-take_turn-clause-ends g c =
    let s = serves_fills _ c.serving.invariant.turns c.serving.buffer c.hear_next.new.buffer _ _ _
    c.serving.invariant.serves c.hear_next.ensures.fills c.hear_next.ensures.few in
    let part = c.in_default-take_turn.ensures.part (g.S.Source.left c.hear_next.new.input) in
    inl (
      part.0,
      ends_by_turn _ GainedPrefix part.0 part.0 c.serving.invariant.turns c.serving.count
          c.in-Whole.size c.bytes.result.now c.hear_next.new.buffer _ _ _ s
          c.serving.invariant.counted c.bytes.ensures.bytes refl part.1,
    )

pub returns-then-last-clause-ends : goal.returns-then-last-clause-ends
returns-then-last-clause-ends g c =
    let s = serves_fills _ c.serving.invariant.turns c.serving.buffer c.hear_next.new.buffer _ _ _
    c.serving.invariant.serves c.hear_next.ensures.fills c.hear_next.ensures.few in
    inl (ends_by_turn _ Gained c.in-Ok-take_turn.last true c.serving.invariant.turns c.serving.count
    c.in-Whole.size c.bytes.result.now c.hear_next.new.buffer _ _ _ s
    c.serving.invariant.counted c.bytes.ensures.bytes c.if-last.true
    (c.in-Ok-take_turn.ensures.turn (g.S.Source.left c.hear_next.new.input)))

pub serving-preserved : goal.serving-preserved
serving-preserved g c =
    let s = serves_fills _ c.serving.invariant.turns c.serving.buffer c.hear_next.new.buffer _ _ _
    c.serving.invariant.serves c.hear_next.ensures.fills c.hear_next.ensures.few in
    let on = goes_on _ c.in-Ok-take_turn.last c.serving.invariant.turns c.serving.count
    c.in-Whole.size c.bytes.result.now c.hear_next.new.buffer c.skip.new.self _ _ _ s
    c.serving.invariant.counted c.bytes.ensures.bytes c.skip.ensures c.if-last.false
    (c.in-Ok-take_turn.ensures.turn (g.S.Source.left c.hear_next.new.input)) in
    record {
      turns = on.0;
      serves = on.1;
      counted = on.2;
      few = on.3;
      read = omega (arith, c.serving.invariant.read, c.hear_next.ensures.cause.later);
      written = omega (arith, c.serving.invariant.written, c.take_turn.ensures.cause.later);
    }
