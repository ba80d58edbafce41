use Rattle.std.proofs.Common.{[], subst}
use Rattle.message_session.specs.Sessions.{EndsSo}
use Rattle.office_session.specs.Messages.{AnswersMessage, refusal_text}
use Rattle.own_counter.specs.Own.{OwnAsks, OwnOn, own_on}
use Rattle.journal_commands.specs.Serving.{SessionOutside, session_outside, with_counter}
use Rattle.journal_commands.proofs.Sessions.{as_opened, as_served, none_owned}
use Rattle.journal_commands.proofs.serving.serve.Goals as goal

pub returns-clause-served : goal.returns-clause-served
returns-clause-served g c =
    let D = g.D.Disk in
    let office = c.args.office in
    let end = c.session-end.result in
    let last = c.session-end.new.counter in
    let old : SessionOutside = session_outside (g.S.Source.left c.args.input.now)
    (g.C.Clock.to_come c.args.clock.now) (g.K.Sink.held c.args.output.now) in
    let new : SessionOutside = session_outside (g.S.Source.left c.session-end.new.input)
    (g.C.Clock.to_come c.session-end.new.clock) (g.K.Sink.held c.session-end.new.output) in
    let Ends : OwnOn g.row.D.Denot → Type 0 = λ first.
    EndsSo (AnswersMessage (OwnAsks D.senses)) refusal_text end
    (with_counter old first) (with_counter new last) in
    let ends : Ends (own_on office []) =
    subst Ends c.new-counter.ensures c.session-end.ensures.ends in
    let first = with_counter old (own_on office []) in
    let stands = c.disk_stands.ensures.stands in
    as_served D.senses office end old new
    c.into_disk-disk.result last c.give_back-office.result
    ends (c.a_session_adds_what_is_asked.ensures.end refusal_text end first (with_counter new last)
    ends) c.give_back-office.ensures c.into_disk-disk.ensures c.disk_stands-2.ensures.whole
    (c.what_is_seen_grows_in_a_session.ensures.end end first (with_counter new last) ends)
    (c.own_places_stay_in_a_session.ensures.end end first (with_counter new last) ends
    (none_owned office.office (D.senses.faults office.disk)))
    (as_opened D.senses office c.requires stands) c.disk_stands-2.ensures.stands
    (c.a_stop_leaves_what_was_kept.ensures.end refusal_text end first (with_counter new last)
    ends stands)
