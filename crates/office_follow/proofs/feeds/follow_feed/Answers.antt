use Rattle.std.proofs.Common.{Err, ℕ, ◌+◌, ap, ◌∙◌, subst}
use Rattle.office_history.specs.History.{Office}
use Rattle.follow_terms.specs.Follows.{Between, Inside}
use Rattle.office_follow.specs.Heads.{IsHeadRead, LacksHead}
use Rattle.office_follow.specs.Points.{point}
use Rattle.office_follow.proofs.PointLemmas.{ends_still, ends_then_err, goes_into, goes_then_ok}
use Rattle.office_follow.proofs.PointLemmas.{no_head}
use Rattle.office_follow.proofs.feeds.follow_feed.Goals as goal

pub returns-in-Ok-clause-goes_on : goal.returns-in-Ok-clause-goes_on
returns-in-Ok-clause-goes_on g c =
    let left = g.S.Source.left c.args.input.now in
    let rest = g.S.Source.left c.next_head.new.input in
    let head : ℕ × ℕ = (c.in-Ok.first, c.in-Ok.count) in
    let read = subst (λ (o : Office). IsHeadRead o c.args.at head left rest) c.core.ensures
    c.in-Ok.ensures.read in
    goes_then_ok g.D.Disk.senses Between
    (point c.args.office.now c.args.at (g.S.Source.left c.args.input.now)
    (g.S.Source.faults c.args.input.now))
    (Inside c.in-Ok.count c.in-Ok.first)
    (point c.args.office.now (c.args.at + 20) rest (g.S.Source.faults c.next_head.new.input))
    Between
    (λ now. point c.follow_entries.new.office now (g.S.Source.left c.follow_entries.new.input)
    (g.S.Source.faults c.follow_entries.new.input))
    c.follow_entries.result
    (goes_into g.D.Disk.senses g.met.D.Disk.only_now c.args.office.now c.args.at head left rest
    (g.S.Source.faults c.args.input.now) (g.S.Source.faults c.next_head.new.input)
    c.requires.none c.disk_stands.ensures.stands read c.next_head.ensures.later)
    c.follow_entries.ensures.goes_on

pub returns-in-Ok-clause-ended : goal.returns-in-Ok-clause-ended
returns-in-Ok-clause-ended g c =
    let left = g.S.Source.left c.args.input.now in
    let rest = g.S.Source.left c.next_head.new.input in
    let head : ℕ × ℕ = (c.in-Ok.first, c.in-Ok.count) in
    let read = subst (λ (o : Office). IsHeadRead o c.args.at head left rest) c.core.ensures
    c.in-Ok.ensures.read in
    ends_then_err g.D.Disk.senses Between
    (point c.args.office.now c.args.at (g.S.Source.left c.args.input.now)
    (g.S.Source.faults c.args.input.now))
    (Inside c.in-Ok.count c.in-Ok.first)
    (point c.args.office.now (c.args.at + 20) rest (g.S.Source.faults c.next_head.new.input))
    c.follow_entries.new.office (g.S.Source.faults c.follow_entries.new.input)
    c.follow_entries.result
    (goes_into g.D.Disk.senses g.met.D.Disk.only_now c.args.office.now c.args.at head left rest
    (g.S.Source.faults c.args.input.now) (g.S.Source.faults c.next_head.new.input)
    c.requires.none c.disk_stands.ensures.stands read c.next_head.ensures.later)
    c.follow_entries.ensures.ended

pub returns-in-Err-clause-ended : goal.returns-in-Err-clause-ended
returns-in-Err-clause-ended g c =
    let left = g.S.Source.left c.args.input.now in
    ends_still g.D.Disk.senses g.met.D.Disk.only_now Between
    (point c.args.office.now c.args.at (g.S.Source.left c.args.input.now)
    (g.S.Source.faults c.args.input.now))
    c.in-Err.end (g.S.Source.faults c.next_head.new.input) c.requires.none
    c.disk_stands.ensures.stands
    (no_head c.args.office.now.office c.args.at left c.in-Err.end
    (subst (λ (o : Office). LacksHead o c.args.at left c.in-Err.end) c.core.ensures
    c.in-Err.ensures.lacks))
    (λ is. c.next_head.ensures.never (c.in-Err.is ∙ ap Err is)) c.next_head.ensures.later
    (λ is. c.next_head.ensures.cause (c.in-Err.is ∙ ap Err is))
