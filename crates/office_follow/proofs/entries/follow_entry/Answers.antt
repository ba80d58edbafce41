use Rattle.std.proofs.Common.{◌≡◌, Err, ℕ, suc, ◌+◌, ap, ◌∙◌, arith, length, subst}
use Rattle.follow_terms.specs.Follows.{Inside}
use Rattle.office_follow.specs.Points.{GoesOn, point}
use Rattle.office_follow.proofs.PointLemmas.{ends_at, ends_still, goes_behind, no_entry}
use Rattle.office_follow.proofs.entries.follow_entry.Goals as goal

pub returns-in-Err-clause-ended : goal.returns-in-Err-clause-ended
returns-in-Err-clause-ended g c count =
    ends_still g.D.Disk.senses g.met.D.Disk.only_now (Inside (suc count) c.args.position)
    (point c.args.office.now c.args.at (g.S.Source.left c.args.input.now)
    (g.S.Source.faults c.args.input.now))
    c.in-Err.end (g.S.Source.faults c.next_entry.new.input) c.requires.none
    c.disk_stands.ensures.stands
    (no_entry c.args.office.now.office c.args.at count c.args.position
    (g.S.Source.left c.args.input.now) c.in-Err.end c.in-Err.ensures.lacks)
    (λ is. c.next_entry.ensures.never (c.in-Err.is ∙ ap Err is)) c.next_entry.ensures.later
    (λ is. c.next_entry.ensures.cause (c.in-Err.is ∙ ap Err is))

pub returns-in-Ok-placed-clause-goes_on : goal.returns-in-Ok-placed-clause-goes_on
returns-in-Ok-placed-clause-goes_on g c count =
    let piece = c.next_entry.new.piece in
    let long : length piece.items ≡ c.len.result = omega (arith, piece.ok.0, c.len.ensures) in
    subst (λ (n : ℕ). GoesOn g.D.Disk.senses (Inside (suc count) c.args.position)
    (point c.args.office.now c.args.at (g.S.Source.left c.args.input.now)
    (g.S.Source.faults c.args.input.now))
    (Inside count (suc c.args.position)) (point c.place-placed.new.office (c.args.at + 4 + n)
    (g.S.Source.left c.next_entry.new.input) (g.S.Source.faults c.next_entry.new.input)))
    long
    (goes_behind g.D.Disk.senses c.args.office.now c.place-placed.new.office c.args.at count
    c.args.position (length c.next_entry.new.piece.items) c.in-Ok.entry
    (g.S.Source.left c.args.input.now) (g.S.Source.left c.next_entry.new.input)
    (g.S.Source.faults c.args.input.now) (g.S.Source.faults c.next_entry.new.input)
    c.in-Ok.ensures.read c.place-placed.ensures.moments c.in-Ok-placed.ensures.there
    c.in-Ok-placed.ensures.none c.place-placed.ensures.later c.next_entry.ensures.later)

pub returns-in-Err-placed-clause-ended : goal.returns-in-Err-placed-clause-ended
returns-in-Err-placed-clause-ended g c count =
    ends_at g.D.Disk.senses c.args.office.now c.place-placed.new.office c.args.at count
    c.args.position (length c.next_entry.new.piece.items) c.in-Ok.entry
    (g.S.Source.left c.args.input.now) (g.S.Source.left c.next_entry.new.input)
    (g.S.Source.faults c.args.input.now) (g.S.Source.faults c.next_entry.new.input)
    c.in-Ok.ensures.read c.place-placed.ensures.moments c.in-Err-placed.end
    c.in-Err-placed.ensures.out.out c.in-Err-placed.ensures.out.office
    c.place-placed.ensures.later
    (λ is. c.place-placed.ensures.cause (c.in-Err-placed.is ∙ ap Err is))
    c.in-Err-placed.ensures.out.clear c.next_entry.ensures.later
    (λ is. c.place-placed.ensures.never (c.in-Err-placed.is ∙ ap Err is))
