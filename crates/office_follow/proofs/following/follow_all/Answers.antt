use Rattle.std.proofs.Common.{arith}
use Rattle.follow_terms.specs.declared.FollowEnd.TheVariants as ends
use Rattle.follow_terms.specs.Follows.{Between, no_memory}
use Rattle.office_follow.specs.Points.{point}
use Rattle.office_follow.proofs.PointLemmas.{ends_here, ends_still, goes_still}
use Rattle.office_follow.proofs.following.follow_all.Goals as goal

pub returns-then-is_err : goal.returns-then-is_err
returns-then-is_err g c =
    ends_still g.D.Disk.senses g.met.D.Disk.only_now Between
    (point c.args.office.now 0 (g.S.Source.left c.args.input.now)
    (g.S.Source.faults c.args.input.now))
    ends.NoMemory (g.S.Source.faults c.args.input.now) c.requires c.disk_stands.ensures.stands
    (ends_here Between c.args.office.now.office 0 (g.S.Source.left c.args.input.now)
    ends.NoMemory no_memory)
    (λ is. absurd (cc is)) (omega arith) (λ is. absurd (cc is))

pub following-init : goal.following-init
following-init g c = record {
  goes_on = goes_still g.D.Disk.senses g.met.D.Disk.only_now Between
      (point c.args.office.now 0 (g.S.Source.left c.args.input.now)
      (g.S.Source.faults c.args.input.now))
      c.requires c.disk_stands.ensures.stands;
  most = omega arith;
}
