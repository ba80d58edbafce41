use Rattle.std.proofs.Common.{suc, ◌-◌, arith}
use Rattle.follow_terms.specs.Follows.{Inside}
use Rattle.office_follow.specs.Points.{point}
use Rattle.office_follow.proofs.PointLemmas.{ends_then, goes_next, goes_still, goes_then, goes_up}
use Rattle.office_follow.proofs.PointLemmas.{leaves_feed}
use Rattle.office_follow.proofs.entries.follow_entries.Goals as goal

pub following-init : goal.following-init
following-init g c = record {
  goes_on = goes_still g.D.Disk.senses g.met.D.Disk.only_now (Inside c.args.count c.args.first)
      (point c.args.office.now c.args.at (g.S.Source.left c.args.input.now)
      (g.S.Source.faults c.args.input.now))
      c.requires.none c.disk_stands.ensures.stands;
  within = c.requires.within;
  least = omega arith;
  most = c.requires.at;
}

pub returns-in-Err-clause-ended : goal.returns-in-Err-clause-ended
returns-in-Err-clause-ended g c =
    let v = c.following.invariant in
    ends_then g.D.Disk.senses (Inside c.args.count c.args.first)
    (point c.args.office.now c.args.at (g.S.Source.left c.args.input.now)
    (g.S.Source.faults c.args.input.now))
    (Inside (suc (c.following.more - 1)) c.following.position)
    (point c.following.office c.following.now (g.S.Source.left c.following.input)
    (g.S.Source.faults c.following.input))
    c.in-Err.end _ _
    (goes_next g.D.Disk.senses _ _ c.following.more c.following.position _
    (omega (arith, c.following-test.true)) v.goes_on)
    (c.in-Err.ensures.ended (c.following.more - 1))

pub following-preserved : goal.following-preserved
following-preserved g c =
    let v = c.following.invariant in
    record {
      goes_on = goes_up g.D.Disk.senses _ _ _ c.following.position _
          (goes_then g.D.Disk.senses (Inside c.args.count c.args.first)
          (point c.args.office.now c.args.at (g.S.Source.left c.args.input.now)
          (g.S.Source.faults c.args.input.now))
          (Inside (suc (c.following.more - 1)) c.following.position)
          (point c.following.office c.following.now (g.S.Source.left c.following.input)
          (g.S.Source.faults c.following.input))
          (Inside (c.following.more - 1) (suc c.following.position)) _
          (goes_next g.D.Disk.senses _ _ c.following.more c.following.position _
          (omega (arith, c.following-test.true)) v.goes_on)
          (c.in-Ok.ensures.goes_on (c.following.more - 1)));
      within = c.in-Ok.ensures.within;
      least = omega (arith, v.least, c.in-Ok.ensures.progress);
      most = c.in-Ok.ensures.bound;
    }

pub returns-clause-goes_on : goal.returns-clause-goes_on
returns-clause-goes_on g c =
    leaves_feed g.D.Disk.senses (Inside c.args.count c.args.first) _ c.following.more
    c.following.position _ (omega (arith, c.following-test.false)) c.following.invariant.goes_on
