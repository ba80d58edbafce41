use Rattle.std.proofs.Common.{◌≤◌, refl, subst, sym}
use Rattle.std.specs.Prelude.{vec_capacity}
use Rattle.alert_line.specs.Learnt.{HasLearnt}
use Rattle.alert_line.specs.Line.{Line}
use Rattle.alert_line.proofs.LineLemmas.{learnt-kept}
use Rattle.alert_line.proofs.line.AlertLine.learn.Goals as goal

pub returns : goal.returns
returns c =
    let inside = c.self.inside in
    let bytes = c.keep.new.bytes in
    let after : Line = record {
      rule = inside.rule;
      target = inside.target;
      origin = inside.origin;
      bytes = bytes.items;
      room = vec_capacity bytes;
    } in
    let from : inside.origin ≤ c.args.minute =
    subst (λ (l : Line). l.origin ≤ c.args.minute) (sym c.self.view_is) c.requires.0 in
    subst (λ (l : Line). HasLearnt l after c.args.minute c.args.holds) c.self.view_is (record {
      alert = record { rule = refl; target = refl; origin = refl };
      each = learnt-kept inside.bytes.items bytes.items inside.origin c.args.minute c.args.holds
          from c.keep.ensures.here;
    })
