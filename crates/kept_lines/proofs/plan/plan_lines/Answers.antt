use Rattle.std.proofs.Common.{◌≡◌, All, List, subst, sym}
use Rattle.std.specs.List.{AllByRecursion, Contains}
use Rattle.std.proofs.lemmas.List.Elements.{All-contains}
use Rattle.office_history.specs.Alerts.{Watch}
use Rattle.kept_lines.specs.Watches.{IsWatched}
use Rattle.kept_lines.specs.Plans.{HasLine, watches_in}
use Rattle.kept_lines.proofs.PlanLemmas.{each_watched, has_or_watched, only_watched}
use Rattle.kept_lines.proofs.plan.plan_lines.Goals as goal

pub returns : goal.returns
returns c = λ before kept.
    let members = c.args.catalog.now in
    let wanted : List Watch = c.in_ok-wanted.wanted.items in
    let made = c.in_ok-made.made.items in
    let all : watches_in members ≡ wanted = sym c.in_ok-wanted.ensures in
    record {
      only = subst (AllByRecursion (IsWatched members)) all (only_watched members);
      all = λ w is. subst (λ (ws : List Watch). Contains ws w) all (each_watched members w is);
      fresh = c.in_ok-made.ensures.fresh;
      there = λ w has.
          has_or_watched before c.args.lines.now.kept made w kept
          (All-contains (HasLine c.args.lines.now.kept made) wanted w
          (subst (All (HasLine c.args.lines.now.kept made)) c.deref.ensures.value
          c.in_ok-made.ensures.there) has);
    }
