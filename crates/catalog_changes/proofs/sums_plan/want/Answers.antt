use Rattle.std.proofs.Common.{List, map, subst, sym}
use Rattle.std.specs.List.{Contains}
use Rattle.office_history.specs.declared.Measure.{Measure}
use Rattle.kept_sums.specs.Objectives.{AreKept, key_by, made_for}
use Rattle.kept_sums.specs.Sums.{SumsAreKept}
use Rattle.kept_sums.specs.declared.ObjectiveSums.{ObjectiveSums}
use Rattle.kept_sums.proofs.ListLemmas.{all_push}
use Rattle.catalog_changes.proofs.PlanningLemmas.{wanted_here, wanted_like, wanted_still}
use Rattle.catalog_changes.proofs.sums_plan.want.Goals as goal

pub returns-then-wanted-clause-here : goal.returns-then-wanted-clause-here
returns-then-wanted-clause-here c =
    subst (λ (wanted : List Measure).
    Contains (map (key_by c.args.pool) wanted) (key_by c.args.pool c.args.measure.now))
    c.deref.ensures.value (c.is_wanted-wanted.ensures.0 c.if-wanted.true)

pub returns-then-wanted-clause-still : goal.returns-then-wanted-clause-still
returns-then-wanted-clause-still c = λ key has. has

pub returns-then-wanted-clause-only : goal.returns-then-wanted-clause-only
returns-then-wanted-clause-only c = λ members like all. all

pub returns-then-kept-clause-here : goal.returns-then-kept-clause-here
returns-then-kept-clause-here c =
    wanted_here c.args.pool c.args.list.now.wanted.items c.push.new.self.items c.args.measure.now
    c.in_ok-push.ensures.items

pub returns-then-kept-clause-still : goal.returns-then-kept-clause-still
returns-then-kept-clause-still c =
    wanted_still c.args.pool c.args.list.now.wanted.items c.push.new.self.items c.args.measure.now
    c.in_ok-push.ensures.items

pub returns-then-kept-clause-only : goal.returns-then-kept-clause-only
returns-then-kept-clause-only c =
    wanted_like c.args.pool c.args.list.now.wanted.items c.push.new.self.items c.args.measure.now
    c.in_ok-push.ensures.items

pub returns-clause-made : goal.returns-clause-made
returns-clause-made c =
    let made = made_for c.args.pool c.args.derived.now.book.exclusions in
    let rows = c.args.derived.now.book.rows in
    let k : ObjectiveSums = record { measure = c.args.measure.now; sums = c.in_ok-sums.sums } in
    subst (AreKept made rows) (sym c.in_ok-push-2.ensures.items)
    (all_push (λ (k : ObjectiveSums). SumsAreKept k.measure made rows k.sums)
    c.args.list.now.made.items k c.requires.made c.in_ok-sums.ensures)

pub returns-clause-here : goal.returns-clause-here
returns-clause-here c =
    wanted_here c.args.pool c.args.list.now.wanted.items c.push.new.self.items c.args.measure.now
    c.in_ok-push.ensures.items

pub returns-clause-still : goal.returns-clause-still
returns-clause-still c =
    wanted_still c.args.pool c.args.list.now.wanted.items c.push.new.self.items c.args.measure.now
    c.in_ok-push.ensures.items

pub returns-clause-only : goal.returns-clause-only
returns-clause-only c =
    wanted_like c.args.pool c.args.list.now.wanted.items c.push.new.self.items c.args.measure.now
    c.in_ok-push.ensures.items
