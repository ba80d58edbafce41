use Rattle.std.proofs.Common.{List, false, refl, subst, sym}
use Rattle.std.specs.List.{Contains}
use Rattle.kept_sums.specs.Objectives.{keys_by}
use Rattle.kept_sums.specs.declared.ObjectiveSums.{ObjectiveSums}
use Rattle.office_derived.proofs.FormLemmas.{objective_forms}
use Rattle.kept_sums.proofs.ReadyLemmas.{same_keeps}
use Rattle.office_derived.proofs.Sound.{stays_so, with_sums}
use Rattle.sample_changes.proofs.PartLemmas.{added_here, added_keeps, added_still}
use Rattle.sample_changes.proofs.exclusions.part.Goals as goal
use Rattle.sample_changes.proofs.exclusions.part.Goals.{After-add_own}

pub returns-then-kept-clause-here : goal.returns-then-kept-clause-here
returns-then-kept-clause-here c = c.has_own-kept.ensures.0 c.if-kept.true

pub returns-then-kept-clause-stays : goal.returns-then-kept-clause-stays
returns-then-kept-clause-stays c = stays_so c.args.derived.now

pub new_sums-requires-clause-forms : goal.new_sums-requires-clause-forms
new_sums-requires-clause-forms c =
    objective_forms c.args.derived.now c.requires.sound c.args.measure.now c.requires.objective

pub returns-in_err-sums-clause-stays : goal.returns-in_err-sums-clause-stays
returns-in_err-sums-clause-stays c = stays_so c.args.derived.now

-- the sums of the objective, which are added
abbrev entry : (c : After-add_own) → ObjectiveSums
entry c = record { measure = c.args.measure.now; sums = c.in_ok-sums.sums }

pub returns-in_err-add_own-clause-stays : goal.returns-in_err-add_own-clause-stays
returns-in_err-add_own-clause-stays c =
    let d = c.args.derived.now in
    with_sums d _ c.add_own.new.self refl
    (same_keeps d.catalog d.book.exclusions d.book.rows d.sums c.add_own.new.self
    c.in_err-add_own.ensures.err c.add_own.ensures.pooled)

pub returns-in_err-add_own-clause-still : goal.returns-in_err-add_own-clause-still
returns-in_err-add_own-clause-still c key has =
    subst (λ (ks : List ObjectiveSums). Contains (keys_by false ks) key)
    (sym c.in_err-add_own.ensures.err) has

pub returns-clause-here : goal.returns-clause-here
returns-clause-here c =
    added_here c.args.derived.now.sums.own c.add_own.new.self.own
    (entry (goal.at.returns-clause-here c).After-add_own) c.in_ok-add_own.ensures.own

pub returns-clause-still : goal.returns-clause-still
returns-clause-still c =
    added_still c.args.derived.now.sums.own c.add_own.new.self.own
    (entry (goal.at.returns-clause-still c).After-add_own) c.in_ok-add_own.ensures.own

pub returns-clause-stays : goal.returns-clause-stays
returns-clause-stays c =
    let d = c.args.derived.now in
    with_sums d _ c.add_own.new.self refl
    (added_keeps d.catalog d.book.exclusions d.book.rows d.sums c.add_own.new.self
    (entry (goal.at.returns-clause-stays c).After-add_own) c.in_ok-add_own.ensures.own
    c.add_own.ensures.pooled c.requires.objective c.in_ok-sums.ensures)
