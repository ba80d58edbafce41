use Rattle.std.proofs.Common.{◌++◌, List, Option, refl, subst, sym}
use Rattle.std.specs.List.{AllByRecursion}
use Rattle.sample_book.specs.declared.Row.{Row}
use Rattle.sample_book.specs.Rows.{current_rows}
use Rattle.office_derived.specs.declared.Work.{Work}
use Rattle.office_derived.specs.declared.Work.TheVariants as works
use Rattle.office_derived.specs.Derived.{IsNext, IsPlaced, entry_of}
use Rattle.kept_lines.specs.declared.LinesPlan.{LinesPlan}
use Rattle.kept_lines.specs.Changes.{AllForget, IsMovedBy}
use Rattle.kept_lines.specs.Lines.{KeepsLines}
use Rattle.kept_lines.specs.Sums.{samples_of}
use Rattle.office_core.specs.Forgetting.{ForgetsOnlyNear}
use Rattle.office_core.specs.Machine.{HasLinesFor, HasLinesPlan}
use Rattle.office_core.proofs.ForgettingLemmas.{batch_forgets, exclusion_forgets, forgets_none}
use Rattle.office_core.proofs.ForgettingLemmas.{forgets_still}
use Rattle.office_core.proofs.LinesLemmas.{batch_lines, batch_placed, excluded_lines, new_lines}
use Rattle.office_core.proofs.LinesLemmas.{still_lines}
use Rattle.office_core.proofs.commands.apply.Goals as goal

pub forget_rows-requires-clause-placed : goal.forget_rows-requires-clause-placed
forget_rows-requires-clause-placed c =
    let d = c.args.derived.now in
    let o = c.requires.next.0 in
    let next = subst (IsNext d o c.args.moment) c.in-Samples.is c.requires.next.1 in
    subst (λ (rows : List Row). AllByRecursion (IsPlaced d.origin) rows) (sym c.as_slice.ensures)
    (batch_placed d o c.args.moment c.in-Samples.rows c.in-Samples.tally c.in-Samples.verdicts next)

pub returns-in-Some-clause-lines : goal.returns-in-Some-clause-lines
returns-in-Some-clause-lines c =
    let d = c.args.derived.now in
    let o = c.requires.next.0 in
    let catalog = c.in-Define.catalog in
    let work : Work =
    works.Define c.in-Define.text catalog c.in-Define.applied c.in-Define.sums in
    let next = subst (IsNext d o c.args.moment) c.in-Define.is c.requires.next.1 in
    let planned = subst (λ (p : Option LinesPlan). HasLinesFor d c.args.lines.now catalog p)
    c.in-Some.is (subst (λ (w : Work). HasLinesPlan d c.args.lines.now w c.args.plan)
    c.in-Define.is c.requires.plan) in
    new_lines d c.apply_define-outcome.new.derived o c.args.moment work catalog c.take.new.self.kept
    next (c.apply_define-outcome.ensures.reflects o next) next.found.0 refl refl
    (c.take.ensures.lines d.origin d.catalog catalog (samples_of d.book) c.requires.lines planned.0)

pub returns-in-Some-plan-clause-lines : goal.returns-in-Some-plan-clause-lines
returns-in-Some-plan-clause-lines c =
    let d = c.args.derived.now in
    let o = c.requires.next.0 in
    let catalog = c.in-Remove.catalog in
    let work : Work =
    works.Remove c.in-Remove.kind c.in-Remove.name catalog c.in-Remove.sums in
    let next = subst (IsNext d o c.args.moment) c.in-Remove.is c.requires.next.1 in
    let planned = subst (λ (p : Option LinesPlan). HasLinesFor d c.args.lines.now catalog p)
    c.in-Some-plan.is (subst (λ (w : Work). HasLinesPlan d c.args.lines.now w c.args.plan)
    c.in-Remove.is c.requires.plan) in
    new_lines d c.apply_remove-outcome.new.derived o c.args.moment work catalog
    c.take-in-Some-plan.new.self.kept next (c.apply_remove-outcome.ensures.reflects o next)
    next.found.0 refl refl
    (c.take-in-Some-plan.ensures.lines d.origin d.catalog catalog (samples_of d.book)
    c.requires.lines
    planned.0)

pub returns-in-PutZone-clause-lines : goal.returns-in-PutZone-clause-lines
returns-in-PutZone-clause-lines c =
    let d = c.args.derived.now in
    let o = c.requires.next.0 in
    let work : Work = works.PutZone c.in-PutZone.name c.in-PutZone.bytes c.in-PutZone.zone in
    let next = subst (IsNext d o c.args.moment) c.in-PutZone.is c.requires.next.1 in
    still_lines d c.apply_put_zone.new.derived o c.args.moment work c.args.lines.now.kept next
    (c.apply_put_zone.ensures.reflects o next) refl refl refl c.requires.lines

pub returns-in-Samples-clause-lines : goal.returns-in-Samples-clause-lines
returns-in-Samples-clause-lines c =
    let d = c.args.derived.now in
    let o = c.requires.next.0 in
    let next = subst (IsNext d o c.args.moment) c.in-Samples.is c.requires.next.1 in
    batch_lines d c.apply_samples.new.derived o c.args.moment c.in-Samples.rows c.in-Samples.tally
    c.in-Samples.verdicts c.forget_rows.new.self.kept next (c.apply_samples.ensures.reflects o next)
    (subst (λ (rows : List Row). KeepsLines d.origin d.catalog
    (record { rows = current_rows (d.book.rows ++ rows); exclusions = d.book.exclusions })
    c.forget_rows.new.self.kept) c.as_slice.ensures c.forget_rows.ensures.lines)

pub returns-in-Exclude-clause-lines : goal.returns-in-Exclude-clause-lines
returns-in-Exclude-clause-lines c =
    let d = c.args.derived.now in
    let o = c.requires.next.0 in
    let next = subst (IsNext d o c.args.moment) c.in-Exclude.is c.requires.next.1 in
    excluded_lines d c.apply_exclude.new.derived o c.args.moment c.in-Exclude.value
    c.forget_exclusion.new.self.kept next (c.apply_exclude.ensures.reflects o next)
    c.apply_exclude.ensures.made c.forget_exclusion.ensures.lines

pub returns-in-Some-clause-forgets : goal.returns-in-Some-clause-forgets
returns-in-Some-clause-forgets c = λ o next.
    forgets_none o (entry_of c.args.moment c.args.work) c.args.lines.now.kept
    c.take.new.self.kept c.take.ensures.stay

pub returns-in-Some-plan-clause-forgets : goal.returns-in-Some-plan-clause-forgets
returns-in-Some-plan-clause-forgets c = λ o next.
    forgets_none o (entry_of c.args.moment c.args.work) c.args.lines.now.kept
    c.take-in-Some-plan.new.self.kept c.take-in-Some-plan.ensures.stay

pub returns-in-PutZone-clause-forgets : goal.returns-in-PutZone-clause-forgets
returns-in-PutZone-clause-forgets c = λ o next.
    forgets_still o (entry_of c.args.moment c.args.work) c.args.lines.now.kept

pub returns-in-Tick-clause-forgets : goal.returns-in-Tick-clause-forgets
returns-in-Tick-clause-forgets c = λ o next.
    forgets_still o (entry_of c.args.moment c.args.work) c.args.lines.now.kept

pub returns-in-Take-clause-forgets : goal.returns-in-Take-clause-forgets
returns-in-Take-clause-forgets c = λ o next.
    forgets_still o (entry_of c.args.moment c.args.work) c.args.lines.now.kept

pub returns-in-Upgrade-clause-forgets : goal.returns-in-Upgrade-clause-forgets
returns-in-Upgrade-clause-forgets c = λ o next.
    forgets_still o (entry_of c.args.moment c.args.work) c.args.lines.now.kept

pub returns-in-Samples-clause-forgets : goal.returns-in-Samples-clause-forgets
returns-in-Samples-clause-forgets c = λ o next.
    let d = c.args.derived.now in
    let rows = c.in-Samples.rows in
    let old = c.args.lines.now.kept in
    let new = c.forget_rows.new.self.kept in
    let work : Work = works.Samples rows c.in-Samples.tally c.in-Samples.verdicts in
    subst (λ (w : Work). ForgetsOnlyNear o (entry_of c.args.moment w) old new)
    (sym c.in-Samples.is)
    (batch_forgets d o c.args.moment rows c.in-Samples.tally c.in-Samples.verdicts
    c.deref.result.now old new (subst (IsNext d o c.args.moment) c.in-Samples.is next)
    c.deref.ensures.value c.requires.lines.right
    (subst (λ (rs : List Row). AllForget (IsMovedBy rs c.deref.result.now) old new)
    c.as_slice.ensures c.forget_rows.ensures.forget))

pub returns-in-Exclude-clause-forgets : goal.returns-in-Exclude-clause-forgets
returns-in-Exclude-clause-forgets c = λ o next.
    let d = c.args.derived.now in
    let old = c.args.lines.now.kept in
    let new = c.forget_exclusion.new.self.kept in
    let next' = subst (IsNext d o c.args.moment) c.in-Exclude.is next in
    subst (λ (w : Work). ForgetsOnlyNear o (entry_of c.args.moment w) old new)
    (sym c.in-Exclude.is)
    (exclusion_forgets d c.apply_exclude.new.derived o c.args.moment c.in-Exclude.value old new
    next' (c.apply_exclude.ensures.reflects o next') c.apply_exclude.ensures.made
    c.requires.lines.right c.forget_exclusion.ensures.forget)
