use Rattle.std.proofs.Common.{Ok, sym, ap, ◌∙◌, refl}
use Rattle.office_keep.proofs.Offices.{doubted_of, keeps_more, kept_of, settled_as, stands_in_doubt}
use Rattle.office_outside.proofs.Moments.{leaves_weaker}
use Rattle.office_keep.proofs.steps.settle.Goals as goal

pub returns-in-Ok-true-clause-kept : goal.returns-in-Ok-true-clause-kept
returns-in-Ok-true-clause-kept g c =
    let some = sym c.take.ensures.value ∙ c.in-Some.is in
    let d = doubted_of g.D.Disk.senses _ _ _ c.in-Some.entry c.requires.kept some in
    let is = c.in-Ok-true.is ∙ ap Ok c.in-Ok-true.field-0-test in
    kept_of g.D.Disk.senses _ _ _ _ c.take.ensures.after (c.commit.ensures.office d.entry d.pending)
    (keeps_more g.D.Disk.senses _ d.entry _
    (settled_as g.D.Disk.senses _ _ _ _ _ is (c.settle.ensures.leaves _ _ _ d.doubts)))

pub returns-in-Ok-true-clause-any_moment : goal.returns-in-Ok-true-clause-any_moment
returns-in-Ok-true-clause-any_moment g c =
    let some = sym c.take.ensures.value ∙ c.in-Some.is in
    let d = doubted_of g.D.Disk.senses _ _ _ c.in-Some.entry c.requires.kept some in
    leaves_weaker (c.settle.ensures.any_moment _ _ _ d.doubts)
    (stands_in_doubt g.D.Disk.senses _ _ _ c.in-Some.entry some d)

pub returns-in-Ok-false-clause-kept : goal.returns-in-Ok-false-clause-kept
returns-in-Ok-false-clause-kept g c =
    let some = sym c.take.ensures.value ∙ c.in-Some.is in
    let d = doubted_of g.D.Disk.senses _ _ _ c.in-Some.entry c.requires.kept some in
    let is = c.in-Ok-false.is ∙ ap Ok c.in-Ok-false.field-0-test in
    kept_of g.D.Disk.senses _ _ _ _ c.take.ensures.after refl
    (settled_as g.D.Disk.senses _ _ _ _ _ is (c.settle.ensures.leaves _ _ _ d.doubts))

pub returns-in-Ok-false-clause-any_moment : goal.returns-in-Ok-false-clause-any_moment
returns-in-Ok-false-clause-any_moment g c =
    let some = sym c.take.ensures.value ∙ c.in-Some.is in
    let d = doubted_of g.D.Disk.senses _ _ _ c.in-Some.entry c.requires.kept some in
    leaves_weaker (c.settle.ensures.any_moment _ _ _ d.doubts)
    (stands_in_doubt g.D.Disk.senses _ _ _ c.in-Some.entry some d)

pub returns-in-Err-clause-any_moment : goal.returns-in-Err-clause-any_moment
returns-in-Err-clause-any_moment g c =
    let some = sym c.take.ensures.value ∙ c.in-Some.is in
    let d = doubted_of g.D.Disk.senses _ _ _ c.in-Some.entry c.requires.kept some in
    leaves_weaker (c.settle.ensures.any_moment _ _ _ d.doubts)
    (stands_in_doubt g.D.Disk.senses _ _ _ c.in-Some.entry some d)
