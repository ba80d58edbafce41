use Rattle.std.proofs.Common.{◌≡◌, ◌<◌, ◌≤◌, ℕ, List, Ok, Err, sym, ap, ◌∙◌, subst, rules}
use Rattle.slo_journal.specs.declared.ScanFault.TheVariants.{Damaged}
use Rattle.slo_journal.proofs.Walking.{stops, illegal_stops, closes}
use Rattle.slo_journal.proofs.Histories.{walks_on, place_on}
use Rattle.record_form.specs.Ranges.{IsRecord}
use Rattle.office_keep.specs.Files.{IsDamagedAt}
use Rattle.office_keep.proofs.Histories.{illegal_here, is_damaged, legal_here, record_more, walk_as}
use Rattle.office_keep.proofs.Openings.{known, same_place, the_fault}
use Rattle.office_keep.proofs.opening.step.Goals as goal
use Rattle.slo_limits.specs.declared.TheConstants.{MAX_JOURNAL_BYTES}

pub returns-in-Ok-true-take_in-clause-walks : goal.returns-in-Ok-true-take_in-clause-walks
returns-in-Ok-true-take_in-clause-walks g c file told w =
    let is = c.in-Ok-true.is ∙ ap Ok c.in-Ok-true.field-0-test in
    let here = known _ _ _ _ _ is (c.next.ensures.next file told) in
    let taken =
    c.take_in.ensures.taken
    (c.in-Ok-true-take_in.is ∙ ap Ok c.in-Ok-true-take_in.field-0-test) in
    let legal =
    legal_here c.args.core.now.office c.next.new.out.items taken.0 c.is_legal.ensures.fit
    (subst (λ (x : List ℕ). IsRecord x taken.0) c.deref.ensures.value taken.1) taken.2 in
    walk_as _ _ _ _ file c.take_in.ensures.origin
    (walks_on _ _ _ _ _ _ _ file w here legal
    (record_more _ _ _ taken.0
    (subst (λ (x : List ℕ). IsRecord x taken.0) c.deref.ensures.value taken.1) taken.3)
    (c.next.ensures.moves is).0)

pub returns-in-Ok-true-take_in-clause-place : goal.returns-in-Ok-true-take_in-clause-place
returns-in-Ok-true-take_in-clause-place g c place =
    let is = c.in-Ok-true.is ∙ ap Ok c.in-Ok-true.field-0-test in
    let taken =
    c.take_in.ensures.taken
    (c.in-Ok-true-take_in.is ∙ ap Ok c.in-Ok-true-take_in.field-0-test) in
    place_on _ _ _ _ _
    (record_more _ _ _ taken.0
    (subst (λ (x : List ℕ). IsRecord x taken.0) c.deref.ensures.value taken.1) taken.3)
    (c.next.ensures.moves is).0 place

pub returns-in-Ok-false-take_in-clause-damaged : goal.returns-in-Ok-false-take_in-clause-damaged
returns-in-Ok-false-take_in-clause-damaged g c at same file told w =
    let is = c.in-Ok-true.is ∙ ap Ok c.in-Ok-true.field-0-test in
    let here = known _ _ _ _ _ is (c.next.ensures.next file told) in
    let refused =
    c.take_in.ensures.refused
    (c.in-Ok-false-take_in.is ∙ ap Ok c.in-Ok-false-take_in.field-0-test) in
    let illegal =
    illegal_here c.no_record_begins_another.ensures c.args.core.now.office c.next.new.out.items
    c.is_legal.ensures.fit
    (λ e is_record follows. refused e
    (subst (λ (x : List ℕ). IsRecord x e) (sym c.deref.ensures.value) is_record) follows) in
    let within : c.args.scan.now.at ≤ MAX_JOURNAL_BYTES =
    subst (λ p. p ≤ MAX_JOURNAL_BYTES) c.at-at.ensures.place c.at-at.ensures.within in
    subst (λ p. IsDamagedAt p file) (sym c.at-at.ensures.place ∙ same_place _ _ same)
    (is_damaged _ _ file (illegal_stops _ _ _ _ file w within _ here illegal))

pub returns-in-Ok-false-clause-ended : goal.returns-in-Ok-false-clause-ended
returns-in-Ok-false-clause-ended g c same file told w =
    let is = c.in-Ok-false.is ∙ ap Ok c.in-Ok-false.field-0-test in
    let here = known _ _ _ _ _ is (c.next.ensures.next file told) in
    let few : c.args.scan.now.at < MAX_JOURNAL_BYTES = search rules in
    closes _ _ _ file w.parts w.place few here

pub returns-in-Err-Damaged-clause-damaged : goal.returns-in-Err-Damaged-clause-damaged
returns-in-Err-Damaged-clause-damaged g c at same file told w =
    let is : c.next.result ≡ Err (Damaged c.in-Err-Damaged.at) = search rules in
    let here = known _ _ _ _ _ is (c.next.ensures.next file told) in
    let told_at : the_fault c.in-Err-Damaged.at ≡ the_fault at = search rules in
    let within : c.args.scan.now.at ≤ MAX_JOURNAL_BYTES =
    subst (λ p. p ≤ MAX_JOURNAL_BYTES) c.at-at.ensures.place c.at-at.ensures.within in
    subst (λ p. IsDamagedAt p file) (sym here.0 ∙ same_place _ _ told_at)
    (is_damaged _ _ file (stops _ _ _ _ file w within here.1 here.2))
