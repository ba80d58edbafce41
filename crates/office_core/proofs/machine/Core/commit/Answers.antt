use Rattle.std.proofs.Common.{◌≡◌, ◌∙◌, sym, ap, subst}
use Rattle.record_form.specs.Records.{record_of}
use Rattle.record_form.specs.Ranges.{FitsRecord}
use Rattle.office_history.specs.History.{with_entry}
use Rattle.office_core.specs.Seen.{Machine}
use Rattle.office_core.specs.Forgetting.{ForgetsOnlyNear}
use Rattle.office_core.proofs.MachineLemmas.{committed, forgotten, has_spare, kept_next}
use Rattle.office_core.proofs.MachineLemmas.{office_next, pending_is, ready_of}
use Rattle.office_core.proofs.machine.Core.commit.Goals as goal

pub push-requires-clause-entry : goal.push-requires-clause-entry
push-requires-clause-entry c =
    let k = c.self.inside.records in
    let p = c.in-Some.field-0 in
    let ready = ready_of c.self.inside.derived c.self.inside.lines k.history k.spare k.places
    c.self.inside.pending p c.self.invariant c.in-Some.ensures.value in
    let same = pending_is c.self.inside.pending p c.requires.0 c.in-Some.ensures.value
    (ap (λ (m : Machine). m.pending) c.self.view_is ∙ c.requires.1) in (
      c.requires.0,
      record {
        spelled = c.bytes.ensures ∙ c.requires.2;
        fits = subst FitsRecord same ready.fits;
      },
    )

pub push-requires-clause-spare : goal.push-requires-clause-spare
push-requires-clause-spare c =
    let k = c.self.inside.records in
    has_spare c.self.inside.derived c.self.inside.lines k.history k.spare k.places
    c.self.inside.pending c.in-Some.field-0 c.requires.0 c.bytes.result.now c.self.invariant
    c.in-Some.ensures.value (ap (λ (m : Machine). m.pending) c.self.view_is ∙ c.requires.1)
    (c.bytes.ensures ∙ c.requires.2)

pub push-requires-clause-places : goal.push-requires-clause-places
push-requires-clause-places c =
    let k = c.self.inside.records in
    (ready_of c.self.inside.derived c.self.inside.lines k.history k.spare k.places
    c.self.inside.pending c.in-Some.field-0 c.self.invariant c.in-Some.ensures.value).place

pub invariant_of-self : goal.invariant_of-self
invariant_of-self c =
    let d = c.self.inside.derived in
    let k = c.self.inside.records in
    let e = c.requires.0 in
    let r = committed d c.apply.new.derived c.self.inside.lines k.history k.spare k.places
    c.self.inside.pending c.in-Some.field-0 e c.self.invariant c.in-Some.ensures.value
    (ap (λ (m : Machine). m.pending) c.self.view_is ∙ c.requires.1)
    c.apply.ensures.reflects in
    kept_next d c.apply.new.derived c.apply.new.lines k.history c.push.new.self.history _ _
    c.take.new.self e r
    (c.push.ensures.history e (record { spelled = c.bytes.ensures ∙ c.requires.2; fits = r.fits }))
    c.apply.ensures.sound c.apply.ensures.lines c.take.ensures.after

pub returns-clause-office : goal.returns-clause-office
returns-clause-office c e pending =
    let d = c.self.inside.derived in
    let k = c.self.inside.records in
    let same : c.requires.0 ≡ e = cc (sym c.requires.1 ∙ pending) in
    let r = committed d c.apply.new.derived c.self.inside.lines k.history k.spare k.places
    c.self.inside.pending c.in-Some.field-0 e c.self.invariant c.in-Some.ensures.value
    (ap (λ (m : Machine). m.pending) c.self.view_is ∙ pending)
    c.apply.ensures.reflects in
    office_next d c.apply.new.derived k.history c.push.new.self.history e
    (c.push.ensures.history e
    (record { spelled = c.bytes.ensures ∙ c.requires.2 ∙ ap record_of same; fits = r.fits }))
    r.reflects
    ∙ ap (λ (m : Machine). with_entry m.office e) c.self.view_is

pub returns-clause-forgets : goal.returns-clause-forgets
returns-clause-forgets c e pending =
    let d = c.self.inside.derived in
    let k = c.self.inside.records in
    subst (λ (m : Machine). ForgetsOnlyNear m.office e m.lines c.apply.new.lines.kept)
    c.self.view_is
    (forgotten d c.self.inside.lines k.history k.spare k.places c.self.inside.pending
    c.in-Some.field-0 e c.apply.new.lines.kept c.self.invariant c.in-Some.ensures.value
    (ap (λ (m : Machine). m.pending) c.self.view_is ∙ pending) c.apply.ensures.forgets)
