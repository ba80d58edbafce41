use Rattle.std.proofs.Common.{sym, ap, ◌∙◌, refl, arith}
use Rattle.std.specs.Prelude.{option_map, slice_get}
use Rattle.std.proofs.lemmas.Slice.Eq.{bytes_eq-Decides}
use Rattle.record_form.specs.Records.{record_of}
use Rattle.office_history.specs.History.{Office}
use Rattle.office_follow.proofs.PlaceLemmas.{adopting, held_at, is_other, is_there, none_at, placed}
use Rattle.office_follow.proofs.PlaceLemmas.{there_below}
use Rattle.office_follow.proofs.entries.place.Goals as goal

pub returns-then-eq-clause-there : goal.returns-then-eq-clause-there
returns-then-eq-clause-there g c =
    let told = ap (λ (o : Office). option_map record_of (slice_get o.history c.args.position))
    c.core.ensures in
    is_there c.args.office.now.office c.args.position c.args.entry.now c.in-Some.held.now
    c.args.piece.now (held_at _ c.in-Some.held.now (c.in-Some.ensures ∙ told))
    ((bytes_eq-Decides c.in-Some.held.now c.args.piece.now).0 (sym c.eq.ensures ∙ c.if-eq.true))
    c.requires.record.spelled

pub returns-then-eq-clause-within : goal.returns-then-eq-clause-within
returns-then-eq-clause-within g c =
    let told = ap (λ (o : Office). option_map record_of (slice_get o.history c.args.position))
    c.core.ensures in
    let there = is_there c.args.office.now.office c.args.position c.args.entry.now
    c.in-Some.held.now c.args.piece.now (held_at _ c.in-Some.held.now (c.in-Some.ensures ∙ told))
    ((bytes_eq-Decides c.in-Some.held.now c.args.piece.now).0 (sym c.eq.ensures ∙ c.if-eq.true))
    c.requires.record.spelled in
    omega (
      arith,
      there_below c.args.office.now.office c.args.office.now.office c.args.position
          c.args.entry.now there,
    )

pub returns-else-eq-clause-out : goal.returns-else-eq-clause-out
returns-else-eq-clause-out g c =
    let told = ap (λ (o : Office). option_map record_of (slice_get o.history c.args.position))
    c.core.ensures in
    record {
      out = is_other c.args.office.now.office c.args.position c.args.entry.now
          c.in-Some.held.now c.args.piece.now
          (held_at _ c.in-Some.held.now (c.in-Some.ensures ∙ told))
          (λ same. absurd (cc (sym c.if-eq.false ∙ c.eq.ensures
          ∙ (bytes_eq-Decides c.in-Some.held.now c.args.piece.now).1 same)))
          c.requires.record.spelled;
      office = refl;
      clear = λ other. c.requires.none;
    }

pub returns-in-None-clause-there : goal.returns-in-None-clause-there
returns-in-None-clause-there g c =
    let told = ap (λ (o : Office). option_map record_of (slice_get o.history c.args.position))
    c.core.ensures in
    let is = none_at c.args.office.now.office.history c.args.position (c.in-None.ensures ∙ told)
    c.requires.within in
    (placed c.args.office.now.office c.args.entry.now c.adopt.result c.adopt.new.self.office
    c.adopt.new.self.doubt c.args.position c.end_of.result c.end_of.ensures is
    c.adopt.ensures.ended).there

pub returns-in-None-clause-out : goal.returns-in-None-clause-out
returns-in-None-clause-out g c =
    let told = ap (λ (o : Office). option_map record_of (slice_get o.history c.args.position))
    c.core.ensures in
    let is = none_at c.args.office.now.office.history c.args.position (c.in-None.ensures ∙ told)
    c.requires.within in
    (placed c.args.office.now.office c.args.entry.now c.adopt.result c.adopt.new.self.office
    c.adopt.new.self.doubt c.args.position c.end_of.result c.end_of.ensures is
    c.adopt.ensures.ended).out

pub returns-in-None-clause-moments : goal.returns-in-None-clause-moments
returns-in-None-clause-moments g c =
    let told = ap (λ (o : Office). option_map record_of (slice_get o.history c.args.position))
    c.core.ensures in
    let is = none_at c.args.office.now.office.history c.args.position (c.in-None.ensures ∙ told)
    c.requires.within in
    adopting g.D.Disk.senses c.args.office.now.office c.args.position c.args.entry.now _ _ is
    c.adopt.ensures.any_moment
