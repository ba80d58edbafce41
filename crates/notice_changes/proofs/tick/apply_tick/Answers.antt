use Rattle.std.proofs.Common.{◌∙◌, ◌+◌, ◌++◌, ap, sym, refl, arith, length}
use Rattle.record_form.specs.declared.Outcome.TheVariants.{Ticked}
use Rattle.office_derived.specs.declared.Derived.{Derived}
use Rattle.notice_changes.specs.Works.{new_notices}
use Rattle.notice_changes.proofs.TickLemmas.{count_told, next_few, reflects_tick, sound_tick}
use Rattle.notice_changes.proofs.tick.apply_tick.Goals as goal

pub count-notices-requires : goal.count-notices-requires
count-notices-requires c =
    let next = c.requires.next.1 in
    let few = next_few c.args.derived.now c.requires.next.0 c.args.moment c.args.told.items
    next.reflects next.accepted next.found.1 in
    omega (arith, ap length c.deref.ensures.value, few.0)

pub tell-requires-clause-few : goal.tell-requires-clause-few
tell-requires-clause-few c =
    let next = c.requires.next.1 in
    let few = next_few c.args.derived.now c.requires.next.0 c.args.moment c.args.told.items
    next.reflects next.accepted next.found.1 in
    omega (arith, ap length c.deref-2.ensures.value, few.0, few.1, c.requires.sound.made)

pub returns-clause-reflects : goal.returns-clause-reflects
returns-clause-reflects c = λ o next.
    let d = c.args.derived.now in
    let d' : Derived = record d {
      notices = c.tell.new.notices;
      states = c.args.states;
      entries = d.entries + 1;
      present = c.args.moment;
    } in
    reflects_tick d d' o c.args.moment c.args.states.items c.args.told.items next.reflects
    next.later next.found.0 next.found.1
    refl refl refl refl refl refl refl refl refl
    (c.tell.ensures ∙ ap (λ told. d.notices.made
    ++ new_notices c.args.moment (length d.notices.made + 1) told) c.deref-2.ensures.value) refl

pub returns-clause-sound : goal.returns-clause-sound
returns-clause-sound c =
    let d = c.args.derived.now in
    let next = c.requires.next.1 in
    let few = next_few d c.requires.next.0 c.args.moment c.args.told.items next.reflects
    next.accepted next.found.1 in
    let d' : Derived = record d {
      notices = c.tell.new.notices;
      states = c.args.states;
      entries = d.entries + 1;
      present = c.args.moment;
    } in
    sound_tick d d' c.args.moment c.args.told.items c.requires.sound refl refl refl refl
    refl refl refl refl
    (c.tell.ensures ∙ ap (λ told. d.notices.made ++ new_notices c.args.moment
    (length d.notices.made + 1) told) c.deref-2.ensures.value) few.0 few.1

pub returns-clause-outcome : goal.returns-clause-outcome
returns-clause-outcome c = λ o next.
    λ i. Ticked (next.reflects.entries i) ((c.count-notices.ensures ∙ ap length
    c.deref.ensures.value ∙ ap length next.found.1 ∙ sym (count_told o c.args.moment)) i)
