use Rattle.std.proofs.Common.{◌+◌, refl}
use Rattle.office_derived.specs.declared.Derived.{Derived}
use Rattle.notice_changes.proofs.TakeLemmas.{next_within, reflects_take, sound_take}
use Rattle.notice_changes.proofs.take.apply_take.Goals as goal

pub returns-clause-reflects : goal.returns-clause-reflects
returns-clause-reflects c = λ o next.
    let d = c.args.derived.now in
    let d' : Derived = record d {
      notices = c.take.new.notices;
      entries = d.entries + 1;
      present = c.args.moment;
    } in
    reflects_take d d' o c.args.moment c.args.number next.reflects next.later
    (next_within d o c.args.moment c.args.number next.reflects next.accepted).1
    refl refl refl refl refl refl refl refl refl c.take.ensures.made refl

pub returns-clause-sound : goal.returns-clause-sound
returns-clause-sound c =
    let d = c.args.derived.now in
    let o = c.requires.next.0 in
    let next = c.requires.next.1 in
    let d' : Derived = record d {
      notices = c.take.new.notices;
      entries = d.entries + 1;
      present = c.args.moment;
    } in
    sound_take d d' c.args.number c.requires.sound refl refl refl refl refl refl refl refl
    c.take.ensures.made c.take.ensures.one
    (next_within d o c.args.moment c.args.number next.reflects next.accepted).2
