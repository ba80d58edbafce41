use Rattle.std.proofs.Common.{◌∷◌, [], ◌++◌, ◌∙◌, refl, sym, ap, append_assoc, rules}
use Rattle.visit_workers.proofs.Closing.{none_closed, one_closed, room_after, room_as}
use Rattle.office_serving.proofs.serving.shut.Goals as goal

pub loop-door-init : goal.loop-door-init
loop-door-init g c = record {
  all = refl;
  len = search rules;
  open_yet = room_as _ c.args.opened.items (g.S.Doors.told c.args.doors.now)
      c.into_iter-door-iterator.ensures.into_iter_gives.0 c.requires.open;
  closed_so = none_closed (g.S.Doors.told c.args.doors.now);
  ports = refl;
}

pub loop-door-preserved : goal.loop-door-preserved
loop-door-preserved g c =
    let at = c.loop-door in
    let i = at.invariant in
    let door = c.in-Some.door in
    let steps = c.in-Some.ensures.steps.0 in
    record {
      all = append_assoc at.yielded (door ∷ []) _ ∙ ap (λ l. at.yielded ++ l) (sym steps) ∙ i.all;
      len = search rules;
      open_yet = room_after door _ _ door (g.S.Doors.told at.doors)
          (g.S.Doors.told c.close.new.self) steps i.open_yet c.close.ensures.closed;
      closed_so = one_closed at.yielded door (g.S.Doors.told c.args.doors.now)
          (g.S.Doors.told at.doors) (g.S.Doors.told c.close.new.self) i.closed_so
          c.close.ensures.closed;
      ports = c.close.ensures.ports ∙ i.ports;
    }
