use Rattle.std.proofs.Common.{◌≡◌, ◌≤◌, ◌∷◌, [], ◌++◌, ◌∙◌, refl, sym, ap, subst, append_assoc}
use Rattle.std.proofs.Common.{append-nil, arith, map, rules}
use Rattle.std.specs.Prelude.{All}
use Rattle.std.proofs.lemmas.List.{map-append}
use Rattle.std.proofs.lemmas.List.Elements.{All-push}
use Rattle.office_doors.specs.Books.{Moves}
use Rattle.visit_workers.specs.Workers.{AreClosed}
use Rattle.visit_workers.specs.declared.visits.WorkEnd.TheVariants.{Done, DoorFault}
use Rattle.visit_workers.proofs.Closing.{low_after, none_closed, one_closed, room_after, room_as}
use Rattle.visit_workers.proofs.Employing.{cause_more}
use Rattle.visit_workers.proofs.Lists.{mapped_behind, nothing_left}
use Rattle.visit_workers.proofs.workers.dismiss.Goals as goal

pub loop-worker-init : goal.loop-worker-init
loop-worker-init g c = record {
  all = refl;
  len = search rules;
  counters = c.requires.empty;
  open_yet = room_as _ c.args.workers.items (g.S.Doors.told c.args.doors.now)
      c.into_iter-worker-iterator.ensures.into_iter_gives.0 c.requires.open;
  closed_so = none_closed (g.S.Doors.told c.args.doors.now);
  ports = refl;
  well = λ yes k d lt. absurd (omega (arith, lt));
  low = omega arith;
  cause = λ bad all. absurd cc;
  space = search rules;
}

pub loop-worker-preserved : goal.loop-worker-preserved
loop-worker-preserved g c =
    let at = c.loop-worker in
    let i = at.invariant in
    let worker = c.in-Some.worker in
    let steps = c.in-Some.ensures.steps.0 in
    let well = c.all_well-well.ensures in
    let old = g.S.Doors.told c.args.doors.now in
    let mid = g.S.Doors.told at.doors in
    let new = g.S.Doors.told c.close.new.self in
    record {
      all = append_assoc at.yielded (worker ∷ []) _ ∙ ap (λ l. at.yielded ++ l) (sym steps)
          ∙ i.all;
      len = search rules;
      counters = mapped_behind (λ w. w.counter) at.counters.items c.push.new.self.items at.yielded
          worker (search rules) i.counters;
      open_yet = room_after worker _ _ worker.door mid new steps i.open_yet
          c.close.ensures.closed;
      closed_so = subst (λ l. Moves (AreClosed l) old new)
          (sym (map-append (λ w. w.door) at.yielded (worker ∷ [])))
          (one_closed (map (λ w. w.door) at.yielded) worker.door old mid new i.closed_so
          c.close.ensures.closed);
      ports = c.close.ensures.ports ∙ i.ports;
      well = λ yes. All-push (λ w. w.end ≡ Done) at.yielded worker (i.well (well.yes yes).0)
          (well.yes yes).1;
      low = low_after (g.S.Doors.faults c.args.doors.now) (g.S.Doors.faults at.doors)
          (g.S.Doors.faults c.close.new.self) (g.S.One.Door.faults worker.door) i.low
          c.close.ensures.faults;
      cause = λ bad all. cause_more (λ w. w.end ≡ DoorFault → 1 ≤ g.S.One.Door.faults w.door)
          (λ w. g.S.One.Door.faults w.door) (λ w. w.end) at.well at.yielded worker
          (g.S.Doors.faults c.args.doors.now) (g.S.Doors.faults at.doors)
          (g.S.Doors.faults c.close.new.self) (λ w f. f) i.low c.close.ensures.faults i.cause
          (well.no bad) all;
      space = search rules;
    }

pub returns-clause-well : goal.returns-clause-well
returns-clause-well g c = λ yes.
    let at = c.loop-worker in
    let none = nothing_left _ (sym at.invariant.len ∙ c.in-None.ensures.steps.0) in
    let whole = sym (append-nil at.yielded) ∙ ap (λ l. at.yielded ++ l) (sym none)
    ∙ at.invariant.all ∙ c.into_iter-worker-iterator.ensures.into_iter_gives.0 in
    subst (All (λ w. w.end ≡ Done)) whole (at.invariant.well yes)

pub returns-clause-cause : goal.returns-clause-cause
returns-clause-cause g c = λ bad all.
    let at = c.loop-worker in
    let none = nothing_left _ (sym at.invariant.len ∙ c.in-None.ensures.steps.0) in
    let whole = sym (append-nil at.yielded) ∙ ap (λ l. at.yielded ++ l) (sym none)
    ∙ at.invariant.all ∙ c.into_iter-worker-iterator.ensures.into_iter_gives.0 in
    at.invariant.cause bad
    (subst (All (λ w. w.end ≡ DoorFault → 1 ≤ g.S.One.Door.faults w.door)) (sym whole) all)
