use Rattle.std.proofs.Common.{◌∙◌, ap, List, ℕ}
use Rattle.own_counter.specs.Own.{places_with, performed}
use Rattle.own_counter.proofs.Asking.{asks_without_room}
use Rattle.own_counter.proofs.counter.ask_alone.Goals as goal

pub returns-then-is_err : goal.returns-then-is_err
returns-then-is_err g c =
    rw c.reserve.ensures.items
    (asks_without_room g.D.Disk.senses g.met.D.Disk.only_now c.args.office.now
    c.args.own.now.items c.args.reading c.args.request.now c.disk_stands.ensures.stands
    c.disk_stands.ensures.whole)

pub returns : goal.returns
returns g c = record {
  place = c.act-outcome.result.1;
  ended = performed c.act-outcome.ensures.ended;
  places =
      c.note.ensures
      ∙ ap (λ (l : List ℕ). places_with c.act-outcome.result.1 l) c.reserve.ensures.items;
  any_moment = c.act-outcome.ensures.any_moment;
  stands = c.act-outcome.ensures.stands;
  whole = c.act-outcome.ensures.whole;
  after_settling = c.act-outcome.ensures.after_settling;
  cause = c.act-outcome.ensures.cause;
}
