use Rattle.std.proofs.Common.{◌≡◌, ◌∷◌, [], ◌++◌, ◌∙◌, sym, ap, append_assoc, append-nil, rules}
use Rattle.std.proofs.lemmas.List.Elements.{All-rest}
use Rattle.office_doors.specs.Books.{HasAllBack, WhereTold}
use Rattle.visit_workers.proofs.Lists.{first_and_rest, made_of_first, mapped_more}
use Rattle.visit_workers.proofs.workers.post.Goals as goal

pub loop-door-preserved : goal.loop-door-preserved
loop-door-preserved g c =
    let at = c.loop-door in
    let i = at.invariant in
    let door = c.in-Some.door in
    let steps = c.in-Some.ensures.steps.0 in
    let counter = c.remove-counter.result in
    let left = c.remove-counter.new.self.items in
    let worker = c.hire-worker.result in
    let now = c.push.new.self.items in
    let one : now ≡ at.workers.items ++ worker ∷ [] = search rules in
    record {
      all = append_assoc at.yielded (door ∷ []) _ ∙ ap (λ l. at.yielded ++ l) (sym steps) ∙ i.all;
      len = search rules;
      made = mapped_more (λ w. w.door) at.workers.items now worker at.yielded door one
          c.hire-worker.ensures.door i.made;
      left = search rules;
      kits = search rules;
      back = All-rest (λ d. WhereTold HasAllBack (g.A.Door.told d)) door _ _ steps i.back;
      given = made_of_first (λ w. w.counter) at.workers.items now worker at.counters.items left _
          counter one c.hire-worker.ensures.counter
          (first_and_rest at.counters.items left counter (search rules)
          c.remove-counter.ensures.value c.remove-counter.ensures.items) i.given;
      room = search rules;
      space = search rules;
    }
