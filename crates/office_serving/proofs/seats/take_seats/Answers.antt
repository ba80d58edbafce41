use Rattle.std.proofs.Common.{◌≡◌, ◌∷◌, [], ◌++◌, ◌∙◌, sym, ap, append_assoc, rules}
use Rattle.std.proofs.lemmas.List.Elements.{All-rest}
use Rattle.visit_workers.proofs.Lists.{first_and_rest}
use Rattle.office_serving.proofs.seats.take_seats.Goals as goal

pub loop-preserved : goal.loop-preserved
loop-preserved g c =
    let at = c.loop in
    let i = at.invariant in
    let pass = c.remove-pass.result in
    let left = c.remove-pass.new.self.items in
    let counter = c.new-counter.result in
    let one : c.push.new.self.items ≡ at.counters.items ++ counter ∷ [] = search rules in
    let waits = first_and_rest at.passes.items left pass (search rules)
    c.remove-pass.ensures.value c.remove-pass.ensures.items in
    record {
      made = ap (λ l. l ++ left) one
          ∙ ap (λ v. (at.counters.items ++ v ∷ []) ++ left) c.new-counter.ensures
          ∙ append_assoc at.counters.items (pass ∷ []) left
          ∙ ap (λ l. at.counters.items ++ l) (sym waits) ∙ i.made;
      left = search rules;
      desk = All-rest (λ p. p.desk ≡ c.args.desk.now) pass left at.passes.items waits i.desk;
      room = search rules;
      space = search rules;
    }
