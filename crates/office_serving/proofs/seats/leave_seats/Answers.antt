use Rattle.std.proofs.Common.{◌≡◌, ◌∷◌, [], ◌++◌, ◌∙◌, sym, ap, append_assoc, rules}
use Rattle.office_serving.proofs.seats.leave_seats.Goals as goal

pub loop-counter-preserved : goal.loop-counter-preserved
loop-counter-preserved g c =
    let at = c.loop-counter in
    let i = at.invariant in
    let counter = c.in-Some.counter in
    let steps = c.in-Some.ensures.steps.0 in
    let one : c.push.new.self.items ≡ at.passes.items ++ c.into_pass-pass.result ∷ [] =
    search rules in
    record {
      all = append_assoc at.yielded (counter ∷ []) _ ∙ ap (λ l. at.yielded ++ l) (sym steps)
          ∙ i.all;
      len = search rules;
      passes = one ∙ ap (λ v. at.passes.items ++ v ∷ []) c.into_pass-pass.ensures
          ∙ ap (λ l. l ++ counter ∷ []) i.passes;
      space = search rules;
    }
