use Rattle.std.proofs.Common.{◌≡◌, ◌++◌, [], ◌∷◌, ◌∙◌, suc, ap, sym, subst, append_assoc, arith}
use Rattle.std.specs.List.{All}
use Rattle.std.specs.Vec.Iter.{into_iter_items}
use Rattle.object_terms.specs.Document.{IsOfDocument}
use Rattle.slo_catalog.proofs.member.members_of.Goals as goal

pub loop-object-preserved : goal.loop-object-preserved
loop-object-preserved c =
    let at = c.loop-object in
    let object = c.in-Some.object in
    let rest = into_iter_items c.next.new.self in
    let steps : into_iter_items at.object-iterator ≡ object ∷ rest = c.in-Some.ensures.steps.0 in
    let one : c.push.new.self.items ≡ at.members.items ++ object ∷ [] =
    c.in_ok-push.ensures.items ∙ ap (λ o. at.members.items ++ o ∷ []) c.in_ok-of.ensures in
    let ahead : All IsOfDocument (object ∷ rest) =
    subst (All IsOfDocument) steps at.invariant.left in
    record {
      all = ap (λ l. l ++ rest) one ∙ append_assoc at.members.items (object ∷ []) rest
          ∙ ap (λ l. at.members.items ++ l) (sym steps) ∙ at.invariant.all;
      left = λ k d within. ahead (suc k) d (omega (arith, within));
    }
