use Rattle.std.proofs.Common.{◌≡◌, [], ◌∷◌, Some, length, sym, ap, ◌∙◌, subst, rules}
use Rattle.atomic_table.specs.Table.{opening}
use Rattle.turn_desk.specs.Rule.{Ruled, first_view}
use Rattle.turn_desk.proofs.Sharing.{begins}
use Rattle.turn_desk.proofs.desk.Desk.with_pass.Goals as goal

pub new-requires : goal.new-requires
new-requires g c =
    let ledger = g.T.Ledgered.ledger in
    let about = c.of.result.value in
    let passes = c.args.passes in
    let items : c.push.new.self.items ≡ Some c.args.value ∷ [] = search rules in
    subst (λ its. Ruled ledger about passes
    (opening (0 ∷ c.length-length.result ∷ []) its (first_view ledger about passes)))
    (sym (items ∙ ap (λ v. Some v ∷ []) (sym c.of.ensures)))
    (begins ledger about passes c.length-length.result c.requires
    (c.length-length.ensures ∙ ap (λ v. length (ledger v).history) (sym c.of.ensures)))
