use Rattle.std.proofs.Common.{◌≡◌, ◌∙◌, List, ℕ, Some, ap, subst, sym}
use Rattle.std.specs.List.{position}
use Rattle.std.specs.Str.{bytes_eq}
use Rattle.std.proofs.lemmas.Slice.Eq.{bytes_eq-Decides}
use Rattle.name_numbers.proofs.NumberLemmas.{position_at}
use Rattle.name_numbers.proofs.name_table.NameTable.is_at.Goals as goal

pub returns-in-Some-clause-number : goal.returns-in-Some-clause-number
returns-in-Some-clause-number c told =
    let names = c.self.inside.set.keys in
    let same = (bytes_eq-Decides c.in-Some.there.now c.args.name.now).0 (sym c.eq.ensures ∙ told) in
    subst (λ (names : List (List ℕ)).
    position (bytes_eq c.args.name.now) names ≡ Some c.args.number) c.self.view_is
    (position_at names c.args.name.now c.args.number c.self.invariant.distinct
    (sym c.in-Some.ensures.key ∙ ap Some same))
