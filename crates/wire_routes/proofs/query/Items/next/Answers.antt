use Rattle.std.proofs.Common.{◌∙◌, ap, sym, option_map, Option, List, ℕ, Bor}
use Rattle.wire_routes.specs.Queries.{items_left}
use Rattle.wire_routes.proofs.ItemLemmas.{items_cut, items_whole}
use Rattle.wire_routes.proofs.query.Items.next.Goals as goal

pub returns-in-Some : goal.returns-in-Some
returns-in-Some c =
    sym c.self.view_is ∙ ap (λ (o : Option (Bor (List ℕ))). items_left (option_map (λ t. t.now) o))
    c.in_ok-text.was
    ∙ items_cut c.in_ok-text.text.now c.in-Some.item.now c.in-Some.rest.now (sym c.in-Some.ensures)

pub returns-in-None : goal.returns-in-None
returns-in-None c =
    sym c.self.view_is ∙ ap (λ (o : Option (Bor (List ℕ))). items_left (option_map (λ t. t.now) o))
    c.in_ok-text.was
    ∙ items_whole c.in_ok-text.text.now (sym c.in-None.ensures)
