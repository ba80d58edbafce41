use Rattle.std.proofs.Common.{◌≡◌, ◌∷◌, [], ◌++◌, None, ap, sym, subst, ◌∙◌, nat_eq, ◌/◌, ◌%◌}
use Rattle.std.proofs.Common.{◌*◌, ◌≤◌, replicate}
use Rattle.std.specs.Map.{lookup}
use Rattle.indexmap.proofs.CallerLemmas.{insert_entry-new}
use Rattle.sum_pages.specs.Pages.{ArePages, LeafDays, leaf_at, no_leaf, slots_a_day}
use Rattle.sum_pages.proofs.DayLemmas.{nothing_found, value_at-added}
use Rattle.sum_pages.proofs.PagesFacts.{ArePages-added, hour-few}
use Rattle.sum_pages.proofs.sum_pages.SumPages.reserve_day.Goals as goal

pub empty-requires : goal.empty-requires
empty-requires c = subst (λ n. n ≤ 60) (sym c.count.ensures)
    (hour-few c.self.inside.per_hour c.self.invariant.divides)

pub invariant_of-self-2 : goal.invariant_of-self-2
invariant_of-self-2 c =
    let pages : LeafDays = record {
      per_hour = c.self.inside.per_hour;
      days = c.self.inside.pages.entries;
    } in
    let absent : lookup (nat_eq c.args.day) pages.days ≡ None =
    nothing_found (lookup (nat_eq c.args.day) pages.days) (sym c.contains_key.ensures
    ∙ c.if-contains_key.false) in
    let added = c.in_ok-insert.ensures.entries
    ∙ insert_entry-new nat_eq c.self.inside.pages c.args.day c.in_ok-page.page absent
    ∙ ap (λ s. pages.days ++ (c.args.day, s) ∷ []) (c.in_ok-page.ensures
    ∙ ap (λ n. replicate (24 * n) no_leaf) c.count.ensures) in
    subst (λ es. ArePages (record { per_hour = pages.per_hour; days = es })) (sym added)
    (ArePages-added pages c.args.day c.self.invariant)

pub returns-clause-leaves : goal.returns-clause-leaves
returns-clause-leaves c = λ slot.
    let pages : LeafDays = record {
      per_hour = c.self.inside.per_hour;
      days = c.self.inside.pages.entries;
    } in
    let absent : lookup (nat_eq c.args.day) pages.days ≡ None =
    nothing_found (lookup (nat_eq c.args.day) pages.days) (sym c.contains_key.ensures
    ∙ c.if-contains_key.false) in
    let added = c.in_ok-insert.ensures.entries
    ∙ insert_entry-new nat_eq c.self.inside.pages c.args.day c.in_ok-page.page absent
    ∙ ap (λ s. pages.days ++ (c.args.day, s) ∷ []) (c.in_ok-page.ensures
    ∙ ap (λ n. replicate (24 * n) no_leaf) c.count.ensures) in
    ap (λ es. leaf_at (record { per_hour = pages.per_hour; days = es }) slot) added
    ∙ value_at-added no_leaf pages.days c.args.day (slots_a_day pages) (slot / slots_a_day pages)
    (slot % slots_a_day pages)
    ∙ ap (λ p. leaf_at p slot) c.self.view_is
