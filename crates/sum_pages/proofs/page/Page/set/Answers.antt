use Rattle.std.proofs.Common.{sym, ap, subst, ◌∙◌, length, slice_set, List, ◌*◌, ◌/◌}
use Rattle.exact_fraction.specs.declared.leaf.Leaf.{Leaf}
use Rattle.slo_terms.specs.Sums.{leaves_over}
use Rattle.sum_pages.specs.Pages.{IsPage, new_total, leaf_in}
use Rattle.sum_pages.proofs.PageFacts.{IsPage-set, day-may_exchange, hour-may_exchange}
use Rattle.sum_pages.proofs.page.Page.set.Goals as goal

pub new_total-of_hour-requires : goal.new_total-of_hour-requires
new_total-of_hour-requires c =
    let leaves : List Leaf = c.args.self.now in
    let page = subst (λ l. IsPage l c.self.inside.hours.items c.self.inside.total) c.self.view_is
    c.self.invariant in
    rw (c.hour.ensures, c.leaf-before.ensures)
    (hour-may_exchange leaves c.self.inside.hours.items c.self.inside.total c.args.place
    c.args.per_hour c.args.value page c.requires.within c.requires.hours c.requires.part
    c.requires.few)

pub new_total-of_day-requires : goal.new_total-of_day-requires
new_total-of_day-requires c =
    let leaves : List Leaf = c.args.self.now in
    let page = subst (λ l. IsPage l c.self.inside.hours.items c.self.inside.total) c.self.view_is
    c.self.invariant in
    rw (c.total.ensures, c.leaf-before.ensures)
    (day-may_exchange leaves c.self.inside.hours.items c.self.inside.total c.args.place c.args.value
    page c.requires.within c.requires.part c.requires.few)

pub invariant_of-self : goal.invariant_of-self
invariant_of-self c =
    let leaves : List Leaf = c.args.self.now in
    let page = subst (λ l. IsPage l c.self.inside.hours.items c.self.inside.total) c.self.view_is
    c.self.invariant in
    subst (λ l. IsPage (slice_set l c.args.place c.args.value) (slice_set c.self.inside.hours.items
    (c.args.place / c.args.per_hour) c.new_total-of_hour.result) c.new_total-of_day.result)
    (sym c.self.view_is)
    (IsPage-set leaves c.self.inside.hours.items c.self.inside.total c.args.place c.args.per_hour
    c.args.value c.new_total-of_hour.result c.new_total-of_day.result page c.requires.within
    c.requires.hours c.requires.part c.requires.few
    (c.new_total-of_hour.ensures
    ∙ ap (λ t. new_total t c.leaf-before.result c.args.value) c.hour.ensures
    ∙ ap (λ b. new_total (leaves_over (leaf_in leaves) (c.args.place / c.args.per_hour
    * (length leaves / 24)) (length leaves / 24)) b c.args.value) c.leaf-before.ensures)
    (c.new_total-of_day.ensures ∙ ap (λ t. new_total t c.leaf-before.result c.args.value)
    c.total.ensures ∙ ap (λ b. new_total (leaves_over (leaf_in leaves) 0 (length leaves)) b
    c.args.value) c.leaf-before.ensures))
