use Rattle.std.proofs.Common.{◌≡◌, ◌*◌, sym, ap, ◌∙◌, nat_eq, Some, None, is_some, IsTrue}
use Rattle.std.proofs.Common.{unwrap_or, [], length}
use Rattle.std.specs.Map.{lookup}
use Rattle.std.specs.Option.{option_copied}
use Rattle.slo_terms.specs.Sums.{leaves_over}
use Rattle.sum_pages.specs.DayTables.{values_of_day}
use Rattle.sum_pages.specs.Pages.{LeafDays, has_day, leaf_at, leaf_in, slots_a_day}
use Rattle.sum_pages.proofs.PagesFacts.{day-nothing, day-read, day_whole}
use Rattle.sum_pages.proofs.sum_pages.SumPages.read_day.Goals as goal

pub returns-in-Some-clause-value : goal.returns-in-Some-clause-value
returns-in-Some-clause-value g c =
    let pages : LeafDays = record {
      per_hour = c.self.inside.per_hour;
      days = c.self.inside.pages.entries;
    } in
    let found : lookup (nat_eq c.args.day) pages.days ≡ Some c.in-Some.page.now =
    sym c.value_on.ensures ∙ ap option_copied c.in-Some.is in
    let page : values_of_day pages.days c.args.day ≡ c.in-Some.page.now =
    ap (λ o. unwrap_or o []) found in
    let there : IsTrue (has_day pages c.args.day) = ap is_some found in
    c.total.ensures ∙ ap (λ l. leaves_over (leaf_in l) 0 (length l)) (sym page)
    ∙ day-read pages c.args.day (day_whole pages c.args.day c.self.invariant there)
    ∙ ap (λ (p : LeafDays). leaves_over (leaf_at p) (c.args.day * slots_a_day p) (slots_a_day p))
    c.self.view_is

pub returns-in-None-clause-value : goal.returns-in-None-clause-value
returns-in-None-clause-value g c =
    let pages : LeafDays = record {
      per_hour = c.self.inside.per_hour;
      days = c.self.inside.pages.entries;
    } in
    let found : lookup (nat_eq c.args.day) pages.days ≡ None = sym c.value_on.ensures
    ∙ ap option_copied c.in-None.is in
    day-nothing pages c.args.day (ap (λ o. unwrap_or o []) found)
    ∙ ap (λ (p : LeafDays). leaves_over (leaf_at p) (c.args.day * slots_a_day p) (slots_a_day p))
    c.self.view_is
