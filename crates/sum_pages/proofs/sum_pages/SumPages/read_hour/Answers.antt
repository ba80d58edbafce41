use Rattle.std.proofs.Common.{◌≡◌, ◌*◌, ◌/◌, ◌%◌, sym, ap, ◌∙◌, nat_eq, Some, None, is_some, IsTrue}
use Rattle.std.proofs.Common.{unwrap_or, [], length}
use Rattle.std.specs.Map.{lookup}
use Rattle.std.specs.Option.{option_copied}
use Rattle.slo_terms.specs.Sums.{leaves_over}
use Rattle.sum_pages.specs.DayTables.{values_of_day}
use Rattle.sum_pages.specs.Pages.{LeafDays, has_day, leaf_at, leaf_in}
use Rattle.sum_pages.proofs.PagesFacts.{hour-nothing, hour-read, day_whole}
use Rattle.sum_pages.proofs.sum_pages.SumPages.read_hour.Goals as goal

pub returns-in-Some-clause-value : goal.returns-in-Some-clause-value
returns-in-Some-clause-value g c =
    let pages : LeafDays = record {
      per_hour = c.self.inside.per_hour;
      days = c.self.inside.pages.entries;
    } in
    let found : lookup (nat_eq (c.args.hour / 24)) pages.days ≡ Some c.in-Some.page.now =
    sym c.value_on.ensures ∙ ap option_copied c.in-Some.is in
    let page : values_of_day pages.days (c.args.hour / 24) ≡ c.in-Some.page.now =
    ap (λ o. unwrap_or o []) found in
    let there : IsTrue (has_day pages (c.args.hour / 24)) = ap is_some found in
    c.hour.ensures ∙ ap (λ l.
    leaves_over (leaf_in l) (c.args.hour % 24 * (length l / 24)) (length l / 24)) (sym page)
    ∙ hour-read pages c.args.hour (day_whole pages (c.args.hour / 24) c.self.invariant there)
    ∙ ap (λ (p : LeafDays). leaves_over (leaf_at p) (c.args.hour * p.per_hour) p.per_hour)
    c.self.view_is

pub returns-in-None-clause-value : goal.returns-in-None-clause-value
returns-in-None-clause-value g c =
    let pages : LeafDays = record {
      per_hour = c.self.inside.per_hour;
      days = c.self.inside.pages.entries;
    } in
    let found : lookup (nat_eq (c.args.hour / 24)) pages.days ≡ None = sym c.value_on.ensures
    ∙ ap option_copied c.in-None.is in
    hour-nothing pages c.args.hour (ap (λ o. unwrap_or o []) found)
    ∙ ap (λ (p : LeafDays). leaves_over (leaf_at p) (c.args.hour * p.per_hour) p.per_hour)
    c.self.view_is
