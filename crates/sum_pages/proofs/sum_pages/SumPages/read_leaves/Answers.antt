use Rattle.std.proofs.Common.{◌≡◌, ℕ, ◌+◌, ◌-◌, ◌*◌, ◌/◌, ◌≤◌, sym, ap, subst, ◌∙◌, arith}
use Rattle.std.proofs.Common.{nat_eq, Some, None, is_some, IsTrue, unwrap_or, [], length}
use Rattle.std.specs.Map.{lookup}
use Rattle.std.specs.Option.{option_copied}
use Rattle.slo_terms.specs.Sums.{leaves_over}
use Rattle.sum_pages.specs.DayTables.{values_of_day}
use Rattle.sum_pages.specs.Pages.{LeafDays, has_day, leaf_at, leaf_in, slots_a_day}
use Rattle.sum_pages.proofs.PagesFacts.{day_whole, hour-some, leaves-nothing, leaves-read}
use Rattle.sum_pages.proofs.PagesFacts.{rest-within}
use Rattle.sum_pages.proofs.sum_pages.SumPages.read_leaves.Goals as goal

gone : (place count : ℕ) → place + count - place ≡ count
gone place count = omega arith

pub leaves-requires-clause-within : goal.leaves-requires-clause-within
leaves-requires-clause-within g c =
    let pages : LeafDays = record {
      per_hour = c.self.inside.per_hour;
      days = c.self.inside.pages.entries;
    } in
    let day = c.place_of-day.result.0 in
    let found : lookup (nat_eq day) pages.days ≡ Some c.in-Some.page.now =
    sym c.value_on.ensures ∙ ap option_copied c.in-Some.is in
    let there : IsTrue (has_day pages day) = ap is_some found in
    let all : length c.in-Some.page.now ≡ slots_a_day pages =
    sym (ap (λ o. length (unwrap_or o [])) found) ∙ day_whole pages day c.self.invariant there in
    subst (λ n. c.place_of-day.result.1 + (c.args.to - c.args.from) ≤ n) (sym all)
    (subst (λ k. k + (c.args.to - c.args.from) ≤ slots_a_day pages)
    (sym c.place_of-day.ensures.place)
    (rest-within c.args.from c.args.to pages.per_hour
    (hour-some pages.per_hour c.self.invariant.divides) c.requires.order
    (subst (λ (p : LeafDays). c.args.to ≤ (c.args.from / p.per_hour + 1) * p.per_hour)
    (sym c.self.view_is) c.requires.hour)))

pub returns-in-Some-clause-value : goal.returns-in-Some-clause-value
returns-in-Some-clause-value g c =
    let pages : LeafDays = record {
      per_hour = c.self.inside.per_hour;
      days = c.self.inside.pages.entries;
    } in
    let day = c.place_of-day.result.0 in
    let place = c.place_of-day.result.1 in
    let count = c.args.to - c.args.from in
    let found : lookup (nat_eq day) pages.days ≡ Some c.in-Some.page.now =
    sym c.value_on.ensures ∙ ap option_copied c.in-Some.is in
    let page : values_of_day pages.days day ≡ c.in-Some.page.now =
    ap (λ o. unwrap_or o []) found in
    c.leaves.ensures
    ∙ ap (leaves_over (leaf_in c.in-Some.page.now) place) (gone place count)
    ∙ ap (λ l. leaves_over (leaf_in l) place count) (sym page)
    ∙ ap (λ d. leaves_over (leaf_in (values_of_day pages.days d)) place count)
    c.place_of-day.ensures.day
    ∙ ap (λ k. leaves_over (leaf_in (values_of_day pages.days (c.args.from / slots_a_day pages))) k
    count) c.place_of-day.ensures.place
    ∙ leaves-read pages c.args.from count (rest-within c.args.from c.args.to pages.per_hour
    (hour-some pages.per_hour c.self.invariant.divides) c.requires.order
    (subst (λ (p : LeafDays). c.args.to ≤ (c.args.from / p.per_hour + 1) * p.per_hour)
    (sym c.self.view_is) c.requires.hour))
    ∙ ap (λ (p : LeafDays). leaves_over (leaf_at p) c.args.from count) c.self.view_is

pub returns-in-None-clause-value : goal.returns-in-None-clause-value
returns-in-None-clause-value g c =
    let pages : LeafDays = record {
      per_hour = c.self.inside.per_hour;
      days = c.self.inside.pages.entries;
    } in
    let day = c.place_of-day.result.0 in
    let count = c.args.to - c.args.from in
    let found : lookup (nat_eq day) pages.days ≡ None = sym c.value_on.ensures
    ∙ ap option_copied c.in-None.is in
    leaves-nothing pages c.args.from count (rest-within c.args.from c.args.to pages.per_hour
    (hour-some pages.per_hour c.self.invariant.divides) c.requires.order
    (subst (λ (p : LeafDays). c.args.to ≤ (c.args.from / p.per_hour + 1) * p.per_hour)
    (sym c.self.view_is) c.requires.hour))
    (ap (λ d. values_of_day pages.days d) (sym c.place_of-day.ensures.day)
    ∙ ap (λ o. unwrap_or o []) found)
    ∙ ap (λ (p : LeafDays). leaves_over (leaf_at p) c.args.from count) c.self.view_is
