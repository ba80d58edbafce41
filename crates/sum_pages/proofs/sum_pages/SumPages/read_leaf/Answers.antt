use Rattle.std.proofs.Common.{◌≡◌, ◌<◌, sym, ap, subst, ◌∙◌, nat_eq, Some, is_some}
use Rattle.std.proofs.Common.{IsTrue, unwrap_or, [], length}
use Rattle.std.specs.Map.{lookup}
use Rattle.std.specs.Option.{option_copied}
use Rattle.std.proofs.lemmas.Nat.{mod_below}
use Rattle.sum_pages.specs.Pages.{LeafDays, has_day, slots_a_day}
use Rattle.sum_pages.proofs.PagesFacts.{day-some, day_whole}
use Rattle.sum_pages.proofs.sum_pages.SumPages.read_leaf.Goals as goal

pub leaf-requires : goal.leaf-requires
leaf-requires g c =
    let pages : LeafDays = record {
      per_hour = c.self.inside.per_hour;
      days = c.self.inside.pages.entries;
    } in
    let day = c.place_of-day.result.0 in
    let found : lookup (nat_eq day) pages.days ≡ Some c.in-Some.page.now =
    sym c.value_on.ensures ∙ ap option_copied c.in-Some.is in
    let there : IsTrue (has_day pages day) = ap is_some found in
    let all : length c.in-Some.page.now ≡ slots_a_day pages =
    sym (ap (λ o. length (unwrap_or o [])) found) ∙ day_whole pages day c.self.invariant there in
    subst (λ n. c.place_of-day.result.1 < n) (sym all)
    (subst (λ k. k < slots_a_day pages) (sym c.place_of-day.ensures.place)
    (mod_below c.args.slot (slots_a_day pages) (day-some pages c.self.invariant)))
