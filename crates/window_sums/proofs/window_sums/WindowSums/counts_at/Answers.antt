use Rattle.std.proofs.Common.{◌≡◌, ◌/◌, ◌%◌, ◌<◌, ap, sym, subst, ◌∙◌, nat_eq, List, [], Some}
use Rattle.std.proofs.Common.{is_some, length, unwrap_or}
use Rattle.std.specs.Map.{lookup}
use Rattle.std.specs.Option.{option_copied}
use Rattle.slice_method.specs.declared.amount.Counts.{Counts}
use Rattle.window_sums.specs.Slices.{slices_a_day}
use Rattle.window_sums.proofs.DaysFacts.{within-beside}
use Rattle.window_sums.proofs.window_sums.WindowSums.counts_at.Goals as goal

pub at-requires : goal.at-requires
at-requires c =
    let days = c.self.inside.days.entries in
    let n = slices_a_day c.self.inside.method in
    let same : c.slices_a_day-slices.result ≡ n = c.slices_a_day-slices.ensures.value in
    let found : lookup (nat_eq (c.args.slice / n)) days ≡ Some c.in-Some.day.now =
    ap (λ m. lookup (nat_eq (c.args.slice / m)) days) (sym same)
    ∙ sym c.value_on.ensures ∙ ap option_copied c.in-Some.is in
    subst (λ m. c.args.slice % m < length c.in-Some.day.now) (sym same)
    (subst (λ (l : List Counts). c.args.slice % n < length l) (ap (λ o. unwrap_or o []) found)
    (within-beside c.self.inside.method days c.self.inside.pages c.self.invariant
    (sym c.counts_events.ensures ∙ c.if-counts_events.false) c.args.slice (ap is_some found)))
