use Rattle.std.proofs.Common.{◌≡◌, ◌/◌, ◌%◌, Some, IfSome, sym, ap, subst, ◌∙◌, position, nat_eq}
use Rattle.std.proofs.Common.{slice_get, slice_set, unwrap_or, []}
use Rattle.std.specs.Map.{keys_of, lookup, set_value, values_of}
use Rattle.sum_pages.specs.DayTables.{values_of_day}
use Rattle.sum_pages.proofs.DayLemmas.{set_value_at-found}
use Rattle.window_sums.proofs.DaysFacts.{set-beside}
use Rattle.window_sums.proofs.window_sums.put_in.Goals as goal

pub returns : goal.returns
returns c =
    let es = c.args.days.now.entries in
    let n = c.slices_a_day-slices.result in
    let day = c.args.slice / n in
    let at : position (nat_eq day) (keys_of es) ≡ Some c.unwrap-index.result =
    cc (c.get_index_of.ensures.index, c.unwrap-index.ensures) in
    let read : slice_get (values_of es) c.unwrap-index.result ≡ lookup (nat_eq day) es =
    subst (λ r. IfSome r (λ i. slice_get (values_of es) i ≡ lookup (nat_eq day) es))
    c.unwrap-index.ensures c.get_index_of.ensures.value in
    let found : lookup (nat_eq day) es ≡ Some c.index_mut-day.result.now = sym read
    ∙ c.index_mut-day.ensures.value in
    let slices : values_of_day es day ≡ c.index_mut-day.result.now =
    ap (λ o. unwrap_or o []) found in
    set_value_at-found (nat_eq day) es c.unwrap-index.result c.set.new.self at
    ∙ ap (λ v. set_value (nat_eq day) es v) (c.set.ensures
    ∙ ap (λ s. slice_set s (c.args.slice % n) c.args.counts) (sym slices))
    ∙ ap (λ m. set_value (nat_eq (c.args.slice / m)) es
    (slice_set (values_of_day es (c.args.slice / m)) (c.args.slice % m) c.args.counts))
    c.slices_a_day-slices.ensures.value
    ∙ set-beside c.args.method.now es (sym c.counts_events.ensures ∙ c.if-counts_events.false)
    c.args.slice c.args.counts
