use Rattle.std.proofs.Common.{◌≡◌, Some, IfSome, sym, ap, subst, ◌∙◌, position, nat_eq, slice_get}
use Rattle.std.proofs.Common.{slice_set, unwrap_or, []}
use Rattle.std.specs.Map.{keys_of, lookup, set_value, values_of}
use Rattle.sum_pages.specs.DayTables.{values_of_day}
use Rattle.sum_pages.proofs.DayLemmas.{set_value_at-found}
use Rattle.sum_pages.proofs.sum_pages.set_in.Goals as goal

pub returns : goal.returns
returns c =
    let es = c.args.pages.now.entries in
    let at : position (nat_eq c.args.day) (keys_of es) ≡ Some c.unwrap-index.result =
    cc (c.get_index_of.ensures.index, c.unwrap-index.ensures) in
    let read : slice_get (values_of es) c.unwrap-index.result ≡ lookup (nat_eq c.args.day) es =
    subst (λ r. IfSome r (λ i. slice_get (values_of es) i ≡ lookup (nat_eq c.args.day) es))
    c.unwrap-index.ensures c.get_index_of.ensures.value in
    let found : lookup (nat_eq c.args.day) es ≡ Some c.index_mut-page.result.now = sym read
    ∙ c.index_mut-page.ensures.value in
    let page : values_of_day es c.args.day ≡ c.index_mut-page.result.now =
    ap (λ o. unwrap_or o []) found in
    set_value_at-found (nat_eq c.args.day) es c.unwrap-index.result c.set.new.self at
    ∙ ap (λ v. set_value (nat_eq c.args.day) es v)
    (c.set.ensures ∙ ap (λ s. slice_set s c.args.place c.args.value) (sym page))
