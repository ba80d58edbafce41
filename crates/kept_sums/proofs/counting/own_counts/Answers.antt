use Rattle.std.proofs.Common.{◌≡◌, ◌∙◌, Bool, false, refl, subst, sym, true}
use Rattle.slice_method.specs.declared.Counts.{Counts}
use Rattle.window_sums.specs.Slices.{no_counts}
use Rattle.kept_sums.specs.Objectives.{made_for}
use Rattle.kept_sums.specs.Sums.{row_counts}
use Rattle.kept_sums.proofs.RowLemmas.{counts-excluded, counts-own}
use Rattle.kept_sums.proofs.counting.own_counts.Goals as goal

pub returns-then-pool : goal.returns-then-pool
returns-then-pool c =
    let m = c.args.measure.now in
    let row = c.args.row.now in
    let all = c.args.book.now.exclusions in
    subst (λ (pool : Bool). c.counts_of.result ≡ row_counts m (made_for pool all) row)
    (sym c.if-pool.true)
    (c.counts_of.ensures.counts ∙ sym (counts-own m (made_for true all) row c.requires.own refl))

pub returns-then-excluded : goal.returns-then-excluded
returns-then-excluded c =
    let m = c.args.measure.now in
    let row = c.args.row.now in
    let all = c.args.book.now.exclusions in
    subst (λ (pool : Bool). no_counts ≡ row_counts m (made_for pool all) row)
    (sym c.if-pool.false)
    (sym (counts-excluded m all row
    (sym c.excluded_near-excluded.ensures ∙ c.if-excluded.true)))

pub returns : goal.returns
returns c =
    let m = c.args.measure.now in
    let row = c.args.row.now in
    let all = c.args.book.now.exclusions in
    subst (λ (pool : Bool). c.counts_of-2.result
    ≡ row_counts m (made_for pool all) row) (sym c.if-pool.false)
    (c.counts_of-2.ensures.counts
    ∙ sym (counts-own m all row c.requires.own
    (sym c.excluded_near-excluded.ensures ∙ c.if-excluded.false)))
