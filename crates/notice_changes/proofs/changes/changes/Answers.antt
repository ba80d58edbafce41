use Rattle.std.proofs.Common.{◌∙◌, ◌++◌, ◌∷◌, [], ap, cond}
use Rattle.office_history.specs.Notices.{is_told}
use Rattle.notice_changes.proofs.StateLemmas.{next_change}
use Rattle.notice_changes.proofs.changes.changes.Goals as goal

pub loop-place-preserved : goal.loop-place-preserved
loop-place-preserved c = λ one_each.
    let change = c.index-now-place.result in
    let told = c.loop-place.told.items in
    next_change (is_told c.args.catalog.now c.args.before.now) c.args.now.now told
    c.add_if.new.told.items c.loop-place.place change c.loop-place-test.true c.index-now-place.is
    (c.in_ok-add_if.ensures ∙ ap (λ t. cond t (told ++ change ∷ []) told)
    (c.is_told-tells.ensures one_each)) (c.loop-place.invariant one_each)
