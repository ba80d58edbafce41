use Rattle.std.proofs.Common.{◌++◌, ◌∷◌, [], ◌∙◌, sym, arith, cond, slice_index_or}
use Rattle.std.proofs.lemmas.List.FromFn.{filter_of_map_range_with_len_more}
use Rattle.burn_core.specs.declared.alert.State.TheVariants.{Quiet}
use Rattle.notice_box.specs.Plan.{is_due_at}
use Rattle.notice_box.proofs.changes.plan.Goals as goal

pub loop-place-preserved : goal.loop-place-preserved
loop-place-preserved c =
    let place = c.loop-place.place in
    let now = c.args.now.now in
    let due = is_due_at c.args.before.now now c.args.flags.now in
    let more = filter_of_map_range_with_len_more (λ change. due change.0)
    (λ k. (k, slice_index_or now k Quiet)) 0 place place (omega arith) in
    record {
      planned = c.in_ok-note_change.ensures
          ∙ (λ i. c.loop-place.invariant.planned i
          ++ cond (c.is_due_at-due.ensures i) ((place, c.state_at.ensures i) ∷ []) [])
          ∙ sym more;
    }
