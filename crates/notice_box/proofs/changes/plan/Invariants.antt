use Rattle.std.proofs.Common.{◌≡◌, filter, map, slice_index_or}
use Rattle.std.specs.List.{range_with_len}
use Rattle.burn_core.specs.declared.alert.State.TheVariants.{Quiet}
use Rattle.notice_box.specs.Plan.{is_due_at}
use Rattle.notice_box.proofs.changes.plan.Given as goal

abbrev pub invariant-loop-place : goal.invariant-loop-place
invariant-loop-place l = record {
  planned : l.plan.items ≡ filter (λ change. is_due_at l.before l.now l.flags change.0)
      (map (λ place. (place, slice_index_or l.now place Quiet)) (range_with_len 0 l.place));
}
