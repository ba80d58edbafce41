use Rattle.std.proofs.Common.{◌≡◌, map}
use Rattle.std.specs.List.{range_with_len}
use Rattle.office_history.specs.Stretches.{sum_of_stretch}
use Rattle.kept_lines.specs.Sums.{samples_of}
use Rattle.history_answers.proofs.sum_list.sums_over.Given as goal

-- the sums of the stretches so far
abbrev pub invariant-loop-k : goal.invariant-loop-k
invariant-loop-k l = l.list.items
    ≡ map (sum_of_stretch (samples_of l.derived.book) l.measure l.from l.to l.step)
    (range_with_len 0 l.k)
