use Rattle.std.proofs.Common.{◌≡◌, ℕ}
use Rattle.window_sums.specs.Slices.{counts_of}
use Rattle.kept_sums.specs.Objectives.{made_for}
use Rattle.kept_sums.specs.Replacing.{HasFollowed, HasMoved}
use Rattle.kept_sums.proofs.batch.count_batch.Given as goal

-- the sums are those of the rows of the book and of the batch so far
abbrev pub invariant-loop-place : goal.invariant-loop-place
invariant-loop-place l = record {
  followed : HasFollowed l.measure (made_for l.pool l.book.exclusions) l.book.rows l.rows l.place
      l.fn.sums l.sums;
  touched : (slice : ℕ) → (HasMoved l.measure l.rows l.verdicts slice → ⊥)
      → counts_of l.sums slice ≡ counts_of l.fn.sums slice;
}
