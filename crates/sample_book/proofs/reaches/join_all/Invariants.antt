use Rattle.std.proofs.Common.{◌≡◌, ◌-◌, ◌++◌, drop, get_or, length, take}
use Rattle.std.specs.Prelude.{vec_capacity}
use Rattle.sample_book.specs.Reaches.{all_joined, joined_after}
use Rattle.sample_book.specs.declared.reaches.Reach.{Reach}
use Rattle.sample_book.proofs.reaches.join_all.Given as goal

-- those so far are joined, and the others go on from the last of them
pub record SoFar (P Q R : Type 0) : Type 0 where
  pub all : P
  pub ends : Q
  pub room : R

abbrev pub invariant-loop-place : goal.invariant-loop-place
invariant-loop-place l = SoFar (length l.reaches.items ≡ length l.fn.reaches.items)
    ((d : Reach) → take l.place l.reaches.items
    ++ joined_after (get_or l.reaches.items (l.place - 1) d) (drop l.place l.reaches.items)
    ≡ all_joined l.fn.reaches.items)
    (vec_capacity l.reaches ≡ vec_capacity l.fn.reaches)
