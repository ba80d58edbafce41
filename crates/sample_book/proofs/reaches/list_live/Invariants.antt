use Rattle.std.proofs.Common.{◌≡◌, ◌≤◌, length, take}
use Rattle.std.specs.Prelude.{vec_capacity}
use Rattle.sample_book.specs.Reaches.{live_reaches}
use Rattle.sample_book.proofs.reaches.list_live.Given as goal

-- the live ones so far are listed, and there is room for the others
pub record SoFar (P Q R : Type 0) : Type 0 where
  pub listed : P
  pub few : Q
  pub room : R

abbrev pub invariant-loop-kept : goal.invariant-loop-kept
invariant-loop-kept l = SoFar (l.reaches.items ≡ live_reaches (take l.kept-index l.made))
    (length l.reaches.items ≤ l.kept-index) (vec_capacity l.fn.reaches ≤ vec_capacity l.reaches)
