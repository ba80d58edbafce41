-- What one turn was.
use Rattle.std.specs.Prelude.{◌≡◌, Bool}
use Rattle.turn_desk.specs.Histories.{Extends}
use Rattle.turn_desk.specs.Ledgers.{Ledger, GoesOn, has_risen, left_in_doubt}
use Rattle.turn_desk.specs.Passes.{PassState, after_turn}

-- The value that was taken out had what the pass has seen, and the pass's root. The call's own
-- clause holds between it and the value that was put back. The pass has seen the history
-- afterwards, its own entry is the last of that history where the call added one, what the turn
-- left in doubt is the pass's too, and its count rose exactly where the value's did.
pub record TookTurn {T C O : Type 0} (ledger : T → Ledger) (clause_of : C → T → O → C → T → Type 0)
    (added : C → T → O → T → Bool)
    (call : C) (result : O) (call_after : C) (pass pass_after : PassState) : Type 0 where
  pub before : T
  pub after : T
  pub began : Extends pass.seen (ledger before).history
  pub root : (ledger before).root ≡ pass.root
  pub clause : clause_of call before result call_after after
  pub went_on : GoesOn (ledger before) (ledger after) (added call before result after)
  pub pass_is : pass_after ≡ after_turn (added call before result after)
      (has_risen (ledger before).faults (ledger after).faults)
      (left_in_doubt (ledger before) (ledger after)) (ledger after).history pass
