use Rattle.std.proofs.Common.{◌≡◌, ◌≤◌, ◌<◌, ◌-◌, ℕ, length, take}
use Rattle.httparse.specs.Grammar.{NeverHasRequest}
use Rattle.message_heads.specs.Hearing.{IsPassed}
use Rattle.message_heads.proofs.first_refused.first_refused.Given as goal

abbrev pub invariant-loop-low : goal.invariant-loop-low
invariant-loop-low l =
    (l.low ≤ l.high) × (l.high ≤ length l.front) × NeverHasRequest (take l.high l.front)
    × ((m : ℕ) → m < l.low → IsPassed (take m l.front))

abbrev pub decreases-loop-low : goal.decreases-loop-low
decreases-loop-low l = l.high - l.low
