-- Where a target has its first `?`.
use Rattle.std.proofs.Common.{◌≡◌, ◌<◌, ◌≤◌, ℕ, List, length, Bool, true, false, cond, Option, Some}
use Rattle.std.proofs.Common.{None, refl, arith}
use Rattle.std.specs.Prelude.{◌==◌, nat_lt}
use Rattle.std.specs.List.{position_or_len, after_first}
use Rattle.message_heads.specs.Targets.{query_of}

below : (a b : ℕ) → a < b → nat_lt a b ≡ true
below a b h = grind (arith)

not_below : (a b : ℕ) → a ≡ b → nat_lt a b ≡ false
not_below a b h = grind (arith)

pub query_some : (target rest : List ℕ) → position_or_len (λ b. b == 63) target < length target
    → rest ≡ after_first (λ b. b == 63) target → Some rest ≡ query_of target
query_some target rest there is =
    rw (below (position_or_len (λ b. b == 63) target) (length target) there, is) refl

pub query_none : (target : List ℕ) → position_or_len (λ b. b == 63) target ≡ length target
    → None ≡ query_of target
query_none target there =
    rw (not_below (position_or_len (λ b. b == 63) target) (length target) there) refl
