-- What is heard is one thing, but for the point that is left open.
use Rattle.std.specs.Prelude.{◌≡◌, ◌⊎◌, ℕ, ◌≤◌, ◌++◌, List, length, take}
use Rattle.httparse.specs.Grammar.{EndsInTarget}
use Rattle.message_heads.specs.declared.message.Message.{Message}
use Rattle.message_heads.specs.declared.message.Heard.TheVariants.{Whole, Bad}
use Rattle.message_heads.specs.Hearing.{Ruling, malformed, IsDecided, IsPassed, Hears}

-- the decision was made inside a target that isn't at its end
abbrev pub IsOpen : List ℕ → ℕ → Ruling → Type 0
IsOpen bytes n r = (r ≡ malformed) × EndsInTarget (take n bytes)

-- one decision alone is made, but inside a target that isn't at its end
abbrev pub AtMostOneDecision : Type 0
AtMostOneDecision = (bytes : List ℕ) (n m : ℕ) (r q : Ruling) → IsDecided bytes n r
    → IsDecided bytes m q
    → ((n ≡ m) × (r ≡ q)) ⊎ (IsOpen bytes n r ⊎ IsOpen bytes m q)

-- what is decided isn't passed over, but inside such a target
abbrev pub DecidedIsNotPassed : Type 0
DecidedIsNotPassed = (bytes : List ℕ) (n : ℕ) (r : Ruling) → IsDecided bytes n r
    → ((m : ℕ) → m ≤ length bytes → IsPassed (take m bytes)) → IsOpen bytes n r

-- what was heard stays heard where more bytes follow
abbrev pub HeardIsKept : Type 0
HeardIsKept = (bytes more : List ℕ)
    → ((m : Message) (n : ℕ) → Hears bytes (Whole m n) → Hears (bytes ++ more) (Whole m n))
    × ((status : ℕ) → Hears bytes (Bad status) → Hears (bytes ++ more) (Bad status))
