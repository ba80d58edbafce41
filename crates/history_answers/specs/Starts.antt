-- Starts of a calendar, as they are looked for.
use Rattle.std.specs.Prelude.{ℕ, ◌<◌, ◌≤◌, List, [], ◌∷◌, Option, Some, None}
use Rattle.office_history.specs.Answers.{counted_until, end_before}
use Rattle.office_history.specs.Windows.{AreStartsIn, IsFirstFrom}

-- the last of them from a minute to another, or that there is none
abbrev pub IsLastFrom : (ℕ → Type 0) → ℕ → ℕ → Option ℕ → Type 0
IsLastFrom Starts from at None = (s : ℕ) → Starts s → from ≤ s → at < s
IsLastFrom Starts from at (Some last) =
    Starts last × (from ≤ last) × (last ≤ at) × ((s : ℕ) → Starts s → s ≤ at → s ≤ last)

-- all of them in [from, to), and the first one behind these
pub record AreBegun (Starts : ℕ → Type 0) (from to : ℕ) (starts : List ℕ) (next : Option ℕ) :
    Type 0 where
  pub starts_are : AreStartsIn Starts from to starts
  pub next_is : IsFirstFrom Starts to next

-- each window begins before it is counted up to
abbrev pub AreOpen : ℕ → List ℕ → Option ℕ → Type 0
AreOpen moment [] next = Unit {0}
AreOpen moment (b ∷ bs) next = (b ≤ counted_until moment (end_before bs next))
    × AreOpen moment bs next
