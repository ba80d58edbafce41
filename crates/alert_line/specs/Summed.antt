-- Windows that were summed up at one minute, whatever their rules are.
use Rattle.std.specs.Prelude.{ℕ, IfSome}
use Rattle.exact_fraction.specs.declared.leaf.Leaf.{Leaf}
use Rattle.alert_line.specs.Cursor.{IsAt, rule_of}
use Rattle.alert_line.specs.declared.cursor.Cursor.{Cursor}
use Rattle.alert_line.specs.declared.summed.SummedWindows.{SummedWindows}

-- the windows of one rule hold its sums at a minute
abbrev pub IsSummedAt : ℕ → (ℕ → Leaf) → ℕ → Cursor → Type 0
IsSummedAt width leaf minute cursor = IsAt (rule_of cursor.windows) width leaf minute cursor

-- so do those of each rule that are there
pub record AreSummedAt (width : ℕ) (leaf : ℕ → Leaf) (minute : ℕ) (summed : SummedWindows) :
    Type 0 where
  pub first : IfSome summed.first (IsSummedAt width leaf minute)
  pub second : IfSome summed.second (IsSummedAt width leaf minute)
