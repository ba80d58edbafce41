-- Ranges of slots, read by the slot, the hour or the day.
use Rattle.std.specs.Prelude.{ℕ, ◌+◌, ◌*◌}
use Rattle.exact_fraction.specs.declared.leaf.Leaf.{Leaf}
use Rattle.window_sums.specs.declared.range.Unit.{Unit}
use Rattle.window_sums.specs.declared.range.Unit.TheVariants.{Slot, Hour, Day}

-- how many slots a unit has
abbrev pub slots_of : Unit → ℕ → ℕ
slots_of Slot per_hour = 1
slots_of Hour per_hour = per_hour
slots_of Day per_hour = 24 * per_hour

-- two leaves, added up
abbrev pub plus : Leaf → Leaf → Leaf
plus a b = record { num = a.num + b.num; den = a.den + b.den }
