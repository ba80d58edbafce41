use Rattle.std.proofs.Common.{◌≡◌, take}
use Rattle.csv_records.specs.Places.{place_after}
use Rattle.csv_records.proofs.places.place_after.Given as goal

abbrev pub invariant-loop-at : goal.invariant-loop-at
invariant-loop-at l = l.place ≡ place_after l.fn.from (take l.at l.bytes)
