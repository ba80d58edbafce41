use Rattle.std.proofs.Common.{◌≡◌, ◌≤◌, ◌<◌, take}
use Rattle.csv_records.specs.Places.{IsCut, place_after}
use Rattle.csv_records.proofs.places.cut_by_places.Given as goal

abbrev pub invariant-loop-at : goal.invariant-loop-at
invariant-loop-at l = record {
  place : l.place ≡ place_after l.fn.from (take l.at l.bytes);
  within : l.cut ≤ l.at;
  cut : 0 < l.cut → IsCut l.fn.from l.bytes l.cut;
}
