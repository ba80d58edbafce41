use Rattle.std.proofs.Common.{◌≡◌, length}
use Rattle.office_doors.proofs.places.Places.close_idle.Given as goal

abbrev pub invariant-loop-at : goal.invariant-loop-at
invariant-loop-at g l = length l.self.places.items ≡ length l.initial.self.places.items
