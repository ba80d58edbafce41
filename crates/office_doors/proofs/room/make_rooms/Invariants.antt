use Rattle.std.proofs.Common.{◌≡◌, ◌≤◌, ◌<◌, ◌+◌, length, sum_by, vec_capacity}
use Rattle.office_doors.proofs.room.make_rooms.Given as goal

abbrev pub invariant-loop-at : goal.invariant-loop-at
invariant-loop-at g l = record {
  count : length l.rooms.items ≡ l.at;
  room : l.doors ≤ vec_capacity l.rooms;
  shared : sum_by (λ r. r.share) l.rooms.items + l.rest ≡ l.visits;
  whole : 0 < l.at → l.at ≡ l.doors → l.rest ≡ 0;
}
