use Rattle.std.proofs.Common.{◌≡◌, ◌≤◌, ◌+◌, ◌<◌, ◌^◌, ◌++◌, drop, length}
use Rattle.notice_changes.specs.Works.{new_notices}
use Rattle.notice_changes.proofs.notices.tell.Given as goal

-- the notices so far and those of the changes that are left are those of all
abbrev pub invariant-loop-change : goal.invariant-loop-change
invariant-loop-change l = record {
  few : length l.notices.made + length (drop l.change-index l.told) < 2 ^ 32;
  room : length (drop l.change-index l.told) ≤ l.notices.spare;
  told :
      l.notices.made ++ new_notices l.at (length l.notices.made + 1) (drop l.change-index l.told)
      ≡ l.fn.notices.made ++ new_notices l.at (length l.fn.notices.made + 1) l.told;
}
