use Rattle.std.proofs.Common.{◌≡◌, ◌++◌, drop, filter}
use Rattle.office_history.specs.Notices.{is_told}
use Rattle.notice_changes.specs.States.{AreByBinding}
use Rattle.notice_changes.proofs.changes.changes.Given as goal

-- the changes so far and those of the bindings that are left are those of all
abbrev pub invariant-loop-place : goal.invariant-loop-place
invariant-loop-place l = AreByBinding l.before → l.told.items
    ++ filter (is_told l.catalog l.before) (drop l.place l.now)
    ≡ filter (is_told l.catalog l.before) l.now
