use Rattle.std.proofs.Common.{◌≡◌, drop}
use Rattle.office_history.specs.Notices.{state_among}
use Rattle.notice_changes.proofs.changes.state_among.Given as goal

-- none so far is the binding's
abbrev pub invariant-loop-kept : goal.invariant-loop-kept
invariant-loop-kept l =
    state_among (drop l.kept-index l.states) l.binding ≡ state_among l.states l.binding
