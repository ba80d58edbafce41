use Rattle.std.proofs.Common.{◌≡◌, drop}
use Rattle.office_history.specs.Starts.{one_begins_too_often}
use Rattle.definition_verdict.proofs.starts.one_begins_too_often.Given as goal

-- none so far begins too often
abbrev pub invariant-loop-member : goal.invariant-loop-member
invariant-loop-member l = one_begins_too_often l.horizon (drop l.member-index l.members)
    ≡ one_begins_too_often l.horizon l.members
