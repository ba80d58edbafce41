use Rattle.std.proofs.Common.{◌≡◌, drop}
use Rattle.object_terms.specs.Form.{is_among}
use Rattle.object_terms.proofs.names.has_name.Given as goal

-- none so far is the name
abbrev pub invariant-loop-other : goal.invariant-loop-other
invariant-loop-other l = is_among (drop l.other-index l.names) l.name ≡ is_among l.names l.name
