use Rattle.std.proofs.Common.{◌≡◌, ◌-◌, ◌++◌, take, replicate}
use Rattle.exact_fraction.proofs.inline_name.InlineName.copy_of.Given as goal

-- the text so far, then zeros
abbrev pub invariant-loop-place : goal.invariant-loop-place
invariant-loop-place l = l.bytes ≡ take l.place l.text ++ replicate (64 - l.place) 0
