use Rattle.std.proofs.Common.{◌≡◌, take}
use Rattle.history_answers.proofs.exclusion_list.exclusions_of.Given as goal

-- the exclusions before the place
abbrev pub invariant-loop-place : goal.invariant-loop-place
invariant-loop-place l = l.listed ≡ take l.place l.book.exclusions
