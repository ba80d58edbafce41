use Rattle.std.proofs.Common.{◌≡◌, ◌++◌, take, drop, option_map}
use Rattle.wire_routes.specs.Cuts.{cut_at}
use Rattle.wire_routes.proofs.cuts.cut_at.Given as goal

abbrev pub invariant-loop-at : goal.invariant-loop-at
invariant-loop-at l = cut_at l.byte l.text
    ≡ option_map (λ p. (take l.at l.text ++ p.0, p.1)) (cut_at l.byte (drop l.at l.text))
