use Rattle.std.proofs.Common.{◌≡◌, map, drop}
use Rattle.object_terms.specs.Form.{is_among}
use Rattle.object_fields.proofs.fields.is_among.Given as goal

-- none so far is the key
abbrev pub invariant-loop-name : goal.invariant-loop-name
invariant-loop-name l = is_among (map (λ k. k.now) (drop l.name-index l.known)) l.key
    ≡ is_among (map (λ k. k.now) l.known) l.key
