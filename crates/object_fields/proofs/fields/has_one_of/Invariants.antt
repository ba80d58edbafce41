use Rattle.std.proofs.Common.{◌≡◌, map, drop}
use Rattle.object_terms.specs.Form.{has_one_of}
use Rattle.object_fields.specs.Reading.{entries_view}
use Rattle.object_fields.proofs.fields.has_one_of.Given as goal

-- none so far stands
abbrev pub invariant-loop-key : goal.invariant-loop-key
invariant-loop-key l = has_one_of (map (λ k. k.now) (drop l.key-index l.keys))
    (entries_view l.fields) ≡ has_one_of (map (λ k. k.now) l.keys) (entries_view l.fields)
