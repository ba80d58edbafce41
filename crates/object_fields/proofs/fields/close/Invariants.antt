use Rattle.std.proofs.Common.{◌≡◌, map, drop}
use Rattle.object_terms.specs.Form.{closed}
use Rattle.object_fields.specs.Reading.{entries_view}
use Rattle.object_fields.proofs.fields.close.Given as goal

-- all so far may stand
abbrev pub invariant-loop-name : goal.invariant-loop-name
invariant-loop-name l =
    closed (map (λ k. k.now) l.known) (entries_view (drop l.name-index l.fields))
    ≡ closed (map (λ k. k.now) l.known) (entries_view l.fields)
