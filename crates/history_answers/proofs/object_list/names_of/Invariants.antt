use Rattle.std.proofs.Common.{◌≡◌, take, map}
use Rattle.object_terms.specs.declared.object.Object.{Object}
use Rattle.history_answers.proofs.object_list.names_of.Given as goal

abbrev pub invariant-loop-member : goal.invariant-loop-member
invariant-loop-member l =
    l.names ≡ map (λ (object : Object). (object.kind, object.name)) (take l.member-index l.members)
