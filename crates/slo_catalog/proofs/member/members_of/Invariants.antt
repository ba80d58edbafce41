use Rattle.std.proofs.Common.{◌≡◌, ◌++◌}
use Rattle.std.specs.List.{All}
use Rattle.std.specs.Vec.Iter.{into_iter_items}
use Rattle.object_terms.specs.Document.{IsOfDocument}
use Rattle.slo_catalog.proofs.member.members_of.Given as goal

abbrev pub invariant-loop-object : goal.invariant-loop-object
invariant-loop-object l = record {
  all : l.members.items ++ into_iter_items l.object-iterator ≡ l.fn.objects;
  left : All IsOfDocument (into_iter_items l.object-iterator);
}
