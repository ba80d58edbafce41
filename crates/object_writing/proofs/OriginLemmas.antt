-- What holds of all objects of a document holds of an object that a document stands for.
use Rattle.std.proofs.Common.{◌≡◌, ℕ, zero, suc, ◌<◌, List, [], ◌∷◌, Ok, length, slice_index_or}
use Rattle.std.proofs.Common.{subst, arith}
use Rattle.std.specs.List.{AllByRecursion}
use Rattle.yaml_terms.specs.Tree.{Tree}
use Rattle.yaml_terms.specs.SpellingFits.{IsWritable}
use Rattle.object_terms.specs.declared.object.Object.{Object}
use Rattle.object_terms.specs.Document.{objects_of, IsOfDocument}

at_place : (P : Object → Type 0) (os : List Object) (o : Object) (k : ℕ) → AllByRecursion P os
    → k < length os → P (slice_index_or os k o)
at_place P [] o k h l = absurd (omega arith)
at_place P (p ∷ os) o zero h l = h.0
at_place P (p ∷ os) o (suc k) h l = at_place P os o k h.1 (omega arith)

pub of_document : (P : Object → Type 0)
    → ((t : Tree) (os : List Object) → IsWritable t → objects_of t ≡ Ok os → AllByRecursion P os)
    → (o : Object) → IsOfDocument o → P o
of_document P law o d = subst P d.is_among.2 (at_place P d.objects o d.is_among.0
    (law d.node d.objects d.can_be_written d.are_read) d.is_among.1)
