-- Objects with one writing are one object.
use Rattle.std.proofs.Common.{◌≡◌, false, List, [], ◌∷◌, Ok, refl, sym, ap, ◌∙◌}
use Rattle.std.specs.List.{AllByRecursion}
use Rattle.yaml_terms.specs.Tree.{Tree}
use Rattle.yaml_terms.specs.Spelling.{Spelling, meant, writing, is_word}
use Rattle.yaml_terms.specs.Profile.{max_depth}
use Rattle.yaml_terms.specs.SpellingFits.{SpellingFits, IsWritable}
use Rattle.object_terms.specs.declared.object.Object.{Object}
use Rattle.object_terms.specs.Document.{objects_of, written}
use Rattle.object_terms.proofs.AnswerLemmas.{ok_same}
use Rattle.object_laws.proofs.LawDocument.{IsAgain, each_again}
use Rattle.object_laws.proofs.LawFitDocument.{IsFit, each_fits}

-- the first of objects, if there is one
first_of : Object → List Object → Object
first_of o [] = o
first_of o (p ∷ ps) = p

same_node : (o p : Object) → IsAgain o → IsAgain p → meant (written o) ≡ meant (written p) → o ≡ p
unfolding first_of
same_node o p h k e = ap (first_of o) (ok_same (o ∷ []) (p ∷ []) (sym h ∙ ap objects_of e ∙ k))

pub same_nodes : (t u : Tree) (os ps : List Object)
    → objects_of t ≡ Ok os → objects_of u ≡ Ok ps → AllByRecursion
    (λ o. AllByRecursion (λ p. meant (written o) ≡ meant (written p) → o ≡ p) ps) os
same_nodes t u os ps e f = each os (each_again t os e)
  where
    beside : (o : Object) → IsAgain o → (ps : List Object) → AllByRecursion IsAgain ps
        → AllByRecursion (λ p. meant (written o) ≡ meant (written p) → o ≡ p) ps
    beside o h [] k = tt
    beside o h (p ∷ ps) k = (same_node o p h k.0, beside o h ps k.1)

    each : (os : List Object) → AllByRecursion IsAgain os → AllByRecursion
        (λ o. AllByRecursion (λ p. meant (written o) ≡ meant (written p) → o ≡ p) ps) os
    each [] h = tt
    each (o ∷ os) h = (beside o h.0 ps (each_again u ps f), each os h.1)

-- the same by their texts, where values with one text are one node
pub same_texts :
    ((r s : Spelling) → SpellingFits max_depth r → SpellingFits max_depth s → is_word r ≡ false
    → is_word s ≡ false → writing 0 r ≡ writing 0 s → meant r ≡ meant s)
    → (t u : Tree) (os ps : List Object) → IsWritable t → IsWritable u → objects_of t ≡ Ok os
    → objects_of u ≡ Ok ps
    → AllByRecursion (λ o. AllByRecursion
    (λ p. writing 0 (written o) ≡ writing 0 (written p) → o ≡ p) ps) os
same_texts law t u os ps v w e f = each os (each_fits t os v e) (same_nodes t u os ps e f)
  where
    beside : (o : Object) → IsFit o → (ps : List Object) → AllByRecursion IsFit ps
        → AllByRecursion (λ p. meant (written o) ≡ meant (written p) → o ≡ p) ps
        → AllByRecursion (λ p. writing 0 (written o) ≡ writing 0 (written p) → o ≡ p) ps
    beside o h [] k same = tt
    beside o h (p ∷ ps) k same = (
      λ g. same.0 (law (written o) (written p) h k.0 refl refl g),
      beside o h ps k.1 same.1,
    )

    each : (os : List Object) → AllByRecursion IsFit os → AllByRecursion
        (λ o. AllByRecursion (λ p. meant (written o) ≡ meant (written p) → o ≡ p) ps) os
        → AllByRecursion (λ o. AllByRecursion
        (λ p. writing 0 (written o) ≡ writing 0 (written p) → o ≡ p) ps) os
    each [] h same = tt
    each (o ∷ os) h same = (beside o h.0 ps (each_fits u ps w f) same.0, each os h.1 same.1)
