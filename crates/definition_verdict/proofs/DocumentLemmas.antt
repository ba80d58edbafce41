-- Objects that are read of a text's documents are objects of documents.
use Rattle.std.proofs.Common.{◌≡◌, ◌+◌, ◌<◌, ℕ, List, [], ◌∷◌, ◌++◌, subst, arith, refl}
use Rattle.std.specs.Prelude.{Result, Ok, Err}
use Rattle.std.specs.List.{All, AllByRecursion}
use Rattle.std.proofs.lemmas.List.Elements.{All-append, All-contains_itself}
use Rattle.object_terms.specs.Document.{IsOfDocument, objects_of}
use Rattle.yaml_terms.specs.SpellingFits.{IsWritable}
use Rattle.yaml_terms.specs.Tree.{Tree}
use Rattle.object_terms.specs.declared.Object.{Object}
use Rattle.object_terms.specs.declared.ObjectFault.{ObjectFault}
use Rattle.office_history.specs.Documents.{objects_from, objects_in, objects_next}

-- objects that are read of nodes that stand in a text are objects of documents
origins : (before : List Object) (number : ℕ) (nodes : List Tree) (objects : List Object) →
    All IsOfDocument before → AllByRecursion IsWritable nodes →
    objects_from before number nodes ≡ Ok objects → All IsOfDocument objects
origins before number [] objects all writable e =
    subst (All IsOfDocument) (let same : before ≡ objects = cc e in same) all
origins before number (t ∷ ts) objects all (writable, rest) e =
    by (objects_of t) refl e (λ own here. origins (before ++ own) (number + 1) ts objects
    (All-append IsOfDocument before own all here) rest)
  where
    by : (r : Result (List Object) ObjectFault) → objects_of t ≡ r →
        objects_next (λ more. objects_from more (number + 1) ts) before number r ≡ Ok objects →
        ((own : List Object) → All IsOfDocument own → objects_from (before ++ own) (number + 1) ts
        ≡ Ok objects → All IsOfDocument objects) → All IsOfDocument objects
    by (Ok own) is given go =
        go own (λ k d within. record {
          node = t;
          objects = own;
          can_be_written = writable;
          are_read = is;
          is_among = All-contains_itself own k d within;
        }) given
    by (Err fault) is given go = cc given

pub all_of_documents : (nodes : List Tree) (objects : List Object) → AllByRecursion IsWritable nodes
    → objects_in nodes ≡ Ok objects → All IsOfDocument objects
all_of_documents nodes objects writable e =
    origins [] 1 nodes objects (λ k d within. absurd (no_index k within)) writable e
  where
    no_index : (k : ℕ) → k < 0 → ⊥
    no_index k within = omega (arith, within)
