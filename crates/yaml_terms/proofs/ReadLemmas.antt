-- A text has at most one list of nodes, and one that has a list has no fault.
use Rattle.std.proofs.Common.{◌≡◌, ℕ, Bool, true, false, List, [], ◌∷◌, ◌++◌, Option, Some, None}
use Rattle.std.proofs.Common.{Result, Ok, Err, cond, option_map, refl, sym, ap, ◌∙◌, append_assoc}
use Rattle.std.proofs.Common.{arith}
use Rattle.std.specs.Option.{option_and_then, is_none}
use Rattle.std.specs.Result.{IfErr}
use Rattle.std.specs.List.{fold}
use Rattle.std.proofs.lemmas.List.Sums.{fold-append}
use Rattle.yaml_terms.specs.Tree.{Tree}
use Rattle.yaml_terms.specs.Profile.{documents}
use Rattle.yaml_terms.specs.OpenNodes.{Open, open_nodes, documents_so_far, open_after_all}
use Rattle.yaml_terms.specs.Text.{MarkedLines, line_at, parent_after, scalar_after, next_line}
use Rattle.yaml_terms.specs.Text.{no_line}
use Rattle.yaml_terms.specs.Text.{marked_lines, nodes_of, StandsFor}
use Rattle.yaml_terms.specs.Fault.{IsFault}
use Rattle.yaml_terms.specs.NamedFault.{NamesFault}
use Rattle.yaml_terms.specs.declared.scalar.Scalar.{Scalar}
use Rattle.yaml_terms.specs.declared.profile_fault.ProfileFault.{ProfileFault}
use Rattle.yaml_terms.specs.declared.yaml_fault.YamlFault.{YamlFault}
use Rattle.yaml_terms.specs.declared.yaml_fault.YamlFault.TheVariants.{TooLarge, NotUtf8, Form}
use Rattle.yaml_terms.specs.declared.yaml_fault.YamlFault.TheVariants.{NoMemory}
use Rattle.yaml_terms.proofs.OpenLemmas.{documents_closed, open_nodes-append}

-- a text has at most one list of nodes
pub one_list : (text : List ℕ) (xs ys : List Tree) → StandsFor text xs → StandsFor text ys → xs ≡ ys
one_list text xs ys a b = let e : Some xs ≡ Some ys = sym a.nodes ∙ b.nodes in cc

abbrev pub step : Option MarkedLines → List ℕ → Option MarkedLines
step o line = option_and_then (λ s. next_line s line) o

pub none_stays : (ls : List (List ℕ)) → fold step None ls ≡ None
none_stays [] = refl
none_stays (l ∷ ls) = none_stays ls

-- marks of no text stay so, whatever follows
pub never_text : (ls : List (List ℕ)) (s : MarkedLines) → open_nodes s.marks ≡ None
    → option_and_then (λ (t : MarkedLines). documents t.marks) (fold step (Some s) ls) ≡ None
never_text [] s e = documents_closed s.marks ∙ ap (option_map documents_so_far) e
never_text (l ∷ ls) s e = by_fault (is_none (line_at s.scalar l).fault)
    (λ t u. never_text ls t u) (open_nodes-append s.marks (line_at s.scalar l).marks
    ∙ ap (option_and_then (open_after_all (line_at s.scalar l).marks)) e)
    (parent_after s.parent (line_at s.scalar l).marks) (scalar_after s.scalar s.parent l)
  where
    by_fault : (b : Bool) → ((t : MarkedLines) → open_nodes t.marks ≡ None
        → option_and_then (λ (u : MarkedLines). documents u.marks) (fold step (Some t) ls) ≡ None)
        → open_nodes (s.marks ++ (line_at s.scalar l).marks) ≡ None
        → (p : Option ℕ) (k : Option Scalar)
        → option_and_then (λ (u : MarkedLines). documents u.marks)
        (fold step (cond b (Some (record {
          marks = s.marks ++ (line_at s.scalar l).marks;
          parent = p;
          scalar = k;
        })) None) ls) ≡ None
    by_fault true ih gone p k =
        ih (record { marks = s.marks ++ (line_at s.scalar l).marks; parent = p; scalar = k }) gone
    by_fault false ih gone p k =
        ap (option_and_then (λ (u : MarkedLines). documents u.marks)) (none_stays ls)

none_open : (o : Option Open) → option_map documents_so_far o ≡ None → o ≡ None
none_open None e = refl
none_open (Some x) e = cc

-- The first lines of a text are a text.
pub first_lines : (ls ms : List (List ℕ)) → nodes_of ls ≡ None → nodes_of (ls ++ ms) ≡ None
first_lines ls ms e =
    ap (option_and_then (λ (s : MarkedLines). documents s.marks))
    (fold-append step (Some no_line) ls ms)
    ∙ by_marks (marked_lines ls) e
  where
    by_marks : (o : Option MarkedLines) → option_and_then (λ (s : MarkedLines). documents s.marks) o
        ≡ None
        → option_and_then (λ (s : MarkedLines). documents s.marks) (fold step o ms) ≡ None
    by_marks None f = ap (option_and_then (λ (s : MarkedLines). documents s.marks)) (none_stays ms)
    by_marks (Some s) f =
        never_text ms s (none_open (open_nodes s.marks) (sym (documents_closed s.marks) ∙ f))

-- lines that have a fault are no text
pub no_text_at_fault : (ls : List (List ℕ)) (k : ℕ) (w : ProfileFault) → IsFault ls k w
    → nodes_of ls ≡ None
no_text_at_fault ls k w f =
    ap nodes_of (f.is_lines ∙ sym (append_assoc f.before (f.line ∷ []) f.after))
    ∙ first_lines (f.before ++ (f.line ∷ [])) f.after f.is_none

not_named : (text : List ℕ) (xs : List Tree) → StandsFor text xs → (f : YamlFault)
    → NamesFault text f → f ≡ NoMemory
not_named text xs s TooLarge n = let few = s.small in absurd (omega arith)
not_named text xs s (NotUtf8 at) n = absurd (n.1 s.utf8)
not_named text xs s (Form line which) n = let e : Some xs ≡ None = sym s.nodes
    ∙ no_text_at_fault _ line which n.2 in cc
not_named text xs s NoMemory n = refl

-- a text that stands for nodes is refused only for want of memory
pub taken_of : {X : Type 0} (text : List ℕ) (r : Result X YamlFault)
    → IfErr r (λ f. NamesFault text f) → (xs : List Tree) → StandsFor text xs
    → IfErr r (λ f. f ≡ NoMemory)
taken_of text (Ok x) n xs s = tt
taken_of text (Err f) n xs s = not_named text xs s f n
