-- Lines after lines: the first lines of a text are a text, and the open nodes after them are known.
use Rattle.std.proofs.Common.{◌≡◌, ℕ, zero, suc, ◌+◌, false, List, [], ◌∷◌, ◌++◌, Option, Some}
use Rattle.std.proofs.Common.{None, length, option_map, refl, sym, ap, ◌∙◌, take, drop, get_or, map}
use Rattle.std.proofs.Common.{◌<◌, ◌≤◌, arith, add-one}
use Rattle.std.specs.Option.{option_and_then, option_map_or, is_none, is_some}
use Rattle.std.proofs.lemmas.List.Sums.{fold-append}
use Rattle.std.proofs.lemmas.List.{take-append-drop, length-take-le, length-map}
use denote.Ref.{Bor}
use Rattle.std.proofs.Math.Seq.{take-suc, drop-cons}
use Rattle.yaml_terms.specs.Mark.{Mark, start}
use Rattle.yaml_terms.specs.FaultOrder.{earlier}
use Rattle.yaml_terms.specs.Profile.{documents}
use Rattle.yaml_terms.specs.Text.{MarkedLines, line_at, next_line, no_line, marked_lines, nodes_of}
use Rattle.yaml_terms.specs.OpenNodes.{Open, nothing, within, open_nodes, documents_so_far}
use Rattle.yaml_terms.specs.OpenNodes.{open_after, open_after_all}
use Rattle.yaml_terms.specs.Fault.{fault_of_mark, misfit, fault_of, IsFault}
use Rattle.yaml_subset.specs.Reader.{LinesAreRead, Reading, Follows}
use Rattle.std.proofs.lemmas.Bool.{false≢true}
use Rattle.yaml_terms.specs.declared.Scalar.{Scalar}
use Rattle.yaml_terms.specs.declared.ProfileFault.{ProfileFault}
use Rattle.yaml_terms.proofs.OpenLemmas.{open_nodes-append, documents_closed}

-- marks that all have a place have no fault, and else the first that has none has one
pub misfit_of_add : (ms : List Mark) (o : Open)
    → is_none (misfit ms o) ≡ is_some (open_after_all ms o)
misfit_of_add [] o = refl
misfit_of_add (m ∷ ms) o = at_add (open_after m o) (λ p. misfit_of_add ms p)
  where
    at_add : (a : Option Open)
        → ((p : Open) → is_none (misfit ms p) ≡ is_some (open_after_all ms p))
        → is_none (option_map_or (misfit ms) a (Some (fault_of_mark m o)))
        ≡ is_some (option_and_then (open_after_all ms) a)
    at_add None ih = refl
    at_add (Some p) ih = ih p

pub marked-snoc : (ls : List (List ℕ)) (line : List ℕ)
    → marked_lines (ls ++ (line ∷ [])) ≡ option_and_then (λ s. next_line s line) (marked_lines ls)
marked-snoc ls line =
    fold-append (λ o l. option_and_then (λ s. next_line s l) o) (Some no_line) ls (line ∷ [])

-- nothing is read yet
pub nothing_read : LinesAreRead []
    (record { nodes = within start [] nothing; parent = None; scalar = None })
nothing_read = record { marks = []; are_marks = refl; are_open = refl }

-- the nodes of lines that were read
pub read_nodes : (ls : List (List ℕ)) (r : Reading) → LinesAreRead ls r
    → nodes_of ls ≡ Some (documents_so_far r.nodes)
read_nodes ls r h = ap (option_and_then (λ (s : MarkedLines). documents s.marks)) h.are_marks
    ∙ documents_closed h.marks ∙ ap (option_map documents_so_far) h.are_open

module _ (ls : List (List ℕ)) (line : List ℕ) (r : Reading) (h : LinesAreRead ls r) where
  here : MarkedLines
  here = record { marks = h.marks; parent = r.parent; scalar = r.scalar }

  marked_here : marked_lines (ls ++ (line ∷ [])) ≡ next_line here line
  unfolding here
  marked_here = marked-snoc ls line
      ∙ ap (option_and_then (λ (s : MarkedLines). next_line s line)) h.are_marks

  open_here : open_nodes (h.marks ++ (line_at r.scalar line).marks)
      ≡ open_after_all (line_at r.scalar line).marks r.nodes
  open_here = open_nodes-append h.marks (line_at r.scalar line).marks
      ∙ ap (option_and_then (open_after_all (line_at r.scalar line).marks)) h.are_open

  -- one more line that has no fault
  pub read_more : (next : Reading) → Follows r line next → LinesAreRead (ls ++ (line ∷ [])) next
  unfolding here
  read_more next f = record {
    marks = h.marks ++ (line_at r.scalar line).marks;
    are_marks = marked_here ∙ rw f.no_fault (ap (λ (p : Option ℕ × Option Scalar).
        Some (record {
          marks = h.marks ++ (line_at r.scalar line).marks;
          parent = p.0;
          scalar = p.1;
        })) (pair_same _ _ _ _ (sym f.parent) (sym f.scalar)));
    are_open = open_here ∙ f.nodes;
  }
    where
      pair_same : (a b : Option ℕ) (c d : Option Scalar) → a ≡ b → c ≡ d
          → ◌≡◌ {A = Option ℕ × Option Scalar} (a, c) (b, d)
      pair_same a b c d e g = rw (e, g) refl

  no_place : (w : ProfileFault) → fault_of r.scalar r.nodes line ≡ Some w
      → (f : Option ProfileFault)
      → (line_at r.scalar line).fault ≡ f → nodes_of (ls ++ (line ∷ [])) ≡ None
  unfolding here
  no_place w e None g =
      let misses : misfit (line_at r.scalar line).marks r.nodes ≡ Some w =
      ap (λ (x : Option ProfileFault).
      earlier x (misfit (line_at r.scalar line).marks r.nodes)) (sym g) ∙ e in
      let gone : is_some (open_after_all (line_at r.scalar line).marks r.nodes) ≡ false =
      sym (misfit_of_add (line_at r.scalar line).marks r.nodes)
      ∙ ap (λ (o : Option ProfileFault). is_none o) misses in
      ap (option_and_then (λ (s : MarkedLines). documents s.marks)) marked_here ∙ rw
      g (documents_closed (h.marks ++ (line_at r.scalar line).marks) ∙ ap
      (option_map documents_so_far)
      (open_here ∙ none_of (open_after_all (line_at r.scalar line).marks r.nodes) gone))
    where
      none_of : (o : Option Open) → is_some o ≡ false → o ≡ None
      none_of None q = refl
      none_of (Some x) q = absurd (false≢true (sym q))
  no_place w e (Some v) g =
      ap (option_and_then (λ (s : MarkedLines). documents s.marks)) marked_here ∙ rw g refl

  -- one more line that has a fault
  pub fault_here : (after : List (List ℕ)) (w : ProfileFault)
      → fault_of r.scalar r.nodes line ≡ Some w
      → IsFault (ls ++ (line ∷ after)) (length ls + 1) w
  fault_here after w e = record {
    before = ls;
    line = line;
    after = after;
    is_lines = refl;
    number = refl;
    nodes = documents_so_far r.nodes;
    is_text = read_nodes ls r h;
    is_none = no_place w e (line_at r.scalar line).fault refl;
    marks = record { marks = h.marks; parent = r.parent; scalar = r.scalar };
    are_marks = h.are_marks;
    nodes_open = r.nodes;
    are_open = h.are_open;
    meets = e;
  }

-- the first lines, and one more
pub take_line : (xs : List (List ℕ)) (at : ℕ) (d : List ℕ) → at < length xs
    → take at xs ++ (get_or xs at d ∷ []) ≡ take (at + 1) xs
take_line xs at d h = sym (rw (add-one) (take-suc xs at d h))

pub split_lines : (xs : List (List ℕ)) (at : ℕ) (d : List ℕ) → at < length xs
    → xs ≡ take at xs ++ (get_or xs at d ∷ drop (at + 1) xs)
split_lines xs at d h = sym (take-append-drop at xs)
    ∙ ap (λ (l : List (List ℕ)). take at xs ++ l) (rw add-one (drop-cons xs at d h))

now_at : (ls : List (Bor (List ℕ))) (at : ℕ) (d : Bor (List ℕ))
    → get_or (map (λ x. x.now) ls) at d.now ≡ (get_or ls at d).now
now_at [] at d = refl
now_at (x ∷ ls) zero d = refl
now_at (x ∷ ls) (suc at) d = now_at ls at d

module _ (ls : List (Bor (List ℕ))) (at : ℕ) (line : List ℕ) (d : Bor (List ℕ))
    (inside : at < length ls) (is_line : line ≡ (get_or ls at d).now) where
  texts : List (List ℕ)
  texts = map (λ x. x.now) ls

  long : at < length texts
  unfolding texts
  long = rw (length-map ls (λ (x : Bor (List ℕ)). x.now)) inside

  the_line : get_or texts at d.now ≡ line
  unfolding texts
  the_line = now_at ls at d ∙ sym is_line

  pub line_taken : take at (map (λ x. x.now) ls) ++ (line ∷ []) ≡ take (at + 1)
      (map (λ x. x.now) ls)
  unfolding texts
  line_taken = ap (λ (l : List ℕ). take at texts ++ (l ∷ [])) (sym the_line)
      ∙ take_line texts at d.now long

  pub line_splits : take at
      (map (λ x. x.now) ls) ++ (line ∷ drop (at + 1) (map (λ x. x.now) ls)) ≡ map (λ x. x.now) ls
  unfolding texts
  line_splits = ap (λ (l : List ℕ). take at texts ++ (l ∷ drop (at + 1) texts)) (sym the_line)
      ∙ sym (split_lines texts at d.now long)

  pub line_number : length (take at (map (λ x. x.now) ls)) + 1 ≡ at + 1
  unfolding texts
  line_number = let few : at ≤ length texts = omega (arith, long) in
      ap (λ (n : ℕ). n + 1) (length-take-le at texts few)
