-- Every node that stands in a text can be written.
use Rattle.std.proofs.Common.{◌≡◌, ℕ, zero, suc, Bool, true, false, cond, not, ◌||◌, List, [], ◌∷◌}
use Rattle.std.proofs.Common.{◌++◌, Option, Some, None, option_map, IsUtf8, ◌<◌, length, get_or}
use Rattle.std.proofs.Common.{refl, sym, ap, ◌∙◌, subst, arith}
use Rattle.std.specs.Prelude.{⊤}
use Rattle.std.specs.Option.{option_and_then, is_none}
use Rattle.std.specs.List.{AllByRecursion, fold}
use Rattle.std.specs.Str.Lines.{lines}
use Rattle.std.proofs.lemmas.Bool.{and_parts, true≢false, false≢true}
use Rattle.std.proofs.lemmas.Bool.Decides.{nat_tests}
use Rattle.yaml_terms.specs.Tree.{Tree, Entries, Trees}
use Rattle.yaml_terms.specs.Mark.{Mark, start, dash, key, value, header, raw}
use Rattle.yaml_terms.specs.Block.{is_blank, indentation}
use Rattle.yaml_terms.specs.Line.{has_control, is_marker, line_of}
use Rattle.yaml_terms.specs.Profile.{max_depth, documents}
use Rattle.yaml_terms.specs.OpenNodes.{Open, nothing, within, open_nodes, documents_so_far}
use Rattle.yaml_terms.specs.OpenNodes.{open_after, open_after_all}
use Rattle.yaml_terms.specs.Text.{MarkedLines, is_content, takes, is_more_indented, has_early_tab}
use Rattle.yaml_terms.specs.Text.{raw_fault, line_at, parent_at, parent_after, header_scalar}
use Rattle.yaml_terms.specs.Text.{scalar_with, scalar_after, no_line, without_mark, StandsFor}
use Rattle.yaml_terms.specs.Spelling.{Spelling, word, quoted, fields, items, Fields, no_fields}
use Rattle.yaml_terms.specs.Spelling.{field, Items, no_items, one_item, spelled, fields_spelled}
use Rattle.yaml_terms.specs.Spelling.{items_spelled}
use Rattle.yaml_terms.specs.SpellingFits.{SpellingFits, FitFields, FitItems, IsWritable}
use Rattle.yaml_terms.specs.Standing.{IsIn, itself, in_map, in_list, IsInEntries, first_entry}
use Rattle.yaml_terms.specs.Standing.{later_entry, IsInItems, first_item, later_item, StandsIn}
use Rattle.yaml_terms.specs.declared.Scalar.{Scalar}
use Rattle.yaml_terms.specs.declared.ProfileFault.{ProfileFault}
use Rattle.yaml_terms.specs.declared.ProfileFault.TheVariants.{Control, Tab, LeftOut}
use Rattle.yaml_terms.proofs.OpenLemmas.{documents_closed, open_nodes-append}
use Rattle.yaml_terms.proofs.ReadLemmas.{step, none_stays, never_text}
use Rattle.yaml_terms.proofs.Utf8Lemmas.{pick}
use Rattle.yaml_writing.proofs.StandingBytes.{lines_utf8}
use Rattle.yaml_writing.proofs.StandingLine.{IsGood, line_good}
use Rattle.yaml_writing.proofs.StandingOpen.{IsGoodOpen, OnOpen, added_good, finished_good, Indents}
use Rattle.yaml_writing.proofs.StandingOpen.{OnIndents, Deep, raw_good, raw_indents, header_indents}

-- LINES

abbrev deepest : ℕ
deepest = suc max_depth

-- the block scalar that may take the next line is the innermost open node
abbrev Links : Option Scalar → Open → Type 0
Links None o = ⊤
Links (Some s) o = Indents s.indent o

abbrev OnLinks : Option Scalar → Option Open → Type 0
OnLinks sc None = ⊤
OnLinks sc (Some o) = Links sc o

marks_good : (ms : List Mark) (o : Open) → IsGoodOpen deepest o → AllByRecursion IsGood ms
    → OnOpen deepest (open_after_all ms o)
marks_good [] o k g = k
marks_good (m ∷ ms) o k g =
    by (open_after m o) (added_good deepest start m o k g.0) (λ p h. marks_good ms p h g.1)
  where
    by : (a : Option Open) → OnOpen deepest a
        → ((p : Open) → IsGoodOpen deepest p → OnOpen deepest (open_after_all ms p))
        → OnOpen deepest (option_and_then (open_after_all ms) a)
    by None h ih = tt
    by (Some p) h ih = ih p h

header_scalar-cons : (p : Option ℕ) (m n : Mark) (ms : List Mark)
    → header_scalar p (m ∷ n ∷ ms) ≡ header_scalar (parent_at m) (n ∷ ms)
header_scalar-cons p start n ms = refl
header_scalar-cons p (dash k) n ms = refl
header_scalar-cons p (key k j) n ms = refl
header_scalar-cons p (value k x) n ms = refl
header_scalar-cons p (header k s) n ms = refl
header_scalar-cons p (raw l) n ms = refl

none_linked : (a : Option Open) → OnLinks None a
none_linked None = tt
none_linked (Some o) = tt

marks_linked : (p : Option ℕ) (ms : List Mark) (o : Open)
    → OnLinks (header_scalar p ms) (open_after_all ms o)
marks_linked p [] o = tt
marks_linked p (m ∷ []) o = by m
  where
    last : (sc : Option Scalar) (a : Option Open) → OnLinks sc a
        → OnLinks sc (option_and_then (open_after_all []) a)
    last sc None h = tt
    last sc (Some o) h = h

    linked : (s : Scalar) (a : Option Open) → OnIndents s.indent a → OnLinks (Some s) a
    linked s None h = tt
    linked s (Some o) h = h

    by : (m : Mark) → OnLinks (header_scalar p (m ∷ []))
        (option_and_then (open_after_all []) (open_after m o))
    by start = none_linked _
    by (dash n) = none_linked _
    by (key n k) = none_linked _
    by (value n x) = none_linked _
    by (header n s) = let sc : Scalar = record { parent = p; indent = None; folded = s.folded } in
        last (Some sc) (open_after (header n s) o)
        (linked sc (open_after (header n s) o) (header_indents deepest start n s o))
    by (raw l) = none_linked _
marks_linked p (m ∷ n ∷ ms) o = subst (λ sc. OnLinks sc (open_after_all (m ∷ n ∷ ms) o))
    (sym (header_scalar-cons p m n ms)) (by (open_after m o)
    (λ q. marks_linked (parent_at m) (n ∷ ms) q))
  where
    by : (a : Option Open) → ((q : Open)
        → OnLinks (header_scalar (parent_at m) (n ∷ ms)) (open_after_all (n ∷ ms) q))
        → OnLinks (header_scalar (parent_at m) (n ∷ ms))
        (option_and_then (open_after_all (n ∷ ms)) a)
    by None ih = tt
    by (Some q) ih = ih q

-- a line that the open block scalar takes
taken_deep : (s : Scalar) (l : List ℕ) → takes (Some s) l ≡ true → is_blank l ≡ false
    → Deep s.indent l
taken_deep s l e b =
    by s.indent s.parent ((or_parts_true (is_blank l) (is_content s (indentation l))
    (and_parts (not (is_marker l)) (is_blank l || is_content s (indentation l)) e).1 b))
  where
    or_parts_true : (x y : Bool) → (x || y) ≡ true → x ≡ false → y ≡ true
    or_parts_true true y h k = absurd (true≢false k)
    or_parts_true false y h k = h

    by : (o p : Option ℕ) → is_content (record { parent = p; indent = o; folded = s.folded })
        (indentation l) ≡ true → Deep o l
    by None p h = tt
    by (Some i) p h = grind (arith, nat_tests)

raw_pure : (s : Scalar) (l : List ℕ) → raw_fault s l ≡ None → has_control l ≡ false
raw_pure s l e = by (has_control l) Control
    (cond (is_more_indented s l) (Some (cond (has_early_tab l) Tab LeftOut)) None) e
  where
    by : (b : Bool) (w : ProfileFault) (o : Option ProfileFault) → cond b (Some w) o ≡ None
        → b ≡ false
    by true w o e = cc
    by false w o e = refl

-- what is known after a line
abbrev OnStep : Option Scalar → Option Open → Type 0
OnStep sc None = ⊤
OnStep sc (Some o) = IsGoodOpen deepest o × Links sc o

both_known : (sc : Option Scalar) (a : Option Open) → OnOpen deepest a → OnLinks sc a → OnStep sc a
both_known sc None g l = tt
both_known sc (Some o) g l = (g, l)

own_line : (sc : Option Scalar) (p : Option ℕ) (l : List ℕ) (o : Open) → IsUtf8 l
    → IsGoodOpen deepest o → takes sc l ≡ false → (line_at sc l).fault ≡ None
    → OnStep (scalar_after sc p l) (open_after_all (line_at sc l).marks o)
own_line sc p l o u g e f =
    rw e (both_known (header_scalar p (line_of l).marks) (open_after_all (line_of l).marks o)
    (marks_good
    (line_of l).marks o g (line_good l u (rw e at f))) (marks_linked p (line_of l).marks o))

taken_line : (s : Scalar) (p : Option ℕ) (l : List ℕ) (o : Open) → IsUtf8 l → IsGoodOpen deepest o
    → Indents s.indent o → takes (Some s) l ≡ true → (line_at (Some s) l).fault ≡ None
    → OnStep (scalar_after (Some s) p l) (open_after_all (line_at (Some s) l).marks o)
taken_line s p l o u g i e f =
    let pure = raw_pure s l (rw e at f) in
    rw e (by (open_after (raw l) o) (raw_good deepest start l s.indent o g i (u, pure)
    (taken_deep s l e))
    (raw_indents deepest start l s o i))
  where
    by : (a : Option Open) → OnOpen deepest a → OnIndents (scalar_with l s).indent a
        → OnStep (Some (scalar_with l s)) (option_and_then (open_after_all []) a)
    by None g i = tt
    by (Some q) g i = (g, i)

line_step : (sc : Option Scalar) (p : Option ℕ) (l : List ℕ) (o : Open)
    → IsUtf8 l → IsGoodOpen deepest o → Links sc o → (line_at sc l).fault ≡ None
    → OnStep (scalar_after sc p l) (open_after_all (line_at sc l).marks o)
line_step None p l o u g i f = own_line None p l o u g refl f
line_step (Some s) p l o u g i f = by (takes (Some s) l) refl
  where
    by : (b : Bool) → takes (Some s) l ≡ b
        → OnStep (scalar_after (Some s) p l) (open_after_all (line_at (Some s) l).marks o)
    by true e = taken_line s p l o u g i e f
    by false e = own_line (Some s) p l o u g e f

-- TEXTS

abbrev OnNodes : Option (List Tree) → Type 0
OnNodes None = ⊤
OnNodes (Some xs) = AllByRecursion IsWritable xs

abbrev nodes : Option MarkedLines → Option (List Tree)
nodes a = option_and_then (λ (t : MarkedLines). documents t.marks) a

no_fault : (f : Option ProfileFault) → is_none f ≡ true → f ≡ None
no_fault None e = refl
no_fault (Some w) e = absurd (false≢true e)

lines_standing : (ls : List (List ℕ)) (s : MarkedLines) (o : Open) → open_nodes s.marks ≡ Some o
    → IsGoodOpen deepest o → Links s.scalar o → AllByRecursion IsUtf8 ls
    → OnNodes (nodes (fold step (Some s) ls))
lines_standing [] s o e g i u = subst OnNodes
    (sym (documents_closed s.marks ∙ ap (option_map documents_so_far) e))
    (finished_good max_depth o g)
lines_standing (l ∷ ls) s o e g i u =
    pick (λ a. OnNodes (nodes (fold step a ls))) (is_none (line_at s.scalar l).fault)
    (Some more) None
    (λ f. by (open_after_all (line_at s.scalar l).marks o) refl
    (line_step s.scalar s.parent l o u.0 g i
    (no_fault (line_at s.scalar l).fault f)) (λ q h k v. lines_standing ls more q h k v u.1))
    (λ _. subst (λ a. OnNodes (nodes a)) (sym (none_stays ls)) tt)
  where
    more : MarkedLines
    more = record {
      marks = s.marks ++ (line_at s.scalar l).marks;
      parent = parent_after s.parent (line_at s.scalar l).marks;
      scalar = scalar_after s.scalar s.parent l;
    }

    opens : open_nodes (s.marks ++ (line_at s.scalar l).marks)
        ≡ open_after_all (line_at s.scalar l).marks o
    opens = open_nodes-append s.marks (line_at s.scalar l).marks
        ∙ ap (option_and_then (open_after_all (line_at s.scalar l).marks)) e

    by : (a : Option Open) → open_after_all (line_at s.scalar l).marks o ≡ a
        → OnStep (scalar_after s.scalar s.parent l) a
        → ((q : Open) → open_nodes (s.marks ++ (line_at s.scalar l).marks) ≡ Some q
        → IsGoodOpen deepest q → Links (scalar_after s.scalar s.parent l) q
        → OnNodes (nodes (fold step (Some more) ls)))
        → OnNodes (nodes (fold step (Some more) ls))
    by None f h ih = subst OnNodes (sym (never_text ls more (opens ∙ f))) tt
    by (Some q) f h ih = ih q (opens ∙ f) h.0 h.1

-- each node of a text's documents can be written
pub standing : (text : List ℕ) (xs : List Tree) → StandsFor text xs → AllByRecursion IsWritable xs
standing text xs s =
    subst OnNodes s.nodes (lines_standing (lines (without_mark text)) no_line (within start []
    nothing) refl (tt, refl, (tt, tt), tt) tt (lines_utf8 (without_mark text) s.utf8))

-- NODES AT ANY DEPTH

mutual
  deeper : (d : ℕ) (s : Spelling) → SpellingFits d s → SpellingFits (suc d) s
  deeper d (word text) h = h
  deeper d (quoted text) h = h
  deeper zero (fields fs) h = absurd h
  deeper (suc d) (fields fs) h = deeper_fields d fs h
  deeper zero (items is) h = absurd h
  deeper (suc d) (items is) h = deeper_items d is h

  deeper_fields : (d : ℕ) (fs : Fields) → FitFields d fs → FitFields (suc d) fs
  deeper_fields d no_fields h = tt
  deeper_fields d (field q k s fs) h = (h.0, h.1, deeper d s h.2, deeper_fields d fs h.3)

  deeper_items : (d : ℕ) (is : Items) → FitItems d is → FitItems (suc d) is
  deeper_items d no_items h = tt
  deeper_items d (one_item s is) h = (deeper d s h.0, deeper_items d is h.1)

mutual
  inside : (x y : Tree) → IsIn x y → (d : ℕ) → SpellingFits d (spelled y)
      → SpellingFits d (spelled x)
  inside x y itself d h = h
  inside x y (in_map es i) zero h = absurd h
  inside x y (in_map es i) (suc d) h = deeper d (spelled x) (inside_entries x es i d h)
  inside x y (in_list xs i) zero h = absurd h
  inside x y (in_list xs i) (suc d) h = deeper d (spelled x) (inside_items x xs i d h)

  inside_entries : (x : Tree) (es : Entries) → IsInEntries x es → (d : ℕ)
      → FitFields d (fields_spelled es) → SpellingFits d (spelled x)
  inside_entries x es (first_entry k y fs i) d h = inside x y i d h.2
  inside_entries x es (later_entry k y fs i) d h = inside_entries x fs i d h.3

  inside_items : (x : Tree) (xs : Trees) → IsInItems x xs → (d : ℕ) → FitItems d (items_spelled xs)
      → SpellingFits d (spelled x)
  inside_items x xs (first_item y ys i) d h = inside x y i d h.0
  inside_items x xs (later_item y ys i) d h = inside_items x ys i d h.1

-- what stands in a node that can be written can be written
pub writable_inside : (x y : Tree) → IsIn x y → IsWritable y → IsWritable x
writable_inside x y i h = inside x y i max_depth h

of_all : (P : Tree → Type 0) (xs : List Tree) (k : ℕ) (x : Tree) → AllByRecursion P xs
    → k < length xs → get_or xs k x ≡ x → P x
of_all P [] k x h l e = absurd (omega arith)
of_all P (y ∷ xs) zero x h l e = subst P e h.0
of_all P (y ∷ xs) (suc k) x h l e = of_all P xs k x h.1 (omega arith) e

-- a node that stands in a text can be written
pub standing_inside : (text : List ℕ) (x : Tree) → StandsIn text x → IsWritable x
standing_inside text x s = writable_inside x s.document s.inside (of_all IsWritable s.documents
    s.among.0 s.document (standing text s.documents s.are_documents) s.among.1 s.among.2)
