-- A text has few lines and few documents: of each at most so many as it has bytes, and two more.
use Rattle.std.proofs.Common.{◌≡◌, ℕ, suc, ◌+◌, ◌≤◌, Bool, true, false, cond, List}
use Rattle.std.proofs.Common.{[], ◌∷◌, ◌++◌, Option, Some, None, length, take, drop, map, refl, sym}
use Rattle.std.proofs.Common.{ap, ◌∙◌, subst, arith, length-append}
use Rattle.std.specs.Prelude.{◌==◌, ◌&&◌, ◌||◌, nat_eq, slice_index, option_map}
use Rattle.std.specs.Option.{option_and_then, is_none}
use Rattle.std.specs.List.{fold, slice_split, starts_with, prefix_len}
use Rattle.std.specs.Str.Lines.{lines, lines_of_parts}
use Rattle.std.proofs.Math.ListN.{length-drop}
use Rattle.std.proofs.lemmas.List.{length-map}
use Rattle.std.proofs.lemmas.List.Splits.{length-slice_split}
use Rattle.std.proofs.lemmas.List.Sums.{count_by-le-length}
use Rattle.yaml_terms.specs.Tree.{Tree, mapping, scalar, no_entries}
use Rattle.yaml_terms.specs.Mark.{Mark, start, dash, key, value, header, raw, Child}
use Rattle.yaml_terms.specs.Profile.{max_depth, documents, is_repeated}
use Rattle.yaml_terms.specs.Profile.{with_child, or_no_text, Pieces, last_piece, piece, with_first}
use Rattle.yaml_terms.specs.Profile.{pieces, children, behind, node}
use Rattle.yaml_terms.specs.Block.{is_blank_byte, is_blank, indentation, trimmed_text}
use Rattle.yaml_terms.specs.Quoted.{Quoted, quoted}
use Rattle.yaml_terms.specs.Flow.{flow, flow_start, end_fault}
use Rattle.yaml_terms.specs.FaultOrder.{earlier}
use Rattle.yaml_terms.specs.Line.{Line, Key, no_marks, one_mark, faulty, is_quote, plain_len}
use Rattle.yaml_terms.specs.Line.{is_plain_start, is_tail, indicator_fault, ends_word, with_mark}
use Rattle.yaml_terms.specs.Line.{with_fault, inline_value, quoted_value, plain_value, flow_value}
use Rattle.yaml_terms.specs.Line.{empty_map, header_value, header_tail, chomping_of, is_sign}
use Rattle.yaml_terms.specs.Line.{spoiled_value, key_of, behind_colon, entry_or_value, tab_fault}
use Rattle.yaml_terms.specs.Line.{content}
use Rattle.yaml_terms.specs.Line.{marker_line, filled_line, line_of, is_marker, has_control}
use Rattle.yaml_terms.specs.Text.{MarkedLines, StandsFor, line_at, next_line, no_line}
use Rattle.yaml_terms.specs.Text.{marked_lines, nodes_of}
use Rattle.yaml_terms.specs.Text.{takes, raw_fault, without_mark}
use Rattle.yaml_terms.specs.Fault.{IsFault}
use Rattle.yaml_terms.specs.declared.ProfileFault.{ProfileFault}
use Rattle.yaml_terms.specs.declared.ProfileFault.TheVariants.{Control, Tab, LeftOut, Colon}
use Rattle.yaml_terms.specs.declared.Style.{Style}
use Rattle.yaml_terms.proofs.ReadLemmas.{step, none_stays}

same_some : {A : Type 0} (x y : A) → Some x ≡ Some y → x ≡ y
same_some x y e = cc e

none_some : {A : Type 0} {Q : Type 0} (y : A) → None ≡ Some y → Q
none_some y e = absurd (let f : ⊥ = cc e in f)

-- DOCUMENTS OF MARKS

-- how many documents a mark begins
abbrev begins : Mark → ℕ
begins start = 1
begins _ = 0

abbrev starts : List Mark → ℕ
starts [] = 0
starts (m ∷ ms) = begins m + starts ms

abbrev count : Pieces → ℕ
count (last_piece h ms) = 1
count (piece h ms ps) = suc (count ps)

count-with_first : (m : Mark) (ps : Pieces) → count (with_first m ps) ≡ count ps
count-with_first m (last_piece h ms) = refl
count-with_first m (piece h ms ps) = refl

pieces_begun : (ms : List Mark) → count (pieces start ms) ≡ suc (starts ms)
pieces_begun [] = refl
pieces_begun (start ∷ ms) = omega (arith, pieces_begun ms)
pieces_begun (dash n ∷ ms) =
    omega (arith, count-with_first (dash n) (pieces start ms), pieces_begun ms)
pieces_begun (key n k ∷ ms) =
    omega (arith, count-with_first (key n k) (pieces start ms), pieces_begun ms)
pieces_begun (value n x ∷ ms) =
    omega (arith, count-with_first (value n x) (pieces start ms), pieces_begun ms)
pieces_begun (header n s ∷ ms) =
    omega (arith, count-with_first (header n s) (pieces start ms), pieces_begun ms)
pieces_begun (raw l ∷ ms) =
    omega (arith, count-with_first (raw l) (pieces start ms), pieces_begun ms)

one_more : (done : List Child) (c : Child) → length (done ++ c ∷ []) ≤ length done + 1
one_more done c = omega (arith, length-append done (c ∷ []))

child_more : (done : List Child) (h : Mark) (x : Option Tree)
    → length (with_child done h x) ≤ length done + 1
child_more done start None = omega arith
child_more done start (Some x) = one_more done (record { mark = start; tree = x })
child_more done h x = one_more done (record { mark = h; tree = or_no_text x })

children_few : (inside : Mark → List Mark → Option (Option Tree)) (done cs : List Child)
    (ps : Pieces) → children inside done ps ≡ Some cs → length cs ≤ length done + count ps
children_few inside done cs (last_piece h ms) e = by (is_repeated h done) (inside h ms) e
  where
    by : (b : Bool) (o : Option (Option Tree))
        → cond b None (option_map (with_child done h) o) ≡ Some cs → length cs ≤ length done + 1
    by true o f = none_some cs f
    by false None f = none_some cs f
    by false (Some x) f = subst (λ (ds : List Child). length ds ≤ length done + 1)
        (same_some (with_child done h x) cs f) (child_more done h x)
children_few inside done cs (piece h ms ps) e = by (is_repeated h done) (inside h ms) e
    (λ x f. children_few inside (with_child done h x) cs ps f)
  where
    by : (b : Bool) (o : Option (Option Tree)) → cond b None
        (option_and_then (λ x. children inside (with_child done h x) ps) o) ≡ Some cs
        → ((x : Option Tree) → children inside (with_child done h x) ps ≡ Some cs
        → length cs ≤ length (with_child done h x) + count ps)
        → length cs ≤ length done + suc (count ps)
    by true o f go = none_some cs f
    by false None f go = none_some cs f
    by false (Some x) f go = omega (arith, go x f, child_more done h x)

marks_few : (ms : List Mark) (xs : List Tree) → documents ms ≡ Some xs
    → length xs ≤ 1 + starts ms
marks_few ms xs e = by (children (behind (node max_depth)) [] (pieces start ms)) refl e
  where
    by : (o : Option (List Child)) → children (behind (node max_depth)) [] (pieces start ms) ≡ o
        → option_map (map (λ (c : Child). c.tree)) o ≡ Some xs → length xs ≤ 1 + starts ms
    by None f g = none_some xs g
    by (Some cs) f g = subst (λ (ys : List Tree). length ys ≤ 1 + starts ms)
        (same_some (map (λ (c : Child). c.tree) cs) xs g)
        (omega (
          arith,
          length-map cs (λ (c : Child). c.tree),
          children_few (behind (node max_depth)) [] cs (pieces start ms) f,
          pieces_begun ms,
        ))

-- THE MARKS OF A LINE

abbrev Brings : ℕ → Line → Type 0
Brings n l = starts l.marks ≤ n

either_line : (n : ℕ) (b : Bool) (x y : Line) → Brings n x → Brings n y → Brings n (cond b x y)
either_line n true x y p q = p
either_line n false x y p q = q

flow_brings : (n : ℕ) (cs : List ℕ) → Brings 0 (flow_value n (flow flow_start cs))
flow_brings n cs = by (earlier (flow flow_start cs).fault (end_fault (flow flow_start cs).part))
    refl
  where
    by : (o : Option ProfileFault) → earlier (flow flow_start cs).fault
        (end_fault (flow flow_start cs).part)
        ≡ o → Brings 0 (flow_value n (flow flow_start cs))
    by None e = rw e (omega arith)
    by (Some w) e = rw e (omega arith)

quoted_brings : (n : ℕ) (cs : List ℕ) (q : Option Quoted) → Brings 0 (quoted_value n cs q)
quoted_brings n cs None = omega arith
quoted_brings n cs (Some q) = omega arith

plain_brings : (n : ℕ) (cs : List ℕ) → Brings 0 (plain_value n cs)
plain_brings n cs = either_line 0 _ (spoiled_value n Colon)
    (one_mark (value n (scalar (trimmed_text is_blank_byte (take (plain_len cs) cs)) true)) None)
    (omega arith) (omega arith)

map_brings : (n : ℕ) (cs : List ℕ) → Brings 0 (empty_map n cs)
map_brings n cs = either_line 0 _ (one_mark (value n (mapping no_entries)) None)
    (spoiled_value n LeftOut)
    (omega arith) (omega arith)

tail_brings : (n : ℕ) (s : Style) (cs : List ℕ) → Brings 0 (header_tail n s cs)
tail_brings n s cs = either_line 0 _ (spoiled_value n LeftOut)
    (cond (is_tail cs) (one_mark (header n s) None) (spoiled_value n Colon)) (omega arith)
    (either_line 0 _ (one_mark (header n s) None) (spoiled_value n Colon) (omega arith)
    (omega arith))

header_brings : (n : ℕ) (folded : Bool) (cs : List ℕ) → Brings 0 (header_value n folded cs)
header_brings n folded cs =
    let sign = slice_index cs 0 in
    tail_brings n (record { folded = folded; chomping = chomping_of sign })
    (drop (cond (is_sign sign) 1 0) cs)

inline_brings : (n : ℕ) (cs : List ℕ) → Brings 0 (inline_value n cs)
inline_brings n [] = omega arith
inline_brings n (c ∷ cs) =
    let spoils : Brings 0 (spoiled_value n (indicator_fault c)) = omega arith in
    either_line 0 (is_quote c) _ _ (quoted_brings n cs (quoted c cs))
    (either_line 0 (is_plain_start c cs) _ _ (plain_brings n (c ∷ cs))
    (either_line 0 (c == 91) _ _ (flow_brings n cs)
    (either_line 0 (c == 123) _ _ (map_brings n cs)
    (either_line 0 (c == 124 || c == 62) _ _ (header_brings n (c == 62) cs) spoils))))

nothing_brought : (n : ℕ) → Brings n no_marks
nothing_brought n = omega arith

behind_brings : (n : ℕ) (cs : List ℕ) → Brings 0 (behind_colon n cs)
behind_brings n cs =
    let blanks = prefix_len is_blank_byte cs in
    either_line 0 (is_tail cs) no_marks (inline_value (n + blanks) (drop blanks cs))
    (nothing_brought 0) (inline_brings (n + blanks) (drop blanks cs))

entry_brings : (n : ℕ) (cs : List ℕ) (k : Option Key) → Brings 1 (entry_or_value n cs k)
entry_brings n cs None = omega (arith, inline_brings n cs)
entry_brings n cs (Some k) = omega (arith, behind_brings (n + k.length) (drop k.length cs))

content_brings : (n : ℕ) (cs : List ℕ) → Brings 1 (content n cs)
content_brings n [] = nothing_brought 1
content_brings n (c ∷ cs) = begins_with (content_brings (suc n) cs)
  where
    begins_with : Brings 1 (content (suc n) cs) → Brings 1 (content n (c ∷ cs))
    begins_with more =
        let item : Brings 1 (with_mark (dash n) (content (suc n) cs)) = omega (arith, more) in
        let blank : Brings 1 (with_fault (tab_fault c) (content (suc n) cs)) = more in
        either_line 1 (is_blank_byte c) _ _ blank
        (either_line 1 (c == 35) _ _ (nothing_brought 1)
        (either_line 1 (c == 45 && ends_word cs) _ _ item
        (entry_brings n (c ∷ cs) (key_of (c ∷ cs)))))

marker_brings : (cs : List ℕ) → Brings 1 (marker_line cs)
marker_brings cs =
    either_line 1 _ (one_mark start None) (faulty LeftOut) (omega arith) (omega arith)

fault_brings : (w : ProfileFault) → Brings 1 (faulty w)
fault_brings w = omega arith

filled_brings : (line : List ℕ) → Brings 1 (filled_line line)
filled_brings line =
    let n = indentation line in
    let first = slice_index line n in
    let behind = content n (drop n line) in
    let marker = marker_line (drop 3 line) in
    either_line 1 (first == 35) no_marks
    (cond (is_marker line) marker (cond (first == 9) (faulty Tab) behind)) (nothing_brought 1)
    (either_line 1 (is_marker line) marker (cond (first == 9) (faulty Tab) behind)
    (marker_brings (drop 3 line))
    (either_line 1 (first == 9) (faulty Tab) behind (fault_brings Tab)
    (content_brings n (drop n line))))

raw_brings : (line : List ℕ) (o : Option ProfileFault)
    → Brings 1 (record { marks = raw line ∷ []; fault = o })
raw_brings line o = omega arith

line_of_brings : (line : List ℕ) → Brings 1 (line_of line)
line_of_brings line =
    either_line 1 (has_control line) (faulty Control)
    (cond (is_blank line) no_marks (filled_line line)) (fault_brings Control)
    (either_line 1 (is_blank line) no_marks (filled_line line) (nothing_brought 1)
    (filled_brings line))

line_brings : (s : MarkedLines) (line : List ℕ) → Brings 1 (line_at s.scalar line)
line_brings s line = by (takes s.scalar line)
  where
    by : (b : Bool) → Brings 1 (cond b (record {
      marks = raw line ∷ [];
      fault = option_and_then (λ k. raw_fault k line) s.scalar;
    }) (line_of line))
    by true = raw_brings line (option_and_then (λ k. raw_fault k line) s.scalar)
    by false = line_of_brings line

-- THE MARKS OF LINES

starts-append : (ms ns : List Mark) → starts (ms ++ ns) ≡ starts ms + starts ns
starts-append [] ns = omega arith
starts-append (m ∷ ms) ns = omega (arith, starts-append ms ns)

lines_begin : (ls : List (List ℕ)) (s t : MarkedLines) → fold step (Some s) ls ≡ Some t
    → starts t.marks ≤ starts s.marks + length ls
lines_begin [] s t e = subst (λ (u : MarkedLines). starts u.marks ≤ starts s.marks + 0)
    (same_some s t e) (omega arith)
lines_begin (l ∷ ls) s t e = by (next_line s l) refl e (λ u g. lines_begin ls u t g)
  where
    added_line : (b : Bool) (n u : MarkedLines) → starts n.marks ≤ starts s.marks + 1
        → cond b (Some n) None ≡ Some u → starts u.marks ≤ starts s.marks + 1
    added_line true n u h f =
        subst (λ (v : MarkedLines). starts v.marks ≤ starts s.marks + 1) (same_some n u f)
        h
    added_line false n u h f = none_some u f

    by : (o : Option MarkedLines) → next_line s l ≡ o → fold step o ls ≡ Some t
        → ((u : MarkedLines) → fold step (Some u) ls ≡ Some t
        → starts t.marks ≤ starts u.marks + length ls)
        → starts t.marks ≤ starts s.marks + length (l ∷ ls)
    by None f g go = none_some t (sym (none_stays ls) ∙ g)
    by (Some u) f g go =
        let one = added_line (is_none (line_at s.scalar l).fault) _ u
        (omega (arith, starts-append s.marks (line_at s.scalar l).marks, line_brings s l)) f in
        omega (arith, one, go u g)

nodes_few : (ls : List (List ℕ)) (xs : List Tree) → nodes_of ls ≡ Some xs
    → length xs ≤ 1 + length ls
nodes_few ls xs e = by (marked_lines ls) refl e
  where
    by : (o : Option MarkedLines) → marked_lines ls ≡ o
        → option_and_then (λ (s : MarkedLines). documents s.marks) o ≡ Some xs
        → length xs ≤ 1 + length ls
    by None f g = none_some xs g
    by (Some s) f g = omega (arith, marks_few s.marks xs g, lines_begin ls no_line s f)

-- LINES OF BYTES

parts_less : (parts : List (List ℕ)) → length (lines_of_parts parts) ≤ length parts
parts_less [] = omega arith
parts_less (x ∷ []) = by (length x == 0)
  where
    by : (b : Bool) → length (cond b [] (x ∷ [])) ≤ 1
    by true = omega arith
    by false = omega arith
parts_less (x ∷ y ∷ more) = omega (arith, parts_less (y ∷ more))

lines_less : (bytes : List ℕ) → length (lines bytes) ≤ length bytes + 1
lines_less bytes = omega (
  arith,
  parts_less (slice_split (λ b. b == 10) bytes),
  length-slice_split (λ (b : ℕ). b == 10) bytes,
  count_by-le-length (λ (b : ℕ). b == 10) bytes,
)

mark_less : (text : List ℕ) → length (without_mark text) ≤ length text
mark_less text = by (starts_with nat_eq text (239 ∷ 187 ∷ 191 ∷ []))
  where
    by : (b : Bool) → length (cond b (drop 3 text) text) ≤ length text
    by true = omega (arith, length-drop 3 text)
    by false = omega arith

pub few_documents : (text : List ℕ) (xs : List Tree) → StandsFor text xs
    → length xs ≤ length text + 2
few_documents text xs s = omega (
  arith,
  nodes_few (lines (without_mark text)) xs s.nodes,
  lines_less (without_mark text),
  mark_less text,
)

pub few_lines : (text : List ℕ) (line : ℕ) (which : ProfileFault)
    → IsFault (lines (without_mark text)) line which → line ≤ length text + 1
few_lines text line which f =
    let all : length (lines (without_mark text)) ≡ length f.before + length (f.line ∷ f.after) =
    ap length f.is_lines ∙ length-append f.before (f.line ∷ f.after) in
    omega (arith, f.number, all, lines_less (without_mark text), mark_less text)
