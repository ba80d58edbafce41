-- The lines of a written value have its marks, and so its text stands for its node.
use Rattle.std.proofs.Common.{◌≡◌, ℕ, zero, suc, ◌+◌, ◌-◌, ◌<◌, ◌⊎◌, Bool, true, false, List, []}
use Rattle.std.proofs.Common.{◌∷◌, ◌++◌, Option, Some, None, cond, length, drop, get_or, fold, refl}
use Rattle.std.proofs.Common.{sym, ap, ◌∙◌, subst₂, append_assoc, append-nil, arith, inl, inr}
use Rattle.std.specs.Prelude.{◌==◌, slice_index, ⊤, is_none}
use Rattle.std.specs.Option.{option_and_then}
use Rattle.std.specs.List.{list_all, slice_split}
use Rattle.std.specs.Str.Lines.{lines, lines_of_parts, strip_carriage_return}
use Rattle.std.proofs.lemmas.Bool.{false≢true, and_parts, or_parts}
use Rattle.std.proofs.lemmas.List.Folds.{list_all-append}
use Rattle.std.proofs.lemmas.List.Splits.{slice_split_at, length-slice_split}
use Rattle.yaml_terms.specs.Tree.{Tree, mapping, sequence, scalar, no_entries, no_trees}
use Rattle.yaml_terms.specs.Mark.{Mark, start, dash, key, value, header, raw}
use Rattle.yaml_terms.specs.Block.{is_blank_byte, is_blank, indentation}
use Rattle.yaml_terms.specs.Line.{Line, no_marks, faulty, with_mark, is_control, has_control}
use Rattle.yaml_terms.specs.Line.{ends_word, is_marker, behind_colon, content, filled_line}
use Rattle.yaml_terms.specs.Line.{line_of}
use Rattle.yaml_terms.specs.Profile.{documents}
use Rattle.yaml_terms.specs.Text.{MarkedLines, next_line, nodes_of, parent_after, header_scalar}
use Rattle.yaml_terms.specs.Spelling.{Spelling, word, quoted, fields, items, Fields, no_fields}
use Rattle.yaml_terms.specs.Spelling.{field, Items, no_items, one_item, in_quotes, key_text}
use Rattle.yaml_terms.specs.Spelling.{spaces, step, gap_at_colon, gap_at_dash, written}
use Rattle.yaml_terms.specs.Spelling.{written_fields, written_items, writing, is_word}
use Rattle.yaml_terms.specs.SpellingFits.{SpellingFits, FitFields, FitItems, is_key_text}
use Rattle.yaml_terms.specs.declared.Scalar.{Scalar}
use Rattle.yaml_terms.specs.declared.ProfileFault.TheVariants.{Control}
use Rattle.yaml_writing.proofs.WritingMarks.{behind_key, marks_at, marks_of_fields, marks_of_items}
use Rattle.yaml_writing.proofs.WritingMarks.{is_own}
use Rattle.yaml_writing.proofs.WritingBytes.{differs, begins_well, well_parts, behind_space}
use Rattle.yaml_writing.proofs.WritingBytes.{key_content, key_control, key_begins, key_no_marker}
use Rattle.yaml_writing.proofs.WritingBytes.{IsInline, inline_word, inline_quotes, inline_map}
use Rattle.yaml_writing.proofs.WritingBytes.{inline_list}

-- LINES

-- Lines that each end with a line feed, and the marks that they have by themselves.
pub data AreLines : List ℕ → List Mark → Type 0 where
  no_more : AreLines [] []
  a_line : (l : List ℕ) (ms : List Mark) (text : List ℕ) (ns : List Mark)
      → line_of l ≡ record { marks = ms; fault = None } → AreLines text ns
      → AreLines (l ++ (10 ∷ text)) (ms ++ ns)

-- a line without a fault has no control character
no_control : (l : List ℕ) (ms : List Mark) → line_of l ≡ record { marks = ms; fault = None }
    → has_control l ≡ false
no_control l ms h = by_test (has_control l) refl
  where
    by_test : (b : Bool) → has_control l ≡ b → b ≡ false
    by_test false e = refl
    by_test true e = sym (ap (λ (x : Line). is_none x.fault) h) ∙ ap (λ (b : Bool).
        is_none (cond b (faulty Control) (cond (is_blank l) no_marks (filled_line l))).fault) e

no_feed : (l : List ℕ) → has_control l ≡ false → (k d : ℕ) → k < length l
    → (get_or l k d == 10) ≡ false
no_feed [] e k d h = absurd (omega arith)
no_feed (c ∷ l) e zero d h =
    differs is_control c 10 (or_parts (is_control c) (has_control l) e).0 refl
no_feed (c ∷ l) e (suc k) d h =
    no_feed l (or_parts (is_control c) (has_control l) e).1 k d (omega arith)

no_return : (l : List ℕ) (k : ℕ) → has_control l ≡ false → (slice_index l k == 13) ≡ false
no_return [] k e = refl
no_return (c ∷ l) zero e =
    differs is_control c 13 (or_parts (is_control c) (has_control l) e).0 refl
no_return (c ∷ l) (suc k) e = no_return l k (or_parts (is_control c) (has_control l) e).1

whole_line : (l : List ℕ) → has_control l ≡ false → strip_carriage_return l ≡ l
whole_line l e = rw (no_return l (length l - 1) e) refl

first_part : (x : List ℕ) (parts : List (List ℕ)) → 0 < length parts
    → lines_of_parts (x ∷ parts) ≡ strip_carriage_return x ∷ lines_of_parts parts
first_part x [] h = absurd (omega arith)
first_part x (y ∷ more) h = refl

line_first : (l text : List ℕ) → has_control l ≡ false → lines (l ++ (10 ∷ text)) ≡ l ∷ lines text
line_first l text e =
    let feed : ℕ → Bool = λ b. b == 10 in
    ap lines_of_parts (slice_split_at (λ b. b == 10) l 10 text (no_feed l e) refl)
    ∙ first_part l (slice_split (λ b. b == 10) text)
    (omega (arith, length-slice_split (λ b. b == 10) text))
    ∙ ap (λ (x : List ℕ). x ∷ lines text) (whole_line l e)

-- marks that open no block scalar
no_header : (ms : List Mark) (parent : Option ℕ) → list_all is_own ms ≡ true
    → header_scalar parent ms ≡ None
no_header [] parent e = refl
no_header (start ∷ ms) parent e = absurd (false≢true e)
no_header (dash n ∷ ms) parent e = no_header ms (Some n) e
no_header (key n k ∷ ms) parent e = no_header ms (Some n) e
no_header (value n x ∷ ms) parent e = no_header ms None e
no_header (header n s ∷ ms) parent e = absurd (false≢true e)
no_header (raw l ∷ ms) parent e = absurd (false≢true e)

abbrev after : Option MarkedLines → List ℕ → Option MarkedLines
after o line = option_and_then (λ s. next_line s line) o

abbrev at_mark : List Mark → Option ℕ → MarkedLines
at_mark ms parent = record { marks = ms; parent = parent; scalar = None }

own_parts : (ms ns : List Mark) → list_all is_own (ms ++ ns) ≡ true
    → (list_all is_own ms ≡ true) × (list_all is_own ns ≡ true)
own_parts ms ns e =
    and_parts (list_all is_own ms) (list_all is_own ns) (sym (list_all-append is_own ms ns) ∙ e)

next_is : (l : List ℕ) (ms before : List Mark) (parent : Option ℕ)
    → line_of l ≡ record { marks = ms; fault = None } → list_all is_own ms ≡ true
    → next_line (at_mark before parent) l ≡ Some (at_mark (before ++ ms) (parent_after parent ms))
next_is l ms before parent e own =
    ap (λ (x : Line). cond (is_none x.fault) (Some (record {
      marks = before ++ x.marks;
      parent = parent_after parent x.marks;
      scalar = header_scalar parent x.marks;
    })) None) e
    ∙ ap (λ (o : Option Scalar). Some (record {
      marks = before ++ ms;
      parent = parent_after parent ms;
      scalar = o;
    })) (no_header ms parent own)

-- such lines, read after others
lines_read : (text : List ℕ) (ms : List Mark) → AreLines text ms → list_all is_own ms ≡ true
    → (before : List Mark) (parent : Option ℕ)
    → (t : MarkedLines) × (fold after (Some (at_mark before parent)) (lines text) ≡ Some t)
    × (t.marks ≡ before ++ ms)
lines_read [] [] no_more own before parent = (at_mark before parent, refl, sym (append-nil before))
lines_read _ _ (a_line l ms text ns e h) own before parent =
    let o : _ = own_parts ms ns own in
    let more : _ = lines_read text ns h o.1 (before ++ ms) (parent_after parent ms) in (
      more.0,
      ap (fold after (Some (at_mark before parent))) (line_first l text (no_control l ms e))
          ∙ ap (λ (s : Option MarkedLines). fold after s (lines text))
          (next_is l ms before parent e o.0)
          ∙ more.1,
      more.2 ∙ append_assoc before ms ns,
    )

-- what such lines stand for
pub lines_nodes : (text : List ℕ) (ms : List Mark) → AreLines text ms → list_all is_own ms ≡ true
    → nodes_of (lines text) ≡ documents ms
lines_nodes text ms h own =
    let read : _ = lines_read text ms h own [] None in
    ap (option_and_then (λ (s : MarkedLines). documents s.marks)) read.1 ∙ ap documents read.2

-- HOW A LINE BEGINS

abbrev behind_marks : List Mark → Line → Line
behind_marks ps l = record { marks = ps ++ l.marks; fault = l.fault }

-- Bytes that a line begins with, which have these marks, and behind which its content goes on
-- at a column.
record Begins (lead : List ℕ) (n : ℕ) (ps : List Mark) : Type 0 where
  pub reads : (xs : List ℕ) → begins_well xs ≡ true → has_control xs ≡ false
      → is_marker (lead ++ xs) ≡ false → line_of (lead ++ xs) ≡ behind_marks ps (content n xs)
  pub inner : ((lead ≡ []) × (n ≡ 0)) ⊎ ((xs : List ℕ) → is_marker (lead ++ xs) ≡ false)

spaces_indent : (n c : ℕ) (cs : List ℕ) → (c == 32) ≡ false → indentation (spaces n ++ (c ∷ cs)) ≡ n
spaces_indent zero c cs e = rw e refl
spaces_indent (suc n) c cs e = let f : 1 + n ≡ suc n = omega arith in
    ap (λ (m : ℕ). 1 + m) (spaces_indent n c cs e) ∙ f

spaces_index : (n c : ℕ) (cs : List ℕ) → slice_index (spaces n ++ (c ∷ cs)) n ≡ c
spaces_index zero c cs = refl
spaces_index (suc n) c cs = spaces_index n c cs

spaces_drop : (n : ℕ) (xs : List ℕ) → drop n (spaces n ++ xs) ≡ xs
spaces_drop zero xs = refl
spaces_drop (suc n) xs = spaces_drop n xs

spaces_blank : (n c : ℕ) (cs : List ℕ) → is_blank_byte c ≡ false
    → is_blank (spaces n ++ (c ∷ cs)) ≡ false
spaces_blank zero c cs e = rw e refl
spaces_blank (suc n) c cs e = spaces_blank n c cs e

spaces_control : (n : ℕ) (xs : List ℕ) → has_control xs ≡ false
    → has_control (spaces n ++ xs) ≡ false
spaces_control zero xs e = e
spaces_control (suc n) xs e = spaces_control n xs e

filled_is : (line xs : List ℕ) (n c : ℕ) → indentation line ≡ n → slice_index line n ≡ c
    → drop n line ≡ xs → (c == 35) ≡ false → (c == 9) ≡ false → is_marker line ≡ false
    → filled_line line ≡ content n xs
filled_is line xs n c e f g h i m = rw (e, f, h, i, g, m) refl

line_is : (line : List ℕ) → has_control line ≡ false → is_blank line ≡ false
    → line_of line ≡ filled_line line
line_is line e f = rw (e, f) refl

spaces_reads : (n : ℕ) (xs : List ℕ) → begins_well xs ≡ true → has_control xs ≡ false
    → is_marker (spaces n ++ xs) ≡ false → line_of (spaces n ++ xs) ≡ content n xs
spaces_reads n [] w e m = absurd (false≢true w)
spaces_reads n (c ∷ cs) w e m =
    let p : _ = well_parts c cs w in
    let b : _ = or_parts (c == 32) (c == 9) p.0 in
    line_is (spaces n ++ (c ∷ cs)) (spaces_control n (c ∷ cs) e) (spaces_blank n c cs p.0)
    ∙ filled_is (spaces n ++ (c ∷ cs)) (c ∷ cs) n c (spaces_indent n c cs b.0) (spaces_index n c cs)
    (spaces_drop n (c ∷ cs)) p.1 b.1 m

spaces_inner : (n : ℕ) → ((spaces n ≡ []) × (n ≡ 0))
    ⊎ ((xs : List ℕ) → is_marker (spaces n ++ xs) ≡ false)
spaces_inner zero = inl (refl, refl)
spaces_inner (suc n) = inr (λ xs. refl)

at_spaces : (n : ℕ) → Begins (spaces n) n []
at_spaces n = record { reads = spaces_reads n; inner = spaces_inner n }

module _ (lead : List ℕ) (n : ℕ) (ps : List Mark) (b : Begins lead n ps) where
  marker_at : (xs : List ℕ) → is_marker xs ≡ false → is_marker (lead ++ xs) ≡ false
  marker_at xs e = by_lead b.inner
    where
      by_lead : ((lead ≡ []) × (n ≡ 0)) ⊎ ((ys : List ℕ) → is_marker (lead ++ ys) ≡ false)
          → is_marker (lead ++ xs) ≡ false
      by_lead (inl h) = ap (λ (l : List ℕ). is_marker (l ++ xs)) h.0 ∙ e
      by_lead (inr h) = h xs

  marker_inside : (xs : List ℕ) → 0 < n → is_marker (lead ++ xs) ≡ false
  marker_inside xs e = by_lead b.inner
    where
      by_lead : ((lead ≡ []) × (n ≡ 0)) ⊎ ((ys : List ℕ) → is_marker (lead ++ ys) ≡ false)
          → is_marker (lead ++ xs) ≡ false
      by_lead (inl h) = let z : n ≡ 0 = h.1 in absurd (omega arith)
      by_lead (inr h) = h xs

  dash_reads : (xs : List ℕ) → begins_well xs ≡ true → has_control xs ≡ false → line_of
      ((lead ++ (45 ∷ 32 ∷ [])) ++ xs) ≡ behind_marks (ps ++ (dash n ∷ [])) (content (n + step) xs)
  dash_reads xs w e =
      let column : suc (suc n) ≡ n + step = omega arith in
      ap line_of (append_assoc lead (45 ∷ 32 ∷ []) xs)
      ∙ b.reads (45 ∷ 32 ∷ xs) refl e (marker_at (45 ∷ 32 ∷ xs) refl)
      ∙ ap (λ (m : ℕ). behind_marks ps (with_mark (dash n) (content m xs))) column
      ∙ ap (λ (ms : List Mark). record { marks = ms; fault = (content (n + step) xs).fault })
      (sym (append_assoc ps (dash n ∷ []) (content (n + step) xs).marks))

  behind_dash : Begins (lead ++ (45 ∷ 32 ∷ [])) (n + step) (ps ++ (dash n ∷ []))
  behind_dash = record {
    reads = λ xs w e m. dash_reads xs w e;
    inner = inr (λ xs. ap is_marker (append_assoc lead (45 ∷ 32 ∷ []) xs)
        ∙ marker_at (45 ∷ 32 ∷ xs) refl);
  }

  -- a line that ends with a dash
  dash_alone : line_of (lead ++ (45 ∷ [])) ≡ record { marks = ps ++ (dash n ∷ []); fault = None }
  dash_alone = b.reads (45 ∷ []) refl refl (marker_at (45 ∷ []) refl)

  -- a line that ends with a value
  value_line : (xs : List ℕ) (x : Tree) → IsInline xs x → is_marker (lead ++ xs) ≡ false
      → line_of (lead ++ xs) ≡ record { marks = ps ++ (value n x ∷ []); fault = None }
  value_line xs x i m = b.reads xs i.begins i.control m ∙ ap (behind_marks ps) (i.contents n)

  key_line : (q : Bool) (k rest : List ℕ) → is_key_text q k ≡ true → ends_word rest ≡ true
      → has_control rest ≡ false
      → line_of (lead ++ (key_text q k ++ (58 ∷ rest))) ≡ behind_marks ps
      (with_mark (key n k) (behind_colon (n + (length (key_text q k) + 1)) rest))
  key_line q k rest e f g = b.reads (key_text q k ++ (58 ∷ rest)) (key_begins q k (58 ∷ rest) e)
      (key_control q k rest e g)
      (marker_at (key_text q k ++ (58 ∷ rest)) (key_no_marker q k (58 ∷ rest) e))
      ∙ ap (behind_marks ps) (key_content n q k rest e f)

  -- a line that ends with a key
  key_alone : (q : Bool) (k : List ℕ) → is_key_text q k ≡ true
      → line_of (lead ++ (key_text q k ++ (58 ∷ []))) ≡ record {
        marks = ps ++ (key n k ∷ []);
        fault = None;
      }
  key_alone q k e = key_line q k [] e refl refl

  -- a line that ends with a key and its value
  key_value : (q : Bool) (k xs : List ℕ) (x : Tree) → is_key_text q k ≡ true → IsInline xs x
      → line_of (lead ++ (key_text q k ++ (58 ∷ 32 ∷ xs))) ≡ record {
        marks =
            ps ++ (key n k ∷ value (n + (length (key_text q k) + 2)) x ∷ []);
        fault = None;
      }
  key_value q k xs x e i =
      let column : n + (length (key_text q k) + 1) + 1 ≡ n + (length (key_text q k) + 2) =
      omega arith in
      key_line q k (32 ∷ xs) e refl i.control
      ∙ ap (λ (l : Line). behind_marks ps (with_mark (key n k) l))
      (behind_space (n + (length (key_text q k) + 1)) xs i.begins
      ∙ i.values (n + (length (key_text q k) + 1) + 1))
      ∙ ap (λ (m : ℕ). record { marks = ps ++ (key n k ∷ value m x ∷ []); fault = None }) column

-- THE LINES OF A VALUE

same_lines : (a b : List ℕ) (ms ns : List Mark) → AreLines a ms → a ≡ b → ms ≡ ns → AreLines b ns
same_lines a b ms ns h e f = subst₂ AreLines e f h

pub lead_first : (lead : List ℕ) (n : ℕ) (s : Spelling) → written lead n s ≡ lead ++ written [] n s
lead_first lead n (word text) = refl
lead_first lead n (quoted text) = refl
lead_first lead n (fields no_fields) = refl
lead_first lead n (fields (field q k s fs)) = refl
lead_first lead n (items no_items) = refl
lead_first lead n (items (one_item s is)) = refl

-- A value behind these bytes, and the lines behind it. The text of no length has no line
-- of its own.
abbrev ReadsOn : List ℕ → ℕ → List Mark → Spelling → List ℕ → List Mark → Type 0
ReadsOn lead n ps (word []) rest ms = ⊤
ReadsOn lead n ps s rest ms = AreLines (written lead n s ++ rest) (ps ++ (marks_at n s ++ ms))

-- a plain text stands behind a key or dash
abbrev MayStand : ℕ → Spelling → Type 0
MayStand n (word text) = 0 < n
MayStand n _ = ⊤

deeper_stands : (n : ℕ) (s : Spelling) → MayStand (n + step) s
deeper_stands n (word text) = omega arith
deeper_stands n (quoted text) = tt
deeper_stands n (fields fs) = tt
deeper_stands n (items is) = tt

module _ (lead : List ℕ) (n : ℕ) (ps : List Mark) (b : Begins lead n ps) where
  inline_line : (xs : List ℕ) (x : Tree) (rest : List ℕ) (ms : List Mark) → IsInline xs x
      → is_marker (lead ++ xs) ≡ false → AreLines rest ms
      → AreLines ((lead ++ (xs ++ (10 ∷ []))) ++ rest) (ps ++ (value n x ∷ ms))
  inline_line xs x rest ms i m h =
      same_lines ((lead ++ xs) ++ (10 ∷ rest)) ((lead ++ (xs ++ (10 ∷ []))) ++ rest)
      ((ps ++ (value n x ∷ [])) ++ ms) (ps ++ (value n x ∷ ms))
      (a_line (lead ++ xs) (ps ++ (value n x ∷ [])) rest ms (value_line lead n ps b xs x i m) h)
      (simp append_assoc) (append_assoc ps (value n x ∷ []) ms)

  module _ (w rest : List ℕ) (f ms : List Mark) where
    -- an item of no text
    item_alone : AreLines (w ++ rest) (f ++ ms)
        → AreLines ((lead ++ (45 ∷ (10 ∷ w))) ++ rest) (ps ++ (dash n ∷ (f ++ ms)))
    item_alone h =
        same_lines ((lead ++ (45 ∷ [])) ++ (10 ∷ (w ++ rest))) ((lead ++ (45 ∷ (10 ∷ w))) ++ rest)
        ((ps ++ (dash n ∷ [])) ++ (f ++ ms)) (ps ++ (dash n ∷ (f ++ ms)))
        (a_line (lead ++ (45 ∷ [])) (ps ++ (dash n ∷ []))
        (w ++ rest) (f ++ ms) (dash_alone lead n ps b) h) (simp append_assoc)
        (append_assoc ps (dash n ∷ []) (f ++ ms))

    -- an item that goes on behind its dash
    item_other : (s : Spelling) → AreLines (written (lead ++ (45 ∷ 32 ∷ [])) (n + step) s
        ++ (w ++ rest)) ((ps ++ (dash n ∷ [])) ++ (marks_at (n + step) s ++ (f ++ ms)))
        → AreLines ((lead ++ (45 ∷ (written (32 ∷ []) (n + step) s ++ w))) ++ rest)
        (ps ++ ((dash n ∷ (marks_at (n + step) s ++ f)) ++ ms))
    item_other s h = same_lines _ _ _ _ h
        (rw (
          lead_first (lead ++ (45 ∷ 32 ∷ [])) (n + step) s,
          lead_first (32 ∷ []) (n + step) s,
        ) (simp append_assoc))
        (simp append_assoc)

    item_step : (s : Spelling)
        → ReadsOn (lead ++ (45 ∷ 32 ∷ [])) (n + step) (ps ++ (dash n ∷ [])) s (w ++ rest) (f ++ ms)
        → AreLines (w ++ rest) (f ++ ms)
        → AreLines ((lead ++ (45 ∷ (written (gap_at_dash s) (n + step) s ++ w))) ++ rest)
        (ps ++ ((dash n ∷ (marks_at (n + step) s ++ f)) ++ ms))
    item_step (word []) i h = item_alone h
    item_step (word (c ∷ cs)) i h = item_other (word (c ∷ cs)) i
    item_step (quoted text) i h = item_other (quoted text) i
    item_step (fields no_fields) i h = item_other (fields no_fields) i
    item_step (fields (field q k s fs)) i h = item_other (fields (field q k s fs)) i
    item_step (items no_items) i h = item_other (items no_items) i
    item_step (items (one_item s is)) i h = item_other (items (one_item s is)) i

    module _ (q : Bool) (k : List ℕ) (e : is_key_text q k ≡ true) where
      -- a key with nothing behind it
      entry_alone : AreLines (w ++ rest) (f ++ ms) → AreLines
          ((lead ++ (key_text q k ++ (58 ∷ (10 ∷ w)))) ++ rest) (ps ++ (key n k ∷ (f ++ ms)))
      entry_alone h = same_lines ((lead ++ (key_text q k ++ (58 ∷ []))) ++ (10 ∷ (w ++ rest)))
          ((lead ++ (key_text q k ++ (58 ∷ (10 ∷ w)))) ++ rest)
          ((ps ++ (key n k ∷ [])) ++ (f ++ ms)) (ps ++ (key n k ∷ (f ++ ms)))
          (a_line (lead ++ (key_text q k ++ (58 ∷ []))) (ps ++ (key n k ∷ []))
          (w ++ rest) (f ++ ms) (key_alone lead n ps b q k e) h) (simp append_assoc)
          (append_assoc ps (key n k ∷ []) (f ++ ms))

      -- a key and its value on one line
      entry_inline : (xs : List ℕ) (x : Tree) → IsInline xs x → AreLines (w ++ rest) (f ++ ms)
          → AreLines ((lead ++ (key_text q k ++ (58 ∷ (32 ∷ ((xs ++ (10 ∷ [])) ++ w))))) ++ rest)
          (ps ++ (key n k ∷ (value (n + (length (key_text q k) + 2)) x ∷ (f ++ ms))))
      entry_inline xs x i h =
          same_lines ((lead ++ (key_text q k ++ (58 ∷ 32 ∷ xs))) ++ (10 ∷ (w ++ rest))) _
          ((ps ++ (key n k ∷ value (n + (length (key_text q k) + 2)) x ∷ [])) ++ (f ++ ms)) _
          (a_line (lead ++ (key_text q k ++ (58 ∷ 32 ∷ xs)))
          (ps ++ (key n k ∷ value (n + (length (key_text q k) + 2)) x ∷ [])) (w ++ rest)
          (f ++ ms) (key_value lead n ps b q k xs x e i) h)
          (simp append_assoc) (append_assoc ps
          (key n k ∷ value (n + (length (key_text q k) + 2)) x ∷ []) (f ++ ms))

      -- a key, and its value on the lines below
      entry_below : (s : Spelling) → AreLines (written (spaces (n + step)) (n + step) s
          ++ (w ++ rest)) (marks_at (n + step) s ++ (f ++ ms))
          → AreLines ((lead ++ (key_text q k
          ++ (58 ∷ (written (10 ∷ spaces (n + step)) (n + step) s ++ w)))) ++ rest)
          (ps ++ ((key n k ∷ (marks_at (n + step) s ++ f)) ++ ms))
      entry_below s h = same_lines ((lead ++ (key_text q k ++ (58 ∷ [])))
          ++ (10 ∷ (written (spaces (n + step)) (n + step) s ++ (w ++ rest)))) _
          ((ps ++ (key n k ∷ [])) ++ (marks_at (n + step) s ++ (f ++ ms))) _
          (a_line (lead ++ (key_text q k ++ (58 ∷ []))) (ps ++ (key n k ∷ [])) _ _
          (key_alone lead n ps b q k e) h)
          (rw (
            lead_first (10 ∷ spaces (n + step)) (n + step) s,
            lead_first (spaces (n + step)) (n + step) s,
          ) (simp append_assoc)) (simp append_assoc)

      entry_step : (d : ℕ) (s : Spelling)
          → SpellingFits d s → ReadsOn (spaces (n + step)) (n + step) [] s (w ++ rest) (f ++ ms)
          → AreLines (w ++ rest) (f ++ ms)
          → AreLines
          ((lead ++ (key_text q k ++ (58 ∷ (written (gap_at_colon n s) (n + step) s ++ w))))
          ++ rest) (ps ++ ((key n k ∷ (marks_at (behind_key n q k s) s ++ f)) ++ ms))
      entry_step d (word []) fit i h = entry_alone h
      entry_step zero (word (c ∷ cs)) fit i h =
          entry_inline (c ∷ cs) (scalar (c ∷ cs) true) (inline_word c cs fit.1) h
      entry_step (suc d) (word (c ∷ cs)) fit i h =
          entry_inline (c ∷ cs) (scalar (c ∷ cs) true) (inline_word c cs fit.1) h
      entry_step zero (quoted text) fit i h =
          entry_inline (in_quotes text) (scalar text false) (inline_quotes text fit.1) h
      entry_step (suc d) (quoted text) fit i h =
          entry_inline (in_quotes text) (scalar text false) (inline_quotes text fit.1) h
      entry_step d (fields no_fields) fit i h =
          entry_inline (123 ∷ 125 ∷ []) (mapping no_entries) inline_map h
      entry_step d (fields (field r j s fs)) fit i h = entry_below (fields (field r j s fs)) i
      entry_step d (items no_items) fit i h =
          entry_inline (91 ∷ 93 ∷ []) (sequence no_trees) inline_list h
      entry_step d (items (one_item s is)) fit i h = entry_below (items (one_item s is)) i

mutual
  -- the lines of a value that can be written, behind bytes that begin a line
  value_lines : (d : ℕ) (s : Spelling) (lead : List ℕ) (n : ℕ) (ps : List Mark) → Begins lead n ps
      → SpellingFits d s → MayStand n s → (rest : List ℕ) (ms : List Mark) → AreLines rest ms
      → ReadsOn lead n ps s rest ms
  value_lines d (word []) lead n ps b fit p rest ms h = tt
  value_lines zero (word (c ∷ cs)) lead n ps b fit p rest ms h =
      inline_line lead n ps b (c ∷ cs) (scalar (c ∷ cs) true) rest ms (inline_word c cs fit.1)
      (marker_inside lead n ps b (c ∷ cs) p) h
  value_lines (suc d) (word (c ∷ cs)) lead n ps b fit p rest ms h =
      inline_line lead n ps b (c ∷ cs) (scalar (c ∷ cs) true) rest ms (inline_word c cs fit.1)
      (marker_inside lead n ps b (c ∷ cs) p) h
  value_lines zero (quoted text) lead n ps b fit p rest ms h =
      inline_line lead n ps b (in_quotes text) (scalar text false) rest ms
      (inline_quotes text fit.1) (marker_at lead n ps b (in_quotes text) refl) h
  value_lines (suc d) (quoted text) lead n ps b fit p rest ms h =
      inline_line lead n ps b (in_quotes text) (scalar text false) rest ms
      (inline_quotes text fit.1) (marker_at lead n ps b (in_quotes text) refl) h
  value_lines d (fields no_fields) lead n ps b fit p rest ms h =
      inline_line lead n ps b (123 ∷ 125 ∷ []) (mapping no_entries) rest ms inline_map
      (marker_at lead n ps b (123 ∷ 125 ∷ []) refl) h
  value_lines zero (fields (field q k s fs)) lead n ps b fit p rest ms h = absurd fit
  value_lines (suc d) (fields (field q k s fs)) lead n ps b fit p rest ms h =
      let more : AreLines (written_fields (spaces n) n fs ++ rest) (marks_of_fields n fs ++ ms) =
      fields_lines d fs n fit.3 rest ms h in
      entry_step lead n ps b (written_fields (spaces n) n fs) rest (marks_of_fields n fs) ms q k
      fit.0.1 d s fit.2
      (value_lines d s (spaces (n + step)) (n + step) [] (at_spaces (n + step)) fit.2 (deeper_stands
      n s) (written_fields (spaces n) n fs ++ rest) (marks_of_fields n fs ++ ms) more) more
  value_lines d (items no_items) lead n ps b fit p rest ms h =
      inline_line lead n ps b (91 ∷ 93 ∷ []) (sequence no_trees) rest ms inline_list
      (marker_at lead n ps b (91 ∷ 93 ∷ []) refl) h
  value_lines zero (items (one_item s is)) lead n ps b fit p rest ms h = absurd fit
  value_lines (suc d) (items (one_item s is)) lead n ps b fit p rest ms h =
      let more : AreLines (written_items (spaces n) n is ++ rest) (marks_of_items n is ++ ms) =
      items_lines d is n fit.1 rest ms h in
      item_step lead n ps b (written_items (spaces n) n is) rest (marks_of_items n is) ms s
      (value_lines d s (lead ++ (45 ∷ 32 ∷ []))
      (n + step) (ps ++ (dash n ∷ [])) (behind_dash lead n ps b) fit.0 (deeper_stands n s)
      (written_items (spaces n) n is ++ rest) (marks_of_items n is ++ ms) more) more

  fields_lines : (d : ℕ) (fs : Fields) (n : ℕ)
      → FitFields d fs → (rest : List ℕ) (ms : List Mark) → AreLines rest ms
      → AreLines (written_fields (spaces n) n fs ++ rest) (marks_of_fields n fs ++ ms)
  fields_lines d no_fields n fit rest ms h = h
  fields_lines d (field q k s fs) n fit rest ms h =
      let more : AreLines (written_fields (spaces n) n fs ++ rest) (marks_of_fields n fs ++ ms) =
      fields_lines d fs n fit.3 rest ms h in
      entry_step (spaces n) n [] (at_spaces n) (written_fields (spaces n) n fs) rest
      (marks_of_fields n fs) ms q k fit.0.1 d s fit.2
      (value_lines d s (spaces (n + step)) (n + step) [] (at_spaces (n + step)) fit.2 (deeper_stands
      n s) (written_fields (spaces n) n fs ++ rest) (marks_of_fields n fs ++ ms) more) more

  items_lines : (d : ℕ) (is : Items) (n : ℕ)
      → FitItems d is → (rest : List ℕ) (ms : List Mark) → AreLines rest ms
      → AreLines (written_items (spaces n) n is ++ rest) (marks_of_items n is ++ ms)
  items_lines d no_items n fit rest ms h = h
  items_lines d (one_item s is) n fit rest ms h =
      let more : AreLines (written_items (spaces n) n is ++ rest) (marks_of_items n is ++ ms) =
      items_lines d is n fit.1 rest ms h in
      item_step (spaces n) n [] (at_spaces n) (written_items (spaces n) n is) rest
      (marks_of_items n is) ms s
      (value_lines d s (spaces n ++ (45 ∷ 32 ∷ [])) (n + step)
      (dash n ∷ []) (behind_dash (spaces n) n [] (at_spaces n)) fit.0 (deeper_stands n s)
      (written_items (spaces n) n is ++ rest) (marks_of_items n is ++ ms) more) more

whole : (s : Spelling) → AreLines (written [] 0 s ++ []) (marks_at 0 s ++ [])
    → AreLines (writing 0 s) (marks_at 0 s)
whole s h = same_lines _ _ _ _ h (append-nil (written [] 0 s)) (append-nil (marks_at 0 s))

-- the whole text of a value that isn't plain
pub text_lines : (d : ℕ) (s : Spelling) → SpellingFits d s → is_word s ≡ false
    → AreLines (writing 0 s) (marks_at 0 s)
text_lines d (word text) fit e = absurd (false≢true (sym e))
text_lines d (quoted text) fit e =
    whole (quoted text) (value_lines d (quoted text) [] 0 [] (at_spaces 0) fit tt [] [] no_more)
text_lines d (fields fs) fit e =
    whole (fields fs) (value_lines d (fields fs) [] 0 [] (at_spaces 0) fit tt [] [] no_more)
text_lines d (items is) fit e =
    whole (items is) (value_lines d (items is) [] 0 [] (at_spaces 0) fit tt [] [] no_more)
