-- A value that is written stands for its node: its text is UTF-8 without a byte order mark, and its
-- lines have the node's marks.
use Rattle.std.proofs.Common.{◌≡◌, ℕ, zero, suc, ◌+◌, ◌<◌, ◌≤◌, Bool, true, false, List, [], ◌∷◌}
use Rattle.std.proofs.Common.{◌++◌, Option, Some, length, get_or, refl, sym, ap, ap₂, ◌∙◌, subst}
use Rattle.std.proofs.Common.{append_assoc, append-nil, arith, IsUtf8, inl, inr}
use Rattle.std.specs.Prelude.{◌&&◌, nat_lt, nat_eq}
use Rattle.std.specs.List.{list_all, flat_map, starts_with}
use Rattle.std.specs.Str.Lines.{lines}
use Rattle.std.proofs.lemmas.Bool.{false≢true, and_parts, cases_lt, cases_eq, ltb-true, ne_eqb}
use Rattle.std.proofs.lemmas.Str.{IsUtf8-append, IsUtf8-nil, IsUtf8-encode, encode_ascii}
use Rattle.std.proofs.lemmas.Str.{inside_one}
use lib.Utf8.{scalar, scalars, encode, encodes, low_scalar}
use Rattle.slo_limits.specs.declared.TheConstants.{MAX_TEXT_BYTES}
use Rattle.yaml_terms.specs.Tree.{Tree}
use Rattle.yaml_terms.specs.Profile.{max_depth}
use Rattle.yaml_terms.specs.Text.{nodes_of, without_mark, StandsFor}
use Rattle.yaml_terms.specs.Spelling.{Spelling, word, quoted, fields, items, Fields, no_fields}
use Rattle.yaml_terms.specs.Spelling.{field, Items, no_items, one_item, meant, escape_of}
use Rattle.yaml_terms.specs.Spelling.{in_quotes, key_text, spaces, step, gap_at_colon, gap_at_dash}
use Rattle.yaml_terms.specs.Spelling.{written, written_fields, written_items, writing, is_word}
use Rattle.yaml_terms.specs.SpellingFits.{SpellingFits, FitFields, FitItems, is_letter}
use Rattle.yaml_writing.proofs.WritingMarks.{marks_at, marks_own, kept, document_read}
use Rattle.yaml_writing.proofs.WritingBytes.{IsLetter, letter_is}
use Rattle.yaml_writing.proofs.WritingLines.{text_lines, lines_nodes}

-- UTF-8

ascii_then : (x : ℕ) (xs : List ℕ) → x < 128 → IsUtf8 xs → IsUtf8 (x ∷ xs)
ascii_then x xs small u = IsUtf8-append (x ∷ []) xs
    (subst IsUtf8 (encode_ascii x small) (IsUtf8-encode x (low_scalar x (omega arith)))) u

abbrev are_ascii : List ℕ → Bool
are_ascii [] = true
are_ascii (x ∷ xs) = nat_lt x 128 && are_ascii xs

ascii_utf8 : (xs : List ℕ) → are_ascii xs ≡ true → IsUtf8 xs
ascii_utf8 [] e = IsUtf8-nil
ascii_utf8 (x ∷ xs) e = let p : _ = and_parts (nat_lt x 128) (are_ascii xs) e in
    ascii_then x xs (ltb-true x 128 p.0) (ascii_utf8 xs p.1)

-- the escapes of the bytes below n are ASCII
abbrev escapes_below : ℕ → Bool
escapes_below zero = true
escapes_below (suc n) = are_ascii (escape_of n) && escapes_below n

escape_below : (n : ℕ) → escapes_below n ≡ true → (x : ℕ) → x < n → are_ascii (escape_of x) ≡ true
escape_below zero e x h = absurd (omega arith)
escape_below (suc n) e x h =
    let p : _ = and_parts (are_ascii (escape_of n)) (escapes_below n) e in
    elim (cases_eq x n) [ inl same ↦ rw same p.0 | inr other ↦ escape_below n p.1 x (omega arith) ]

all_ascii : escapes_below 128 ≡ true
all_ascii = refl

escapes-append : (xs ys : List ℕ)
    → flat_map escape_of (xs ++ ys) ≡ flat_map escape_of xs ++ flat_map escape_of ys
escapes-append [] ys = refl
escapes-append (x ∷ xs) ys = ap (λ (l : List ℕ). escape_of x ++ l) (escapes-append xs ys)
    ∙ sym (append_assoc (escape_of x) (flat_map escape_of xs) (flat_map escape_of ys))

escape_other : (c : ℕ) → 128 ≤ c → escape_of c ≡ c ∷ []
escape_other c h = rw (
  ne_eqb c 92 (λ e. omega arith),
  ne_eqb c 34 (λ e. omega arith),
  ne_eqb c 10 (λ e. omega arith),
  ne_eqb c 9 (λ e. omega arith),
) refl

-- bytes of other characters stay
escapes_high : (xs : List ℕ) → ((k : ℕ) → k < length xs → 128 ≤ get_or xs k 0)
    → flat_map escape_of xs ≡ xs
escapes_high [] h = refl
escapes_high (x ∷ xs) h =
    let high : 128 ≤ x = h 0 (omega arith) in
    ap₂ (λ (a b : List ℕ). a ++ b) (escape_other x high)
    (escapes_high xs (λ k below. h (suc k) (omega arith)))

one_char : (c : ℕ) → scalar c ≡ true → IsUtf8 (flat_map escape_of (encode c))
one_char c ok = elim (cases_lt c 128) [
  | inl small ↦ rw (encode_ascii c small, append-nil)
      (ascii_utf8 _ (escape_below 128 all_ascii c small))
  | inr big ↦
      let high : (k : ℕ) → k < length (encode c) → 128 ≤ get_or (encode c) k 0 =
      λ k below. elim (cases_lt (get_or (encode c) k 0) 128) [
        | inl low ↦ absurd (omega (
          arith,
          inside_one c [] (encode c) k (sym (append-nil _)) below low,
        ))
        | inr h ↦ h
      ] in
      subst IsUtf8 (sym (escapes_high (encode c) high)) (IsUtf8-encode c ok)
]

all_chars : (cs : List ℕ) → scalars cs ≡ true → IsUtf8 (flat_map escape_of (encodes cs))
all_chars [] e = IsUtf8-nil
all_chars (c ∷ cs) e =
    let p : _ = and_parts _ _ e in
    subst IsUtf8 (sym (escapes-append (encode c) (encodes cs)))
    (IsUtf8-append _ _ (one_char c p.0) (all_chars cs p.1))

quotes_utf8 : (text : List ℕ) → IsUtf8 text → IsUtf8 (in_quotes text)
quotes_utf8 text u = ascii_then 34 _ (omega arith) (IsUtf8-append _ _ (subst
    (λ l. IsUtf8 (flat_map escape_of l)) u.1.1 (all_chars u.0 u.1.0)) (ascii_utf8 (34 ∷ []) refl))

key_utf8 : (q : Bool) (k : List ℕ) → IsUtf8 k → IsUtf8 (key_text q k)
key_utf8 true k u = quotes_utf8 k u
key_utf8 false k u = u

spaces_utf8 : (n : ℕ) → IsUtf8 (spaces n)
spaces_utf8 zero = IsUtf8-nil
spaces_utf8 (suc n) = ascii_then 32 (spaces n) (omega arith) (spaces_utf8 n)

gap_utf8 : (n : ℕ) (s : Spelling) → IsUtf8 (gap_at_colon n s)
gap_utf8 n (word []) = IsUtf8-nil
gap_utf8 n (word (c ∷ cs)) = ascii_utf8 (32 ∷ []) refl
gap_utf8 n (quoted text) = ascii_utf8 (32 ∷ []) refl
gap_utf8 n (fields no_fields) = ascii_utf8 (32 ∷ []) refl
gap_utf8 n (fields (field q k s fs)) =
    ascii_then 10 (spaces (n + step)) (omega arith) (spaces_utf8 (n + step))
gap_utf8 n (items no_items) = ascii_utf8 (32 ∷ []) refl
gap_utf8 n (items (one_item s is)) =
    ascii_then 10 (spaces (n + step)) (omega arith) (spaces_utf8 (n + step))

dash_gap_utf8 : (s : Spelling) → IsUtf8 (gap_at_dash s)
dash_gap_utf8 (word []) = IsUtf8-nil
dash_gap_utf8 (word (c ∷ cs)) = ascii_utf8 (32 ∷ []) refl
dash_gap_utf8 (quoted text) = ascii_utf8 (32 ∷ []) refl
dash_gap_utf8 (fields fs) = ascii_utf8 (32 ∷ []) refl
dash_gap_utf8 (items is) = ascii_utf8 (32 ∷ []) refl

inline_utf8 : (lead text : List ℕ) → IsUtf8 lead → IsUtf8 text
    → IsUtf8 (lead ++ (text ++ (10 ∷ [])))
inline_utf8 lead text u v = IsUtf8-append lead (text ++ (10 ∷ [])) u
    (IsUtf8-append text (10 ∷ []) v (ascii_utf8 (10 ∷ []) refl))

mutual
  value_utf8 : (d : ℕ) (s : Spelling) (lead : List ℕ) (n : ℕ) → IsUtf8 lead → SpellingFits d s
      → IsUtf8 (written lead n s)
  value_utf8 zero (word text) lead n u fit = inline_utf8 lead text u fit.0
  value_utf8 (suc d) (word text) lead n u fit = inline_utf8 lead text u fit.0
  value_utf8 zero (quoted text) lead n u fit =
      inline_utf8 lead (in_quotes text) u (quotes_utf8 text fit.0)
  value_utf8 (suc d) (quoted text) lead n u fit =
      inline_utf8 lead (in_quotes text) u (quotes_utf8 text fit.0)
  value_utf8 d (fields no_fields) lead n u fit =
      IsUtf8-append lead (123 ∷ 125 ∷ 10 ∷ []) u (ascii_utf8 (123 ∷ 125 ∷ 10 ∷ []) refl)
  value_utf8 zero (fields (field q k s fs)) lead n u fit = absurd fit
  value_utf8 (suc d) (fields (field q k s fs)) lead n u fit =
      fields_utf8 d (field q k s fs) lead n u fit
  value_utf8 d (items no_items) lead n u fit =
      IsUtf8-append lead (91 ∷ 93 ∷ 10 ∷ []) u (ascii_utf8 (91 ∷ 93 ∷ 10 ∷ []) refl)
  value_utf8 zero (items (one_item s is)) lead n u fit = absurd fit
  value_utf8 (suc d) (items (one_item s is)) lead n u fit =
      items_utf8 d (one_item s is) lead n u fit

  fields_utf8 : (d : ℕ) (fs : Fields) (lead : List ℕ) (n : ℕ) → IsUtf8 lead → FitFields d fs
      → IsUtf8 (written_fields lead n fs)
  fields_utf8 d no_fields lead n u fit = IsUtf8-nil
  fields_utf8 d (field q k s fs) lead n u fit =
      IsUtf8-append lead _ u (IsUtf8-append (key_text q k) _ (key_utf8 q k fit.0.0)
      (ascii_then 58 _ (omega arith)
      (IsUtf8-append (written (gap_at_colon n s) (n + step) s) _ (value_utf8 d s (gap_at_colon n s)
      (n + step) (gap_utf8 n s) fit.2) (fields_utf8 d fs (spaces n) n (spaces_utf8 n) fit.3))))

  items_utf8 : (d : ℕ) (is : Items) (lead : List ℕ) (n : ℕ) → IsUtf8 lead → FitItems d is
      → IsUtf8 (written_items lead n is)
  items_utf8 d no_items lead n u fit = IsUtf8-nil
  items_utf8 d (one_item s is) lead n u fit =
      IsUtf8-append lead _ u (ascii_then 45 _ (omega arith)
      (IsUtf8-append (written (gap_at_dash s) (n + step) s) _ (value_utf8 d s (gap_at_dash s)
      (n + step) (dash_gap_utf8 s) fit.0) (items_utf8 d is (spaces n) n (spaces_utf8 n) fit.1)))

-- no text of a value that isn't plain begins with a byte order mark
starts_at : (d : ℕ) (s : Spelling) → SpellingFits d s → is_word s ≡ false
    → starts_with nat_eq (writing 0 s) (239 ∷ 187 ∷ 191 ∷ []) ≡ false
starts_at d (word text) fit e = absurd (false≢true (sym e))
starts_at d (quoted text) fit e = refl
starts_at d (fields no_fields) fit e = refl
starts_at zero (fields (field q k s fs)) fit e = absurd fit
starts_at (suc d) (fields (field true k s fs)) fit e = refl
starts_at (suc d) (fields (field false [] s fs)) fit e = absurd (false≢true fit.0.1)
starts_at (suc d) (fields (field false (c ∷ cs) s fs)) fit e = let l : IsLetter c =
    letter_is c (and_parts (is_letter c) (list_all is_letter cs) fit.0.1).0 in rw l.mark refl
starts_at d (items no_items) fit e = refl
starts_at d (items (one_item s is)) fit e = refl

no_mark : (s : Spelling) → SpellingFits max_depth s → is_word s ≡ false
    → without_mark (writing 0 s) ≡ writing 0 s
no_mark s fit e = rw (starts_at max_depth s fit e) refl

kept_whole : (s : Spelling) → is_word s ≡ false → kept s ≡ Some (meant s)
kept_whole (word text) e = absurd (false≢true (sym e))
kept_whole (quoted text) e = refl
kept_whole (fields fs) e = refl
kept_whole (items is) e = refl

-- THE LAW

-- the nodes of what is written, whatever its size
pub written_nodes : (s : Spelling) → SpellingFits max_depth s → is_word s ≡ false
    → nodes_of (lines (without_mark (writing 0 s))) ≡ Some (meant s ∷ [])
written_nodes s fit e = ap (λ (text : List ℕ). nodes_of (lines text)) (no_mark s fit e)
    ∙ lines_nodes (writing 0 s) (marks_at 0 s) (text_lines max_depth s fit e) (marks_own 0 s)
    ∙ document_read s fit (kept_whole s e)

-- what is written reads back
pub reads_back : (s : Spelling) → SpellingFits max_depth s → is_word s ≡ false
    → length (writing 0 s) ≤ MAX_TEXT_BYTES → StandsFor (writing 0 s) (meant s ∷ [])
reads_back s fit e small = record {
  small = small;
  utf8 = subst IsUtf8 (sym (no_mark s fit e)) (value_utf8 max_depth s [] 0 IsUtf8-nil fit);
  nodes = written_nodes s fit e;
}

some_same : (xs ys : List Tree) → ◌≡◌ {A = Option (List Tree)} (Some xs) (Some ys) → xs ≡ ys
some_same xs ys e = cc

-- a text stands for one list of nodes at most
pub stands_alone : (text : List ℕ) (xs ys : List Tree) → StandsFor text xs
    → StandsFor text ys → xs ≡ ys
stands_alone text xs ys h i = some_same xs ys (sym h.nodes ∙ i.nodes)

first_same : (x y : Tree) → ◌≡◌ {A = List Tree} (x ∷ []) (y ∷ []) → x ≡ y
first_same x y e = cc

-- values with one text are one node, whatever its size
pub told_apart : (s t : Spelling) → SpellingFits max_depth s → SpellingFits max_depth t
    → is_word s ≡ false
    → is_word t ≡ false → writing 0 s ≡ writing 0 t → meant s ≡ meant t
told_apart s t f g d e same =
    first_same (meant s) (meant t) (some_same (meant s ∷ []) (meant t ∷ [])
    (sym (written_nodes s f d) ∙ ap (λ (text : List ℕ). nodes_of (lines (without_mark text))) same
    ∙ written_nodes t g e))
