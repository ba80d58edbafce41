-- What the writer writes, step by step.
use Rattle.std.proofs.Common.{◌≡◌, ℕ, zero, suc, ◌+◌, ◌-◌, ◌*◌, ◌^◌, get_or, drop, append-nil, sym}
use Rattle.std.proofs.Common.{ap, ◌∙◌, ◌<◌, ◌≤◌, Bool, false, List, [], ◌∷◌, ◌++◌, length, cond}
use Rattle.std.proofs.Common.{Result, Ok, Err, OnOk, subst, refl, append_assoc, arith}
use Rattle.std.specs.Prelude.{◌==◌, not}
use Rattle.std.proofs.lemmas.Bool.Decides.{nat_tests}
use Rattle.std.proofs.lemmas.List.{drop_all, drop_more}
use Rattle.slo_limits.specs.declared.TheConstants.{MAX_TEXT_BYTES}
use Rattle.yaml_terms.specs.Spelling.{Spelling, word, quoted, fields, items, Fields, no_fields}
use Rattle.yaml_terms.specs.Spelling.{field, Items, no_items, one_item, key_text, spaces, step}
use Rattle.yaml_terms.specs.Spelling.{gap_at_colon, gap_at_dash, written, written_fields}
use Rattle.yaml_terms.specs.Spelling.{written_items, writing, is_word, meant, spelled}
use Rattle.yaml_terms.specs.Tree.{Tree}
use Rattle.yaml_terms.specs.Profile.{max_depth}
use Rattle.yaml_terms.specs.Text.{StandsFor}
use Rattle.yaml_terms.specs.SpellingFits.{SpellingFits, FitFields, FitItems, IsWritable}
use Rattle.yaml_terms.specs.SpellingView.{spelling_view, is_quoted, text_of, is_no_text, has_lines}
use Rattle.yaml_terms.specs.SpellingView.{fields_view, items_view}
use Rattle.yaml_terms.specs.declared.FieldKey.{FieldKey}
use Rattle.yaml_terms.specs.declared.Spelling.{Spelling as Written}
use Rattle.yaml_writing.proofs.WritingLines.{lead_first}
use Rattle.yaml_writing.proofs.Writing.{reads_back}
use Rattle.yaml_writing.proofs.SpellingLemmas.{spelled_meant}

pub lines-fields : (ps : List (FieldKey × Written))
    → has_lines (fields (fields_view ps)) ≡ not (length ps == 0)
lines-fields [] = refl
lines-fields (p ∷ ps) = let e : (length (p ∷ ps) == 0) ≡ false = grind (arith, nat_tests) in
    rw e refl

pub lines-items : (ss : List Written) → has_lines (items (items_view ss)) ≡ not (length ss == 0)
lines-items [] = refl
lines-items (s ∷ ss) = let e : (length (s ∷ ss) == 0) ≡ false = grind (arith, nat_tests) in
    rw e refl

pub gap-colon : (n : ℕ) (s : Spelling) → gap_at_colon n s
    ≡ cond (is_no_text s) [] (cond (has_lines s) (10 ∷ spaces (n + step)) (32 ∷ []))
gap-colon n (word []) = refl
gap-colon n (word (c ∷ cs)) = refl
gap-colon n (quoted text) = refl
gap-colon n (fields no_fields) = refl
gap-colon n (fields (field q k s fs)) = refl
gap-colon n (items no_items) = refl
gap-colon n (items (one_item s is)) = refl

pub gap-dash : (s : Spelling) → gap_at_dash s ≡ cond (is_no_text s) [] (32 ∷ [])
gap-dash (word []) = refl
gap-dash (word (c ∷ cs)) = refl
gap-dash (quoted text) = refl
gap-dash (fields fs) = refl
gap-dash (items is) = refl

-- maps and lists that fit have a level more
pub fits-fields : (d : ℕ) (ps : List (FieldKey × Written))
    → SpellingFits d (fields (fields_view ps))
    → (0 < d) × FitFields (d - 1) (fields_view ps)
fits-fields zero ps f = absurd f
fits-fields (suc d) ps f = let e : suc d - 1 ≡ d = omega arith in (omega arith, rw e f)

pub fits-items : (d : ℕ) (ss : List Written) → SpellingFits d (items (items_view ss))
    → (0 < d) × FitItems (d - 1) (items_view ss)
fits-items zero ss f = absurd f
fits-items (suc d) ss f = let e : suc d - 1 ≡ d = omega arith in (omega arith, rw e f)

-- a map's text, where it has fields and where it has none
pub text-fields : (n : ℕ) (ps : List (FieldKey × Written)) → 0 < length ps
    → written [] n (fields (fields_view ps)) ≡ written_fields [] n (fields_view ps)
text-fields n [] h = absurd (omega arith)
text-fields n (p ∷ ps) h = refl

pub text-no_fields : (n : ℕ) (ps : List (FieldKey × Written)) → length ps ≡ 0
    → written [] n (fields (fields_view ps)) ≡ 123 ∷ 125 ∷ 10 ∷ []
text-no_fields n [] h = refl
text-no_fields n (p ∷ ps) h = absurd (omega arith)

pub text-items : (n : ℕ) (ss : List Written) → 0 < length ss
    → written [] n (items (items_view ss)) ≡ written_items [] n (items_view ss)
text-items n [] h = absurd (omega arith)
text-items n (s ∷ ss) h = refl

pub text-no_items : (n : ℕ) (ss : List Written) → length ss ≡ 0
    → written [] n (items (items_view ss)) ≡ 91 ∷ 93 ∷ 10 ∷ []
text-no_items n [] h = refl
text-no_items n (s ∷ ss) h = absurd (omega arith)

-- one field more: what was written of it, and the fields behind it
pub field_more : (out : List ℕ) (lead n : ℕ) (q : Bool) (k : List ℕ) (s : Spelling) (fs : Fields)
    → (((((out ++ spaces lead) ++ key_text q k) ++ (58 ∷ [])) ++ gap_at_colon n s)
    ++ written [] (n + step) s) ++ written_fields (spaces n) n fs
    ≡ out ++ written_fields (spaces lead) n (field q k s fs)
field_more out lead n q k s fs = rw (lead_first (gap_at_colon n s) (n + step) s) (simp append_assoc)

pub item_more : (out : List ℕ) (lead n : ℕ) (s : Spelling) (is : Items)
    → ((((out ++ spaces lead) ++ (45 ∷ [])) ++ gap_at_dash s) ++ written [] (n + step) s)
    ++ written_items (spaces n) n is
    ≡ out ++ written_items (spaces lead) n (one_item s is)
item_more out lead n s is = rw (lead_first (gap_at_dash s) (n + step) s) (simp append_assoc)

pub some_there : (n : ℕ) → (n == 0) ≡ false → 0 < n
some_there n e = grind (arith, nat_tests)

-- what a call ensures where it succeeds
pub where_ok : {T E : Type 0} (r : Result T E) (P : Type 0) → P → OnOk r P
where_ok (Ok x) P h = h
where_ok (Err x) P h = tt

pub stands_alone : (n : ℕ) (s : Spelling) → SpellingFits max_depth s → n ≡ 0 → is_word s ≡ false
    → length (writing n s) ≤ MAX_TEXT_BYTES → StandsFor (writing n s) (meant s ∷ [])
stands_alone n s f z e small = rw z (reads_back s f e (rw z at small))

pub node_stands : (n : ℕ) (x : Tree) → IsWritable x → n ≡ 0 → is_word (spelled x) ≡ false
    → length (writing n (spelled x)) ≤ MAX_TEXT_BYTES → StandsFor (writing n (spelled x)) (x ∷ [])
node_stands n x f z e small = subst (λ (y : Tree). StandsFor (writing n (spelled x)) (y ∷ []))
    (spelled_meant x) (stands_alone n (spelled x) f z e small)

-- the fields from a place on, and the items
pub next_fields : (ps : List (FieldKey × Written)) (i : ℕ) (p : FieldKey × Written) → i < length ps
    → p ≡ get_or ps i p → fields_view (drop i ps) ≡ fields_view (p ∷ drop (i + 1) ps)
next_fields ps i p h e = ap fields_view
    (drop_more ps i p h ∙ ap (λ (x : FieldKey × Written). x ∷ drop (i + 1) ps) (sym e))

pub next_items : (ss : List Written) (i : ℕ) (s : Written) → i < length ss → s ≡ get_or ss i s
    → items_view (drop i ss) ≡ items_view (s ∷ drop (i + 1) ss)
next_items ss i s h e =
    ap items_view (drop_more ss i s h ∙ ap (λ (x : Written). x ∷ drop (i + 1) ss) (sym e))

pub fit_field : (d : ℕ) (ps : List (FieldKey × Written)) (i : ℕ) (p : FieldKey × Written)
    → i < length ps → p ≡ get_or ps i p → FitFields d (fields_view (drop i ps))
    → SpellingFits d (spelling_view p.1) × FitFields d (fields_view (drop (i + 1) ps))
fit_field d ps i p h e f = let all = subst (FitFields d) (next_fields ps i p h e) f in
    (all.2, all.3)

pub fit_item : (d : ℕ) (ss : List Written) (i : ℕ) (s : Written) → i < length ss → s ≡ get_or ss i s
    → FitItems d (items_view (drop i ss))
    → SpellingFits d (spelling_view s) × FitItems d (items_view (drop (i + 1) ss))
fit_item d ss i s h e f = subst (FitItems d) (next_items ss i s h e) f

-- one field is written after those before it
pub field_written : (o a b c e f all : List ℕ) (lead n : ℕ) (ps : List (FieldKey × Written)) (i : ℕ)
    (p : FieldKey × Written) → i < length ps → p ≡ get_or ps i p
    → o ++ written_fields (spaces lead) n (fields_view (drop i ps)) ≡ all → a ≡ o ++ spaces lead
    → b ≡ a ++ key_text (is_quoted p.0) (text_of p.0) → c ≡ b ++ (58 ∷ [])
    → e ≡ c ++ gap_at_colon n (spelling_view p.1)
    → f ≡ e ++ written [] (n + step) (spelling_view p.1)
    → f ++ written_fields (spaces n) n (fields_view (drop (i + 1) ps)) ≡ all
field_written o a b c e f all lead n ps i p h is so to_a to_b to_c to_e to_f =
    let s = spelling_view p.1 in
    let to_end : f ≡ ((((o ++ spaces lead) ++ key_text (is_quoted p.0) (text_of p.0)) ++ (58 ∷ []))
    ++ gap_at_colon n s) ++ written [] (n + step) s =
    to_f ∙ ap (λ (t : List ℕ). t ++ written [] (n + step) s) (to_e
    ∙ ap (λ (t : List ℕ). t ++ gap_at_colon n s) (to_c ∙ ap (λ (t : List ℕ). t ++ (58 ∷ []))
    (to_b ∙ ap (λ (t : List ℕ). t ++ key_text (is_quoted p.0) (text_of p.0)) to_a))) in
    ap (λ (t : List ℕ). t ++ written_fields (spaces n) n (fields_view (drop (i + 1) ps))) to_end
    ∙ field_more o lead n (is_quoted p.0) (text_of p.0) s (fields_view (drop (i + 1) ps))
    ∙ ap (λ (fs : Fields). o ++ written_fields (spaces lead) n fs) (sym (next_fields ps i p h is))
    ∙ so

pub item_written : (o a b c e all : List ℕ) (lead n : ℕ) (ss : List Written) (i : ℕ) (w : Written)
    → i < length ss → w ≡ get_or ss i w
    → o ++ written_items (spaces lead) n (items_view (drop i ss)) ≡ all → a ≡ o ++ spaces lead
    → b ≡ a ++ (45 ∷ []) → c ≡ b ++ gap_at_dash (spelling_view w)
    → e ≡ c ++ written [] (n + step) (spelling_view w)
    → e ++ written_items (spaces n) n (items_view (drop (i + 1) ss)) ≡ all
item_written o a b c e all lead n ss i w h is so to_a to_b to_c to_e =
    let s = spelling_view w in
    let to_end : e ≡ (((o ++ spaces lead) ++ (45 ∷ [])) ++ gap_at_dash s)
    ++ written [] (n + step) s =
    to_e ∙ ap (λ (t : List ℕ). t ++ written [] (n + step) s) (to_c ∙ ap
    (λ (t : List ℕ). t ++ gap_at_dash s) (to_b ∙ ap (λ (t : List ℕ). t ++ (45 ∷ [])) to_a)) in
    ap (λ (t : List ℕ). t ++ written_items (spaces n) n (items_view (drop (i + 1) ss))) to_end
    ∙ item_more o lead n s (items_view (drop (i + 1) ss))
    ∙ ap (λ (is : Items). o ++ written_items (spaces lead) n is) (sym (next_items ss i w h is)) ∙ so

pub no_fields_left : (o all : List ℕ) (lead n : ℕ) (ps qs : List (FieldKey × Written)) (i : ℕ)
    → length ps ≤ i → ps ≡ qs
    → o ++ written_fields (spaces lead) n (fields_view (drop i ps)) ≡ all
    ++ written_fields [] n (fields_view ps) → o ≡ all ++ written_fields [] n (fields_view qs)
no_fields_left o all lead n ps qs i h same so =
    sym (append-nil o) ∙ ap (λ (l : List (FieldKey × Written)). o
    ++ written_fields (spaces lead) n (fields_view l)) (sym (drop_all i ps h)) ∙ so
    ∙ ap (λ (l : List (FieldKey × Written)). all ++ written_fields [] n (fields_view l)) same

pub no_items_left : (o all : List ℕ) (lead n : ℕ) (ss rs : List Written) (i : ℕ)
    → length ss ≤ i → ss ≡ rs
    → o ++ written_items (spaces lead) n (items_view (drop i ss)) ≡ all
    ++ written_items [] n (items_view ss) → o ≡ all ++ written_items [] n (items_view rs)
no_items_left o all lead n ss rs i h same so =
    sym (append-nil o) ∙ ap (λ (l : List Written). o
    ++ written_items (spaces lead) n (items_view l)) (sym (drop_all i ss h)) ∙ so
    ∙ ap (λ (l : List Written). all ++ written_items [] n (items_view l)) same

-- two columns deeper there is room for one level fewer
pub two_deeper : (column levels : ℕ) → column + 2 * levels + 2 ≤ 2 ^ 33
    → column + 2 + 2 * levels ≤ 2 ^ 33
two_deeper column levels h = omega arith

pub column_below : (column levels : ℕ) → column + 2 * levels + 2 ≤ 2 ^ 33 → column ≤ 2 ^ 33
column_below column levels h = omega arith
