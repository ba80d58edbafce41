-- The length of a writing, step by step.
use Rattle.std.proofs.Common.{◌≡◌, ◌≤◌, ◌<◌, ◌+◌, ◌-◌, ◌==◌, ◌||◌, ℕ, Bool, true, false, List, []}
use Rattle.std.proofs.Common.{◌∷◌, ◌++◌, Option, Some, None, cond, nat_le, length, drop, get_or}
use Rattle.std.proofs.Common.{refl}
use Rattle.std.proofs.Common.{sym, ap, ◌∙◌, arith}
use Rattle.std.specs.Option.{is_some}
use Rattle.std.specs.List.{count_by, flat_map}
use Rattle.std.proofs.lemmas.Bool.Decides.{nat_tests}
use Rattle.std.proofs.lemmas.List.Sums.{sum_by-cons}
use Rattle.std.proofs.lemmas.List.{length-append, length-replicate, drop_all}
use Rattle.yaml_terms.specs.Spelling.{Spelling, word, quoted, Fields, field, Items, one_item}
use Rattle.yaml_terms.specs.Spelling.{escape_of, in_quotes}
use Rattle.yaml_terms.specs.Spelling.{key_text, spaces, step, gap_at_colon, gap_at_dash, written}
use Rattle.yaml_terms.specs.Spelling.{written_fields, written_items, writing}
use Rattle.yaml_terms.specs.Room.{is_escaped, room_behind, up_to}
use Rattle.yaml_terms.specs.SpellingView.{spelling_view, is_quoted, text_of, fields_view}
use Rattle.yaml_terms.specs.SpellingView.{items_view}
use Rattle.yaml_terms.specs.declared.FieldKey.{FieldKey}
use Rattle.yaml_terms.specs.declared.Spelling.{Spelling as Written}
use Rattle.yaml_writing.proofs.WritingLines.{lead_first}
use Rattle.yaml_writing.proofs.WriteLemmas.{field_more, item_more, next_fields, next_items}

-- the room behind two parts
pub behind_both : (o : Option ℕ) (a b : ℕ)
    → room_behind (room_behind o a) b ≡ room_behind o (a + b)
behind_both None a b = refl
behind_both (Some r) a b = by (nat_le a r) refl
  where
    both : (x y : Bool) → nat_le b (r - a) ≡ x → nat_le (a + b) r ≡ y → nat_le a r ≡ true
        → cond x (Some (r - a - b)) None ≡ cond y (Some (r - (a + b))) None
    both true true e f g = ap (λ (n : ℕ). Some n) (omega arith)
    both false false e f g = refl
    both true false e f g = absurd (grind (arith, nat_tests))
    both false true e f g = absurd (grind (arith, nat_tests))

    none : (y : Bool) → nat_le (a + b) r ≡ y → nat_le a r ≡ false
        → None ≡ cond y (Some (r - (a + b))) None
    none false e f = refl
    none true e f = absurd (grind (arith, nat_tests))

    by : (x : Bool) → nat_le a r ≡ x → room_behind (cond x (Some (r - a)) None) b
        ≡ cond (nat_le (a + b) r) (Some (r - (a + b))) None
    by true e = both (nat_le b (r - a)) (nat_le (a + b) r) refl refl e
    by false e = none (nat_le (a + b) r) refl e

behind_none : (o : Option ℕ) → room_behind o 0 ≡ o
behind_none None = refl
behind_none (Some r) = by (nat_le 0 r) refl
  where
    by : (b : Bool) → nat_le 0 r ≡ b → cond b (Some (r - 0)) None ≡ Some r
    by true e = ap (λ (n : ℕ). Some n) (omega arith)
    by false e = absurd (grind (arith, nat_tests))

some_same : (a b : ℕ) → Some a ≡ Some b → a ≡ b
some_same a b e = cc e

escape_length : (c : ℕ) → length (escape_of c) ≡ 1 + cond (is_escaped c) 1 0
escape_length c = by (c == 92) (c == 34) (c == 10) (c == 9)
  where
    by : (p q r s : Bool) → length (cond p (92 ∷ 92 ∷ []) (cond q (92 ∷ 34 ∷ [])
        (cond r (92 ∷ 110 ∷ []) (cond s (92 ∷ 116 ∷ []) (c ∷ [])))))
        ≡ 1 + cond (p || q || r || s) 1 0
    by true q r s = refl
    by false true r s = refl
    by false false true s = refl
    by false false false true = refl
    by false false false false = refl

escaped_length : (text : List ℕ)
    → length (flat_map escape_of text) ≡ length text + count_by is_escaped text
escaped_length [] = refl
escaped_length (c ∷ cs) =
    let text : length (flat_map escape_of (c ∷ cs))
    ≡ length (escape_of c ++ flat_map escape_of cs) =
    refl in
    let count : count_by is_escaped (c ∷ cs) ≡ cond (is_escaped c) 1 0 + count_by is_escaped cs =
    sum_by-cons (λ x. cond (is_escaped x) 1 0) c cs in
    omega (
      arith,
      text,
      count,
      length-append (escape_of c) (flat_map escape_of cs),
      escape_length c,
      escaped_length cs,
    )

quoted_length : (text : List ℕ)
    → 2 + length text + count_by is_escaped text ≡ length (in_quotes text)
quoted_length text = omega (
  arith,
  length-append (flat_map escape_of text) (34 ∷ []),
  escaped_length text,
)

pub behind_quotes : (o : Option ℕ) (text : List ℕ)
    → room_behind (room_behind (room_behind o 2) (length text)) (count_by is_escaped text)
    ≡ room_behind o (length (in_quotes text))
behind_quotes o text =
    ap (λ (p : Option ℕ). room_behind p (count_by is_escaped text)) (behind_both o 2 (length text))
    ∙ behind_both o (2 + length text) (count_by is_escaped text)
    ∙ ap (room_behind o) (quoted_length text)

-- scalars
pub word_room : (o a b : Option ℕ) (bytes text : List ℕ) (s : Spelling) (n : ℕ) → bytes ≡ text
    → s ≡ word text → a ≡ room_behind o (length bytes) → b ≡ room_behind a 1
    → b ≡ room_behind o (length (written [] n s))
word_room o a b bytes text s n e is to_a to_b = to_b ∙ ap (λ (p : Option ℕ). room_behind p 1) to_a
    ∙ behind_both o (length bytes) 1
    ∙ ap (λ (l : List ℕ). room_behind o (length l + 1)) e
    ∙ ap (room_behind o) (sym (length-append text (10 ∷ [])))
    ∙ ap (λ (t : Spelling). room_behind o (length (written [] n t))) (sym is)

pub quoted_room : (o a b : Option ℕ) (bytes text : List ℕ) (s : Spelling) (n : ℕ) → bytes ≡ text
    → s ≡ quoted text → a ≡ room_behind o (length (in_quotes bytes)) → b ≡ room_behind a 1
    → b ≡ room_behind o (length (written [] n s))
quoted_room o a b bytes text s n e is to_a to_b = to_b ∙ ap (λ (p : Option ℕ). room_behind p 1) to_a
    ∙ behind_both o (length (in_quotes bytes)) 1
    ∙ ap (λ (l : List ℕ). room_behind o (length (in_quotes l) + 1)) e
    ∙ ap (room_behind o) (sym (length-append (in_quotes text) (10 ∷ [])))
    ∙ ap (λ (t : Spelling). room_behind o (length (written [] n t))) (sym is)

-- one entry more
six_parts : (a b c d e f : List ℕ) → length (((((a ++ b) ++ c) ++ d) ++ e) ++ f)
    ≡ length a + (length b + (length c + (length d + (length e + length f))))
six_parts a b c d e f = omega (
  arith,
  length-append ((((a ++ b) ++ c) ++ d) ++ e) f,
  length-append (((a ++ b) ++ c) ++ d) e,
  length-append ((a ++ b) ++ c) d,
  length-append (a ++ b) c,
  length-append a b,
)

field_length : (lead n : ℕ) (q : Bool) (k : List ℕ) (s : Spelling) (fs : Fields)
    → length (written_fields (spaces lead) n (field q k s fs))
    ≡ lead + (length (key_text q k) + (1 + (length (gap_at_colon n s)
    + (length (written [] (n + step) s) + length (written_fields (spaces n) n fs)))))
field_length lead n q k s fs = sym (ap length (field_more [] lead n q k s fs))
    ∙ six_parts (spaces lead) (key_text q k) (58 ∷ []) (gap_at_colon n s) (written [] (n + step) s)
    (written_fields (spaces n) n fs)
    ∙ ap (λ (k' : ℕ). k' + (length (key_text q k) + (1 + (length (gap_at_colon n s)
    + (length (written [] (n + step) s) + length (written_fields (spaces n) n fs))))))
    (length-replicate lead 32)

item_length : (lead n : ℕ) (s : Spelling) (is : Items)
    → length (written_items (spaces lead) n (one_item s is))
    ≡ lead + (1 + (length (gap_at_dash s)
    + (length (written [] (n + step) s) + length (written_items (spaces n) n is))))
item_length lead n s is = omega (
  arith,
  ap length (item_more [] lead n s is),
  length-append (((spaces lead ++ (45 ∷ [])) ++ gap_at_dash s) ++ written [] (n + step) s)
      (written_items (spaces n) n is),
  length-append ((spaces lead ++ (45 ∷ [])) ++ gap_at_dash s) (written [] (n + step) s),
  length-append (spaces lead ++ (45 ∷ [])) (gap_at_dash s),
  length-append (spaces lead) (45 ∷ []),
  length-replicate {A = ℕ} lead 32,
)

-- room behind one part after another
then_room : (o a : Option ℕ) (m k : ℕ) → a ≡ room_behind o m
    → room_behind a k ≡ room_behind o (m + k)
then_room o a m k e = ap (λ (p : Option ℕ). room_behind p k) e ∙ behind_both o m k

pub field_room : (o a b c d f all : Option ℕ) (lead n gap : ℕ) (ps : List (FieldKey × Written))
    (i : ℕ) (p : FieldKey × Written) → i < length ps → p ≡ get_or ps i p
    → room_behind o (length (written_fields (spaces lead) n (fields_view (drop i ps)))) ≡ all
    → a ≡ room_behind o lead → b ≡ room_behind a (length (key_text (is_quoted p.0) (text_of p.0)))
    → c ≡ room_behind b 1 → gap ≡ length (gap_at_colon n (spelling_view p.1))
    → d ≡ room_behind c gap
    → f ≡ room_behind d (length (written [] (n + step) (spelling_view p.1)))
    → room_behind f (length (written_fields (spaces n) n (fields_view (drop (i + 1) ps)))) ≡ all
field_room o a b c d f all lead n gap ps i p h is so to_a to_b to_c gap_is to_d to_f =
    let s = spelling_view p.1 in
    let key = length (key_text (is_quoted p.0) (text_of p.0)) in
    let value = length (written [] (n + step) s) in
    let rest = length (written_fields (spaces n) n (fields_view (drop (i + 1) ps))) in
    then_room d f value rest to_f ∙ then_room c d gap (value + rest) to_d
    ∙ then_room b c 1 (gap + (value + rest)) to_c
    ∙ then_room a b key (1 + (gap + (value + rest))) to_b
    ∙ then_room o a lead (key + (1 + (gap + (value + rest)))) to_a
    ∙ ap (λ (g : ℕ). room_behind o (lead + (key + (1 + (g + (value + rest)))))) gap_is
    ∙ ap (room_behind o) (sym (field_length lead n (is_quoted p.0) (text_of p.0) s
    (fields_view (drop (i + 1) ps))))
    ∙ ap (λ (fs : Fields). room_behind o (length (written_fields (spaces lead) n fs)))
    (sym (next_fields ps i p h is))
    ∙ so

pub item_room : (o a b c f all : Option ℕ) (lead n gap : ℕ) (ss : List Written) (i : ℕ)
    (w : Written) → i < length ss → w ≡ get_or ss i w
    → room_behind o (length (written_items (spaces lead) n (items_view (drop i ss)))) ≡ all
    → a ≡ room_behind o lead → b ≡ room_behind a 1
    → gap ≡ length (gap_at_dash (spelling_view w)) → c ≡ room_behind b gap
    → f ≡ room_behind c (length (written [] (n + step) (spelling_view w)))
    → room_behind f (length (written_items (spaces n) n (items_view (drop (i + 1) ss)))) ≡ all
item_room o a b c f all lead n gap ss i w h is so to_a to_b gap_is to_c to_f =
    let s = spelling_view w in
    let value = length (written [] (n + step) s) in
    let rest = length (written_items (spaces n) n (items_view (drop (i + 1) ss))) in
    then_room c f value rest to_f ∙ then_room b c gap (value + rest) to_c
    ∙ then_room a b 1 (gap + (value + rest)) to_b
    ∙ then_room o a lead (1 + (gap + (value + rest))) to_a
    ∙ ap (λ (g : ℕ). room_behind o (lead + (1 + (g + (value + rest))))) gap_is
    ∙ ap (room_behind o) (sym (item_length lead n s (items_view (drop (i + 1) ss))))
    ∙ ap (λ (is : Items). room_behind o (length (written_items (spaces lead) n is)))
    (sym (next_items ss i w h is))
    ∙ so

-- no room stays none
pub none_left : (o all : Option ℕ) (k : ℕ) → is_some o ≡ false → room_behind o k ≡ all → None ≡ all
none_left None all k e so = so
none_left (Some r) all k e so = absurd (cc e)

pub no_fields_more : (o all : Option ℕ) (lead n : ℕ) (ps : List (FieldKey × Written)) (i : ℕ)
    → length ps ≤ i
    → room_behind o (length (written_fields (spaces lead) n (fields_view (drop i ps)))) ≡ all
    → o ≡ all
no_fields_more o all lead n ps i h so = sym (behind_none o)
    ∙ ap (λ (l : List (FieldKey × Written)). room_behind o
    (length (written_fields (spaces lead) n (fields_view l)))) (sym (drop_all i ps h)) ∙ so

pub no_items_more : (o all : Option ℕ) (lead n : ℕ) (ss : List Written) (i : ℕ)
    → length ss ≤ i
    → room_behind o (length (written_items (spaces lead) n (items_view (drop i ss)))) ≡ all
    → o ≡ all
no_items_more o all lead n ss i h so = sym (behind_none o)
    ∙ ap (λ (l : List Written). room_behind o
    (length (written_items (spaces lead) n (items_view l)))) (sym (drop_all i ss h)) ∙ so

-- the whole: a lead of spaces, and the value
whole_length : (n : ℕ) (s : Spelling) → n + length (written [] n s) ≡ length (writing n s)
whole_length n s = sym (ap length (lead_first (spaces n) n s)
    ∙ length-append (spaces n) (written [] n s)
    ∙ ap (λ (k : ℕ). k + length (written [] n s)) (length-replicate n 32))

pub whole_room : (most n : ℕ) (s : Spelling) (o r : Option ℕ) → o ≡ room_behind (Some most) n
    → r ≡ room_behind o (length (written [] n s))
    → r ≡ room_behind (Some most) (length (writing n s))
whole_room most n s o r to_o to_r = to_r ∙ then_room (Some most) o n (length (written [] n s)) to_o
    ∙ ap (room_behind (Some most)) (whole_length n s)

pub counted : (most k left : ℕ) → Some left ≡ room_behind (Some most) k
    → (left ≤ most) × (up_to most k ≡ Some (most - left))
counted most k left = by (nat_le k most) refl
  where
    by : (b : Bool) → nat_le k most ≡ b → Some left ≡ cond b (Some (most - k)) None
        → (left ≤ most) × (cond b (Some k) None ≡ Some (most - left))
    by true e f = let same : left ≡ most - k = some_same left (most - k) f in
        let few : k ≤ most = grind (arith, nat_tests) in
        (omega (arith, same, few), ap (λ (n : ℕ). Some n) (omega (arith, same, few)))
    by false e f = absurd (cc f)

pub above : (most k : ℕ) → None ≡ room_behind (Some most) k → None ≡ up_to most k
above most k = by (nat_le k most)
  where
    by : (b : Bool) → None ≡ cond b (Some (most - k)) None → None ≡ cond b (Some k) None
    by true e = absurd (cc e)
    by false e = refl
