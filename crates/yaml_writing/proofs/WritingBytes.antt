-- What stands on a line reads back what was written there: texts in double quotes, plain
-- texts, and keys.
use Rattle.std.proofs.Common.{◌≡◌, ℕ, suc, ◌+◌, ◌-◌, ◌<◌, Bool, true, false, List, [], ◌∷◌, ◌++◌}
use Rattle.std.proofs.Common.{Option, Some, None, cond, length, take, drop, get_or, reverse}
use Rattle.std.proofs.Common.{option_map, refl, sym, ap, ◌∙◌, append_assoc, arith, length-append}
use Rattle.std.specs.Prelude.{◌==◌, ◌&&◌, ◌||◌, nat_lt, nat_eq, not, slice_index}
use Rattle.std.specs.List.{list_all, prefix_len, flat_map}
use Rattle.std.proofs.lemmas.Bool.{false≢true, and_parts, or_parts, or_from, not-true, agree_below}
use Rattle.std.proofs.lemmas.Bool.{agree_below_at, eqb-true}
use Rattle.std.proofs.lemmas.Bool.Decides.{nat_tests}
use Rattle.std.proofs.lemmas.List.{take_all, get_or-reverse}
use Rattle.std.proofs.lemmas.List.Sums.{AllPass-from_list_all}
use Rattle.std.proofs.Math.Seq.{take-append_seam}
use Rattle.yaml_terms.specs.Tree.{Tree, mapping, sequence, scalar, no_entries, no_trees}
use Rattle.yaml_terms.specs.Mark.{key, value, dash}
use Rattle.yaml_terms.specs.Block.{is_space, is_blank_byte, trimmed_text}
use Rattle.yaml_terms.specs.Quoted.{Quoted, with_byte, double}
use Rattle.yaml_terms.specs.Flow.{is_indicator, is_soft_indicator}
use Rattle.yaml_terms.specs.declared.ProfileFault.TheVariants.{Colon}
use Rattle.yaml_terms.specs.Line.{tab_fault, is_marker, Line, one_mark, no_marks, with_mark}
use Rattle.yaml_terms.specs.Line.{with_fault, Key, is_control, has_control, ends_word, is_tail}
use Rattle.yaml_terms.specs.Line.{is_plain_start, stops_plain, plain_len, plain_value, is_quote}
use Rattle.yaml_terms.specs.Line.{inline_value, quoted_key, plain_key, plain_key_fault, key_of}
use Rattle.yaml_terms.specs.Line.{behind_colon, entry_or_value, content}
use Rattle.yaml_terms.specs.Spelling.{escape_of, in_quotes, key_text}
use Rattle.yaml_terms.specs.SpellingFits.{is_quotable, is_plain, is_letter, is_key_text}

-- DOUBLE QUOTES

abbrev quoted_with : List ℕ → ℕ → Option Quoted
quoted_with t n = Some (record { text = t; length = n; bad = false })

quoted_same : (t u : List ℕ) (n m : ℕ) → t ≡ u → n ≡ m → quoted_with t n ≡ quoted_with u m
quoted_same t u n m e f = rw (e, f) refl

double_other : (c : ℕ) (xs : List ℕ) → 0 < length xs → (c == 34) ≡ false → (c == 92) ≡ false
    → double (c ∷ xs) ≡ option_map (with_byte c 1) (double xs)
double_other c [] h e f = absurd (omega arith)
double_other c (d ∷ xs) h e f = rw (e, f) refl

-- one more byte of the text, which is escaped where it has to be
double_step : (c : ℕ) (xs t rest : List ℕ)
    → 0 < length xs → double xs ≡ quoted_with t (length rest + 1)
    → double (escape_of c ++ xs) ≡ quoted_with (c ∷ t) (length (escape_of c ++ rest) + 1)
double_step c xs t rest some h = by_test (c == 92) (c == 34) (c == 10) (c == 9) refl refl refl refl
  where
    by_test : (p q r s : Bool) → (c == 92) ≡ p → (c == 34) ≡ q → (c == 10) ≡ r → (c == 9) ≡ s
        → double (cond p (92 ∷ 92 ∷ []) (cond q (92 ∷ 34 ∷ [])
        (cond r (92 ∷ 110 ∷ []) (cond s (92 ∷ 116 ∷ []) (c ∷ [])))) ++ xs)
        ≡ quoted_with (c ∷ t) (length (cond p (92 ∷ 92 ∷ []) (cond q (92 ∷ 34 ∷ [])
        (cond r (92 ∷ 110 ∷ []) (cond s (92 ∷ 116 ∷ []) (c ∷ [])))) ++ rest) + 1)
    by_test true q r s e f g i =
        rw (h, eqb-true c 92 e) (quoted_same (92 ∷ t) (92 ∷ t) _ _ refl (omega arith))
    by_test false true r s e f g i =
        rw (h, eqb-true c 34 f) (quoted_same (34 ∷ t) (34 ∷ t) _ _ refl (omega arith))
    by_test false false true s e f g i =
        rw (h, eqb-true c 10 g) (quoted_same (10 ∷ t) (10 ∷ t) _ _ refl (omega arith))
    by_test false false false true e f g i =
        rw (h, eqb-true c 9 i) (quoted_same (9 ∷ t) (9 ∷ t) _ _ refl (omega arith))
    by_test false false false false e f g i = double_other c xs some f e
        ∙ rw h (quoted_same (c ∷ t) (c ∷ t) _ _ refl (omega arith))

ends_somewhere : (xs : List ℕ) (c : ℕ) (rest : List ℕ) → 0 < length (xs ++ (c ∷ rest))
ends_somewhere xs c rest = omega (arith, length-append xs (c ∷ rest))

-- the escapes of a text read as the text, up to the quote that ends it
pub double_read : (t rest : List ℕ) → double (flat_map escape_of t ++ (34 ∷ rest))
    ≡ quoted_with t (length (flat_map escape_of t) + 1)
double_read [] [] = refl
double_read [] (c ∷ rest) = refl
double_read (c ∷ t) rest = ap double (append_assoc (escape_of c) (flat_map escape_of t) (34 ∷ rest))
    ∙ double_step c (flat_map escape_of t ++ (34 ∷ rest)) t (flat_map escape_of t)
    (ends_somewhere (flat_map escape_of t) 34 rest) (double_read t rest)

drop_past : (xs : List ℕ) (c : ℕ) (rest : List ℕ) → drop (length xs + 1) (xs ++ (c ∷ rest)) ≡ rest
drop_past [] c rest = refl
drop_past (x ∷ xs) c rest = let e : suc (length xs) + 1 ≡ suc (length xs + 1) = omega arith in
    ap (λ (n : ℕ). drop n (x ∷ (xs ++ (c ∷ rest)))) e ∙ drop_past xs c rest

pub quotes_value : (n : ℕ) (t : List ℕ)
    → inline_value n (in_quotes t) ≡ one_mark (value n (scalar t false)) None
quotes_value n t = rw (double_read t [], drop_past (flat_map escape_of t) 34 []) refl

no_key : (cs : List ℕ) (q : Quoted) → drop q.length cs ≡ [] → quoted_key cs (Some q) ≡ None
no_key cs q e = rw e refl

pub quotes_content : (n : ℕ) (t : List ℕ)
    → content n (in_quotes t) ≡ one_mark (value n (scalar t false)) None
quotes_content n t =
    ap (entry_or_value n (in_quotes t))
    (ap (quoted_key (flat_map escape_of t ++ (34 ∷ []))) (double_read t [])
    ∙ no_key (flat_map escape_of t ++ (34 ∷ []))
    (record { text = t; length = length (flat_map escape_of t) + 1; bad = false })
    (drop_past (flat_map escape_of t) 34 []))
    ∙ quotes_value n t

-- PLAIN TEXTS

prefix_none : (test : ℕ → Bool) (xs : List ℕ) → test (slice_index xs 0) ≡ false
    → prefix_len test xs ≡ 0
prefix_none test [] e = refl
prefix_none test (x ∷ xs) e = rw e refl

-- nothing is trimmed from a text whose last byte stays
trimmed_whole : (test : ℕ → Bool) (c : ℕ) (cs : List ℕ)
    → test (slice_index (c ∷ cs) (length cs)) ≡ false → trimmed_text test (c ∷ cs) ≡ c ∷ cs
trimmed_whole test c cs e =
    let last : slice_index (reverse (c ∷ cs)) 0 ≡ slice_index (c ∷ cs) (length cs) =
    get_or-reverse (c ∷ cs) 0 0 (omega arith)
    ∙ ap (λ (n : ℕ). get_or (c ∷ cs) n 0) (omega arith) in
    let none : prefix_len test (reverse (c ∷ cs)) ≡ 0 =
    prefix_none test (reverse (c ∷ cs)) (ap test last ∙ e) in
    ap (λ (n : ℕ). take (length (c ∷ cs) - n) (c ∷ cs)) none
    ∙ take_all (length (c ∷ cs) - 0) (c ∷ cs) (omega arith)

-- a byte that fails a test is not one that passes it
pub differs : (test : ℕ → Bool) (c d : ℕ) → test c ≡ false → test d ≡ true → (c == d) ≡ false
differs test c d e f = by_test (c == d) refl
  where
    by_test : (b : Bool) → (c == d) ≡ b → b ≡ false
    by_test false g = refl
    by_test true g = sym f ∙ ap test (sym (eqb-true c d g)) ∙ e

no_quote : (c : ℕ) → is_indicator c ≡ false → is_quote c ≡ false
no_quote c e = rw (differs is_indicator c 39 e refl, differs is_indicator c 34 e refl) refl

no_dash : (c : ℕ) (cs : List ℕ) → (not (is_soft_indicator c) || not (ends_word cs)) ≡ true
    → ((c == 45) && ends_word cs) ≡ false
no_dash c cs h = by_test (c == 45) (ends_word cs) refl refl
  where
    by_test : (p q : Bool) → (c == 45) ≡ p → ends_word cs ≡ q → (p && q) ≡ false
    by_test false q e f = refl
    by_test true false e f = refl
    by_test true true e f = let g : c ≡ 45 = eqb-true c 45 e in sym (rw (g, f) at h)

index_at_end : (xs : List ℕ) → slice_index xs (length xs) ≡ 0
index_at_end [] = refl
index_at_end (x ∷ xs) = index_at_end xs

plain_key_none : (xs : List ℕ) → plain_len xs ≡ length xs → plain_key xs ≡ None
plain_key_none xs e = rw (e, index_at_end xs) refl

plain_value_at : (n : ℕ) (t : List ℕ) → plain_len t ≡ length t → trimmed_text is_blank_byte t ≡ t
    → plain_value n t ≡ one_mark (value n (scalar t true)) None
plain_value_at n t e f = rw (e, index_at_end t, take_all (length t) t (omega arith), f) refl

plain_value_whole : (n c : ℕ) (cs : List ℕ) → plain_len (c ∷ cs) ≡ length (c ∷ cs)
    → is_blank_byte (slice_index (c ∷ cs) (length cs)) ≡ false
    → plain_value n (c ∷ cs) ≡ one_mark (value n (scalar (c ∷ cs) true)) None
plain_value_whole n c cs e f = plain_value_at n (c ∷ cs) e (trimmed_whole is_blank_byte c cs f)

-- what a plain text is known for
pub record IsWord (c : ℕ) (cs : List ℕ) : Type 0 where
  pub blank : is_blank_byte c ≡ false
  pub indicator : is_indicator c ≡ false
  pub soft : (not (is_soft_indicator c) || not (ends_word cs)) ≡ true
  pub whole : plain_len (c ∷ cs) ≡ length (c ∷ cs)
  pub last : is_blank_byte (slice_index (c ∷ cs) (length cs)) ≡ false
  pub control : has_control (c ∷ cs) ≡ false

pub word_is : (c : ℕ) (cs : List ℕ) → is_plain (c ∷ cs) ≡ true → IsWord c cs
word_is c cs e =
    let a : _ = and_parts (not (is_blank_byte c)) _ e in
    let b : _ = and_parts (is_plain_start c cs) _ a.1 in
    let s : _ = and_parts (not (is_indicator c)) _ b.0 in
    let w : _ = and_parts (plain_len (c ∷ cs) == length (c ∷ cs)) _ b.1 in
    let l : _ = and_parts (not (is_blank_byte (slice_index (c ∷ cs) (length cs)))) _ w.1 in
    record {
      blank = not-true (is_blank_byte c) a.0;
      indicator = not-true (is_indicator c) s.0;
      soft = s.1;
      whole = eqb-true (plain_len (c ∷ cs)) (length (c ∷ cs)) w.0;
      last = not-true (is_blank_byte (slice_index (c ∷ cs) (length cs))) l.0;
      control = not-true (has_control (c ∷ cs)) l.1;
    }

-- what stands there is no blank, no comment and no dash: it is an entry or a value
content_other : (n c : ℕ) (cs : List ℕ)
    → is_blank_byte c ≡ false → (c == 35) ≡ false → ((c == 45) && ends_word cs) ≡ false
    → content n (c ∷ cs) ≡ entry_or_value n (c ∷ cs) (key_of (c ∷ cs))
content_other n c cs e f g = by_tests (is_blank_byte c) (c == 35) ((c == 45) && ends_word cs)
    (with_fault (tab_fault c) (content (suc n) cs)) (with_mark (dash n) (content (suc n) cs))
    (entry_or_value n (c ∷ cs) (key_of (c ∷ cs))) e f g
  where
    by_tests : (p q r : Bool) (a b l : Line) → p ≡ false → q ≡ false → r ≡ false
        → cond p a (cond q no_marks (cond r b l)) ≡ l
    by_tests p q r a b l e f g = rw (e, f, g) refl

module _ (n c : ℕ) (cs : List ℕ) (w : IsWord c cs) where
  starts : is_plain_start c cs ≡ true
  starts = rw (w.indicator, w.soft) refl

  pub word_value : inline_value n (c ∷ cs) ≡ one_mark (value n (scalar (c ∷ cs) true)) None
  word_value = rw (no_quote c w.indicator, starts) (plain_value_whole n c cs w.whole w.last)

  word_key : key_of (c ∷ cs) ≡ None
  word_key = rw (no_quote c w.indicator, starts) (plain_key_none (c ∷ cs) w.whole)

  pub word_content : content n (c ∷ cs) ≡ one_mark (value n (scalar (c ∷ cs) true)) None
  word_content = content_other n c cs w.blank (differs is_indicator c 35 w.indicator refl)
      (no_dash c cs w.soft) ∙ ap (entry_or_value n (c ∷ cs)) word_key ∙ word_value

-- KEYS

-- what is wrong with a byte that begins or goes on in a plain key
abbrev is_no_letter : ℕ → Bool
is_no_letter c = is_blank_byte c
    || (c == 35 || (c == 45 || (is_quote c || (is_indicator c || (is_soft_indicator c
    || (c == 58 || (is_control c || (nat_eq 45 c || (nat_eq 46 c || nat_eq 239 c)))))))))

no_letters : agree_below (λ c. is_letter c && is_no_letter c) (λ c. false) 123 ≡ true
no_letters = refl

letter_low : (c : ℕ) → is_letter c ≡ true → c < 123
letter_low c e = grind (arith, nat_tests)

letter_fine : (c : ℕ) → is_letter c ≡ true → is_no_letter c ≡ false
letter_fine c e =
    by_test (is_no_letter c) (ap (λ (b : Bool). b && is_no_letter c) (sym e) ∙ agree_below_at
    (λ c. is_letter c && is_no_letter c) (λ c. false) 123 c no_letters (letter_low c e))
  where
    by_test : (b : Bool) → b ≡ false → b ≡ false
    by_test b f = f

pub record IsLetter (c : ℕ) : Type 0 where
  pub blank : is_blank_byte c ≡ false
  pub hash : (c == 35) ≡ false
  pub dash : (c == 45) ≡ false
  pub quote : is_quote c ≡ false
  pub indicator : is_indicator c ≡ false
  pub soft : is_soft_indicator c ≡ false
  pub colon : (c == 58) ≡ false
  pub control : is_control c ≡ false
  pub marker : nat_eq 45 c ≡ false
  pub ellipsis : nat_eq 46 c ≡ false
  pub mark : nat_eq 239 c ≡ false

pub letter_is : (c : ℕ) → is_letter c ≡ true → IsLetter c
letter_is c e =
    let a : _ = or_parts (is_blank_byte c) _ (letter_fine c e) in
    let b : _ = or_parts (c == 35) _ a.1 in
    let d : _ = or_parts (c == 45) _ b.1 in
    let q : _ = or_parts (is_quote c) _ d.1 in
    let i : _ = or_parts (is_indicator c) _ q.1 in
    let s : _ = or_parts (is_soft_indicator c) _ i.1 in
    let k : _ = or_parts (c == 58) _ s.1 in
    let o : _ = or_parts (is_control c) _ k.1 in
    let m : _ = or_parts (nat_eq 45 c) _ o.1 in
    let p : _ = or_parts (nat_eq 46 c) _ m.1 in
    record {
      blank = a.0;
      hash = b.0;
      dash = d.0;
      quote = q.0;
      indicator = i.0;
      soft = s.0;
      colon = k.0;
      control = o.0;
      marker = m.0;
      ellipsis = p.0;
      mark = p.1;
    }

letters_len : (cs rest : List ℕ) → list_all is_letter cs ≡ true → ends_word rest ≡ true
    → plain_len (cs ++ (58 ∷ rest)) ≡ length cs
letters_len [] rest e f = rw f refl
letters_len (c ∷ cs) rest e f =
    let p : _ = and_parts (is_letter c) (list_all is_letter cs) e in
    let l : IsLetter c = letter_is c p.0 in
    goes_on (stops_plain c (cs ++ (58 ∷ rest))) (plain_len (cs ++ (58 ∷ rest)))
    (rw (l.colon, l.blank) refl) (letters_len cs rest p.1 f)
  where
    goes_on : (b : Bool) (n : ℕ) → b ≡ false → n ≡ length cs → cond b 0 (suc n) ≡ suc (length cs)
    goes_on b n e f = rw (e, f) refl

index_past : (t rest : List ℕ) (c : ℕ) → slice_index (t ++ (c ∷ rest)) (length t) ≡ c
index_past [] rest c = refl
index_past (x ∷ t) rest c = index_past t rest c

plain_key_at : (t rest : List ℕ) → plain_len (t ++ (58 ∷ rest)) ≡ length t
    → trimmed_text is_space t ≡ t
    → plain_key_fault t ≡ None
    → plain_key (t ++ (58 ∷ rest)) ≡ Some (record { text = t; length = length t + 1; fault = None })
plain_key_at t rest e f g = rw (e, index_past t rest 58, take-append_seam t (58 ∷ rest), f, g) refl

last_letter : (c : ℕ) (cs : List ℕ) → list_all is_letter (c ∷ cs) ≡ true
    → is_letter (slice_index (c ∷ cs) (length cs)) ≡ true
last_letter c cs e = (AllPass-from_list_all is_letter (c ∷ cs) e) (length cs) 0 (omega arith)

letters_fault : (c : ℕ) (cs : List ℕ) → list_all is_letter (c ∷ cs) ≡ true
    → plain_key_fault (c ∷ cs) ≡ None
letters_fault c cs e =
    let at : length (c ∷ cs) - 1 ≡ length cs = omega arith in
    let last : is_letter (slice_index (c ∷ cs) (length (c ∷ cs) - 1)) ≡ true =
    ap (λ (n : ℕ). is_letter (slice_index (c ∷ cs) n)) at ∙ last_letter c cs e in
    let l : IsLetter (slice_index (c ∷ cs) (length (c ∷ cs) - 1)) = letter_is _ last in
    no_fault (slice_index (c ∷ cs) (length (c ∷ cs) - 1))
    (or_parts (slice_index (c ∷ cs) (length (c ∷ cs) - 1) == 32) _ l.blank).1 l.colon
  where
    no_fault : (x : ℕ) → (x == 9) ≡ false → (x == 58) ≡ false
        → cond (x == 9 || x == 58) (Some Colon) None ≡ None
    no_fault x e f = rw (e, f) refl

letters_key : (c : ℕ) (cs rest : List ℕ) → list_all is_letter (c ∷ cs) ≡ true
    → ends_word rest ≡ true
    → key_of (c ∷ (cs ++ (58 ∷ rest))) ≡ Some (record {
      text = c ∷ cs;
      length = length (c ∷ cs) + 1;
      fault = None;
    })
letters_key c cs rest e f =
    let l : IsLetter c = letter_is c (and_parts (is_letter c) (list_all is_letter cs) e).0 in
    let last : IsLetter (slice_index (c ∷ cs) (length cs)) = letter_is _ (last_letter c cs e) in
    begins_key (is_quote c) (is_plain_start c (cs ++ (58 ∷ rest))) l.quote
    (rw (l.indicator, l.soft) refl) _ _
    ∙ plain_key_at (c ∷ cs) rest (letters_len (c ∷ cs) rest e f) (trimmed_whole is_space c cs
    (or_parts (slice_index (c ∷ cs) (length cs) == 32) _ last.blank).0) (letters_fault c cs e)
  where
    begins_key : (p q : Bool) → p ≡ false → q ≡ true → (a b : Option Key)
        → cond p a (cond q b None) ≡ b
    begins_key p q e f a b = rw (e, f) refl

quotes_key : (k rest : List ℕ) → ends_word rest ≡ true → key_of (in_quotes k ++ (58 ∷ rest))
    ≡ Some (record { text = k; length = length (in_quotes k) + 1; fault = None })
quotes_key k rest f =
    let n : ℕ = length (flat_map escape_of k) + 1 in
    let a : quoted_key ((flat_map escape_of k ++ (34 ∷ [])) ++ (58 ∷ rest))
    (double ((flat_map escape_of k ++ (34 ∷ [])) ++ (58 ∷ rest)))
    ≡ quoted_key (flat_map escape_of k ++ (34 ∷ (58 ∷ rest)))
    (double (flat_map escape_of k ++ (34 ∷ (58 ∷ rest))))
    = ap (λ (xs : List ℕ). quoted_key xs (double xs))
    (append_assoc (flat_map escape_of k) (34 ∷ []) (58 ∷ rest)) in
    let b : quoted_key (flat_map escape_of k ++ (34 ∷ (58 ∷ rest)))
    (double (flat_map escape_of k ++ (34 ∷ (58 ∷ rest))))
    ≡ quoted_key (flat_map escape_of k ++ (34 ∷ (58 ∷ rest))) (quoted_with k n)
    = ap (quoted_key (flat_map escape_of k ++ (34 ∷ (58 ∷ rest)))) (double_read k (58 ∷ rest)) in
    let m : n + 0 + 2 ≡ length (in_quotes k) + 1 =
    omega (arith, length-append (flat_map escape_of k) (34 ∷ [])) in
    a ∙ b ∙ quoted_key_at (flat_map escape_of k ++ (34 ∷ (58 ∷ rest)))
    n (drop_past (flat_map escape_of k) 34 (58 ∷ rest))
    ∙ ap (λ (x : ℕ). Some (record { text = k; length = x; fault = None })) m
  where
    quoted_key_at : (xs : List ℕ) (n : ℕ) → drop n xs ≡ 58 ∷ rest → quoted_key xs (quoted_with k n)
        ≡ Some (record { text = k; length = n + 0 + 2; fault = None })
    quoted_key_at xs n e = rw (e, f) refl

pub key_read : (q : Bool) (k rest : List ℕ) → is_key_text q k ≡ true → ends_word rest ≡ true
    → key_of (key_text q k ++ (58 ∷ rest))
    ≡ Some (record { text = k; length = length (key_text q k) + 1; fault = None })
key_read true k rest e f = quotes_key k rest f
key_read false [] rest e f = absurd (false≢true e)
key_read false (c ∷ cs) rest e f = letters_key c cs rest e f

drop_key : (t rest : List ℕ) → drop (length t + 1) (t ++ (58 ∷ rest)) ≡ rest
drop_key t rest = drop_past t 58 rest

entry_at : (n : ℕ) (t k rest : List ℕ)
    → key_of (t ++ (58 ∷ rest)) ≡ Some (record { text = k; length = length t + 1; fault = None })
    → entry_or_value n (t ++ (58 ∷ rest)) (key_of (t ++ (58 ∷ rest)))
    ≡ with_mark (key n k) (behind_colon (n + (length t + 1)) rest)
entry_at n t k rest e = ap (entry_or_value n (t ++ (58 ∷ rest))) e ∙ ap
    (λ (xs : List ℕ). with_mark (key n k) (behind_colon (n + (length t + 1)) xs)) (drop_key t rest)

-- a key at a column, and what stands behind its colon
pub key_content : (n : ℕ) (q : Bool) (k rest : List ℕ) → is_key_text q k ≡ true
    → ends_word rest ≡ true
    → content n (key_text q k ++ (58 ∷ rest))
    ≡ with_mark (key n k) (behind_colon (n + (length (key_text q k) + 1)) rest)
key_content n true k rest e f = entry_at n (in_quotes k) k rest (quotes_key k rest f)
key_content n false [] rest e f = absurd (false≢true e)
key_content n false (c ∷ cs) rest e f =
    let l : IsLetter c = letter_is c (and_parts (is_letter c) (list_all is_letter cs) e).0 in
    content_other n c (cs ++ (58 ∷ rest)) l.blank l.hash (rw l.dash refl)
    ∙ entry_at n (c ∷ cs) (c ∷ cs) rest (letters_key c cs rest e f)

-- HOW LINES GO ON

-- bytes that begin with neither a blank nor a comment
abbrev pub begins_well : List ℕ → Bool
begins_well [] = false
begins_well (c ∷ cs) = not (is_blank_byte c) && not (c == 35)

pub well_parts : (c : ℕ) (cs : List ℕ) → begins_well (c ∷ cs) ≡ true
    → (is_blank_byte c ≡ false) × ((c == 35) ≡ false)
well_parts c cs e = let p : _ = and_parts (not (is_blank_byte c)) (not (c == 35)) e in
    (not-true (is_blank_byte c) p.0, not-true (c == 35) p.1)

two_bytes : (n : ℕ) → (1 == suc (suc n)) ≡ false
two_bytes n = grind (arith, nat_tests)

-- a value behind a colon and a space
pub behind_space : (m : ℕ) (xs : List ℕ) → begins_well xs ≡ true
    → behind_colon m (32 ∷ xs) ≡ inline_value (m + 1) xs
behind_space m [] e = absurd (false≢true e)
behind_space m (c ∷ cs) e =
    let p : _ = well_parts c cs e in
    let one : prefix_len is_blank_byte (32 ∷ c ∷ cs) ≡ 1 = rw p.0 refl in
    let more : is_tail (32 ∷ c ∷ cs) ≡ false =
    tail_not (prefix_len is_blank_byte (32 ∷ c ∷ cs)) one p.1 in
    behind_blank (is_tail (32 ∷ c ∷ cs)) (prefix_len is_blank_byte (32 ∷ c ∷ cs)) more one
  where
    tail_not : (n : ℕ) → n ≡ 1 → (c == 35) ≡ false → ((n == length (32 ∷ c ∷ cs))
        || (nat_lt 0 n && (slice_index (32 ∷ c ∷ cs) n == 35))) ≡ false
    tail_not n e f = rw (e, two_bytes (length cs), f) refl

    behind_blank : (b : Bool) (n : ℕ) → b ≡ false → n ≡ 1 → cond b no_marks
        (inline_value (m + n) (drop n (32 ∷ c ∷ cs))) ≡ inline_value (m + 1) (c ∷ cs)
    behind_blank b n e f = rw (e, f) refl

escape_control : (c : ℕ) (xs : List ℕ) → (not (is_control c) || (c == 10)) ≡ true
    → has_control xs ≡ false → has_control (escape_of c ++ xs) ≡ false
escape_control c xs e f = by_test (c == 92) (c == 34) (c == 10) (c == 9) refl
  where
    plain_byte : (p : Bool) → is_control c ≡ p → (not p || false) ≡ true
        → has_control (c ∷ xs) ≡ false
    plain_byte false g h = rw (g, f) refl
    plain_byte true g h = absurd (false≢true h)

    by_test : (p q r s : Bool) → (c == 10) ≡ r → has_control (cond p (92 ∷ 92 ∷ []) (cond q
        (92 ∷ 34 ∷ []) (cond r (92 ∷ 110 ∷ []) (cond s (92 ∷ 116 ∷ []) (c ∷ [])))) ++ xs) ≡ false
    by_test true q r s g = f
    by_test false true r s g = f
    by_test false false true s g = f
    by_test false false false true g = f
    by_test false false false false g =
        plain_byte (is_control c) refl (ap (λ (b : Bool). not (is_control c) || b) (sym g) ∙ e)

escapes_control : (t xs : List ℕ) → is_quotable t ≡ true → has_control xs ≡ false
    → has_control (flat_map escape_of t ++ xs) ≡ false
escapes_control [] xs e f = f
escapes_control (c ∷ t) xs e f =
    let p : _ = and_parts (not (is_control c) || (c == 10)) (is_quotable t) e in
    ap has_control (append_assoc (escape_of c) (flat_map escape_of t) xs)
    ∙ escape_control c (flat_map escape_of t ++ xs) p.0 (escapes_control t xs p.1 f)

pub quotes_control : (t : List ℕ) → is_quotable t ≡ true → has_control (in_quotes t) ≡ false
quotes_control t e = escapes_control t (34 ∷ []) e refl

letters_control : (cs xs : List ℕ) → list_all is_letter cs ≡ true → has_control xs ≡ false
    → has_control (cs ++ xs) ≡ false
letters_control [] xs e f = f
letters_control (c ∷ cs) xs e f =
    let p : _ = and_parts (is_letter c) (list_all is_letter cs) e in
    let l : IsLetter c = letter_is c p.0 in
    or_from (is_control c) (has_control (cs ++ xs)) l.control (letters_control cs xs p.1 f)

-- a key begins a line well
pub key_control : (q : Bool) (k rest : List ℕ) → is_key_text q k ≡ true → has_control rest ≡ false
    → has_control (key_text q k ++ (58 ∷ rest)) ≡ false
key_control true k rest e f =
    ap has_control (append_assoc (flat_map escape_of k) (34 ∷ []) (58 ∷ rest))
    ∙ escapes_control k (34 ∷ (58 ∷ rest)) e f
key_control false [] rest e f = absurd (false≢true e)
key_control false (c ∷ cs) rest e f = letters_control (c ∷ cs) (58 ∷ rest) e f

pub key_begins : (q : Bool) (k rest : List ℕ) → is_key_text q k ≡ true
    → begins_well (key_text q k ++ rest) ≡ true
key_begins true k rest e = refl
key_begins false [] rest e = absurd (false≢true e)
key_begins false (c ∷ cs) rest e = let l : IsLetter c =
    letter_is c (and_parts (is_letter c) (list_all is_letter cs) e).0 in rw (l.blank, l.hash) refl

pub key_no_marker : (q : Bool) (k rest : List ℕ) → is_key_text q k ≡ true
    → is_marker (key_text q k ++ rest) ≡ false
key_no_marker true k rest e = refl
key_no_marker false [] rest e = absurd (false≢true e)
key_no_marker false (c ∷ cs) rest e =
    let l : IsLetter c = letter_is c (and_parts (is_letter c) (list_all is_letter cs) e).0 in
    rw (l.marker, l.ellipsis) refl

-- VALUES

-- a value that stands on one line, and the node that it reads as
pub record IsInline (xs : List ℕ) (x : Tree) : Type 0 where
  pub begins : begins_well xs ≡ true
  pub control : has_control xs ≡ false
  pub contents : (n : ℕ) → content n xs ≡ one_mark (value n x) None
  pub values : (n : ℕ) → inline_value n xs ≡ one_mark (value n x) None

pub inline_word : (c : ℕ) (cs : List ℕ) → is_plain (c ∷ cs) ≡ true
    → IsInline (c ∷ cs) (scalar (c ∷ cs) true)
inline_word c cs e = let w : IsWord c cs = word_is c cs e in record {
  begins = rw (w.blank, differs is_indicator c 35 w.indicator refl) refl;
  control = w.control;
  contents = λ n. word_content n c cs w;
  values = λ n. word_value n c cs w;
}

pub inline_quotes : (t : List ℕ) → is_quotable t ≡ true → IsInline (in_quotes t) (scalar t false)
inline_quotes t e = record {
  begins = refl;
  control = quotes_control t e;
  contents = λ n. quotes_content n t;
  values = λ n. quotes_value n t;
}

pub inline_map : IsInline (123 ∷ 125 ∷ []) (mapping no_entries)
inline_map = record { begins = refl; control = refl; contents = λ n. refl; values = λ n. refl }

pub inline_list : IsInline (91 ∷ 93 ∷ []) (sequence no_trees)
inline_list = record { begins = refl; control = refl; contents = λ n. refl; values = λ n. refl }
