-- What stands on a line with no fault: its keys and values can be written.
use Rattle.std.proofs.Common.{◌≡◌, ℕ, zero, suc, ◌+◌, ◌<◌, Bool, true, false, cond, ◌&&◌, ◌||◌}
use Rattle.std.proofs.Common.{◌==◌, List, [], ◌∷◌, ◌++◌, Option, Some, None, length, take, drop}
use Rattle.std.proofs.Common.{slice_index, IsUtf8, refl, sym, ap, ◌∙◌, subst, arith}
use Rattle.std.proofs.Common.{take-append-drop, drop-drop, drop-cons}
use Rattle.std.specs.Prelude.{⊤}
use Rattle.std.specs.List.{AllByRecursion, prefix_len}
use Rattle.std.proofs.lemmas.Bool.{and_parts, eqb-true, true≢false}
use Rattle.std.proofs.lemmas.Bool.Decides.{nat_tests}
use Rattle.yaml_terms.specs.Tree.{Tree, mapping, sequence, scalar, no_entries, trees}
use Rattle.yaml_terms.specs.Mark.{Mark, start, dash, key, value, header, raw}
use Rattle.yaml_terms.specs.FaultOrder.{earlier}
use Rattle.yaml_terms.specs.Block.{is_space, is_blank_byte, is_blank, indentation, trimmed_text}
use Rattle.yaml_terms.specs.Quoted.{Quoted, quoted}
use Rattle.yaml_terms.specs.Flow.{Flow, flow, flow_start, end_fault}
use Rattle.yaml_terms.specs.Line.{Line, no_marks, faulty, one_mark, spoiled_value, with_mark}
use Rattle.yaml_terms.specs.Line.{with_fault}
use Rattle.yaml_terms.specs.Line.{has_control, ends_word, is_tail, is_plain_start, plain_len}
use Rattle.yaml_terms.specs.Line.{plain_value, is_quote, escape_fault, quoted_value, flow_value}
use Rattle.yaml_terms.specs.Line.{empty_map, chomping_of, is_sign, is_digit, header_tail}
use Rattle.yaml_terms.specs.Line.{header_value, indicator_fault, inline_value, Key, quoted_key}
use Rattle.yaml_terms.specs.Line.{plain_key_fault, plain_key, key_of, behind_colon, entry_or_value}
use Rattle.yaml_terms.specs.Line.{tab_fault, content, is_marker, marker_line, filled_line, line_of}
use Rattle.yaml_terms.specs.Profile.{is_shallow}
use Rattle.yaml_terms.specs.Spelling.{spelled, items_spelled}
use Rattle.yaml_terms.specs.SpellingFits.{SpellingFits, FitItems}
use Rattle.yaml_terms.specs.declared.ProfileFault.{ProfileFault}
use Rattle.yaml_terms.specs.declared.ProfileFault.TheVariants.{Control, Tab, LeftOut, Quote, Colon}
use Rattle.yaml_terms.specs.declared.Style.{Style}
use Rattle.yaml_terms.proofs.Utf8Lemmas.{pick, back, ascii_of}
use Rattle.yaml_writing.proofs.StandingBytes.{blank_ascii, free_drop, IsPure}
use Rattle.yaml_writing.proofs.StandingBytes.{IsClean, clean-from_pure, quotable}
use Rattle.yaml_writing.proofs.StandingQuoted.{IsFine, quoted_fine}
use Rattle.yaml_writing.proofs.StandingPlain.{body, body_utf8, plain_form, key_pure}
use Rattle.yaml_writing.proofs.StandingFlow.{IsItem, IsSound, flow_sound, no_fault_left}
use Rattle.yaml_writing.proofs.StandingFlow.{no_fault_right, pure_behind}

-- a mark that a line has by itself, whose texts can be written
abbrev pub IsGood : Mark → Type 0
IsGood start = ⊤
IsGood (dash n) = ⊤
IsGood (key n k) = IsClean k
IsGood (value n x) = (d : ℕ) → is_shallow d x ≡ true → SpellingFits d (spelled x)
IsGood (header n s) = ⊤
IsGood (raw l) = ⊥

abbrev pub IsGoodLine : Line → Type 0
IsGoodLine l = l.fault ≡ None → AllByRecursion IsGood l.marks

faulty_good : (w : ProfileFault) → IsGoodLine (faulty w)
faulty_good w = λ g. tt

spoiled_good : (n : ℕ) (w : ProfileFault) → IsGoodLine (spoiled_value n w)
spoiled_good n w = λ g. cc

with_fault_good : (o : Option ProfileFault) (l : Line) → IsGoodLine l → IsGoodLine (with_fault o l)
with_fault_good o l h = λ g. h (no_fault_right o l.fault g)

-- VALUES

plain_value_good : (n c : ℕ) (cs : List ℕ) → IsPure (c ∷ cs) → is_plain_start c cs ≡ true
    → is_blank_byte c ≡ false → IsGoodLine (plain_value n (c ∷ cs))
plain_value_good n c cs p begins nonblank =
    pick IsGoodLine (slice_index (c ∷ cs) (plain_len (c ∷ cs)) == 58) (spoiled_value n Colon)
    (one_mark (value n (scalar (body (c ∷ cs)) true)) None)
    (λ _. spoiled_good n Colon)
    (λ e g. ((λ d s. (body_utf8 (c ∷ cs) p.0, plain_form c cs begins nonblank p.1 e)), tt))

quoted_value_good : (n : ℕ) (cs : List ℕ) (o : Option Quoted) → IsFine [] cs o
    → IsGoodLine (quoted_value n cs o)
quoted_value_good n cs None f = spoiled_good n Quote
quoted_value_good n cs (Some q) f = λ g. let r = f (sound (is_tail (drop q.length cs)) q.bad g) in
    ((λ d s. (r.0, r.1)), tt)
  where
    sound : (t b : Bool) → cond t (escape_fault b) (Some Quote) ≡ None → b ≡ false
    sound true true g = cc
    sound false true g = cc
    sound t false g = refl

items_fit : (d : ℕ) (xs : List Tree) → AllByRecursion IsItem xs
    → FitItems d (items_spelled (trees xs))
items_fit d [] h = tt
items_fit d (x ∷ xs) h = (h.0 d, items_fit d xs h.1)

sequence_good : (xs : List Tree) → AllByRecursion IsItem xs → (d : ℕ)
    → is_shallow d (sequence (trees xs)) ≡ true → SpellingFits d (spelled (sequence (trees xs)))
sequence_good xs h zero s = absurd (true≢false (sym s))
sequence_good xs h (suc d) s = items_fit d xs h

flow_value_good : (n : ℕ) (s : Flow) → IsSound s [] → IsGoodLine (flow_value n s)
flow_value_good n s h = by (earlier s.fault (end_fault s.part)) refl
  where
    by : (o : Option ProfileFault) → earlier s.fault (end_fault s.part) ≡ o
        → IsGoodLine (flow_value n s)
    by None e =
        rw e (λ g. (sequence_good s.items (h (no_fault_left s.fault (end_fault s.part) e)).0, tt))
    by (Some w) e = rw e (spoiled_good n w)

map_good : (d : ℕ) → is_shallow d (mapping no_entries) ≡ true
    → SpellingFits d (spelled (mapping no_entries))
map_good zero s = absurd (true≢false (sym s))
map_good (suc d) s = tt

empty_map_good : (n : ℕ) (cs : List ℕ) → IsGoodLine (empty_map n cs)
empty_map_good n cs = pick IsGoodLine (slice_index cs 0 == 125 && is_tail (drop 1 cs))
    (one_mark (value n (mapping no_entries)) None) (spoiled_value n LeftOut) (λ _ g. (map_good, tt))
    (λ _. spoiled_good n LeftOut)

header_good : (n : ℕ) (s : Style) (cs : List ℕ) → IsGoodLine (header_tail n s cs)
header_good n s cs = pick IsGoodLine (is_digit (slice_index cs 0)) (spoiled_value n LeftOut)
    (cond (is_tail cs) (one_mark (header n s) None) (spoiled_value n Colon))
    (λ _. spoiled_good n LeftOut)
    (λ _. pick IsGoodLine (is_tail cs) (one_mark (header n s) None) (spoiled_value n Colon)
    (λ _ g. (tt, tt)) (λ _. spoiled_good n Colon))

-- bytes that don't begin with a blank
abbrev BeginsFilled : List ℕ → Type 0
BeginsFilled [] = ⊤
BeginsFilled (c ∷ cs) = is_blank_byte c ≡ false

quote_ascii : (c : ℕ) → is_quote c ≡ true → c < 128
quote_ascii c e = grind (arith, nat_tests)

inline_good : (n : ℕ) (cs : List ℕ) → IsPure cs → BeginsFilled cs → IsGoodLine (inline_value n cs)
inline_good n [] p b = λ g. tt
inline_good n (c ∷ cs) p b =
    pick IsGoodLine (is_quote c)
    (quoted_value n cs (quoted c cs)) _ (λ e. let r = pure_behind c cs (quote_ascii c e) p in
    quoted_value_good n cs (quoted c cs) (quoted_fine c cs r.0 (quotable cs r.1)))
    (λ _. pick IsGoodLine (is_plain_start c cs) (plain_value n (c ∷ cs)) _
    (λ e. plain_value_good n c cs p e b)
    (λ _. pick IsGoodLine (c == 91) (flow_value n (flow flow_start cs))
    _ (λ e. flow_value_good n (flow flow_start cs) (flow_sound flow_start cs
    (λ g. (tt, pure_behind c cs (ascii_of c 91 e (omega arith)) p))))
    (λ _. pick IsGoodLine (c == 123) (empty_map n cs) _ (λ _. empty_map_good n cs)
    (λ _. pick IsGoodLine (c == 124 || c == 62) (header_value n (c == 62) cs)
    (spoiled_value n (indicator_fault c)) (λ _. header_good n (record {
      folded = c == 62;
      chomping =
          chomping_of (slice_index cs 0);
    }) (drop (cond (is_sign (slice_index cs 0)) 1 0) cs))
    (λ _. spoiled_good n (indicator_fault c))))))

-- KEYS

behind_prefix : (test : ℕ → Bool) → ((c : ℕ) → test c ≡ true → c < 128) → (cs : List ℕ) → IsPure cs
    → IsPure (drop (prefix_len test cs) cs)
behind_prefix test low [] p = p
behind_prefix test low (c ∷ cs) p =
    pick (λ n. IsPure (drop n (c ∷ cs))) (test c) (1 + prefix_len test cs) 0
    (λ e. let k : 1 + prefix_len test cs ≡ suc (prefix_len test cs) = omega arith in
    rw k (behind_prefix test low cs (pure_behind c cs (low c e) p))) (λ _. p)

filled_behind : (cs : List ℕ) → BeginsFilled (drop (prefix_len is_blank_byte cs) cs)
filled_behind [] = tt
filled_behind (c ∷ cs) =
    pick (λ n. BeginsFilled (drop n (c ∷ cs))) (is_blank_byte c) (1 + prefix_len is_blank_byte cs) 0
    (λ e. let k : 1 + prefix_len is_blank_byte cs ≡ suc (prefix_len is_blank_byte cs) =
    omega arith in rw k (filled_behind cs)) (λ e. e)

-- what stands behind a colon at this place
behind_byte : (cs : List ℕ) (k : ℕ) → IsPure cs → (slice_index cs k == 58) ≡ true
    → IsPure (drop (suc k) cs)
behind_byte [] k p e = absurd (true≢false (sym e))
behind_byte (c ∷ cs) k p e =
    let h : k < length (c ∷ cs) = inside (c ∷ cs) k (eqb-true _ 58 e) in (
      back (take k (c ∷ cs)) (slice_index (c ∷ cs) k) (drop (suc k) (c ∷ cs))
          (ascii_of _ 58 e (omega arith)) (subst IsUtf8 (sym (take-append-drop k (c ∷ cs))
          ∙ ap (λ l. take k (c ∷ cs) ++ l) (drop-cons (c ∷ cs) k 0 h)) p.0),
      free_drop (suc k) (c ∷ cs) p.1,
    )
  where
    inside : (l : List ℕ) (k : ℕ) → slice_index l k ≡ 58 → k < length l
    inside [] k e = absurd (omega arith)
    inside (x ∷ l) zero e = omega arith
    inside (x ∷ l) (suc k) e = let r = inside l k e in omega arith

-- the key that begins there, and what stands behind it
abbrev IsGoodKey : List ℕ → Option Key → Type 0
IsGoodKey cs None = ⊤
IsGoodKey cs (Some k) = k.fault ≡ None → IsClean k.text × IsPure (drop k.length cs)

quoted_key_good : (c : ℕ) (cs : List ℕ) (o : Option Quoted) → IsFine [] cs o
    → has_control cs ≡ false → IsGoodKey (c ∷ cs) (quoted_key cs o)
quoted_key_good c cs None f free = tt
quoted_key_good c cs (Some q) f free =
    pick (IsGoodKey (c ∷ cs)) (slice_index (drop q.length cs) (indentation (drop q.length cs)) == 58
    && ends_word (drop (indentation (drop q.length cs) + 1) (drop q.length cs)))
    (Some (record {
      text = q.text;
      length = q.length + indentation (drop q.length cs) + 2;
      fault = escape_fault q.bad;
    })) None
    (λ e g. let r = f (sound q.bad g) in
    let colon =
    (and_parts (slice_index (drop q.length cs) (indentation (drop q.length cs)) == 58) _ e).0 in (
      (r.0, r.1),
      rw (length_is (indentation (drop q.length cs))) (subst IsPure (drop-drop
          (suc (indentation (drop q.length cs))) q.length cs) (behind_byte (drop q.length cs)
          (indentation (drop q.length cs)) (r.2, free_drop q.length cs free) colon)),
    ))
    (λ _. tt)
  where
    sound : (b : Bool) → escape_fault b ≡ None → b ≡ false
    sound true g = cc
    sound false g = refl

    length_is : (n : ℕ) → q.length + n + 2 ≡ suc (q.length + suc n)
    length_is n = omega arith

plain_key_good : (cs : List ℕ) → IsPure cs → IsGoodKey cs (plain_key cs)
plain_key_good cs p = pick (IsGoodKey cs) (slice_index cs (plain_len cs) == 58)
    (Some (record {
      text = trimmed_text is_space (take (plain_len cs) cs);
      length = plain_len cs + 1;
      fault = plain_key_fault (trimmed_text is_space (take (plain_len cs) cs));
    })) None
    (λ e g. let k : plain_len cs + 1 ≡ suc (plain_len cs) = omega arith in
    (clean-from_pure _ (key_pure cs p), rw k (behind_byte cs (plain_len cs) p e))) (λ _. tt)

key_good : (cs : List ℕ) → IsPure cs → IsGoodKey cs (key_of cs)
key_good [] p = tt
key_good (c ∷ cs) p = pick (IsGoodKey (c ∷ cs)) (is_quote c) (quoted_key cs (quoted c cs))
    (cond (is_plain_start c cs) (plain_key (c ∷ cs)) None)
    (λ e. let r = pure_behind c cs (quote_ascii c e) p in
    quoted_key_good c cs (quoted c cs) (quoted_fine c cs r.0 (quotable cs r.1)) r.1)
    (λ _. pick (IsGoodKey (c ∷ cs)) (is_plain_start c cs) (plain_key (c ∷ cs)) None
    (λ _. plain_key_good (c ∷ cs) p) (λ _. tt))

behind_colon_good : (n : ℕ) (cs : List ℕ) → IsPure cs → IsGoodLine (behind_colon n cs)
behind_colon_good n cs p = pick IsGoodLine (is_tail cs) no_marks (inline_value
    (n + prefix_len is_blank_byte cs) (drop (prefix_len is_blank_byte cs) cs)) (λ _ g. tt)
    (λ _. inline_good (n + prefix_len is_blank_byte cs) (drop (prefix_len is_blank_byte cs) cs)
    (behind_prefix is_blank_byte blank_ascii cs p) (filled_behind cs))

entry_good : (n : ℕ) (cs : List ℕ) (o : Option Key) → IsPure cs → BeginsFilled cs → IsGoodKey cs o
    → IsGoodLine (entry_or_value n cs o)
entry_good n cs None p b k = inline_good n cs p b
entry_good n cs (Some j) p b k = λ g.
    let l = behind_colon (n + j.length) (drop j.length cs) in
    let r = k (no_fault_left j.fault l.fault g) in (
      r.0,
      behind_colon_good (n + j.length) (drop j.length cs) r.1 (no_fault_right j.fault l.fault g),
    )

-- LINES

content_good : (n : ℕ) (cs : List ℕ) → IsPure cs → IsGoodLine (content n cs)
content_good n [] p = λ g. tt
content_good n (c ∷ cs) p =
    pick IsGoodLine (is_blank_byte c) (with_fault (tab_fault c) (content (suc n) cs))
    _ (λ e. with_fault_good (tab_fault c) (content (suc n) cs)
    (content_good (suc n) cs (pure_behind c cs (blank_ascii c e) p)))
    (λ b. pick IsGoodLine (c == 35) no_marks _ (λ _ g. tt)
    (λ _. pick IsGoodLine (c == 45 && ends_word cs)
    (with_mark (dash n) (content (suc n) cs)) (entry_or_value n (c ∷ cs) (key_of (c ∷ cs)))
    (λ e g. (
      tt,
      content_good (suc n) cs (pure_behind c cs
          (ascii_of c 45 (and_parts (c == 45) (ends_word cs) e).0 (omega arith)) p) g,
    ))
    (λ _. entry_good n (c ∷ cs) (key_of (c ∷ cs)) p b (key_good (c ∷ cs) p))))

space_ascii : (c : ℕ) → is_space c ≡ true → c < 128
space_ascii c e = ascii_of c 32 e (omega arith)

filled_good : (line : List ℕ) → IsPure line → IsGoodLine (filled_line line)
filled_good line p =
    pick IsGoodLine (slice_index line (indentation line) == 35) no_marks _ (λ _ g. tt)
    (λ _. pick IsGoodLine (is_marker line) (marker_line (drop 3 line))
    _ (λ _. pick IsGoodLine (indentation (drop 3 line) == length (drop 3 line)
    || slice_index (drop 3 line) (indentation (drop 3 line)) == 35) (one_mark start None)
    (faulty LeftOut) (λ _ g. (tt, tt)) (λ _. faulty_good LeftOut))
    (λ _. pick IsGoodLine (slice_index line (indentation line) == 9) (faulty Tab)
    (content (indentation line) (drop (indentation line) line)) (λ _. faulty_good Tab)
    (λ _. content_good (indentation line) (drop (indentation line) line)
    (behind_prefix is_space space_ascii line p))))

pub line_good : (line : List ℕ) → IsUtf8 line → IsGoodLine (line_of line)
line_good line u = pick IsGoodLine (has_control line) (faulty Control)
    (cond (is_blank line) no_marks (filled_line line)) (λ _. faulty_good Control)
    (λ e. pick IsGoodLine (is_blank line) no_marks (filled_line line) (λ _ g. tt)
    (λ _. filled_good line (u, e)))
