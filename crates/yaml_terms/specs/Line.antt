-- What stands on a line that no block scalar takes: its marks, and the first fault of the refusal
-- table that it has by itself.
use Rattle.std.specs.Prelude.{ℕ, suc, ◌+◌, ◌-◌, ◌==◌, ◌&&◌, ◌||◌, nat_eq, nat_lt, nat_le, Bool}
use Rattle.std.specs.Prelude.{true, false, not, List, [], ◌∷◌, Option, Some, None, cond, drop, take}
use Rattle.std.specs.Prelude.{length, slice_index}
use Rattle.std.specs.List.{list_any, prefix_len, starts_with}
use Rattle.yaml_terms.specs.Tree.{mapping, sequence, scalar, no_entries, trees}
use Rattle.yaml_terms.specs.Mark.{Mark, start, dash, key, value, header}
use Rattle.yaml_terms.specs.FaultOrder.{earlier}
use Rattle.yaml_terms.specs.Block.{is_space, is_blank_byte, is_blank, indentation, trimmed_text}
use Rattle.yaml_terms.specs.Quoted.{Quoted, quoted}
use Rattle.yaml_terms.specs.Flow.{Flow, flow, flow_start, end_fault, is_indicator}
use Rattle.yaml_terms.specs.Flow.{is_soft_indicator}
use Rattle.yaml_terms.specs.declared.profile_fault.ProfileFault.{ProfileFault}
use Rattle.yaml_terms.specs.declared.profile_fault.ProfileFault.TheVariants.{Control, Tab, LeftOut}
use Rattle.yaml_terms.specs.declared.profile_fault.ProfileFault.TheVariants.{Quote}
use Rattle.yaml_terms.specs.declared.profile_fault.ProfileFault.TheVariants.{Escape}
use Rattle.yaml_terms.specs.declared.profile_fault.ProfileFault.TheVariants.{FlowForm, Colon}
use Rattle.yaml_terms.specs.declared.style.Style.{Style}
use Rattle.yaml_terms.specs.declared.style.Chomping.{Chomping}
use Rattle.yaml_terms.specs.declared.style.Chomping.TheVariants.{Clip, Strip, Keep}

pub record Line : Type 0 where
  pub marks : List Mark
  pub fault : Option ProfileFault

abbrev pub no_marks : Line
no_marks = record { marks = []; fault = None }

abbrev pub faulty : ProfileFault → Line
faulty w = record { marks = []; fault = Some w }

abbrev pub one_mark : Mark → Option ProfileFault → Line
one_mark m fault = record { marks = m ∷ []; fault = fault }

-- a value of no form still stands at its column
abbrev pub spoiled_value : ℕ → ProfileFault → Line
spoiled_value n w = one_mark (value n (scalar [] true)) (Some w)

abbrev pub with_mark : Mark → Line → Line
with_mark m l = record l { marks = m ∷ l.marks }

abbrev pub with_fault : Option ProfileFault → Line → Line
with_fault o l = record l { fault = earlier o l.fault }

-- a character below U+0020 other than a tab, or U+007F
abbrev pub is_control : ℕ → Bool
is_control c = (nat_lt c 32 && not (c == 9)) || c == 127

abbrev pub has_control : List ℕ → Bool
has_control line = list_any is_control line

-- a dash, a colon, `---` end where a blank or the line's end follows
abbrev pub ends_word : List ℕ → Bool
ends_word [] = true
ends_word (c ∷ cs) = is_blank_byte c

-- nothing behind a value but blanks, and behind these perhaps a comment
abbrev pub is_tail : List ℕ → Bool
is_tail cs = let blanks = prefix_len is_blank_byte cs in
    blanks == length cs || (nat_lt 0 blanks && slice_index cs blanks == 35)

-- PLAIN SCALARS (section 7.3.3)

abbrev pub is_plain_start : ℕ → List ℕ → Bool
is_plain_start c cs = not (is_indicator c) && (not (is_soft_indicator c) || not (ends_word cs))

-- a plain scalar ends at a colon before a blank or the line's end, or at a blank before `#`
abbrev pub stops_plain : ℕ → List ℕ → Bool
stops_plain c cs = (c == 58 && ends_word cs) || (is_blank_byte c && slice_index cs 0 == 35)

abbrev pub plain_len : List ℕ → ℕ
plain_len [] = 0
plain_len (c ∷ cs) = cond (stops_plain c cs) 0 (suc (plain_len cs))

abbrev pub plain_value : ℕ → List ℕ → Line
plain_value n cs = let k = plain_len cs in
    cond (slice_index cs k == 58) (spoiled_value n Colon)
    (one_mark (value n (scalar (trimmed_text is_blank_byte (take k cs)) true)) None)

-- OTHER INLINE VALUES

abbrev pub is_quote : ℕ → Bool
is_quote c = c == 39 || c == 34

-- the fault of a quoted scalar, by whether it has an escape that is none
abbrev pub escape_fault : Bool → Option ProfileFault
escape_fault true = Some Escape
escape_fault false = None

abbrev pub quoted_value : ℕ → List ℕ → Option Quoted → Line
quoted_value n cs None = spoiled_value n Quote
quoted_value n cs (Some q) = one_mark (value n (scalar q.text false))
    (cond (is_tail (drop q.length cs)) (escape_fault q.bad) (Some Quote))

abbrev pub flow_value : ℕ → Flow → Line
flow_value n s = flow_line (earlier s.fault (end_fault s.part))
  where
    flow_line : Option ProfileFault → Line
    flow_line None = one_mark (value n (sequence (trees s.items))) None
    flow_line (Some w) = spoiled_value n w

abbrev pub empty_map : ℕ → List ℕ → Line
empty_map n cs = cond (slice_index cs 0 == 125 && is_tail (drop 1 cs))
    (one_mark (value n (mapping no_entries)) None) (spoiled_value n LeftOut)

-- a block scalar's sign (section 8.1.1.2)
abbrev pub chomping_of : ℕ → Chomping
chomping_of c = cond (c == 45) Strip (cond (c == 43) Keep Clip)

abbrev pub is_sign : ℕ → Bool
is_sign c = c == 45 || c == 43

abbrev pub is_digit : ℕ → Bool
is_digit c = nat_le 48 c && nat_le c 57

abbrev pub header_tail : ℕ → Style → List ℕ → Line
header_tail n s cs = cond (is_digit (slice_index cs 0)) (spoiled_value n LeftOut)
    (cond (is_tail cs) (one_mark (header n s) None) (spoiled_value n Colon))

abbrev pub header_value : ℕ → Bool → List ℕ → Line
header_value n folded cs = let sign = slice_index cs 0 in
    header_tail n (record { folded = folded; chomping = chomping_of sign })
    (drop (cond (is_sign sign) 1 0) cs)

-- the fault of a character that begins no value
abbrev pub indicator_fault : ℕ → ProfileFault
indicator_fault c =
    cond (c == 44 || c == 93 || c == 125) FlowForm (cond (c == 45 || c == 58) Colon LeftOut)

-- a value at column n
abbrev pub inline_value : ℕ → List ℕ → Line
inline_value n [] = no_marks
inline_value n (c ∷ cs) = cond (is_quote c) (quoted_value n cs (quoted c cs))
    (cond (is_plain_start c cs) (plain_value n (c ∷ cs))
    (cond (c == 91) (flow_value n (flow flow_start cs))
    (cond (c == 123) (empty_map n cs)
    (cond (c == 124 || c == 62) (header_value n (c == 62) cs)
    (spoiled_value n (indicator_fault c))))))

-- KEYS (section 8.2.2)

-- a key's text, how many bytes it takes with its colon, and the fault that it has
pub record Key : Type 0 where
  pub text : List ℕ
  pub length : ℕ
  pub fault : Option ProfileFault

abbrev pub quoted_key : List ℕ → Option Quoted → Option Key
quoted_key cs None = None
quoted_key cs (Some q) = let rest = drop q.length cs in let spaces = indentation rest in
    cond (slice_index rest spaces == 58 && ends_word (drop (spaces + 1) rest)) (Some
    (record { text = q.text; length = q.length + spaces + 2; fault = escape_fault q.bad })) None

-- no tab before its colon, and no colon at its end
abbrev pub plain_key_fault : List ℕ → Option ProfileFault
plain_key_fault text = let last = slice_index text (length text - 1) in
    cond (last == 9 || last == 58) (Some Colon) None

abbrev pub plain_key : List ℕ → Option Key
plain_key cs = let k = plain_len cs in let text = trimmed_text is_space (take k cs) in
    cond (slice_index cs k == 58)
    (Some (record { text = text; length = k + 1; fault = plain_key_fault text })) None

-- the key that begins here, if one does
abbrev pub key_of : List ℕ → Option Key
key_of [] = None
key_of (c ∷ cs) = cond (is_quote c) (quoted_key cs (quoted c cs))
    (cond (is_plain_start c cs) (plain_key (c ∷ cs)) None)

-- what stands behind a key's colon, from column n: nothing but blanks and a comment, or a value
abbrev pub behind_colon : ℕ → List ℕ → Line
behind_colon n cs = let blanks = prefix_len is_blank_byte cs in
    cond (is_tail cs) no_marks (inline_value (n + blanks) (drop blanks cs))

abbrev pub entry_or_value : ℕ → List ℕ → Option Key → Line
entry_or_value n cs None = inline_value n cs
entry_or_value n cs (Some k) =
    with_mark (key n k.text) (with_fault k.fault (behind_colon (n + k.length) (drop k.length cs)))

-- DASHES (section 8.2.1)

abbrev pub tab_fault : ℕ → Option ProfileFault
tab_fault c = cond (c == 9) (Some Tab) None

-- what stands from column n on: dashes, and behind them nothing, a comment, an entry or a value
abbrev pub content : ℕ → List ℕ → Line
content n [] = no_marks
content n (c ∷ cs) = cond (is_blank_byte c) (with_fault (tab_fault c) (content (suc n) cs))
    (cond (c == 35) no_marks
    (cond (c == 45 && ends_word cs) (with_mark (dash n) (content (suc n) cs))
    (entry_or_value n (c ∷ cs) (key_of (c ∷ cs)))))

-- MARKERS AND WHOLE LINES (sections 9.1.2, 9.1.3 and 6.6)

abbrev pub begins_as_marker : List ℕ → Bool
begins_as_marker line =
    starts_with nat_eq line (45 ∷ 45 ∷ 45 ∷ []) || starts_with nat_eq line (46 ∷ 46 ∷ 46 ∷ [])

-- `---` or `...`, and then a blank or nothing
abbrev pub is_marker : List ℕ → Bool
is_marker line = begins_as_marker line && ends_word (drop 3 line)

-- spaces, and behind them perhaps a comment
abbrev pub marker_line : List ℕ → Line
marker_line cs = let spaces = indentation cs in
    cond (spaces == length cs || slice_index cs spaces == 35) (one_mark start None) (faulty LeftOut)

-- a line that has something on it
abbrev pub filled_line : List ℕ → Line
filled_line line = let n = indentation line in let first = slice_index line n in
    cond (first == 35) no_marks
    (cond (is_marker line) (marker_line (drop 3 line))
    (cond (first == 9) (faulty Tab) (content n (drop n line))))

abbrev pub line_of : List ℕ → Line
line_of line =
    cond (has_control line) (faulty Control) (cond (is_blank line) no_marks (filled_line line))
