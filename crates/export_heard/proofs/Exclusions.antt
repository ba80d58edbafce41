-- The body that puts an exclusion is read back as this exclusion.
use Rattle.std.proofs.Common.{◌≡◌, ◌∙◌, ◌<◌, ◌≤◌, ◌+◌, ◌^◌, ℕ, true, List, [], ◌∷◌, ◌++◌, length}
use Rattle.std.proofs.Common.{Some, None, decimal, codes, refl, sym, ap, arith}
use Rattle.std.proofs.Common.{append_assoc, append-nil, length-append, lt-ltb, option_and_then}
use Rattle.std.proofs.Common.{cond}
use Rattle.std.specs.List.{list_all}
use Rattle.std.specs.Prelude.{nat_lt}
use Rattle.std.proofs.lemmas.Bool.{and_from, and_parts}
use Rattle.json.specs.Json as json
use Rattle.json.specs.Lex.{tokens}
use Rattle.json.specs.Print.{escape, escape_byte, print, print_from}
use Rattle.json.specs.Tree.{HasNumbers, json_tokens}
use Rattle.json.proofs.Printed.Decimals.{IsNumber-decimal}
use Rattle.json.proofs.Printed.Strings.{escape_byte_plain}
use Rattle.json.proofs.Printed.Tokens.{tokens-print}
use Rattle.json.proofs.Printed.Trees.{ArePrintable-json_tokens, value-json_tokens}
use Rattle.json.proofs.Printed.Utf8.{IsUtf8-are_ascii, are_ascii}
use Rattle.serde_json.specs.Data.{Data, member, no_members, number, object, string, unsigned}
use Rattle.serde_json.specs.Read.{max_depth, of_json, read}
use Rattle.serde_json.proofs.Numbers.{number_of-decimal}
use Rattle.exact_fraction.specs.Label.{is_label_byte, label_of}
use Rattle.sample_book.specs.declared.Exclusion.{Exclusion}
use Rattle.record_form.specs.Ranges.{FitsExclusion}
use Rattle.wire_routes.specs.Exclusions.{below_2_32, exclusion_in, exclusion_of}
use Rattle.wire_routes.proofs.JsonLemmas.{exclusion_some}
use Rattle.export_terms.specs.Texts.{exclusion_text}
use Rattle.export_heard.proofs.Digits.{decimal_label, decimal_short, label_bytes, label_low}
use Rattle.export_heard.proofs.Digits.{label_name, label_read, not_mark}

-- the text and the value of an exclusion's parts
abbrev text_by : ℕ → List ℕ → ℕ → List ℕ
text_by from slo to = codes "{\"from\":" ++ (decimal from ++ (codes ",\"slo\":\"" ++ (slo
    ++ (codes "\",\"to\":" ++ (decimal to ++ codes "}")))))

abbrev tree_by : ℕ → List ℕ → ℕ → json.Json
tree_by from slo to = json.object (json.member (codes "from") (json.number (decimal from))
    (json.member (codes "slo") (json.string slo)
    (json.member (codes "to") (json.number (decimal to)) json.no_members)))

abbrev data_by : ℕ → List ℕ → ℕ → Data
data_by from slo to = object (member (codes "from") (number (unsigned from))
    (member (codes "slo") (string slo)
    (member (codes "to") (number (unsigned to)) no_members)))

-- the bytes of labels stand for themselves
label_plain : (b : ℕ) → is_label_byte b ≡ true → escape_byte b ≡ b ∷ []
label_plain b h =
    escape_byte_plain b (not_mark 34 b refl h) (not_mark 92 b refl h) (label_low b h).0

unescaped : (slo : List ℕ) → list_all is_label_byte slo ≡ true → escape slo ≡ slo
unescaped [] all = refl
unescaped (b ∷ bs) all =
    let both = and_parts (is_label_byte b) (list_all is_label_byte bs) all in
    λ i. label_plain b both.0 i ++ unescaped bs both.1 i

printed : (from to : ℕ) (slo : List ℕ) → escape slo ≡ slo
    → text_by from slo to ≡ print (json_tokens (tree_by from slo to))
unfolding print_from escape_byte
printed from to slo plain =
    ap (λ (t : List ℕ). codes "{\"from\":" ++ (decimal from ++ (codes ",\"slo\":\"" ++ t)))
    (ap (λ (s : List ℕ). s ++ (codes "\",\"to\":" ++ (decimal to ++ codes "}"))) (sym plain)
    ∙ sym (append_assoc (escape slo) (34 ∷ [])
    (codes ",\"to\":" ++ (decimal to ++ codes "}"))))

numbers : (from to : ℕ) (slo : List ℕ) → from < 2 ^ 64 → to < 2 ^ 64
    → HasNumbers (tree_by from slo to)
numbers from to slo a b = (IsNumber-decimal from a, (tt, (IsNumber-decimal to b, tt)))

of_tree : (from to : ℕ) (slo : List ℕ) → from < 2 ^ 64 → to < 2 ^ 64
    → of_json (tree_by from slo to) ≡ Some (data_by from slo to)
of_tree from to slo a b = rw (number_of-decimal from a, number_of-decimal to b) refl

value_read : (from to : ℕ) (slo : List ℕ) → from < 2 ^ 64 → to < 2 ^ 64 → escape slo ≡ slo
    → read (text_by from slo to) ≡ Some (data_by from slo to)
value_read from to slo a b plain =
    let tree = tree_by from slo to in
    let same : tokens (text_by from slo to) ≡ json_tokens tree =
    ap tokens (printed from to slo plain)
    ∙ tokens-print (json_tokens tree) (ArePrintable-json_tokens tree (numbers from to slo a b)) in
    let found : json.value max_depth (tokens (text_by from slo to)) ≡ Some (tree, []) =
    ap (json.value max_depth) (same ∙ sym (append-nil (json_tokens tree)))
    ∙ value-json_tokens tree max_depth [] (omega arith) in
    ap (λ o. option_and_then of_json (option_and_then (λ p. json.if_last p.0 p.1) o)) found
    ∙ of_tree from to slo a b

-- ASCII

label_ascii : (xs : List ℕ) → list_all is_label_byte xs ≡ true → are_ascii xs ≡ true
label_ascii [] all = refl
label_ascii (b ∷ bs) all =
    let both = and_parts (is_label_byte b) (list_all is_label_byte bs) all in
    and_from (nat_lt b 128) (are_ascii bs) (lt-ltb b 128 (label_low b both.0).1)
    (label_ascii bs both.1)

ascii_joined : (xs ys : List ℕ) → are_ascii xs ≡ true → are_ascii ys ≡ true
    → are_ascii (xs ++ ys) ≡ true
ascii_joined [] ys a b = b
ascii_joined (x ∷ xs) ys a b =
    let both = and_parts (nat_lt x 128) (are_ascii xs) a in
    and_from (nat_lt x 128) (are_ascii (xs ++ ys)) both.0 (ascii_joined xs ys both.1 b)

text_ascii : (from to : ℕ) (slo : List ℕ) → from < 2 ^ 64 → to < 2 ^ 64
    → list_all is_label_byte slo ≡ true → are_ascii (text_by from slo to) ≡ true
text_ascii from to slo a b all =
    let last = ascii_joined (decimal to) (codes "}") (label_ascii (decimal to) (decimal_label to b))
    refl in
    let behind = ascii_joined slo (codes "\",\"to\":" ++ (decimal to ++ codes "}"))
    (label_ascii slo all) last in
    ascii_joined (decimal from) (codes ",\"slo\":\"" ++ (slo ++ (codes "\",\"to\":"
    ++ (decimal to ++ codes "}")))) (label_ascii (decimal from) (decimal_label from a)) behind

-- THE EXCLUSION

below_is : (n : ℕ) → n < 4294967296 → below_2_32 n ≡ Some n
below_is n h = ap (λ b. cond b (Some n) None) (lt-ltb n 4294967296 h)

in_data : (id slo : List ℕ) (from to : ℕ) → below_2_32 from ≡ Some from → label_of slo ≡ Some slo
    → below_2_32 to ≡ Some to
    → Some (record { id = id; slo = slo; from = from; to = to })
    ≡ exclusion_in id (data_by from slo to)
in_data id slo from to a b c = rw (a, b, c) refl

pub exclusion_read : (x : Exclusion) → FitsExclusion x
    → Some x ≡ exclusion_of x.id (exclusion_text x)
exclusion_read x fits =
    let a : x.from < 4294967296 = omega (arith, fits.range.from) in
    let b : x.to < 4294967296 = omega (arith, fits.range.to) in
    let all = label_bytes x.slo fits.slo in
    exclusion_some x.id (exclusion_text x) (data_by x.from x.slo x.to) (Some x) (
      IsUtf8-are_ascii (exclusion_text x) (text_ascii x.from x.to x.slo (omega arith) (omega arith)
          all),
      value_read x.from x.to x.slo (omega arith) (omega arith) (unescaped x.slo all),
    )
    (in_data x.id x.slo x.from x.to (below_is x.from a) (label_read x.slo fits.slo)
    (below_is x.to b))

-- its body is short
sizes : (a f b s c t d : List ℕ) → length (a ++ (f ++ (b ++ (s ++ (c ++ (t ++ d))))))
    ≡ length a + length f + length b + length s + length c + length t + length d
sizes a f b s c t d = omega (
  arith,
  length-append a (f ++ (b ++ (s ++ (c ++ (t ++ d))))),
  length-append f (b ++ (s ++ (c ++ (t ++ d)))),
  length-append b (s ++ (c ++ (t ++ d))),
  length-append s (c ++ (t ++ d)),
  length-append c (t ++ d),
  length-append t d,
)

pub exclusion_size : (x : Exclusion) → FitsExclusion x → length (exclusion_text x) ≤ 1048576
exclusion_size x fits =
    let all : length (exclusion_text x)
    ≡ 8 + length (decimal x.from) + 8 + length x.slo + 7 + length (decimal x.to) + 1 =
    sizes (codes "{\"from\":") (decimal x.from) (codes ",\"slo\":\"") x.slo
    (codes "\",\"to\":") (decimal x.to) (codes "}") in
    let e = decimal_short x.from (omega (arith, fits.range.from)) in
    let f = decimal_short x.to (omega (arith, fits.range.to)) in
    let g = (label_name x.slo fits.slo).size.1 in
    omega (arith, all, e, f, g)
