-- The heads of requests that the program writes, and the messages that begin with them.
use Rattle.std.proofs.Common.{◌≡◌, ◌∙◌, ◌<◌, ◌≤◌, ◌+◌, ◌-◌, ◌^◌, ℕ, true, false, cond, List}
use Rattle.std.proofs.Common.{[]}
use Rattle.std.proofs.Common.{◌∷◌, ◌++◌, length, take, get_or, Some, None, decimal, codes}
use Rattle.std.proofs.Common.{refl, sym, ap, subst, arith, append_assoc, append-nil}
use Rattle.std.proofs.Common.{length-append, le-leb}
use Rattle.std.specs.Char.{is_ascii_digit}
use Rattle.std.specs.List.{list_all}
use Rattle.std.proofs.lemmas.Bool.{and_parts}
use Rattle.std.proofs.lemmas.Fmt.{length-decimal-le}
use Rattle.std.proofs.lemmas.List.Elements.{All-cons, All-nil}
use Rattle.std.proofs.lemmas.List.Sums.{AllPass-from_list_all}
use Rattle.std.proofs.lemmas.Str.{IsUtf8-from_ascii}
use Rattle.std.proofs.Math.Seq.{take-append_seam}
use Rattle.exact_fraction.specs.Digits.{digits_value}
use Rattle.exact_fraction.specs.ZoneName.{is_zone_byte}
use Rattle.httparse.specs.Grammar.{Field, IsField, IsRequestHead, IsToken, ReadsRequest}
use Rattle.httparse.specs.Grammar.{RequestHead}
use Rattle.httparse.specs.Grammar.{crlf, is_ows, is_token_byte, is_uri_byte, is_value_byte}
use Rattle.httparse.specs.Grammar.{print_request, skip_ows, trim_ows}
use Rattle.httparse.proofs.GrammarLemmas.{cons-append, print_request-append}
use Rattle.httparse.proofs.TrimLemmas.{trim_ows_space}
use Rattle.message_heads.specs.Fields.{closes, counted_length, fields_of, length_of}
use Rattle.message_heads.specs.Hearing.{IsDecided, whole}
use Rattle.message_heads.specs.Streams.{MessageIsWhole, said_of}
use Rattle.message_heads.proofs.PrefixLemmas.{IsFine, body_reads, whole_decided}
use Rattle.message_heads.proofs.Trims.{kept_last}
use Rattle.request_texts.specs.Requests.{head_of, request}
use Rattle.export_heard.proofs.Digits.{all_also, decimal_all, decimal_some, decimal_value}
use Rattle.export_heard.proofs.Digits.{zone_ascii}
use Rattle.export_heard.proofs.Paths.{IsPlain}

-- FIELDS

abbrev host_field : Field
host_field = record { name = codes "Host"; raw = codes " office"; end = crlf }

abbrev length_field : ℕ → Field
length_field n = record { name = codes "Content-Length"; raw = 32 ∷ decimal n; end = crlf }

-- the head of a request of this method and target, whose body has so many bytes
abbrev pub head_by : List ℕ → List ℕ → ℕ → RequestHead
head_by method target n = record {
  blank = [];
  method = method;
  target = target;
  minor = 1;
  line_end = crlf;
  fields = host_field ∷ length_field n ∷ [];
  last = crlf;
}

zone_uri : (b : ℕ) → is_zone_byte b ≡ true → is_uri_byte b ≡ true
zone_uri b h = grind (arith)

digit_value_byte : (b : ℕ) → is_ascii_digit b ≡ true → is_value_byte b ≡ true
digit_value_byte b h = grind (arith)

digit_no_space : (b : ℕ) → is_ascii_digit b ≡ true → is_ows b ≡ false
digit_no_space b h = grind (arith)

host_is : IsField host_field
unfolding is_token_byte
host_is = record {
  name = (omega arith, AllPass-from_list_all is_token_byte (codes "Host") refl);
  raw = AllPass-from_list_all is_value_byte (codes " office") refl;
}

length_field_is : (n : ℕ) → n < 2 ^ 64 → IsField (length_field n)
unfolding is_token_byte
length_field_is n small = record {
  name = (omega arith, AllPass-from_list_all is_token_byte (codes "Content-Length") refl);
  raw = AllPass-from_list_all is_value_byte (32 ∷ decimal n)
      (all_also is_ascii_digit is_value_byte digit_value_byte (decimal n) (decimal_all n small));
}

-- the methods of changes
pub post_token : IsToken (codes "POST")
unfolding is_token_byte
post_token = (omega arith, AllPass-from_list_all is_token_byte (codes "POST") refl)

pub put_token : IsToken (codes "PUT")
unfolding is_token_byte
put_token = (omega arith, AllPass-from_list_all is_token_byte (codes "PUT") refl)

pub delete_token : IsToken (codes "DELETE")
unfolding is_token_byte
delete_token = (omega arith, AllPass-from_list_all is_token_byte (codes "DELETE") refl)

pub head_is : (method target : List ℕ) (n : ℕ) → IsToken method → IsPlain target → n < 2 ^ 64
    → IsRequestHead (head_by method target n)
head_is method target n token plain small = record {
  method = token;
  target = (
    plain.some,
    AllPass-from_list_all is_uri_byte target
        (all_also is_zone_byte is_uri_byte zone_uri target plain.bytes),
  );
  target_text = IsUtf8-from_ascii target (zone_ascii target plain.bytes);
  minor = omega arith;
  fields = All-cons IsField host_field (length_field n ∷ []) host_is
      (All-cons IsField (length_field n) [] (length_field_is n small) (All-nil IsField));
}

-- HOW A HEAD IS WRITTEN

abbrev behind_target : List ℕ
behind_target = codes " HTTP/1.1\r\nHost: office\r\nContent-Length: "

regroup : (m t c d e r : List ℕ) → ((m ++ 32 ∷ t) ++ (c ++ (d ++ e))) ++ r
    ≡ m ++ 32 ∷ (t ++ (c ++ (d ++ (e ++ r))))
regroup m t c d e r = simp (append_assoc, cons-append)

ends_twice : (d e r : List ℕ) → (((d ++ e) ++ []) ++ e) ++ r ≡ d ++ (e ++ (e ++ r))
ends_twice d e r = simp (append_assoc, append-nil)

printed : (method target rest : List ℕ) (n : ℕ) → head_of (method ++ 32 ∷ target) n ++ rest
    ≡ print_request (head_by method target n) ++ rest
unfolding head_of
printed method target rest n =
    regroup method target behind_target (decimal n) (codes "\r\n\r\n") rest
    ∙ ap (λ (r : List ℕ). method ++ 32 ∷ (target ++ (behind_target ++ r)))
    (sym (ends_twice (decimal n) (codes "\r\n") rest))
    ∙ sym (print_request-append (head_by method target n) rest)

parts_size : (l c d e : List ℕ) → length (l ++ (c ++ (d ++ e)))
    ≡ length l + length c + length d + length e
parts_size l c d e =
    omega (arith, length-append l (c ++ (d ++ e)), length-append c (d ++ e), length-append d e)

head_size : (line : List ℕ) (n : ℕ) → length (head_of line n)
    ≡ length line + 41 + length (decimal n) + 4
unfolding head_of
head_size line n = parts_size line behind_target (decimal n) (codes "\r\n\r\n")

same_size : (method target : List ℕ) (n : ℕ) → length (print_request (head_by method target n))
    ≡ length (head_of (method ++ 32 ∷ target) n)
same_size method target n =
    let a = ap length (printed method target [] n) in
    let b = length-append (head_of (method ++ 32 ∷ target) n) [] in
    let c = length-append (print_request (head_by method target n)) [] in
    omega (arith, a, b, c)

seven_digits : (n : ℕ) → n ≤ 1048576 → length (decimal n) ≤ 7
seven_digits n few = length-decimal-le 7 n (omega arith) (omega arith) (omega arith)

short_head : (method target : List ℕ) (n : ℕ) → length method ≤ 8 → IsPlain target → n ≤ 1048576
    → length (print_request (head_by method target n)) ≤ 8192
short_head method target n word plain few =
    let a = same_size method target n in
    let b = head_size (method ++ 32 ∷ target) n in
    let c = length-append method (32 ∷ target) in
    let d = seven_digits n few in
    let e = plain.short in
    omega (arith, a, b, c, d, e)

-- WHAT THE FIELDS SAY

front_kept : (xs : List ℕ) → list_all is_ascii_digit xs ≡ true → skip_ows xs ≡ xs
front_kept [] all = refl
front_kept (x ∷ xs) all =
    rw (digit_no_space x (and_parts (is_ascii_digit x) (list_all is_ascii_digit xs) all).0) refl

-- the digits of a number stay where the space before them is left out
trimmed : (n : ℕ) → n < 2 ^ 64 → trim_ows (32 ∷ decimal n) ≡ decimal n
trimmed n small =
    let all = decimal_all n small in
    let some = decimal_some n small in
    trim_ows_space (decimal n) (front_kept (decimal n) all)
    (kept_last (decimal n) some
    (digit_no_space (get_or (decimal n) (length (decimal n) - 1) 0)
    (AllPass-from_list_all is_ascii_digit (decimal n) all (length (decimal n) - 1) 0
    (omega arith))))

length_is : (n : ℕ) → n ≤ 1048576 → length_of (decimal n) ≡ Some n
length_is n few =
    let d = seven_digits n few in
    ap (λ b. cond b (digits_value (decimal n)) None) (le-leb (length (decimal n)) 19 (omega arith))
    ∙ decimal_value n (omega arith)

body_counted : (method target : List ℕ) (n : ℕ) → n ≤ 1048576
    → counted_length (fields_of (head_by method target n)) ≡ Some n
body_counted method target n few = ap length_of (trimmed n (omega arith)) ∙ length_is n few

fine : (method target : List ℕ) (n : ℕ) → n ≤ 1048576 → IsFine (head_by method target n) n
fine method target n few = record {
  few = omega arith;
  counted = body_counted method target n few;
  plain = refl;
  short = few;
}

-- the connection stays open
pub stays_open : (method target : List ℕ) (n : ℕ)
    → closes 1 (fields_of (head_by method target n)) ≡ false
stays_open method target n = refl

-- MESSAGES

request_reads : (method target body more : List ℕ) → IsToken method → IsPlain target
    → length body ≤ 1048576
    → ReadsRequest (request (method ++ 32 ∷ target) body ++ more)
    (head_by method target (length body)) (body ++ more)
request_reads method target body more token plain few = (
  head_is method target (length body) token plain (omega arith),
  append_assoc (head_of (method ++ 32 ∷ target) (length body)) body more
      ∙ printed method target (body ++ more) (length body),
)

-- A request is a whole message, whatever follows.
pub message_whole : (method target body more : List ℕ) → IsToken method → length method ≤ 8
    → IsPlain target → length body ≤ 1048576
    → MessageIsWhole (request (method ++ 32 ∷ target) body ++ more)
    (length (request (method ++ 32 ∷ target) body))
    (said_of (head_by method target (length body)) body)
message_whole method target body more token word plain few =
    let n = length body in
    let h = head_by method target n in
    let bytes = request (method ++ 32 ∷ target) body ++ more in
    let r = request_reads method target body more token plain few in
    let a = same_size method target n in
    let b = length-append (head_of (method ++ 32 ∷ target) n) body in
    let size : length (print_request h) + n ≡ length (request (method ++ 32 ∷ target) body) =
    omega (arith, a, b) in
    let l = length-append body more in
    record {
      decided = subst (λ (k : ℕ). IsDecided bytes k whole) size
          (whole_decided bytes h n (body ++ more) r (short_head method target n word plain few)
          (fine method target n few) (omega (arith, l)));
      head = h;
      body = body;
      reads = subst (λ (k : ℕ). ReadsRequest (take k bytes) h body) size
          (subst (λ (b : List ℕ). ReadsRequest (take (length (print_request h) + n) bytes) h b)
          (take-append_seam body more) (body_reads bytes h n (body ++ more) r));
      says = refl;
    }
