-- What is heard behind a head of at most 64 fields.
use Rattle.std.proofs.Common.{◌≡◌, ◌≤◌, ◌<◌, ℕ, ◌+◌, ◌-◌, List, [], ◌∷◌, ◌++◌, length, take, drop}
use Rattle.std.proofs.Common.{map, Option, Some, None, Bool, true, false, Result, Ok, Err, cond}
use Rattle.std.proofs.Common.{sym, ap, ◌∙◌, refl, subst, arith, slice_range, append_assoc}
use Rattle.std.proofs.Common.{append-nil}
use Rattle.std.specs.Prelude.{nat_lt}
use Rattle.std.proofs.lemmas.List.{length-append, length-map, length-take, length-drop}
use Rattle.std.proofs.lemmas.List.{length-take-le, take-append-le, drop-append-le}
use Rattle.std.proofs.Math.Seq.{drop-append_seam}
use Rattle.httparse.specs.declared.spans.HeaderSpan.{HeaderSpan}
use Rattle.httparse.specs.declared.spans.RequestSpans.{RequestSpans}
use Rattle.httparse.specs.Grammar.{RequestHead, ReadsRequest, print_request}
use Rattle.httparse.specs.Spans.{IsRequestAt, IsRequestWithin, header_bytes, name_and_value}
use Rattle.httparse.specs.Spans.{span_bytes}
use Rattle.httparse.proofs.GrammarLemmas.{ReadsRequest-append}
use Rattle.message_heads.specs.Fields.{fields_of, counted_length, is_encoded, closes}
use Rattle.message_heads.specs.BodyLength.{length_or_status, body_or_status}
use Rattle.message_heads.specs.Start.{Begins}
use Rattle.message_heads.specs.declared.start.Start.TheVariants.{Head}
use Rattle.message_heads.specs.Hearing.{Ruling, malformed, encoded, body_too_large, whole}
use Rattle.message_heads.specs.Hearing.{IsDecided, IsPassed, IsFront, IsMessage, IsPlace, Hears}
use Rattle.message_heads.specs.Hearing.{Awaits, status_of}
use Rattle.message_heads.specs.declared.message.Message.{Message}
use Rattle.message_heads.specs.declared.message.Heard.TheVariants.{Whole, Bad}
use Rattle.message_heads.proofs.PrefixLemmas.{IsFine, body_reads, malformed_decided}
use Rattle.message_heads.proofs.PrefixLemmas.{encoded_decided, large_decided, whole_decided}
use Rattle.message_heads.proofs.PrefixLemmas.{more_of_body}

fields_few : (bytes : List ℕ) (slots : List HeaderSpan) (n : ℕ) (h : RequestHead) → n ≤ 64
    → map (header_bytes bytes) (take n slots) ≡ fields_of h → length h.fields ≤ 64
fields_few bytes slots n h few same =
    let a = ap length same in
    let b = length-map (take n slots) (header_bytes bytes) in
    let d = length-map h.fields name_and_value in
    let e = length-take n slots in
    omega arith

le_false : (n : ℕ) → nat_lt 1048576 n ≡ false → n ≤ 1048576
le_false n h = grind (arith)

lt_true : (n : ℕ) → nat_lt 1048576 n ≡ true → 1048576 < n
lt_true n h = grind (arith)

same_err : (a b : ℕ) → ◌≡◌ {A = Result ℕ ℕ} (Err a) (Err b) → a ≡ b
same_err a b e = cc e

same_ok : (a b : ℕ) → ◌≡◌ {A = Result ℕ ℕ} (Ok a) (Ok b) → a ≡ b
same_ok a b e = cc e

-- the fields refuse the message
refused : (bytes : List ℕ) (h : RequestHead) (rest : List ℕ) (status : ℕ)
    → ReadsRequest bytes h rest → length (print_request h) ≤ 8192 → length h.fields ≤ 64
    → Err status ≡ body_or_status (fields_of h) → Hears bytes (Bad status)
refused bytes h rest status reads fits few says =
    by (is_encoded (fields_of h)) (counted_length (fields_of h)) refl refl says
  where
    large : (n : ℕ) (b : Bool) → counted_length (fields_of h) ≡ Some n
        → is_encoded (fields_of h) ≡ false → nat_lt 1048576 n ≡ b
        → ◌≡◌ {A = Result ℕ ℕ} (Err status) (cond b (Err 413) (Ok n)) → Hears bytes (Bad status)
    large n true counted plain over e = (
      length (print_request h),
      body_too_large,
      large_decided bytes h rest n reads fits few counted plain (lt_true n over),
      ap Some (sym (same_err status 413 e)),
    )
    large n false counted plain over e = absurd (cc e)

    by : (b : Bool) (o : Option ℕ) → is_encoded (fields_of h) ≡ b → counted_length (fields_of h) ≡ o
        → Err status ≡ length_or_status b o → Hears bytes (Bad status)
    by b None coded counted e = (
      length (print_request h),
      malformed,
      malformed_decided bytes h rest reads fits few counted,
      ap Some (sym (same_err status 400 e)),
    )
    by true (Some n) coded counted e = (
      length (print_request h),
      encoded,
      encoded_decided bytes h rest n reads fits few counted coded,
      ap Some (sym (same_err status 501 e)),
    )
    by false (Some n) coded counted e = large n (nat_lt 1048576 n) counted coded refl e

-- the fields give the length
fine : (h : RequestHead) (n : ℕ) → length h.fields ≤ 64
    → Ok n ≡ body_or_status (fields_of h) → IsFine h n
fine h n few says = by (is_encoded (fields_of h)) (counted_length (fields_of h)) refl refl says
  where
    small : (k : ℕ) (b : Bool) → counted_length (fields_of h) ≡ Some k
        → is_encoded (fields_of h) ≡ false → nat_lt 1048576 k ≡ b
        → ◌≡◌ {A = Result ℕ ℕ} (Ok n) (cond b (Err 413) (Ok k)) → IsFine h n
    small k true counted plain over e = absurd (cc e)
    small k false counted plain over e =
        let same = same_ok n k e in
        record {
          few = few;
          counted = rw same counted;
          plain = plain;
          short = rw same (le_false k over);
        }

    by : (b : Bool) (o : Option ℕ) → is_encoded (fields_of h) ≡ b → counted_length (fields_of h) ≡ o
        → Ok n ≡ length_or_status b o → IsFine h n
    by b None coded counted e = absurd (cc e)
    by true (Some k) coded counted e = absurd (cc e)
    by false (Some k) coded counted e = small k (nat_lt 1048576 k) counted coded refl e

-- the head that the spans are of, in all of the bytes
pub record Headed (bytes front : List ℕ) (slots : List HeaderSpan) (head : RequestSpans)
    (h : RequestHead) (rest : List ℕ) : Type 0 where
  pub reads : ReadsRequest bytes h rest
  pub len : head.len ≡ length (print_request h)
  pub fits : length (print_request h) ≤ 8192
  pub few : length h.fields ≤ 64
  pub fields : map (header_bytes front) (take head.headers slots) ≡ fields_of h
  pub at : IsRequestAt front slots head h
  pub within : IsRequestWithin front slots head

headed : (bytes front : List ℕ) (slots : List HeaderSpan) (head : RequestSpans)
    → IsFront bytes front → Begins front slots (Head head)
    → (h : RequestHead) × (rest : List ℕ) × Headed bytes front slots head h rest
headed bytes front slots head (more, cut, short) ((h, at), within, few) =
    let r = drop head.len front in (
      h,
      r ++ more,
      record {
        reads = subst (λ x. ReadsRequest x h (r ++ more)) (sym cut)
            (ReadsRequest-append front h r more at.reads);
        len = at.len;
        fits = (let l = within.section.len_fits in omega (arith, at.len, l, short));
        few = fields_few front slots head.headers h few at.fields;
        fields = at.fields;
        at = at;
        within = within;
      },
    )

pub behind_refused : (bytes front : List ℕ) (slots : List HeaderSpan) (head : RequestSpans)
    (status : ℕ) → IsFront bytes front → Begins front slots (Head head)
    → Err status ≡ body_or_status (map (header_bytes front) (take head.headers slots))
    → Hears bytes (Bad status)
behind_refused bytes front slots head status is begins says =
    let (h, rest, x) = headed bytes front slots head is begins in
    refused bytes h rest status x.reads x.fits x.few (says ∙ ap body_or_status x.fields)

pub behind_more : (bytes front : List ℕ) (slots : List HeaderSpan) (head : RequestSpans) (n : ℕ)
    → IsFront bytes front → Begins front slots (Head head)
    → Ok n ≡ body_or_status (map (header_bytes front) (take head.headers slots))
    → length bytes < head.len + n → Awaits bytes (head.len + n)
behind_more bytes front slots head n is begins says short =
    let (h, rest, x) = headed bytes front slots head is begins in
    let f = fine h n x.few (says ∙ ap body_or_status x.fields) in
    let e = x.len in
    record {
      more = short;
      room = (let a = x.fits in let b = f.short in omega (arith, a, b, e));
      below = λ more m small. more_of_body (bytes ++ more) h n (rest ++ more)
          (ReadsRequest-append bytes h rest more x.reads) x.fits f m (omega (arith, e, small));
    }

-- a place in the front is the place in all of the bytes
pub front_range : (front more : List ℕ) (s e : ℕ) → s ≤ e → e ≤ length front
    → slice_range (front ++ more) s e ≡ slice_range front s e
front_range front more s e order inside =
    let l = length-drop s front in
    rw (
      drop-append-le s front more (omega arith),
      take-append-le (e - s) (drop s front) more (omega arith),
    ) refl

placed : (bytes front more part : List ℕ) (p : ℕ × ℕ) (s e : ℕ) → bytes ≡ front ++ more → p ≡ (s, e)
    → s ≤ e → e ≤ length front
    → slice_range front s e ≡ part → slice_range bytes p.0 p.1 ≡ part
placed bytes front more part p s e cut is order inside same =
    rw (cut, is) (front_range front more s e order inside ∙ same)

body_placed : (bytes : List ℕ) (h : RequestHead) (n : ℕ) (rest : List ℕ) (p : ℕ × ℕ)
    → bytes ≡ print_request h ++ rest
    → p ≡ (length (print_request h), length (print_request h) + n)
    → take n rest ≡ slice_range bytes p.0 p.1
body_placed bytes h n rest p cut is =
    let k = length (print_request h) in
    let z : k + n - k ≡ n = omega arith in
    rw (is, cut, z, drop-append_seam (print_request h) rest) refl

message : (bytes front more : List ℕ) (slots : List HeaderSpan) (head : RequestSpans) (n : ℕ)
    (m : Message) (h : RequestHead) (rest : List ℕ)
    → bytes ≡ front ++ more → Headed bytes front slots head h rest
    → length (print_request h) + n ≤ length bytes
    → m.method ≡ (head.method.start, head.method.end) → m.target ≡ (head.path.start, head.path.end)
    → m.body ≡ (head.len, head.len + n)
    → m.close ≡ closes head.version (map (header_bytes front) (take head.headers slots))
    → IsMessage bytes m (length (print_request h) + n) h
message bytes front more slots head n m h rest cut x all method target body close =
    let w = x.within in
    let l = w.section.len_fits in
    let k = length (print_request h) + n in
    let e = x.len in
    record {
      within = all;
      places = (
        subst (IsPlace k) (sym method) (w.method.0, (let o = w.method.1 in omega (arith, o, e))),
        subst (IsPlace k) (sym target) (w.path.0, (let o = w.path.1 in omega (arith, o, e))),
        subst (IsPlace k) (sym body) (omega arith, omega (arith, e)),
      );
      reads = subst (λ b. ReadsRequest (take (length (print_request h) + n) bytes) h b)
          (body_placed bytes h n rest m.body x.reads.1 (body ∙ ap (λ k. (k, k + n)) x.len))
          (body_reads bytes h n rest x.reads);
      method = placed bytes front more h.method m.method head.method.start head.method.end cut
          method w.method.0 (omega (arith, l, w.method.1)) x.at.method;
      target = placed bytes front more h.target m.target head.path.start head.path.end cut target
          w.path.0 (omega (arith, l, w.path.1)) x.at.path;
      close = close ∙ ap (closes head.version) x.fields
          ∙ ap (λ v. closes v (fields_of h)) x.at.version;
    }

pub behind_whole : (bytes front : List ℕ) (slots : List HeaderSpan) (head : RequestSpans) (n : ℕ)
    (m : Message) → IsFront bytes front → Begins front slots (Head head)
    → Ok n ≡ body_or_status (map (header_bytes front) (take head.headers slots))
    → head.len + n ≤ length bytes
    → m.method ≡ (head.method.start, head.method.end) → m.target ≡ (head.path.start, head.path.end)
    → m.body ≡ (head.len, head.len + n)
    → m.close ≡ closes head.version (map (header_bytes front) (take head.headers slots))
    → Hears bytes (Whole m (head.len + n))
behind_whole bytes front slots head n m is begins says all method target body close =
    let (h, rest, x) = headed bytes front slots head is begins in
    let a = ap length x.reads.1 in
    let b = length-append (print_request h) rest in
    let e = x.len in
    let some : n ≤ length rest = omega (arith, a, b, e, all) in
    let f = fine h n x.few (says ∙ ap body_or_status x.fields) in
    subst (λ k. IsDecided bytes (k + n) whole × ((h : RequestHead) × IsMessage bytes m (k + n) h))
    (sym e) (
      whole_decided bytes h n rest x.reads x.fits f some,
      (
        h,
        message bytes front is.0 slots head n m
            h rest is.1 x (omega (arith, a, b, e, all)) method target body close,
      ),
    )
