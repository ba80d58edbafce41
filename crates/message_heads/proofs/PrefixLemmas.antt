-- What holds of the bytes so far, along the prefixes of bytes that begin with a head, that may
-- become one, or that never do.
use Rattle.std.proofs.Common.{◌≡◌, ◌⊎◌, inl, inr, ◌≤◌, ◌<◌, ℕ, ◌+◌, ◌-◌, List, [], ◌∷◌, ◌++◌}
use Rattle.std.proofs.Common.{length, take, drop, Option, Some, None, true, false, sym, ap, ◌∙◌}
use Rattle.std.proofs.Common.{refl, subst, arith, codes, append_assoc, append-nil}
use Rattle.std.proofs.lemmas.List.{length-append, take-append-drop, length-take, length-take-le}
use Rattle.std.proofs.lemmas.List.{take-append-le, take_all, drop_all}
use Rattle.std.proofs.lemmas.Bool.{cases_lt}
use Rattle.std.proofs.Math.Seq.{take-append_seam, drop-append_seam, take-append-add}
use Rattle.httparse.specs.Grammar.{RequestHead, IsRequestHead, ReadsRequest, HasNoRequest}
use Rattle.httparse.specs.Grammar.{NeverHasRequest, MayBecomeRequest, EndsInTarget, IsToken}
use Rattle.httparse.specs.Grammar.{print_request}
use Rattle.httparse.proofs.GrammarLemmas.{request_unique, request_prefix_free, ReadsRequest-append}
use Rattle.message_heads.specs.Fields.{fields_of, counted_length, is_encoded}
use Rattle.message_heads.specs.Hearing.{Ruling, head_too_large, malformed, encoded, body_too_large}
use Rattle.message_heads.specs.Hearing.{whole, place, IsHead, Holds, IsPassed, IsDecided, status_of}

-- a prefix and the rest
parts : (m : ℕ) (bytes : List ℕ) → bytes ≡ take m bytes ++ drop m bytes
parts m bytes = sym (take-append-drop m bytes)

-- a head that a prefix begins with is the head of the whole
head_of_prefix : (m : ℕ) (bytes : List ℕ) (h k : RequestHead) (q rest : List ℕ)
    → ReadsRequest (take m bytes) k q → ReadsRequest bytes h rest
    → (k ≡ h) × (q ++ drop m bytes ≡ rest)
head_of_prefix m bytes h k q rest a b =
    request_prefix_free (take m bytes) (drop m bytes) k h q rest a (rw (take-append-drop m bytes) b)

-- no head in a prefix that is shorter than the head
before_head : (m : ℕ) (bytes : List ℕ) (h : RequestHead) (rest : List ℕ) → ReadsRequest bytes h rest
    → m < length (print_request h) → HasNoRequest (take m bytes)
before_head m bytes h rest reads short k q other =
    let same = head_of_prefix m bytes h k q rest other reads in
    let a = ap length other.1 in
    let b = length-append (print_request k) q in
    let c : length (print_request k) ≡ length (print_request h) =
    ap (λ x. length (print_request x)) same.0 in
    let d = ap length reads.1 in
    let e = length-append (print_request h) rest in
    let f = length-take-le m bytes (omega arith) in
    omega arith

-- a prefix of a head may become one
pub not_never : (m : ℕ) (bytes more : List ℕ) (h : RequestHead) (rest : List ℕ)
    → ReadsRequest (bytes ++ more) h rest → NeverHasRequest (take m bytes) → ⊥
not_never m bytes more h rest reads never =
    never (drop m bytes ++ more) h rest (rw (← append_assoc, take-append-drop m bytes) reads)

-- nothing holds of a prefix that has no head, may become one, and is short
pub nothing : (bytes : List ℕ) → HasNoRequest bytes → length bytes < 8192 → (r : Ruling)
    → Holds r bytes → (r ≡ malformed) × NeverHasRequest bytes
nothing bytes none short head_too_large (inl (h, is, wide)) = absurd (none h [] is)
nothing bytes none short head_too_large (inr (long, empty)) = absurd (omega arith)
nothing bytes none short malformed (inl never) = (refl, never)
nothing bytes none short malformed (inr (h, is, bad)) = absurd (none h [] is)
nothing bytes none short encoded (h, is, coded) = absurd (none h [] is)
nothing bytes none short body_too_large (h, n, is, counted, large) = absurd (none h [] is)
nothing bytes none short whole (h, body, is, counted) = absurd (none h body is)

-- before a head's end nothing holds
pub inside_head : (m : ℕ) (bytes : List ℕ) (h : RequestHead) (rest : List ℕ)
    → ReadsRequest bytes h rest → length (print_request h) ≤ 8192
    → m < length (print_request h) → IsPassed (take m bytes)
inside_head m bytes h rest reads fits short r holds =
    let d = ap length reads.1 in
    let e = length-append (print_request h) rest in
    let f = length-take-le m bytes (omega arith) in
    let found =
    nothing (take m bytes) (before_head m bytes h rest reads short) (omega arith) r holds in
    absurd (not_never m bytes [] h rest (rw append-nil reads) found.1)

-- what a ruling says of a head and the bytes after it
abbrev Says : Ruling → RequestHead → List ℕ → Type 0
Says head_too_large h rest = 64 < length h.fields
Says malformed h rest = counted_length (fields_of h) ≡ None
Says encoded h rest = is_encoded (fields_of h) ≡ true
Says body_too_large h rest = (n : ℕ) × (counted_length (fields_of h) ≡ Some n) × (1048576 < n)
Says whole h rest = counted_length (fields_of h) ≡ Some (length rest)

-- what holds of bytes that begin with a head
says : (bytes : List ℕ) (h : RequestHead) (rest : List ℕ) → ReadsRequest bytes h rest → (r : Ruling)
    → Holds r bytes → Says r h rest
says bytes h rest reads head_too_large (inl (k, is, wide)) =
    subst (λ x. 64 < length x.fields) (request_unique bytes k h [] rest is reads).0 wide
says bytes h rest reads head_too_large (inr (long, empty)) = absurd (empty h rest reads)
says bytes h rest reads malformed (inl never) = absurd (never [] h rest (rw append-nil reads))
says bytes h rest reads malformed (inr (k, is, bad)) =
    subst (λ x. counted_length (fields_of x) ≡ None)
    (request_unique bytes k h [] rest is reads).0 bad
says bytes h rest reads encoded (k, is, coded) =
    subst (λ x. is_encoded (fields_of x) ≡ true) (request_unique bytes k h [] rest is reads).0 coded
says bytes h rest reads body_too_large (k, n, is, counted, large) = (
  n,
  subst (λ x. counted_length (fields_of x) ≡ Some n)
      (request_unique bytes k h [] rest is reads).0 counted,
  large,
)
says bytes h rest reads whole (k, body, is, counted) =
    let same = request_unique bytes k h body rest is reads in
    subst (λ x. counted_length (fields_of h) ≡ Some (length x)) same.1
    (subst (λ x. counted_length (fields_of x) ≡ Some (length body)) same.0 counted)

-- a head that the fields don't refuse
pub record IsFine (h : RequestHead) (n : ℕ) : Type 0 where
  pub few : length h.fields ≤ 64
  pub counted : counted_length (fields_of h) ≡ Some n
  pub plain : is_encoded (fields_of h) ≡ false
  pub short : n ≤ 1048576

some_same : (a b : ℕ) → Some a ≡ Some b → a ≡ b
some_same a b e = cc e

-- a fine head leaves one ruling
fine_says : (h : RequestHead) (n : ℕ) (rest : List ℕ) → IsFine h n → (r : Ruling) → Says r h rest
    → (r ≡ whole) × (length rest ≡ n)
fine_says h n rest fine head_too_large wide = absurd (omega (arith, fine.few, wide))
fine_says h n rest fine malformed bad = absurd (cc (bad, fine.counted))
fine_says h n rest fine encoded coded = absurd (cc (coded, fine.plain))
fine_says h n rest fine body_too_large (k, counted, large) =
    let e = some_same k n (sym counted ∙ fine.counted) in
    absurd (omega (arith, e, fine.short, large))
fine_says h n rest fine whole counted =
    (refl, some_same (length rest) n (sym counted ∙ fine.counted))

-- the prefixes that reach into the body
begins : (m : ℕ) (bytes : List ℕ) (h : RequestHead) (rest : List ℕ) → ReadsRequest bytes h rest
    → length (print_request h) ≤ m
    → ReadsRequest (take m bytes) h (take (m - length (print_request h)) rest)
begins m bytes h rest reads past =
    let e : m ≡ length (print_request h) + (m - length (print_request h)) = omega arith in (
      reads.0,
      ap (take m) reads.1 ∙ ap (λ x. take x (print_request h ++ rest)) e
          ∙ take-append-add (print_request h) rest (m - length (print_request h)),
    )

pub inside_body : (m : ℕ) (bytes : List ℕ) (h : RequestHead) (n : ℕ) (rest : List ℕ)
    → ReadsRequest bytes h rest → IsFine h n
    → length (print_request h) ≤ m → m < length (print_request h) + n → IsPassed (take m bytes)
inside_body m bytes h n rest reads fine past short r holds =
    let k = m - length (print_request h) in
    let found = fine_says h n (take k rest) fine r
    (says (take m bytes) h (take k rest) (begins m bytes h rest reads past) r holds) in
    let f = length-take k rest in
    absurd (omega (arith, f, found.1))

-- where the head and its body are not whole yet, no prefix is refused
pub more_of_body : (bytes : List ℕ) (h : RequestHead) (n : ℕ) (rest : List ℕ)
    → ReadsRequest bytes h rest → length (print_request h) ≤ 8192 → IsFine h n
    → (m : ℕ) → m < length (print_request h) + n → IsPassed (take m bytes)
more_of_body bytes h n rest reads fits fine m short =
    elim (cases_lt m (length (print_request h))) [
      | inl before ↦ inside_head m bytes h rest reads fits before
      | inr past ↦ inside_body m bytes h n rest reads fine past short
    ]

-- the head itself
at_head : (bytes : List ℕ) (h : RequestHead) (rest : List ℕ) → ReadsRequest bytes h rest
    → IsHead (take (length (print_request h)) bytes) h
at_head bytes h rest reads = (
  reads.0,
  ap (take (length (print_request h))) reads.1 ∙ take-append_seam (print_request h) rest
      ∙ sym (append-nil (print_request h)),
)

-- a ruling that holds of the head itself and is the first of those that do
pub refused_at_head : (bytes : List ℕ) (h : RequestHead) (rest : List ℕ) → ReadsRequest bytes h rest
    → length (print_request h) ≤ 8192
    → (r : Ruling) → Holds r (take (length (print_request h)) bytes)
    → ((q : Ruling) → Says q h [] → place r ≤ place q)
    → IsDecided bytes (length (print_request h)) r
refused_at_head bytes h rest reads fits r holds first =
    let d = ap length reads.1 in
    let e = length-append (print_request h) rest in
    record {
      within = omega (arith, d, e);
      holds = holds;
      first = λ q other. first q
          (says (take (length (print_request h)) bytes) h [] (at_head bytes h rest reads) q other);
      earlier = λ m before. inside_head m bytes h rest reads fits before;
    }

pub wide_decided : (bytes : List ℕ) (h : RequestHead) (rest : List ℕ) → ReadsRequest bytes h rest
    → length (print_request h) ≤ 8192
    → 64 < length h.fields → IsDecided bytes (length (print_request h)) head_too_large
wide_decided bytes h rest reads fits wide =
    refused_at_head bytes h rest reads fits head_too_large
    (inl (h, at_head bytes h rest reads, wide)) (λ q other. omega arith)

pub malformed_decided : (bytes : List ℕ) (h : RequestHead) (rest : List ℕ)
    → ReadsRequest bytes h rest → length (print_request h) ≤ 8192
    → length h.fields ≤ 64 → counted_length (fields_of h) ≡ None
    → IsDecided bytes (length (print_request h)) malformed
malformed_decided bytes h rest reads fits few bad =
    refused_at_head bytes h rest reads fits malformed
    (inr (h, at_head bytes h rest reads, bad)) (first)
  where
    first : (q : Ruling) → Says q h [] → place malformed ≤ place q
    first head_too_large wide = absurd (omega (arith, few, wide))
    first malformed other = omega arith
    first encoded other = omega arith
    first body_too_large other = omega arith
    first whole other = omega arith

pub encoded_decided : (bytes : List ℕ) (h : RequestHead) (rest : List ℕ) (n : ℕ)
    → ReadsRequest bytes h rest → length (print_request h) ≤ 8192
    → length h.fields ≤ 64 → counted_length (fields_of h) ≡ Some n → is_encoded (fields_of h) ≡ true
    → IsDecided bytes (length (print_request h)) encoded
encoded_decided bytes h rest n reads fits few counted coded =
    refused_at_head bytes h rest reads fits encoded (h, at_head bytes h rest reads, coded) (first)
  where
    first : (q : Ruling) → Says q h [] → place encoded ≤ place q
    first head_too_large wide = absurd (omega (arith, few, wide))
    first malformed bad = absurd (cc (bad, counted))
    first encoded other = omega arith
    first body_too_large other = omega arith
    first whole other = omega arith

pub large_decided : (bytes : List ℕ) (h : RequestHead) (rest : List ℕ) (n : ℕ)
    → ReadsRequest bytes h rest → length (print_request h) ≤ 8192
    → length h.fields ≤ 64 → counted_length (fields_of h) ≡ Some n → is_encoded (fields_of h)
    ≡ false → 1048576 < n → IsDecided bytes (length (print_request h)) body_too_large
large_decided bytes h rest n reads fits few counted plain large =
    refused_at_head bytes h rest reads fits body_too_large (
      h,
      n,
      at_head bytes h rest reads,
      counted,
      large,
    ) (first)
  where
    first : (q : Ruling) → Says q h [] → place body_too_large ≤ place q
    first head_too_large wide = absurd (omega (arith, few, wide))
    first malformed bad = absurd (cc (bad, counted))
    first encoded coded = absurd (cc (coded, plain))
    first body_too_large other = omega arith
    first whole other = omega arith

pub body_reads : (bytes : List ℕ) (h : RequestHead) (n : ℕ) (rest : List ℕ)
    → ReadsRequest bytes h rest
    → ReadsRequest (take (length (print_request h) + n) bytes) h (take n rest)
body_reads bytes h n rest reads =
    let k = length (print_request h) in
    let z : k + n - k ≡ n = omega arith in
    subst (λ (x : ℕ). ReadsRequest (take (k + n) bytes) h (take x rest)) z
    (begins (k + n) bytes h rest reads (omega arith))

pub whole_decided : (bytes : List ℕ) (h : RequestHead) (n : ℕ) (rest : List ℕ)
    → ReadsRequest bytes h rest → length (print_request h) ≤ 8192 → IsFine h n
    → n ≤ length rest → IsDecided bytes (length (print_request h) + n) whole
whole_decided bytes h n rest reads fits fine all =
    let k = length (print_request h) in
    let d = ap length reads.1 in
    let e = length-append (print_request h) rest in
    let at = body_reads bytes h n rest reads in
    record {
      within = omega (arith, d, e, all);
      holds = (h, take n rest, at, fine.counted ∙ ap Some (sym (length-take-le n rest all)));
      first = λ q other. rw (fine_says h n (take n rest) fine q
          (says (take (k + n) bytes) h (take n rest) at q other)).0 (omega arith);
      earlier = more_of_body bytes h n rest reads fits fine;
    }
