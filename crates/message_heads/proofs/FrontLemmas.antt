-- The first 8,192 bytes, and all of them.
use Rattle.std.proofs.Common.{◌≡◌, ◌≤◌, ◌<◌, ℕ, ◌+◌, List, ◌++◌, min, length, take, drop, arith}
use Rattle.std.proofs.Common.{sym, ap, refl, subst, Some, ◌∙◌, [], append-nil}
use Rattle.std.proofs.lemmas.List.{length-append, take-append-drop, length-take, length-take-le}
use Rattle.std.proofs.lemmas.List.{take-append-le, take_all}
use Rattle.httparse.specs.declared.spans.HeaderSpan.{HeaderSpan}
use Rattle.httparse.specs.Grammar.{print_request, HasNoRequest, MayBecomeRequest, NeverHasRequest}
use Rattle.message_heads.specs.Start.{Begins}
use Rattle.message_heads.specs.declared.start.Start.TheVariants.{Wide, Unfinished}
use Rattle.message_heads.specs.declared.message.Heard.TheVariants.{Bad}
use Rattle.message_heads.specs.declared.message.Hearing.{Hearing}
use Rattle.message_heads.specs.declared.message.Hearing.TheVariants as hearing
use Rattle.message_heads.specs.Hearing.{IsFront, Hears, IsHeard, heard_of, Awaits, IsPassed}
use Rattle.message_heads.specs.Hearing.{IsDecided, head_too_large, malformed}
use Rattle.message_heads.proofs.PrefixLemmas.{wide_decided}
use Rattle.message_heads.proofs.WaitLemmas.{unfinished, full_decided, never_decided}
use Rattle.message_heads.proofs.WaitLemmas.{full_never_decided, decided_more}

pub front_of : (bytes : List ℕ) (n : ℕ) → n ≡ min (length bytes) 8192 → IsFront bytes (take n bytes)
front_of bytes n is =
    let l = length-take n bytes in
    (drop n bytes, sym (take-append-drop n bytes), omega (arith, l, is))

-- what is decided in the front is decided
bad_more : (bytes : List ℕ) (n status : ℕ) → Hears (take n bytes) (Bad status)
    → Hears bytes (Bad status)
bad_more bytes n status (k, r, d, s) = (
  k,
  r,
  subst (λ b. IsDecided b k r) (take-append-drop n bytes)
      (decided_more (take n bytes) (drop n bytes) k r d),
  s,
)

pub front_wide : (bytes : List ℕ) (n : ℕ) (slots : List HeaderSpan) (len : ℕ)
    → n ≡ min (length bytes) 8192 → Begins (take n bytes) slots (Wide len) → Hears bytes (Bad 431)
front_wide bytes n slots len is (h, reads, same, wide) =
    let a = ap length reads.1 in
    let b = length-append (print_request h) (drop len (take n bytes)) in
    let l = length-take n bytes in
    bad_more bytes n 431 (
      length (print_request h),
      head_too_large,
      wide_decided (take n bytes) h
          (drop len (take n bytes)) reads (omega (arith, a, b, l, is)) wide,
      refl,
    )

pub front_more : (bytes : List ℕ) (n : ℕ) → n ≡ min (length bytes) 8192
    → length (take n bytes) < 8192
    → HasNoRequest (take n bytes) × MayBecomeRequest (take n bytes)
    → Awaits bytes (length (take n bytes) + 1)
front_more bytes n is short (none, may) =
    let l = length-take n bytes in
    let all : take n bytes ≡ bytes = take_all n bytes (omega (arith, l, is, short)) in
    let same = ap length all in
    record {
      more = omega (arith, same);
      room = omega (arith, short);
      below = λ more m small. (
          let inside : m ≤ length bytes = omega (arith, same, small) in
          rw (take-append-le m bytes more inside)
          (unfinished bytes (subst HasNoRequest all none) (subst MayBecomeRequest all may) m inside
          (omega (arith, same, short, inside))));
    }

pub front_full : (bytes : List ℕ) (n : ℕ) → n ≡ min (length bytes) 8192
    → 8192 ≤ length (take n bytes)
    → HasNoRequest (take n bytes) × MayBecomeRequest (take n bytes) → Hears bytes (Bad 431)
front_full bytes n is long (none, may) =
    let l = length-take n bytes in
    bad_more bytes n 431 (
      8192,
      head_too_large,
      full_decided (take n bytes) none may (omega (arith, l, is, long)),
      refl,
    )

pub front_never : (bytes : List ℕ) (n status : ℕ)
    → ((more : List ℕ) → Hears (take n bytes ++ more) (Bad status)) → Hears bytes (Bad status)
front_never bytes n status hears =
    subst (λ b. Hears b (Bad status)) (take-append-drop n bytes) (hears (drop n bytes))

pub refused_here : (front : List ℕ) (n : ℕ) → length front ≤ 8192 → n ≤ length front → n < 8192
    → NeverHasRequest (take n front)
    → ((m : ℕ) → m < n → IsPassed (take m front)) → (more : List ℕ)
    → Hears (front ++ more) (Bad 400)
refused_here front n few inside short never earlier more = (
  n,
  malformed,
  decided_more front more n malformed
      (never_decided front n inside short never earlier),
  refl,
)

pub refused_full : (front : List ℕ) (n : ℕ) → length front ≤ 8192 → n ≤ length front → 8192 ≤ n
    → NeverHasRequest (take n front)
    → ((m : ℕ) → m < n → IsPassed (take m front)) → (more : List ℕ)
    → Hears (front ++ more) (Bad 431)
refused_full front n few inside long never earlier more =
    let e : n ≡ 8192 = omega arith in
    let all : take n front ≡ front = take_all n front (omega arith) in (
      8192,
      head_too_large,
      decided_more front more 8192 head_too_large
          (full_never_decided front (omega arith) (subst NeverHasRequest all never)
          (λ m before. earlier m (omega arith))),
      refl,
    )

-- without the count of bytes that are awaited
pub heard_alone : (bytes : List ℕ) (h : Hearing) → IsHeard bytes h → Hears bytes (heard_of h)
heard_alone bytes (hearing.Whole m n) heard = heard
heard_alone bytes (hearing.Bad status) heard = heard
heard_alone bytes (hearing.More n) heard =
    λ m inside. subst (λ b. IsPassed (take m b)) (append-nil bytes)
    (heard.below [] m (let a = heard.more in omega (arith, a, inside)))
