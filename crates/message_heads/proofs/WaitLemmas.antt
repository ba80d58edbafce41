-- What holds along the prefixes of bytes that may become a head, and of bytes that never do.
use Rattle.std.proofs.Common.{◌≡◌, ◌⊎◌, inl, inr, ◌≤◌, ◌<◌, ℕ, ◌+◌, ◌-◌, List, [], ◌∷◌, ◌++◌}
use Rattle.std.proofs.Common.{length, take, drop, All, Option, Some, None, true, false, sym, ap}
use Rattle.std.proofs.Common.{◌∙◌, refl, subst, arith, codes, append_assoc, append-nil}
use Rattle.std.specs.Prelude.{IsUtf8, IsTrue}
use Rattle.std.proofs.lemmas.Bool.{cases_lt}
use Rattle.std.proofs.lemmas.List.{length-append, take-append-drop, length-take-le, take-append-le}
use Rattle.std.proofs.lemmas.List.{take_all}
use Rattle.std.proofs.lemmas.List.Elements.{All-take}
use Rattle.std.proofs.Math.Seq.{take-append-add}
use Rattle.httparse.specs.Grammar.{RequestHead, IsRequestHead, ReadsRequest, HasNoRequest}
use Rattle.httparse.specs.Grammar.{NeverHasRequest, MayBecomeRequest, EndsInTarget, IsToken}
use Rattle.httparse.specs.Grammar.{AllPass, IsField, LineEnd, lf, is_uri_byte, print_blank}
use Rattle.httparse.specs.Grammar.{print_request}
use Rattle.httparse.proofs.GrammarLemmas.{ReadsRequest-append}
use Rattle.message_heads.specs.Hearing.{Ruling, head_too_large, malformed, encoded, body_too_large}
use Rattle.message_heads.specs.Hearing.{whole, place, Holds, IsPassed, IsDecided}
use Rattle.message_heads.specs.Start.{WhetherHeadMayCome}
use Rattle.message_heads.proofs.PrefixLemmas.{not_never, nothing}

-- a head that goes on behind a method and a space
one_head : List LineEnd → List ℕ → RequestHead
one_head blank method = record {
  blank = blank;
  method = method;
  target = 47 ∷ [];
  minor = 1;
  line_end = lf;
  fields = [];
  last = lf;
}

one_is : (blank : List LineEnd) (method : List ℕ) → IsToken method
    → IsRequestHead (one_head blank method)
unfolding one_head lib.Utf8.encode
one_is blank method token = record {
  method = token;
  target = (omega arith, λ k d small. (let e : k ≡ 0 = omega arith in rw e refl));
  target_text = (47 ∷ [], (refl, refl));
  minor = omega arith;
  fields = λ k d small. absurd (omega arith);
}

one_reads : (blank : List LineEnd) (method : List ℕ) → IsToken method
    → ReadsRequest ((print_blank blank ++ method ++ 32 ∷ []) ++ codes "/ HTTP/1.1\n\n")
    (one_head blank method) []
unfolding one_head print_request
one_reads blank method token = (one_is blank method token, simp (append_assoc, append-nil) refl)

-- a prefix that no head begins with ends in the target
in_target : (m : ℕ) (bytes : List ℕ) → m ≤ length bytes → EndsInTarget bytes
    → NeverHasRequest (take m bytes) → EndsInTarget (take m bytes)
in_target m bytes inside (blank, method, target, token, pass, cut) never =
    by (cases_lt m (length front))
  where
    front : List ℕ
    front = print_blank blank ++ method ++ 32 ∷ []

    whole_cut : bytes ≡ front ++ target
    whole_cut = rw append_assoc cut

    by : (m < length front) ⊎ (length front ≤ m) → EndsInTarget (take m bytes)
    by (inl before) =
        absurd (not_never m front (codes "/ HTTP/1.1\n\n") (one_head blank method) []
        (one_reads blank method token)
        (subst NeverHasRequest (ap (take m) whole_cut ∙ take-append-le m front target (omega arith))
        never))
    by (inr past) =
        let k = m - length front in
        let e : m ≡ length front + k = omega arith in
        let t : front ++ take k target ≡ print_blank blank ++ method ++ 32 ∷ take k target =
        append_assoc (print_blank blank ++ method) (32 ∷ []) (take k target) in (
          blank,
          method,
          take k target,
          token,
          All-take (λ b. IsTrue (is_uri_byte b)) k target pass,
          ap (take m) whole_cut ∙ ap (λ x. take x (front ++ target)) e
              ∙ take-append-add front target k ∙ t,
        )

-- no prefix of bytes that may become a head is refused
pub unfinished : (bytes : List ℕ) → HasNoRequest bytes → MayBecomeRequest bytes → (m : ℕ)
    → m ≤ length bytes → m < 8192 → IsPassed (take m bytes)
unfinished bytes none may m inside short r holds =
    let l = length-take-le m bytes inside in
    let found = nothing (take m bytes) (λ h rest reads. none h (rest ++ drop m bytes)
    (subst (λ x. ReadsRequest x h (rest ++ drop m bytes)) (take-append-drop m bytes)
    (ReadsRequest-append (take m bytes) h rest (drop m bytes) reads)))
    (omega arith) r holds in
    elim may [
      | inl (more, h, reads) ↦ absurd (not_never m bytes more h [] reads found.1)
      | inr target ↦ (found.0, in_target m bytes inside target found.1)
    ]

-- a full buffer that may become a head
pub full_decided : (bytes : List ℕ) → HasNoRequest bytes → MayBecomeRequest bytes
    → length bytes ≡ 8192 → IsDecided bytes 8192 head_too_large
full_decided bytes none may full = record {
  within = omega arith;
  holds = rw (take_all 8192 bytes (omega arith)) (inr (full, none));
  first = λ q other. omega arith;
  earlier = λ m before. unfinished bytes none may m (omega arith) before;
}

-- the first of the bytes of which none is a head, whatever follows
pub never_decided : (bytes : List ℕ) (n : ℕ) → n ≤ length bytes → n < 8192
    → NeverHasRequest (take n bytes) → ((m : ℕ) → m < n → IsPassed (take m bytes))
    → IsDecided bytes n malformed
never_decided bytes n inside short never earlier = record {
  within = inside;
  holds = inl never;
  first = first;
  earlier = earlier;
}
  where
    first : (q : Ruling) → Holds q (take n bytes) → place malformed ≤ place q
    first head_too_large (inl (h, is, wide)) = absurd (never [] h [] (rw append-nil is))
    first head_too_large (inr (full, empty)) =
        absurd (let l = length-take-le n bytes inside in omega (arith, l, full))
    first malformed other = omega arith
    first encoded other = omega arith
    first body_too_large other = omega arith
    first whole other = omega arith

pub full_never_decided : (bytes : List ℕ) → length bytes ≡ 8192 → NeverHasRequest bytes
    → ((m : ℕ) → m < 8192 → IsPassed (take m bytes))
    → IsDecided bytes 8192 head_too_large
full_never_decided bytes full never earlier = record {
  within = omega arith;
  holds = rw (take_all 8192 bytes (omega arith))
      (inr (full, λ h rest reads. never [] h rest (rw append-nil reads)));
  first = λ q other. omega arith;
  earlier = earlier;
}

-- bytes that follow change nothing
pub decided_more : (bytes more : List ℕ) (n : ℕ) (r : Ruling) → IsDecided bytes n r
    → IsDecided (bytes ++ more) n r
decided_more bytes more n r d =
    let l = length-append bytes more in
    record {
      within = omega (arith, d.within);
      holds = rw (take-append-le n bytes more d.within) d.holds;
      first = λ q other. d.first q (rw (take-append-le n bytes more d.within) at other);
      earlier = λ m before. (let w : m ≤ length bytes = omega (arith, d.within) in
          rw (take-append-le m bytes more w) (d.earlier m before));
    }

take_take : (i j : ℕ) (xs : List ℕ) → i ≤ j → j ≤ length xs → take i (take j xs) ≡ take i xs
take_take i j xs h fits =
    let l = length-take-le j xs fits in
    sym (take-append-le i (take j xs) (drop j xs) (omega arith))
    ∙ ap (take i) (take-append-drop j xs)

-- up to a prefix that may begin a message, nothing is refused
pub still_passed : (front : List ℕ) (middle high : ℕ) → middle < high → high ≤ length front
    → length front ≤ 8192
    → NeverHasRequest (take high front) → WhetherHeadMayCome true (take middle front) → (m : ℕ)
    → m < middle + 1 → IsPassed (take m front)
still_passed front middle high below inside few never (inl (h, rest, reads)) m upto =
    let same : take middle (take high front) ≡ take middle front =
    take_take middle high front (omega arith) inside in
    absurd (never [] h (rest ++ drop middle (take high front))
    (rw append-nil (subst (λ x. ReadsRequest x h (rest ++ drop middle (take high front))) (ap (λ x.
    x ++ drop middle (take high front)) (sym same) ∙ take-append-drop middle (take high front))
    (ReadsRequest-append (take middle front) h rest (drop middle (take high front)) reads))))
still_passed front middle high below inside few never (inr (none, may)) m upto =
    let l = length-take-le middle front (omega arith) in
    subst IsPassed (take_take m middle front (omega arith) (omega arith))
    (unfinished (take middle front) none may m (omega arith) (omega arith))
