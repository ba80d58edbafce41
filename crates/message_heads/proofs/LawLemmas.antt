-- One decision.
use Rattle.std.proofs.Common.{◌≡◌, ◌⊎◌, inl, inr, ◌≤◌, ◌<◌, ℕ, zero, suc, List, length, take, refl}
use Rattle.std.proofs.Common.{sym, ap, ◌∙◌, subst, arith}
use Rattle.std.proofs.lemmas.Bool.{cases_lt}
use Rattle.std.proofs.Common.{◌++◌, slice_range}
use Rattle.std.proofs.lemmas.List.{length-append, take-append-le}
use Rattle.httparse.specs.Grammar.{RequestHead, ReadsRequest}
use Rattle.message_heads.specs.declared.message.Message.{Message}
use Rattle.message_heads.specs.Laws.{AtMostOneDecision, HeardIsKept, IsOpen}
use Rattle.message_heads.proofs.JudgeLemmas.{front_range}
use Rattle.message_heads.proofs.WaitLemmas.{decided_more}
use Rattle.message_heads.specs.Hearing.{Ruling, head_too_large, malformed, encoded, body_too_large}
use Rattle.message_heads.specs.Hearing.{whole, place, Holds, IsDecided, IsMessage, IsPlace}

abbrev named : ℕ → Ruling
named zero = head_too_large
named (suc zero) = malformed
named (suc (suc zero)) = encoded
named (suc (suc (suc zero))) = body_too_large
named (suc (suc (suc (suc n)))) = whole

back : (r : Ruling) → named (place r) ≡ r
back head_too_large = refl
back malformed = refl
back encoded = refl
back body_too_large = refl
back whole = refl

same_place : (r q : Ruling) → place r ≡ place q → r ≡ q
same_place r q e = sym (back r) ∙ ap named e ∙ back q

pub one : AtMostOneDecision
one bytes n m r q a b = by (cases_lt n m) (cases_lt m n)
  where
    by : (n < m) ⊎ (m ≤ n) → (m < n) ⊎ (n ≤ m)
        → ((n ≡ m) × (r ≡ q)) ⊎ (IsOpen bytes n r ⊎ IsOpen bytes m q)
    by (inl before) other = inr (inl (b.earlier n before r a.holds))
    by (inr past) (inl before) = inr (inr (a.earlier m before q b.holds))
    by (inr past) (inr upto) =
        let e : n ≡ m = omega arith in
        let f = a.first q (subst (λ k. Holds q (take k bytes)) (sym e) b.holds) in
        let g = b.first r (subst (λ k. Holds r (take k bytes)) e a.holds) in
        inl (e, same_place r q (omega (arith, f, g)))

place_kept : (bytes more part : List ℕ) (n : ℕ) (p : ℕ × ℕ) → n ≤ length bytes → IsPlace n p
    → slice_range bytes p.0 p.1 ≡ part → slice_range (bytes ++ more) p.0 p.1 ≡ part
place_kept bytes more part n p within (order, inside) is =
    front_range bytes more p.0 p.1 order (omega arith) ∙ is

message_kept : (bytes more : List ℕ) (m : Message) (n : ℕ) (h : RequestHead) → IsMessage bytes m n h
    → IsMessage (bytes ++ more) m n h
message_kept bytes more m n h is =
    let w = is.within in
    let l = length-append bytes more in
    let t = take-append-le n bytes more w in
    let b =
    place_kept bytes more (slice_range bytes m.body.0 m.body.1) n m.body w is.places.2 refl in
    record {
      within = omega (arith, l, w);
      places = is.places;
      reads = subst (λ x. ReadsRequest x h (slice_range (bytes ++ more) m.body.0 m.body.1)) (sym t)
          (subst (λ x. ReadsRequest (take n bytes) h x) (sym b) is.reads);
      method = place_kept bytes more h.method n m.method w is.places.0 is.method;
      target = place_kept bytes more h.target n m.target w is.places.1 is.target;
      close = is.close;
    }

pub kept : HeardIsKept
kept bytes more = (
  λ m n heard. (
    decided_more bytes more n whole heard.0,
    (heard.1.0, message_kept bytes more m n heard.1.0 heard.1.1),
  ),
  λ status heard. (heard.0, heard.1, decided_more bytes more heard.0 heard.1 heard.2, heard.3),
)
