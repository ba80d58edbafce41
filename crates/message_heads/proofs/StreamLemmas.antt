-- A stream has one reading.
use Rattle.std.proofs.Common.{◌≡◌, ℕ, List, [], ◌∷◌, length, take, drop, refl, sym, ap, ◌∙◌, subst}
use Rattle.std.proofs.Common.{arith, inl, inr, ◌⊎◌, Bool, slice_range}
use Rattle.httparse.proofs.GrammarLemmas.{request_unique}
use Rattle.httparse.specs.Grammar.{ReadsRequest, RequestHead}
use Rattle.message_heads.specs.declared.message.Message.{Message}
use Rattle.message_heads.specs.declared.message.Heard.TheVariants.{Whole}
use Rattle.message_heads.specs.Hearing.{Ruling, whole, IsDecided, Hears}
use Rattle.message_heads.specs.Laws.{IsOpen}
use Rattle.message_heads.specs.Streams.{Said, said_of, said_in, MessageIsWhole, AreMessages}
use Rattle.message_heads.specs.Streams.{OneStream}
use Rattle.message_heads.proofs.LawLemmas.{one}

-- the same bytes are one message
whole_says_one : (bytes : List ℕ) (n : ℕ) (s t : Said) → MessageIsWhole bytes n s
    → MessageIsWhole bytes n t → s ≡ t
whole_says_one bytes n s t a b =
    let u = request_unique (take n bytes) a.head b.head a.body b.body a.reads b.reads in
    a.says ∙ ap (λ h. said_of h a.body) u.0 ∙ ap (said_of b.head) u.1 ∙ sym b.says

said_by : List ℕ → List ℕ → List ℕ → Bool → Said
said_by method target body close = record {
  method = method;
  target = target;
  body = body;
  close = close;
}

-- a message that was heard, by what it says
pub heard_whole : (bytes : List ℕ) (m : Message) (n : ℕ) → Hears bytes (Whole m n)
    → MessageIsWhole bytes n (said_in bytes m)
unfolding said_by
heard_whole bytes m n (decided, (h, is)) =
    let method = slice_range bytes m.method.0 m.method.1 in
    let target = slice_range bytes m.target.0 m.target.1 in
    let body = slice_range bytes m.body.0 m.body.1 in
    record {
      decided = decided;
      head = h;
      body = body;
      reads = is.reads;
      says = ap (λ x. said_by x target body m.close) is.method
          ∙ ap (λ x. said_by h.method x body m.close) is.target
          ∙ ap (λ x. said_by h.method h.target body x) is.close;
    }

-- a whole message stands at one length, and says one thing
pub one_whole : (bytes : List ℕ) (n m : ℕ) (s t : Said) → MessageIsWhole bytes n s
    → MessageIsWhole bytes m t → (n ≡ m) × (s ≡ t)
one_whole bytes n m s t a b = by (one bytes n m whole whole a.decided b.decided)
  where
    by : ((n ≡ m) × (whole ≡ whole)) ⊎ (IsOpen bytes n whole ⊎ IsOpen bytes m whole)
        → (n ≡ m) × (s ≡ t)
    by (inl (same, r)) =
        (same, whole_says_one bytes n s t a (subst (λ k. MessageIsWhole bytes k t) (sym same) b))
    by (inr (inl (is, open_there))) = absurd (cc is)
    by (inr (inr (is, open_there))) = absurd (cc is)

pub one_stream : OneStream
one_stream bytes [] [] rest left a b same = (refl, sym a ∙ b)
one_stream bytes [] (t ∷ ts) rest left a b same = absurd (omega (arith, same))
one_stream bytes (s ∷ ss) [] rest left a b same = absurd (omega (arith, same))
one_stream bytes (s ∷ ss) (t ∷ ts) rest left (n, w, more) (m, v, others) same =
    let first = one_whole bytes n m s t w v in
    let again = one_stream (drop n bytes) ss ts rest left more
    (subst (λ k. AreMessages (drop k bytes) ts left) (sym first.0) others) (omega (arith, same)) in
    (cc (first.1, again.0), again.1)
