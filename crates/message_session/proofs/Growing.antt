-- Bytes that wait, as more of them come.
use Rattle.std.proofs.Common.{◌≡◌, ◌<◌, ℕ, List, [], ◌∷◌, ◌++◌, length, drop, arith, sym, ap, subst}
use Rattle.std.proofs.Common.{◌∙◌, append_assoc, append-nil}
use Rattle.std.specs.declared.option.Option.{Option}
use Rattle.std.proofs.lemmas.List.{take-append-le, drop-append-le}
use Rattle.httparse.specs.Grammar.{ReadsRequest}
use Rattle.office_outside.specs.Told.{Lost}
use Rattle.office_outside.proofs.Gains.{lost_both, lost_nothing}
use Rattle.message_heads.specs.Hearing.{whole, Hears, Awaits}
use Rattle.message_heads.specs.Streams.{Said, MessageIsWhole, AreMessages}
use Rattle.message_heads.specs.declared.message.Heard.TheVariants.{More}
use Rattle.message_heads.proofs.WaitLemmas.{decided_more}
use Rattle.message_session.specs.Fillings.{Fills}
use Rattle.message_session.specs.Sessions.{Turn, said_of_turns}

-- a whole message stays one with more behind it
whole_grow : (bytes more : List ℕ) (n : ℕ) (said : Said) → MessageIsWhole bytes n said
    → MessageIsWhole (bytes ++ more) n said
whole_grow bytes more n said w = record {
  decided = decided_more bytes more n whole w.decided;
  head = w.head;
  body = w.body;
  reads = subst (λ (l : List ℕ). ReadsRequest l w.head w.body)
      (sym (take-append-le n bytes more w.decided.within)) w.reads;
  says = w.says;
}

-- bytes that begin with so many messages do so with more behind them
pub messages_grow : (bytes more : List ℕ) (saids : List Said) (waiting : List ℕ)
    → AreMessages bytes saids waiting → AreMessages (bytes ++ more) saids (waiting ++ more)
messages_grow bytes more [] waiting same = ap (λ l. l ++ more) same
messages_grow bytes more (s ∷ ss) waiting (n, w, rest) = (
  n,
  whole_grow bytes more n s w,
  subst (λ (l : List ℕ). AreMessages l ss (waiting ++ more))
      (sym (drop-append-le n bytes more w.decided.within))
      (messages_grow (drop n bytes) more ss waiting rest),
)

-- one more message at the front of the waiting bytes
pub messages_more : (bytes : List ℕ) (turns : List Turn) (waiting : List ℕ) (turn : Turn) (n : ℕ)
    → AreMessages bytes (said_of_turns turns) waiting → MessageIsWhole waiting n turn.said
    → AreMessages bytes (said_of_turns (turns ++ turn ∷ [])) (drop n waiting)
messages_more bytes [] waiting turn n same w =
    (n, subst (λ (l : List ℕ). MessageIsWhole l n turn.said) (sym same) w, ap (λ l. drop n l) same)
messages_more bytes (t ∷ ts) waiting turn n (m, v, rest) w =
    (m, v, messages_more (drop m bytes) ts waiting turn n rest w)

-- bytes that are too few to decide are no message yet
pub more_below : (bytes more : List ℕ) (needed : ℕ) → Awaits bytes needed
    → length (bytes ++ more) < needed → Hears (bytes ++ more) More
more_below bytes more needed awaits few m inside = awaits.below more m (omega (arith, few, inside))

-- what waits grows by what is read, once and again
pub fills_none : (bytes : List ℕ) (left : Option (List ℕ)) → Fills bytes bytes left left
fills_none bytes left = record {
  taken = [];
  lost = lost_nothing left;
  grown = sym (append-nil bytes);
}

pub fills_more : (a b c : List ℕ) (x y z : Option (List ℕ)) → Fills a b x y → Fills b c y z
    → Fills a c x z
fills_more a b c x y z f h = record {
  taken = f.taken ++ h.taken;
  lost = lost_both f.taken h.taken x y z f.lost h.lost;
  grown = h.grown ∙ ap (λ l. l ++ h.taken) f.grown ∙ append_assoc a f.taken h.taken;
}

-- too few bytes came
pub more_after : (a b : List ℕ) (needed : ℕ) (x y : Option (List ℕ)) → Awaits a needed
    → Fills a b x y → length b < needed → Hears b More
more_after a b needed x y below f few =
    subst (λ (l : List ℕ). Hears l More) (sym f.grown)
    (more_below a f.taken needed below (subst (λ (l : List ℕ). length l < needed) f.grown few))

-- nothing came
pub fills_same : (a b : List ℕ) (x y : Option (List ℕ)) → b ≡ a → y ≡ x → Fills a b x y
fills_same a b x y same left = record {
  taken = [];
  lost = subst (λ (o : Option (List ℕ)). Lost [] x o) (sym left) (lost_nothing x);
  grown = same ∙ sym (append-nil a);
}
