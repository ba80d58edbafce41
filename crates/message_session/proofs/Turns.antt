-- A session that goes on.
use Rattle.std.proofs.Common.{◌≡◌, ◌<◌, ◌≤◌, ℕ, ◌+◌, List, [], ◌∷◌, ◌++◌, length, drop, arith}
use Rattle.std.proofs.Common.{inl, inr}
use Rattle.std.proofs.Common.{refl, sym, ap, subst, ◌∙◌, append_assoc, append-nil, length-append}
use Rattle.std.proofs.Common.{length-drop}
use Rattle.std.proofs.Common.{Bool, true, false, ◌||◌, nat_le, IfSome, Some}
use Rattle.std.specs.declared.option.Option.{Option}
use Rattle.std.specs.List.{flat_map}
use Rattle.std.proofs.lemmas.List.{take_all}
use Rattle.slo_limits.specs.declared.TheConstants.{MAX_REQUESTS}
use Rattle.office_outside.specs.Told.{Lost, Gained, GainedPrefix, HasNothingLeft}
use Rattle.office_outside.proofs.Gains.{lost_both, lost_nothing, gained_both, gained_nothing}
use Rattle.message_heads.specs.Hearing.{Hears}
use Rattle.message_heads.specs.Streams.{AreMessages, said_in}
use Rattle.message_heads.specs.declared.message.Message.{Message}
use Rattle.message_heads.specs.declared.reading.TheConstants.{MAX_MESSAGE_BYTES}
use Rattle.message_heads.specs.declared.message.Heard.TheVariants.{Whole, Bad, More}
use Rattle.message_heads.proofs.StreamLemmas.{heard_whole}
use Rattle.message_session.specs.Fillings.{Fills}
use Rattle.message_session.specs.Sessions.{Answering, SessionWorld, session_world, Turn}
use Rattle.message_session.specs.Sessions.{said_of_turns, Readings}
use Rattle.message_session.specs.Sessions.{Reads, Trace, Takes, Serves, is_last, EndsSo, EndsAt}
use Rattle.message_session.specs.Sessions.{EndsWriting, EndsByTurn, HasTurn}
use Rattle.message_session.specs.declared.serving.SessionEnd.{SessionEnd}
use Rattle.message_session.specs.declared.serving.SessionEnd.TheVariants.{Done, Cut, ReadFault}
use Rattle.message_session.specs.declared.serving.SessionEnd.TheVariants.{WriteFault, NoMemory}
use Rattle.std.proofs.lemmas.Bool.Decides.{nat_tests}
use Rattle.message_session.proofs.Growing.{messages_grow, messages_more}

-- what was gained whole was gained in a prefix
pub gained_all : (bytes : List ℕ) (old new : Option (List ℕ)) → Gained bytes old new
    → GainedPrefix bytes old new
gained_all bytes old new gained = record {
  count = length bytes;
  within = omega arith;
  gained = subst (λ (l : List ℕ). Gained l old new)
      (sym (take_all (length bytes) bytes (omega arith))) gained;
}

-- a message that was answered over the next reading to come is one turn
pub answered_over : {H : Type 0} (answers : Answering H)
    (Got : List ℕ → Option (List ℕ) → Option (List ℕ) → Type 0) (last : Bool) (message : Message)
    (count size reading : ℕ) (waiting : List ℕ) (left : Option (List ℕ)) (old new : ℕ → Option ℕ)
    (before after : H) (held_before held_after : Option (List ℕ))
    → Hears waiting (Whole message size)
    → last ≡ (message.close || nat_le MAX_REQUESTS (count + 1))
    → IfSome (old 0) (λ c. reading ≡ c)
    → ((k : ℕ) → new k ≡ old (k + 1))
    → ((text : List ℕ) × answers before (said_in waiting message) last reading text after
    × Got text held_before held_after)
    → HasTurn answers Got last count size waiting (session_world left old before held_before)
    (session_world left new after held_after)
answered_over answers Got last message count size reading waiting left old new before after
    held_before held_after heard which first later (text, treated, answered) = record {
      turn = record { said = said_in waiting message; reading = reading; answer = text };
      which = sym which;
      takes = record {
        message = heard_whole waiting message size heard;
        unread = refl;
        reading = record { first = first; later = later };
        treated = treated;
        answered = answered;
      };
    }

-- one more reading
readings_more : (old : ℕ → Option ℕ) (turns : List Turn) (mid new : ℕ → Option ℕ) (turn : Turn)
    → Readings old turns mid → Reads turn.reading mid new → Readings old (turns ++ turn ∷ []) new
readings_more old [] mid new turn same reads = (
  subst (λ (o : Option ℕ). IfSome o (λ c. turn.reading ≡ c)) (same 0) reads.first,
  λ k. reads.later k ∙ same (k + 1),
)
readings_more old (t ∷ ts) mid new turn (first, rest) reads =
    (first, readings_more (λ k. old (k + 1)) ts mid new turn rest reads)

-- one more turn of a trace
trace_more : {H : Type 0} (answers : Answering H) (count last : ℕ) (old : H) (turns : List Turn)
    (mid new : H) (turn : Turn) → last ≡ count + length turns → is_last last turn.said ≡ false →
    Trace answers count old turns mid → answers mid turn.said false turn.reading turn.answer new →
    Trace answers count old (turns ++ turn ∷ []) new
trace_more {H} answers count last old [] mid new turn at kept same treats =
    let here : last ≡ count = omega arith in (
      new,
      subst (λ n. is_last n turn.said ≡ false) here kept,
      subst (λ (s : H). answers s turn.said false turn.reading turn.answer new) same treats,
      refl,
    )
trace_more answers count last old (t ∷ ts) mid new turn at kept (
  between,
  opens,
  treated,
  rest,
) treats = (
  between,
  opens,
  treated,
  trace_more answers (count + 1) last between ts mid new turn (omega arith) kept rest treats,
)

-- the answers of one more turn
answers_more : (turns : List Turn) (turn : Turn)
    → flat_map (λ t. t.answer) (turns ++ turn ∷ []) ≡ flat_map (λ t. t.answer) turns ++ turn.answer
answers_more [] turn = append-nil turn.answer
answers_more (t ∷ ts) turn = ap (λ l. t.answer ++ l) (answers_more ts turn)
    ∙ sym (append_assoc t.answer (flat_map (λ t. t.answer) ts) turn.answer)

-- a session that has done nothing yet
pub serves_none : {H : Type 0} (answers : Answering H) (waiting : List ℕ) (old : SessionWorld H)
    → waiting ≡ [] → Serves answers [] waiting old old
serves_none answers waiting old none = record {
  taken = [];
  lost = lost_nothing old.left;
  messages = sym none;
  few = subst (λ (l : List ℕ). length l ≤ MAX_MESSAGE_BYTES) (sym none) (omega arith);
  readings = λ k. refl;
  trace = refl;
  gained = gained_nothing old.held;
}

-- more bytes come
pub serves_fills : {H : Type 0} (answers : Answering H) (turns : List Turn) (waiting more : List ℕ)
    (left : Option (List ℕ)) (old mid : SessionWorld H) → Serves answers turns waiting old mid →
    Fills waiting more mid.left left → length more ≤ MAX_MESSAGE_BYTES →
    Serves answers turns more old (session_world left mid.to_come mid.handler mid.held)
serves_fills answers turns waiting more left old mid s f few = record {
  taken = s.taken ++ f.taken;
  lost = lost_both s.taken f.taken old.left mid.left left s.lost f.lost;
  messages = subst (λ (l : List ℕ). AreMessages (s.taken ++ f.taken) (said_of_turns turns) l)
      (sym f.grown) (messages_grow s.taken f.taken (said_of_turns turns) waiting s.messages);
  few = few;
  readings = s.readings;
  trace = s.trace;
  gained = s.gained;
}

-- one more turn
pub serves_more : {H : Type 0} (answers : Answering H) (turns : List Turn) (waiting : List ℕ)
    (size : ℕ) (turn : Turn) (old mid new : SessionWorld H) → Serves answers turns waiting old mid →
    is_last (length turns) turn.said ≡ false →
    Takes answers Gained false turn size waiting mid new →
    Serves answers (turns ++ turn ∷ []) (drop size waiting) old new
serves_more answers turns waiting size turn old mid new s kept t = record {
  taken = s.taken;
  lost = subst (λ (o : Option (List ℕ)). Lost s.taken old.left o) (sym t.unread) s.lost;
  messages = messages_more s.taken turns waiting turn size s.messages t.message;
  few = omega (arith, s.few, length-drop size waiting);
  readings = readings_more old.to_come turns mid.to_come new.to_come turn s.readings t.reading;
  trace = trace_more answers 0 (length turns) old.handler turns mid.handler new.handler turn
      (omega arith) kept s.trace t.treated;
  gained = subst (λ (l : List ℕ). Gained l old.held new.held) (sym (answers_more turns turn))
      (gained_both (flat_map (λ t. t.answer) turns) turn.answer old.held mid.held new.held
      s.gained t.answered);
}

-- bytes of no length are none
empty : (bytes : List ℕ) → length bytes ≡ 0 → bytes ≡ []
empty [] e = refl
empty (b ∷ bs) e = absurd (omega (arith, e))

filled : (bytes : List ℕ) → 0 < length bytes → bytes ≡ [] → ⊥
filled bytes more none = omega (arith, ap length none)

-- the input ends
pub ends_at : {H : Type 0} (answers : Answering H) (refusal : H → ℕ → List ℕ) (result : SessionEnd)
    (turns : List Turn) (waiting : List ℕ) (old new : SessionWorld H) →
    Serves answers turns waiting old new → Hears waiting More → HasNothingLeft new.left →
    EndsAt (length waiting) result → EndsSo answers refusal result old new
ends_at answers refusal Done turns waiting old new s more over at =
    inr (inr (
      record {
        turns = turns;
        waiting = waiting;
        serves = s;
        more = more;
        rest = empty waiting at;
      },
      over,
    ))
ends_at answers refusal Cut turns waiting old new s more over at = (
  record {
    turns = turns;
    waiting = waiting;
    serves = s;
    more = more;
    rest = filled waiting at;
  },
  over,
)
ends_at answers refusal ReadFault turns waiting old new s more over at = absurd at
ends_at answers refusal WriteFault turns waiting old new s more over at = absurd at
ends_at answers refusal NoMemory turns waiting old new s more over at = absurd at

-- a bad message is answered
pub ends_by_bad : {H : Type 0} (answers : Answering H) (refusal : H → ℕ → List ℕ)
    (result : SessionEnd) (turns : List Turn) (waiting : List ℕ) (status : ℕ)
    (held : Option (List ℕ)) (old mid : SessionWorld H) → Serves answers turns waiting old mid →
    Hears waiting (Bad status) →
    EndsWriting (refusal mid.handler status) result mid.held held →
    EndsSo answers refusal result old (session_world mid.left mid.to_come mid.handler held)
ends_by_bad answers refusal Done turns waiting status held old mid s d w =
    inr (inl (record {
      turns = turns;
      waiting = waiting;
      mid = mid;
      before = s;
      status = status;
      bad = d;
      unread = refl;
      unclocked = λ k. refl;
      unasked = refl;
      answered = w;
    }))
ends_by_bad answers refusal Cut turns waiting status held old mid s d w = absurd w
ends_by_bad answers refusal ReadFault turns waiting status held old mid s d w = absurd w
ends_by_bad answers refusal WriteFault turns waiting status held old mid s d w =
    inr (record {
      turns = turns;
      waiting = waiting;
      mid = mid;
      before = s;
      status = status;
      bad = d;
      unread = refl;
      unclocked = λ k. refl;
      unasked = refl;
      answered = w;
    })
ends_by_bad answers refusal NoMemory turns waiting status held old mid s d w = absurd w

-- a turn ends the session
pub ends_by_turn : {H : Type 0} (answers : Answering H)
    (Got : List ℕ → Option (List ℕ) → Option (List ℕ) → Type 0) (last flag : Bool)
    (turns : List Turn) (count size : ℕ) (bytes waiting : List ℕ) (old mid new : SessionWorld H) →
    Serves answers turns waiting old mid →
    length turns ≡ count → bytes ≡ waiting → last ≡ flag →
    HasTurn answers Got last count size bytes mid new → EndsByTurn answers Got flag old new
ends_by_turn answers Got last flag turns count size bytes waiting old mid new s counted same is
    one = record {
      turns = turns;
      waiting = waiting;
      mid = mid;
      before = s;
      size = size;
      one = subst (λ (b : Bool). HasTurn answers Got b (length turns) size waiting mid new) is
          (subst (λ (l : List ℕ). HasTurn answers Got last (length turns) size l mid new) same
          (subst (λ n. HasTurn answers Got last n size bytes mid new) (sym counted) one));
    }

-- an answer that isn't the last one leaves room for another
open_yet : (closes : Bool) (most count : ℕ) → (closes || nat_le most count) ≡ false → count < most
open_yet true most count is = absurd (grind arith)
open_yet false most count is = grind (arith, nat_tests)

-- the session goes on after a turn
pub goes_on : {H : Type 0} (answers : Answering H) (last : Bool)
    (turns : List Turn) (count size : ℕ) (bytes waiting after : List ℕ)
    (old mid new : SessionWorld H) → Serves answers turns waiting old mid →
    length turns ≡ count → bytes ≡ waiting → after ≡ drop size waiting → last ≡ false →
    HasTurn answers Gained last count size bytes mid new →
    (more : List Turn) × Serves answers more after old new × (length more ≡ count + 1)
    × (count + 1 < MAX_REQUESTS)
goes_on answers last turns count size bytes waiting after old mid new s counted same left is one =
    let open_now : is_last count one.turn.said ≡ false = one.which ∙ is in (
      turns ++ one.turn ∷ [],
      subst (λ (l : List ℕ). Serves answers (turns ++ one.turn ∷ []) l old new) (sym left)
          (serves_more answers turns waiting size one.turn old mid new s
          (subst (λ n. is_last n one.turn.said ≡ false) (sym counted) open_now)
          (subst (λ (b : Bool). Takes answers Gained b one.turn size waiting mid new) is (subst
          (λ (l : List ℕ). Takes answers Gained last one.turn size l mid new) same one.takes))),
      length-append turns (one.turn ∷ []) ∙ ap (λ n. n + 1) counted,
      open_yet one.turn.said.close MAX_REQUESTS (count + 1) open_now,
    )

-- where the source tells, the messages are those of all that it had left
pub told_messages : {H : Type 0} (answers : Answering H) (turns : List Turn)
    (waiting left rest : List ℕ) (old new : SessionWorld H) → Serves answers turns waiting old new
    → old.left ≡ Some left → new.left ≡ Some rest
    → AreMessages left (said_of_turns turns) (waiting ++ rest)
told_messages answers turns waiting left rest old new s told now =
    let lost : left ≡ s.taken ++ rest = subst (λ (o : Option (List ℕ)). Lost s.taken (Some left) o)
    now (subst (λ (o : Option (List ℕ)). Lost s.taken o new.left) told s.lost) in
    subst (λ (l : List ℕ). AreMessages l (said_of_turns turns) (waiting ++ rest)) (sym lost)
    (messages_grow s.taken rest (said_of_turns turns) waiting s.messages)
