-- What a session does to its handler, its source, its sink and its clock.
use Rattle.std.specs.Prelude.{◌≡◌, ◌≢◌, ℕ, ◌+◌, ◌<◌, ◌≤◌, List, [], ◌∷◌, length, flat_map, map}
use Rattle.std.specs.Prelude.{Bool, true, false, ◌||◌, nat_le, Option, IfSome, ◌⊎◌}
use Rattle.office_outside.specs.Told.{Lost, Gained, GainedPrefix, HasNothingLeft}
use Rattle.slo_limits.specs.declared.TheConstants.{MAX_REQUESTS}
use Rattle.message_heads.specs.Hearing.{Hears}
use Rattle.message_heads.specs.declared.reading.TheConstants.{MAX_MESSAGE_BYTES}
use Rattle.message_heads.specs.Streams.{Said, MessageIsWhole, AreMessages}
use Rattle.message_heads.specs.declared.message.Heard.TheVariants.{Bad, More}
use Rattle.message_session.specs.declared.serving.SessionEnd.{SessionEnd}
use Rattle.message_session.specs.declared.serving.SessionEnd.TheVariants.{Done, Cut, ReadFault}
use Rattle.message_session.specs.declared.serving.SessionEnd.TheVariants.{WriteFault, NoMemory}

-- what a handler may do with one message: the handler before, what the message says, whether the
-- answer is the session's last, the clock's reading, the answer's bytes, the handler after
abbrev pub Answering : Type 0 → Type 1
Answering H = H → Said → Bool → ℕ → List ℕ → H → Type 0

-- all that a session speaks to, at one moment: the bytes that its source has left, its clock's
-- readings to come, its handler, and the bytes that its sink holds
pub record SessionWorld (H : Type 0) : Type 0 where
  pub left : Option (List ℕ)
  pub to_come : ℕ → Option ℕ
  pub handler : H
  pub held : Option (List ℕ)

abbrev pub session_world : {H : Type 0} → Option (List ℕ) → (ℕ → Option ℕ) → H → Option (List ℕ)
    → SessionWorld H
session_world left to_come handler held = record {
  left = left;
  to_come = to_come;
  handler = handler;
  held = held;
}

-- one whole message, the reading that was taken for it, and its answer
pub record Turn : Type 0 where
  pub said : Said
  pub reading : ℕ
  pub answer : List ℕ

-- what the messages of turns say
abbrev pub said_of_turns : List Turn → List Said
said_of_turns turns = map (λ turn. turn.said) turns

-- the first reading to come is this one, where the clock tells, and the others come later
pub record Reads (reading : ℕ) (old new : ℕ → Option ℕ) : Type 0 where
  pub first : IfSome (old 0) (λ c. reading ≡ c)
  pub later : (k : ℕ) → new k ≡ old (k + 1)

-- whether the answer of this message is the last one, where so many were answered before
abbrev pub is_last : ℕ → Said → Bool
is_last count said = said.close || nat_le MAX_REQUESTS (count + 1)

-- the front of the waiting bytes is the turn's message; it is answered over the clock's next
-- reading, and the sink got its answer
pub record Takes {H : Type 0} (answers : Answering H)
    (Got : List ℕ → Option (List ℕ) → Option (List ℕ) → Type 0) (last : Bool) (turn : Turn)
    (size : ℕ) (waiting : List ℕ) (old new : SessionWorld H) : Type 0 where
  pub message : MessageIsWhole waiting size turn.said
  pub unread : new.left ≡ old.left
  pub reading : Reads turn.reading old.to_come new.to_come
  pub treated : answers old.handler turn.said last turn.reading turn.answer new.handler
  pub answered : Got turn.answer old.held new.held

-- one turn behind so many others, whose answer is the last one as it has to be
pub record HasTurn {H : Type 0} (answers : Answering H)
    (Got : List ℕ → Option (List ℕ) → Option (List ℕ) → Type 0) (last : Bool) (count size : ℕ)
    (waiting : List ℕ) (old new : SessionWorld H) : Type 0 where
  pub turn : Turn
  pub which : is_last count turn.said ≡ last
  pub takes : Takes answers Got last turn size waiting old new

-- the readings of these turns come first, in order
abbrev pub Readings : (ℕ → Option ℕ) → List Turn → (ℕ → Option ℕ) → Type 0
Readings old [] new = (k : ℕ) → new k ≡ old k
Readings old (turn ∷ turns) new = IfSome (old 0) (λ c. turn.reading ≡ c)
    × Readings (λ k. old (k + 1)) turns new

-- the turns are answered one after another, and each keeps the session open
abbrev pub Trace : {H : Type 0} → Answering H → ℕ → H → List Turn → H → Type 0
Trace answers count old [] new = new ≡ old
Trace {H} answers count old (turn ∷ turns) new = (mid : H) × (is_last count turn.said ≡ false)
    × answers old turn.said false turn.reading turn.answer mid
    × Trace answers (count + 1) mid turns new

-- A session so far: these turns, each answered, and these bytes waiting, which were taken of the
-- source and aren't answered yet: never more than one message may have. Each end of a session says
-- so of the moment before its last answer; and as a sink may fail at any answer, which then is the
-- last one, it holds at each.
pub record Serves {H : Type 0} (answers : Answering H) (turns : List Turn) (waiting : List ℕ)
    (old new : SessionWorld H) : Type 0 where
  pub taken : List ℕ
  pub lost : Lost taken old.left new.left
  pub messages : AreMessages taken (said_of_turns turns) waiting
  pub few : length waiting ≤ MAX_MESSAGE_BYTES
  pub readings : Readings old.to_come turns new.to_come
  pub trace : Trace answers 0 old.handler turns new.handler
  pub gained : Gained (flat_map (λ turn. turn.answer) turns) old.held new.held

-- one more turn, whose answer is the last one, or isn't written whole
pub record EndsByTurn {H : Type 0} (answers : Answering H)
    (Got : List ℕ → Option (List ℕ) → Option (List ℕ) → Type 0) (last : Bool)
    (old new : SessionWorld H) : Type 0 where
  pub turns : List Turn
  pub waiting : List ℕ
  pub mid : SessionWorld H
  pub before : Serves answers turns waiting old mid
  pub size : ℕ
  pub one : HasTurn answers Got last (length turns) size waiting mid new

-- the waiting bytes begin with a bad message, and the sink got the answer that says so
pub record EndsByBad {H : Type 0} (answers : Answering H) (refusal : H → ℕ → List ℕ)
    (Got : List ℕ → Option (List ℕ) → Option (List ℕ) → Type 0)
    (old new : SessionWorld H) : Type 0 where
  pub turns : List Turn
  pub waiting : List ℕ
  pub mid : SessionWorld H
  pub before : Serves answers turns waiting old mid
  pub status : ℕ
  pub bad : Hears waiting (Bad status)
  pub unread : new.left ≡ mid.left
  pub unclocked : (k : ℕ) → new.to_come k ≡ mid.to_come k
  pub unasked : new.handler ≡ mid.handler
  pub answered : Got (refusal mid.handler status) mid.held new.held

-- each message that was heard is answered, and what waits is none yet
pub record EndsByBytes {H : Type 0} (answers : Answering H) (Waiting : List ℕ → Type 0)
    (old new : SessionWorld H) : Type 0 where
  pub turns : List Turn
  pub waiting : List ℕ
  pub serves : Serves answers turns waiting old new
  pub more : Hears waiting More
  pub rest : Waiting waiting

-- what each end of a session says of it
abbrev pub EndsSo : {H : Type 0} → Answering H → (H → ℕ → List ℕ) → SessionEnd → SessionWorld H
    → SessionWorld H → Type 0
EndsSo answers refusal Done old new = EndsByTurn answers Gained true old new
    ⊎ (EndsByBad answers refusal Gained old new
    ⊎ (EndsByBytes answers (λ waiting. waiting ≡ []) old new × HasNothingLeft new.left))
EndsSo answers refusal Cut old new = EndsByBytes answers (λ waiting. waiting ≢ []) old new
    × HasNothingLeft new.left
EndsSo answers refusal ReadFault old new = EndsByBytes answers (λ waiting. Unit {0}) old new
EndsSo answers refusal WriteFault old new =
    ((last : Bool) × EndsByTurn answers GainedPrefix last old new)
    ⊎ EndsByBad answers refusal GainedPrefix old new
EndsSo answers refusal NoMemory old new = (new.left ≡ old.left) × (new.handler ≡ old.handler)
    × (new.held ≡ old.held)
    × ((k : ℕ) → new.to_come k ≡ old.to_come k)

-- how a session ends where the input has ended
abbrev pub EndsAt : ℕ → SessionEnd → Type 0
EndsAt waiting Done = waiting ≡ 0
EndsAt waiting Cut = 0 < waiting
EndsAt waiting ReadFault = ⊥
EndsAt waiting WriteFault = ⊥
EndsAt waiting NoMemory = ⊥

-- how a session ends by a last text that is written
abbrev pub EndsWriting : List ℕ → SessionEnd → Option (List ℕ) → Option (List ℕ) → Type 0
EndsWriting text Done old new = Gained text old new
EndsWriting text Cut old new = ⊥
EndsWriting text ReadFault old new = ⊥
EndsWriting text WriteFault old new = GainedPrefix text old new
EndsWriting text NoMemory old new = ⊥
