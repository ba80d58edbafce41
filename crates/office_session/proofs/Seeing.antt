-- A session as it is seen through a part of its handler.
use Rattle.std.proofs.Common.{◌≡◌, ℕ, ◌+◌, List, [], ◌∷◌, Bool, false, ap, subst}
use Rattle.std.proofs.Common.{inl, inr}
use Rattle.message_heads.specs.Streams.{Said}
use Rattle.message_session.specs.Sessions.{Answering, SessionWorld, session_world, Turn, Trace}
use Rattle.message_session.specs.Sessions.{Serves, HasTurn}
use Rattle.message_session.specs.Sessions.{EndsByTurn, EndsByBad, EndsByBytes, EndsSo}
use Rattle.message_session.specs.declared.SessionEnd.{SessionEnd}
use Rattle.message_session.specs.declared.SessionEnd.TheVariants.{Done, Cut, ReadFault, WriteFault}
use Rattle.message_session.specs.declared.SessionEnd.TheVariants.{NoMemory}
use Rattle.office_session.proofs.Keeping.{Getting}

-- the session's world with this part in place of the handler
abbrev pub seen : {H T : Type 0} → (H → T) → SessionWorld H → SessionWorld T
seen part s = session_world s.left s.to_come (part s.handler) s.held

module _ {H T : Type 0} (answers : Answering H) (treats : Answering T) (part : H → T)
    (each : (old : H) (said : Said) (last : Bool) (reading : ℕ) (text : List ℕ) (new : H)
    → answers old said last reading text new
    → treats (part old) said last reading text (part new))
    (refusal : H → ℕ → List ℕ) (words : T → ℕ → List ℕ)
    (spelled : (h : H) (status : ℕ) → refusal h status ≡ words (part h) status) where
  trace_seen : (count : ℕ) (old : H) (turns : List Turn) (new : H)
      → Trace answers count old turns new → Trace treats count (part old) turns (part new)
  trace_seen count old [] new is = ap part is
  trace_seen count old (t ∷ ts) new (mid, open_yet, treated, rest) = (
    part mid,
    open_yet,
    each old t.said false t.reading t.answer mid treated,
    trace_seen
        (count + 1) mid ts new rest,
  )

  serves_seen : (turns : List Turn) (waiting : List ℕ) (old new : SessionWorld H)
      → Serves answers turns waiting old new
      → Serves treats turns waiting (seen part old) (seen part new)
  serves_seen turns waiting old new s = record {
    taken = s.taken;
    lost = s.lost;
    messages = s.messages;
    few = s.few;
    readings = s.readings;
    trace = trace_seen 0 old.handler turns new.handler s.trace;
    gained = s.gained;
  }

  has_turn_seen : (Got : Getting) (last : Bool) (count size : ℕ) (waiting : List ℕ)
      (old new : SessionWorld H)
      → HasTurn answers Got last count size waiting old new
      → HasTurn treats Got last count size waiting (seen part old) (seen part new)
  has_turn_seen Got last count size waiting old new t = record {
    turn = t.turn;
    which = t.which;
    takes = record {
      message = t.takes.message;
      unread = t.takes.unread;
      reading = t.takes.reading;
      treated =
          each old.handler t.turn.said last t.turn.reading t.turn.answer new.handler
          t.takes.treated;
      answered = t.takes.answered;
    };
  }

  turn_seen : (Got : Getting) (last : Bool) (old new : SessionWorld H)
      → EndsByTurn answers Got last old new
      → EndsByTurn treats Got last (seen part old) (seen part new)
  turn_seen Got last old new t = record {
    turns = t.turns;
    waiting = t.waiting;
    mid = seen part t.mid;
    before = serves_seen t.turns t.waiting old t.mid t.before;
    size = t.size;
    one = has_turn_seen Got last _ t.size t.waiting t.mid new t.one;
  }

  bad_seen : (Got : Getting) (old new : SessionWorld H) → EndsByBad answers refusal Got old new
      → EndsByBad treats words Got (seen part old) (seen part new)
  bad_seen Got old new b = record {
    turns = b.turns;
    waiting = b.waiting;
    mid = seen part b.mid;
    before = serves_seen b.turns b.waiting old b.mid b.before;
    status = b.status;
    bad = b.bad;
    unread = b.unread;
    unclocked = b.unclocked;
    unasked = ap part b.unasked;
    answered = subst (λ (l : List ℕ). Got l b.mid.held new.held)
        (spelled b.mid.handler b.status) b.answered;
  }

  bytes_seen : (Waiting : List ℕ → Type 0) (old new : SessionWorld H)
      → EndsByBytes answers Waiting old new → EndsByBytes treats Waiting (seen part old)
      (seen part new)
  bytes_seen Waiting old new e = record {
    turns = e.turns;
    waiting = e.waiting;
    serves = serves_seen e.turns e.waiting old new e.serves;
    more = e.more;
    rest = e.rest;
  }

  pub end_seen : (end : SessionEnd) (old new : SessionWorld H) → EndsSo answers refusal end old new
      → EndsSo treats words end (seen part old) (seen part new)
  end_seen Done old new (inl t) = inl (turn_seen _ _ old new t)
  end_seen Done old new (inr (inl b)) = inr (inl (bad_seen _ old new b))
  end_seen Done old new (inr (inr (e, over))) = inr (inr (bytes_seen _ old new e, over))
  end_seen Cut old new (e, over) = (bytes_seen _ old new e, over)
  end_seen ReadFault old new e = bytes_seen _ old new e
  end_seen WriteFault old new (inl (last, t)) = inl (last, turn_seen _ last old new t)
  end_seen WriteFault old new (inr b) = inr (bad_seen _ old new b)
  end_seen NoMemory old new (left, handler, held, to_come) = (left, ap part handler, held, to_come)
