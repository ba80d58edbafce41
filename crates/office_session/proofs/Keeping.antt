-- What each turn keeps, a session keeps.
use Rattle.std.proofs.Common.{◌≡◌, ℕ, ◌+◌, List, [], ◌∷◌, Bool, false, sym, subst, inl}
use Rattle.std.proofs.Common.{inr}
use Rattle.std.specs.declared.option.Option.{Option}
use Rattle.message_heads.specs.Streams.{Said}
use Rattle.message_session.specs.Sessions.{Answering, SessionWorld, Turn, Trace}
use Rattle.message_session.specs.Sessions.{EndsByTurn, EndsByBad, EndsByBytes, EndsSo}
use Rattle.message_session.specs.declared.SessionEnd.{SessionEnd}
use Rattle.message_session.specs.declared.SessionEnd.TheVariants.{Done, Cut, ReadFault, WriteFault}
use Rattle.message_session.specs.declared.SessionEnd.TheVariants.{NoMemory}

abbrev pub Getting : Type 1
Getting = List ℕ → Option (List ℕ) → Option (List ℕ) → Type 0

module _ {H : Type 0} (answers : Answering H) (Keeps : H → H → Type 0) (same : (h : H) → Keeps h h)
    (both : (a b c : H) → Keeps a b → Keeps b c → Keeps a c)
    (each : (old : H) (said : Said) (last : Bool) (reading : ℕ) (text : List ℕ) (new : H)
    → answers old said last reading text new → Keeps old new) where
  still : (old new : H) → new ≡ old → Keeps old new
  still old new is = subst (λ (h : H). Keeps old h) (sym is) (same old)

  pub trace_keeps : (count : ℕ) (old : H) (turns : List Turn) (new : H)
      → Trace answers count old turns new → Keeps old new
  trace_keeps count old [] new is = still old new is
  trace_keeps count old (t ∷ ts) new (mid, open_yet, treated, rest) =
      both old mid new (each old t.said false t.reading t.answer mid treated)
      (trace_keeps (count + 1) mid ts new rest)

  turn_keeps : (Got : Getting) (last : Bool) (old new : SessionWorld H)
      → EndsByTurn answers Got last old new → Keeps old.handler new.handler
  turn_keeps Got last old new t =
      let turn = t.one.turn in
      both old.handler t.mid.handler new.handler
      (trace_keeps 0 old.handler t.turns t.mid.handler t.before.trace)
      (each t.mid.handler turn.said last turn.reading turn.answer new.handler t.one.takes.treated)

  bad_keeps : (refusal : H → ℕ → List ℕ) (Got : Getting) (old new : SessionWorld H)
      → EndsByBad answers refusal Got old new → Keeps old.handler new.handler
  bad_keeps refusal Got old new b =
      both old.handler b.mid.handler new.handler
      (trace_keeps 0 old.handler b.turns b.mid.handler b.before.trace)
      (still b.mid.handler new.handler b.unasked)

  bytes_keep : (Waiting : List ℕ → Type 0) (old new : SessionWorld H)
      → EndsByBytes answers Waiting old new → Keeps old.handler new.handler
  bytes_keep Waiting old new e = trace_keeps 0 old.handler e.turns new.handler e.serves.trace

  pub end_keeps : (refusal : H → ℕ → List ℕ) (end : SessionEnd) (old new : SessionWorld H)
      → EndsSo answers refusal end old new → Keeps old.handler new.handler
  end_keeps refusal Done old new (inl t) = turn_keeps _ _ old new t
  end_keeps refusal Done old new (inr (inl b)) = bad_keeps refusal _ old new b
  end_keeps refusal Done old new (inr (inr (e, over))) = bytes_keep _ old new e
  end_keeps refusal Cut old new (e, over) = bytes_keep _ old new e
  end_keeps refusal ReadFault old new e = bytes_keep _ old new e
  end_keeps refusal WriteFault old new (inl (last, t)) = turn_keeps _ last old new t
  end_keeps refusal WriteFault old new (inr b) = bad_keeps refusal _ old new b
  end_keeps refusal NoMemory old new (left, handler, held, to_come) =
      still old.handler new.handler handler
