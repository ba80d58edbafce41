-- What each turn does, and turns one after another do, a session does by its turns.
use Rattle.std.proofs.Common.{◌≡◌, ℕ, ◌+◌, List, [], ◌∷◌, ◌++◌, Bool, false, sym, subst, inl, inr}
use Rattle.message_session.specs.Sessions.{Answering, SessionWorld, Turn, Trace}
use Rattle.message_session.specs.Sessions.{EndsByTurn, EndsByBad, EndsByBytes, EndsSo}
use Rattle.message_session.specs.declared.SessionEnd.{SessionEnd}
use Rattle.message_session.specs.declared.SessionEnd.TheVariants.{Done, Cut, ReadFault, WriteFault}
use Rattle.message_session.specs.declared.SessionEnd.TheVariants.{NoMemory}
use Rattle.own_counter.specs.Requests.{turns_of}
use Rattle.office_session.proofs.Keeping.{Getting}

module _ {H : Type 0} (answers : Answering H) (Does : List Turn → H → H → Type 0)
    (none : (h : H) → Does [] h h)
    (both : (ts us : List Turn) (a b c : H) → Does ts a b → Does us b c → Does (ts ++ us) a c)
    (each : (old : H) (t : Turn) (last : Bool) (new : H)
    → answers old t.said last t.reading t.answer new → Does (t ∷ []) old new) where
  still : (old new : H) → new ≡ old → Does [] old new
  still old new is = subst (λ (h : H). Does [] old h) (sym is) (none old)

  pub trace_does : (count : ℕ) (old : H) (turns : List Turn) (new : H)
      → Trace answers count old turns new → Does turns old new
  trace_does count old [] new is = still old new is
  trace_does count old (t ∷ ts) new (mid, open_yet, treated, rest) =
      both (t ∷ []) ts old mid new (each old t false mid treated)
      (trace_does (count + 1) mid ts new rest)

  turn_does : (Got : Getting) (last : Bool) (old new : SessionWorld H)
      → (t : EndsByTurn answers Got last old new)
      → Does (t.turns ++ t.one.turn ∷ []) old.handler new.handler
  turn_does Got last old new t =
      both t.turns (t.one.turn ∷ []) old.handler t.mid.handler new.handler
      (trace_does 0 old.handler t.turns t.mid.handler t.before.trace)
      (each t.mid.handler t.one.turn last new.handler t.one.takes.treated)

  bad_does : (refusal : H → ℕ → List ℕ) (Got : Getting) (old new : SessionWorld H)
      → (b : EndsByBad answers refusal Got old new) → Does b.turns old.handler new.handler
  bad_does refusal Got old new b =
      subst (λ (h : H). Does b.turns old.handler h) (sym b.unasked)
      (trace_does 0 old.handler b.turns b.mid.handler b.before.trace)

  bytes_does : (Waiting : List ℕ → Type 0) (old new : SessionWorld H)
      → (e : EndsByBytes answers Waiting old new) → Does e.turns old.handler new.handler
  bytes_does Waiting old new e = trace_does 0 old.handler e.turns new.handler e.serves.trace

  pub end_does : (refusal : H → ℕ → List ℕ) (end : SessionEnd) (old new : SessionWorld H)
      → (ends : EndsSo answers refusal end old new)
      → Does (turns_of answers refusal end old new ends) old.handler new.handler
  end_does refusal Done old new (inl t) = turn_does _ _ old new t
  end_does refusal Done old new (inr (inl b)) = bad_does refusal _ old new b
  end_does refusal Done old new (inr (inr bytes)) = bytes_does _ old new bytes.0
  end_does refusal Cut old new bytes = bytes_does _ old new bytes.0
  end_does refusal ReadFault old new e = bytes_does _ old new e
  end_does refusal WriteFault old new (inl t) = turn_does _ t.0 old new t.1
  end_does refusal WriteFault old new (inr b) = bad_does refusal _ old new b
  end_does refusal NoMemory old new still_so = still old.handler new.handler still_so.1
