-- The entries that a session adds are those of its requests.
use Rattle.std.proofs.Common.{◌≡◌, ◌⊎◌, ℕ, ◌+◌, List, [], ◌∷◌, ◌++◌, Bool, true, false, Option}
use Rattle.std.proofs.Common.{Ok, Some, None, nat_lt, cond, refl, sym, ap, ◌∙◌, subst, inl, inr}
use Rattle.std.proofs.Common.{⊎_elim, append_assoc, append-nil}
use Rattle.slo_limits.specs.declared.TheConstants.{MAX_JOURNAL_BYTES}
use Rattle.message_heads.specs.Streams.{Said}
use Rattle.record_form.specs.declared.Command.{Command}
use Rattle.record_form.specs.declared.Entry.{Entry}
use Rattle.record_form.specs.declared.Outcome.{Outcome}
use Rattle.record_form.specs.declared.Request.{Request}
use Rattle.record_form.specs.declared.Request.TheVariants.{Change, Ask}
use Rattle.office_history.specs.declared.Judgement.{Judgement}
use Rattle.office_history.specs.declared.Judgement.TheVariants.{Accepted, Refused, Same}
use Rattle.office_history.specs.History.{Office, moment_of, with_entry}
use Rattle.office_history.specs.Legal.{office}
use Rattle.office_counter.specs.Steps as steps
use Rattle.office_counter.specs.Steps.{with_made, with_others, made_by, entry_of, needed_for}
use Rattle.office_keep.specs.Office as keep
use Rattle.office_keep.specs.Office.{IsSettled, OfficeOn, entry_at}
use Rattle.message_session.specs.Sessions.{EndsSo, SessionWorld, Trace, Turn}
use Rattle.message_session.specs.declared.SessionEnd.{SessionEnd}
use Rattle.message_session.specs.declared.SessionEnd.TheVariants.{Done, Cut, ReadFault, WriteFault}
use Rattle.message_session.specs.declared.SessionEnd.TheVariants.{NoMemory}
use Rattle.wire_routes.specs.Requests.{StandsFor}
use Rattle.office_session.specs.Messages.{AnswersMessage, asked, at_once, unread}
use Rattle.own_counter.specs.Own.{Ends, performed, no_room, OwnAsks, OwnOn}
use Rattle.own_counter.specs.Requests.{AddNoOther, AddsAsked, AreAsked, IsAsked, IsUntouched}
use Rattle.own_counter.specs.Requests.{doubted, turns_of}
use Rattle.office_outside.specs.Senses.{DiskSenses}

asked_later : (o : Office) (es : List Entry) (turn : Turn) (turns : List Turn)
    → AreAsked o es turns → AreAsked o es (turn ∷ turns)
asked_later o [] turn turns are = tt
asked_later o (e ∷ es) turn turns are = inl are

with_none : (o : Office) → o ≡ with_others o []
with_none o = ap (λ (h : List Entry). office o.origin h) (sym (append-nil o.history))

with_more : (o : Office) (e : Entry) (es : List Entry)
    → with_others (with_entry o e) es ≡ with_others o (e ∷ es)
with_more o e es =
    ap (λ (h : List Entry). office o.origin h) (append_assoc o.history (e ∷ []) es)

-- what one turn did: nothing, or something over the settled office
pub data TurnDid {D : Type 0} (turn : Turn) (old new : OfficeOn D) : Type 0 where
  untouched : new.office ≡ old.office → new.doubt ≡ old.doubt → TurnDid turn old new
  settled_only : IsSettled old.office old.doubt new.office → new.doubt ≡ None
      → TurnDid turn old new
  added : (settled : Office) → (e : Entry) → IsSettled old.office old.doubt settled
      → IsAsked turn settled e → new.office ≡ with_entry settled e → new.doubt ≡ None
      → TurnDid turn old new
  doubting : (e : Entry) → IsSettled old.office old.doubt new.office
      → IsAsked turn new.office e → new.doubt ≡ Some e → TurnDid turn old new

-- the entry that is made is the request's
made_is : (o : Office) (e : Entry) (j : Judgement) (made : Entry)
    → Some made ≡ made_by o e j → made ≡ e
made_is o e (Refused refusal) made is = cc is
made_is o e (Same outcome) made is = cc is
made_is o e Accepted made is = with_room (nat_lt MAX_JOURNAL_BYTES (needed_for o e)) is
  where
    with_room : (full : Bool) → Some made ≡ cond full None (Some e) → made ≡ e
    with_room true is = cc is
    with_room false is = cc is

is_asked : (turn : Turn) (command : Command) (stands : StandsFor turn.said (Ok (Change command)))
    (o : Office) (outcome : Outcome) (made : Entry)
    → steps.Comes o turn.reading (Change command) outcome (Some made) → IsAsked turn o made
is_asked turn command stands o outcome made (steps.past late told none) = absurd (cc none)
is_asked turn command stands o outcome made (steps.comes timely (j, judged, told, is)) = record {
  command = command;
  request = stands;
  entry = made_is o (entry_of (moment_of o turn.reading) command) j made is;
}

module _ {D : Type 0} (turn : Turn) (command : Command)
    (stands : StandsFor turn.said (Ok (Change command))) where
  did_made : (old new : OfficeOn D) (settled : Office) (made : Option Entry) (outcome : Outcome)
      → IsSettled old.office old.doubt settled
      → steps.Comes settled turn.reading (Change command) outcome made
      → new.office ≡ with_made settled made → new.doubt ≡ None → TurnDid turn old new
  did_made old new settled None outcome is come grows none =
      settled_only (subst (IsSettled old.office old.doubt) (sym grows) is) none
  did_made old new settled (Some e) outcome is come grows none =
      added settled e is (is_asked turn command stands settled outcome e come) grows none

  did_change : (old new : OfficeOn D) (outcome : Outcome) (place : Option ℕ)
      → keep.Changes old turn.reading command outcome place new → TurnDid turn old new
  did_change old new outcome place (keep.past late told same at) =
      untouched (ap (λ (k : OfficeOn D). k.office) same) (ap (λ (k : OfficeOn D). k.doubt) same)
  did_change old new outcome place (keep.refused_memory told timely unmoved at) =
      settled_only unmoved.settled unmoved.none
  did_change old new outcome place (keep.not_settled told timely before at) =
      untouched before.office before.doubt
  did_change old new outcome place (keep.not_kept told timely unmoved at) =
      settled_only unmoved.settled unmoved.none
  did_change old new outcome place (keep.in_doubt told timely doubt at) =
      doubting (entry_at new.office turn.reading command) doubt.settled
      (record { command = command; request = stands; entry = refl }) doubt.doubt
  did_change old new outcome place (keep.done settled made is timely come grows none at) =
      did_made old new settled made outcome is come grows none

did_nothing : {D : Type 0} (turn : Turn) (old new : OfficeOn D) → new ≡ old → TurnDid turn old new
did_nothing {D} turn old new same =
    untouched (ap (λ (k : OfficeOn D). k.office) same) (ap (λ (k : OfficeOn D). k.doubt) same)

module _ {D : Type 0} (S : DiskSenses D) where
  did_ends : (turn : Turn) (request : Request) (old new : OfficeOn D) (outcome : Outcome)
      (place : Option ℕ) → StandsFor turn.said (Ok request)
      → Ends old turn.reading request outcome place new → TurnDid turn old new
  did_ends turn (Ask query) old new outcome place stands (performed asks) =
      did_nothing turn old new asks.stays
  did_ends turn (Change command) old new outcome place stands (performed changes) =
      did_change turn command stands old new outcome place changes
  did_ends turn request old new outcome place stands (no_room told none same) =
      did_nothing turn old new same

  did_turn : (turn : Turn) (last : Bool) (old new : OwnOn D)
      → AnswersMessage (OwnAsks S) old turn.said last turn.reading turn.answer new
      → TurnDid turn old.kept new.kept
  did_turn turn last old new (asked request outcome stands asks tells) =
      did_ends turn request old.kept new.kept outcome asks.place stands asks.ended
  did_turn turn last old new (at_once reason stands text same) =
      did_nothing turn old.kept new.kept (ap (λ (o : OwnOn D). o.kept) same)
  did_turn turn last old new (unread text same) =
      did_nothing turn old.kept new.kept (ap (λ (o : OwnOn D). o.kept) same)

-- what is settled where nothing is in doubt
settled_same : (o : Office) (doubt : Option Entry) (settled : Office) → doubt ≡ None
    → IsSettled o doubt settled → settled ≡ o
settled_same o doubt settled none is = subst (λ (d : Option Entry). IsSettled o d settled) none is

settled_either : (o : Office) (doubt : Option Entry) (e : Entry) (settled : Office)
    → doubt ≡ Some e → IsSettled o doubt settled → (settled ≡ o) ⊎ (settled ≡ with_entry o e)
settled_either o doubt e settled some is =
    subst (λ (d : Option Entry). IsSettled o d settled) some is

module _ {D : Type 0} (turn : Turn) (turns : List Turn) (old mid new : OfficeOn D) where
  -- the entries behind a settled office, of the turns that come later
  module _ (settled : Office) (is : IsSettled old.office old.doubt settled) where
    only_later : (es : List Entry) → new.office ≡ with_others settled es
        → AreAsked settled (es ++ doubted new.doubt) turns → AddNoOther (turn ∷ turns) old new
    only_later es grows are = inr (record {
      settled = settled;
      is_settled = is;
      added = es;
      grows = grows;
      are_asked = asked_later settled (es ++ doubted new.doubt) turn turns are;
    })

    one_and_later : (e : Entry) → IsAsked turn settled e → (es : List Entry)
        → new.office ≡ with_others (with_entry settled e) es
        → AreAsked (with_entry settled e) (es ++ doubted new.doubt) turns
        → AddNoOther (turn ∷ turns) old new
    one_and_later e one es grows are = inr (record {
      settled = settled;
      is_settled = is;
      added = e ∷ es;
      grows = grows ∙ with_more settled e es;
      are_asked = inr (one, are);
    })

  -- nothing is asked by later turns
  none_later : (o : Office) → new.doubt ≡ None → AreAsked o ([] ++ doubted new.doubt) turns
  none_later o none = subst (λ (d : Option Entry). AreAsked o (doubted d) turns) (sym none) tt

  untouched_then : TurnDid turn old mid → new.office ≡ mid.office → new.doubt ≡ mid.doubt
      → AddNoOther (turn ∷ turns) old new
  untouched_then (untouched same doubt) office_is doubt_is =
      inl (record { office = office_is ∙ same; doubt = doubt_is ∙ doubt })
  untouched_then (settled_only is none) office_is doubt_is =
      only_later mid.office is [] (office_is ∙ with_none mid.office)
      (none_later mid.office (doubt_is ∙ none))
  untouched_then (added settled e is one grows none) office_is doubt_is =
      one_and_later settled is e one []
      (office_is ∙ grows ∙ with_none (with_entry settled e))
      (none_later (with_entry settled e) (doubt_is ∙ none))
  untouched_then (doubting e is one some) office_is doubt_is =
      inr (record {
        settled = mid.office;
        is_settled = is;
        added = [];
        grows = office_is ∙ with_none mid.office;
        are_asked = subst (λ (d : Option Entry). AreAsked mid.office (doubted d) (turn ∷ turns))
            (sym (doubt_is ∙ some)) (inr (one, tt));
      })

  then_more : TurnDid turn old mid → AddsAsked turns mid new → AddNoOther (turn ∷ turns) old new
  then_more (untouched same doubt) m =
      only_later m.settled
      (subst (λ (d : Option Entry). IsSettled old.office d m.settled) doubt
      (subst (λ (o : Office). IsSettled o mid.doubt m.settled) same m.is_settled))
      m.added m.grows m.are_asked
  then_more (settled_only is none) m =
      let same = settled_same mid.office mid.doubt m.settled none m.is_settled in
      only_later m.settled (subst (IsSettled old.office old.doubt) (sym same) is) m.added m.grows
      m.are_asked
  then_more (added settled e is one grows none) m =
      let same = settled_same mid.office mid.doubt m.settled none m.is_settled ∙ grows in
      one_and_later settled is e one m.added
      (m.grows ∙ ap (λ (o : Office). with_others o m.added) same)
      (subst (λ (o : Office). AreAsked o (m.added ++ doubted new.doubt) turns) same m.are_asked)
  then_more (doubting e is one some) m = ⊎_elim
      (λ (lost : m.settled ≡ mid.office).
      only_later m.settled (subst (IsSettled old.office old.doubt) (sym lost) is) m.added m.grows
      m.are_asked)
      (λ (kept : m.settled ≡ with_entry mid.office e).
      one_and_later mid.office is e one m.added
      (m.grows ∙ ap (λ (o : Office). with_others o m.added) kept)
      (subst (λ (o : Office). AreAsked o (m.added ++ doubted new.doubt) turns) kept m.are_asked))
      (settled_either mid.office mid.doubt e m.settled some m.is_settled)

  pub turn_then : TurnDid turn old mid → AddNoOther turns mid new
      → AddNoOther (turn ∷ turns) old new
  turn_then did (inl same) = untouched_then did same.office same.doubt
  turn_then did (inr more) = then_more did more

module _ {D : Type 0} (S : DiskSenses D) where
  -- turns, and then perhaps one more
  trace_adds : (count : ℕ) (old : OwnOn D) (turns : List Turn) (mid : OwnOn D)
      (behind : List Turn) (new : OwnOn D)
      → Trace (AnswersMessage (OwnAsks S)) count old turns mid
      → AddNoOther behind mid.kept new.kept → AddNoOther (turns ++ behind) old.kept new.kept
  trace_adds count old [] mid behind new same more =
      subst (λ (o : OwnOn D). AddNoOther behind o.kept new.kept) same more
  trace_adds count old (t ∷ ts) mid behind new (next, open_yet, treated, rest) more =
      turn_then t (ts ++ behind) old.kept next.kept new.kept
      (did_turn S t false old next treated)
      (trace_adds (count + 1) next ts mid behind new rest more)

  still : (o p : OwnOn D) → p ≡ o → AddNoOther [] o.kept p.kept
  still o p same = inl (record {
    office = ap (λ (c : OwnOn D). c.kept.office) same;
    doubt = ap (λ (c : OwnOn D). c.kept.doubt) same;
  })

  pub turns_add : (count : ℕ) (old : OwnOn D) (turns : List Turn) (new : OwnOn D)
      → Trace (AnswersMessage (OwnAsks S)) count old turns new
      → AddNoOther turns old.kept new.kept
  turns_add count old turns new trace =
      subst (λ (l : List Turn). AddNoOther l old.kept new.kept) (append-nil turns)
      (trace_adds count old turns new [] new trace (still new new refl))

  -- one turn more
  one_adds : (turn : Turn) (last : Bool) (old new : OwnOn D)
      → AnswersMessage (OwnAsks S) old turn.said last turn.reading turn.answer new
      → AddNoOther (turn ∷ []) old.kept new.kept
  one_adds turn last old new treated =
      turn_then turn [] old.kept new.kept new.kept
      (did_turn S turn last old new treated) (still new new refl)

  pub end_adds : (refusal : OwnOn D → ℕ → List ℕ) (end : SessionEnd)
      (old new : SessionWorld (OwnOn D)) → (ends : EndsSo (AnswersMessage (OwnAsks S)) refusal end
      old new) → AddNoOther (turns_of (AnswersMessage (OwnAsks S)) refusal end old new ends)
      old.handler.kept new.handler.kept
  end_adds refusal Done old new (inl t) =
      trace_adds 0 old.handler t.turns t.mid.handler (t.one.turn ∷ []) new.handler t.before.trace
      (one_adds t.one.turn true t.mid.handler new.handler t.one.takes.treated)
  end_adds refusal Done old new (inr (inl b)) =
      subst (λ (o : OwnOn D). AddNoOther b.turns old.handler.kept o.kept) (sym b.unasked)
      (turns_add 0 old.handler b.turns b.mid.handler b.before.trace)
  end_adds refusal Done old new (inr (inr e)) =
      turns_add 0 old.handler e.0.turns new.handler e.0.serves.trace
  end_adds refusal Cut old new e = turns_add 0 old.handler e.0.turns new.handler e.0.serves.trace
  end_adds refusal ReadFault old new e = turns_add 0 old.handler e.turns new.handler e.serves.trace
  end_adds refusal WriteFault old new (inl t) =
      trace_adds 0 old.handler t.1.turns t.1.mid.handler (t.1.one.turn ∷ []) new.handler
      t.1.before.trace
      (one_adds t.1.one.turn t.0 t.1.mid.handler new.handler t.1.one.takes.treated)
  end_adds refusal WriteFault old new (inr b) =
      subst (λ (o : OwnOn D). AddNoOther b.turns old.handler.kept o.kept) (sym b.unasked)
      (turns_add 0 old.handler b.turns b.mid.handler b.before.trace)
  end_adds refusal NoMemory old new none = still old.handler new.handler none.1
