-- Whose entries a session adds.
use Rattle.std.specs.Prelude.{◌≡◌, ◌⊎◌, ℕ, List, [], ◌∷◌, ◌++◌, Option, Some, None, Ok}
use Rattle.std.proofs.Common.{inl, inr}
use Rattle.record_form.specs.declared.Command.{Command}
use Rattle.record_form.specs.declared.Entry.{Entry}
use Rattle.record_form.specs.declared.Request.TheVariants.{Change}
use Rattle.office_history.specs.History.{Office, with_entry}
use Rattle.office_counter.specs.Steps.{with_others}
use Rattle.office_keep.specs.Office.{IsSettled, OfficeOn, entry_at}
use Rattle.message_session.specs.Sessions.{Answering, EndsSo, SessionWorld, Turn}
use Rattle.message_session.specs.declared.SessionEnd.{SessionEnd}
use Rattle.message_session.specs.declared.SessionEnd.TheVariants.{Done, Cut, ReadFault, WriteFault}
use Rattle.message_session.specs.declared.SessionEnd.TheVariants.{NoMemory}
use Rattle.wire_routes.specs.Requests.{StandsFor}

-- The turn's message asks for a change, and this is its entry over the office.
pub record IsAsked (turn : Turn) (o : Office) (e : Entry) : Type 0 where
  pub command : Command
  pub request : StandsFor turn.said (Ok (Change command))
  pub entry : e ≡ entry_at o turn.reading command

-- Each of these entries is asked for by one of these turns, over the office with the entries before
-- it; they come in the order of the turns, and no turn asks for two.
abbrev pub AreAsked : Office → List Entry → List Turn → Type 0
AreAsked o [] turns = Unit {0}
AreAsked o (e ∷ es) [] = ⊥
AreAsked o (e ∷ es) (turn ∷ turns) = AreAsked o (e ∷ es) turns
    ⊎ (IsAsked turn o e × AreAsked (with_entry o e) es turns)

-- the entry in doubt, if there is one
abbrev pub doubted : Option Entry → List Entry
doubted None = []
doubted (Some e) = e ∷ []

-- Behind what was settled there are these entries, each asked for by one of the turns, and no
-- other; so is the one in doubt.
pub record AddsAsked {D : Type 0} (turns : List Turn) (old new : OfficeOn D) : Type 0 where
  pub settled : Office
  pub is_settled : IsSettled old.office old.doubt settled
  pub added : List Entry
  pub grows : new.office ≡ with_others settled added
  pub are_asked : AreAsked settled (added ++ doubted new.doubt) turns

-- nothing was settled or added
pub record IsUntouched {D : Type 0} (old new : OfficeOn D) : Type 0 where
  pub office : new.office ≡ old.office
  pub doubt : new.doubt ≡ old.doubt

-- What turns add to an office: what was in doubt, if it was kept, entries that they ask for, and no
-- other.
abbrev pub AddNoOther : {D : Type 0} → List Turn → OfficeOn D → OfficeOn D → Type 0
AddNoOther turns old new = IsUntouched old new ⊎ AddsAsked turns old new

-- the turns of a session that ended so, the one that ended it among them
abbrev pub turns_of : {H : Type 0} (answers : Answering H) (refusal : H → ℕ → List ℕ)
    (end : SessionEnd) (old new : SessionWorld H) → EndsSo answers refusal end old new → List Turn
turns_of answers refusal Done old new (inl t) = t.turns ++ t.one.turn ∷ []
turns_of answers refusal Done old new (inr (inl bad)) = bad.turns
turns_of answers refusal Done old new (inr (inr bytes)) = bytes.0.turns
turns_of answers refusal Cut old new bytes = bytes.0.turns
turns_of answers refusal ReadFault old new bytes = bytes.turns
turns_of answers refusal WriteFault old new (inl t) = t.1.turns ++ t.1.one.turn ∷ []
turns_of answers refusal WriteFault old new (inr bad) = bad.turns
turns_of answers refusal NoMemory old new none = []
