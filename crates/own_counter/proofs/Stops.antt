-- What a stop may leave in the course of a session.
use Rattle.std.proofs.Common.{◌≡◌, ◌⊎◌, ℕ, List, [], ◌∷◌, Bool, Option, Some, None}
use Rattle.std.proofs.Common.{sym, ap, subst, inl, inr}
use Rattle.message_heads.specs.Streams.{Said}
use Rattle.record_form.specs.declared.Command.{Command}
use Rattle.record_form.specs.declared.Entry.{Entry}
use Rattle.record_form.specs.declared.Outcome.{Outcome}
use Rattle.record_form.specs.declared.Request.{Request}
use Rattle.record_form.specs.declared.Request.TheVariants.{Change, Ask}
use Rattle.office_outside.specs.Disk.{All, LeavesOnly, OnlyNow}
use Rattle.office_outside.specs.Senses.{DiskSenses}
use Rattle.office_outside.proofs.Moments.{leaves_still, leaves_then, leaves_weaker}
use Rattle.office_history.specs.History.{Office, with_entry}
use Rattle.office_counter.specs.Laws.{Extends}
use Rattle.office_counter.specs.Steps.{with_made}
use Rattle.office_counter.proofs.Steps.{extends_still, extends_both, extends_with_others}
use Rattle.office_counter.proofs.Steps.{step_extends}
use Rattle.office_keep.specs.Files.{StandsFor}
use Rattle.office_keep.specs.Office.{IsSettled, Leaves, LeavesBy, OfficeOn, StandsSettled, entry_at}
use Rattle.office_keep.specs.Office.{unsettled, written}
use Rattle.message_session.specs.Sessions.{EndsSo, SessionWorld, Trace, Turn}
use Rattle.message_session.specs.declared.SessionEnd.{SessionEnd}
use Rattle.own_counter.specs.Own.{OwnAsks, OwnOn}
use Rattle.own_counter.specs.Runs.{IsBetween}
use Rattle.own_counter.specs.Stepping.{own_steps, settled_others}
use Rattle.office_session.specs.Messages.{AnswersMessage, asked, at_once, unread}
use Rattle.office_session.proofs.Keeping.{trace_keeps, end_keeps}

-- an office may be longer at its end, and begin earlier
between_longer : (first mid last : Office) (file : List ℕ) → Extends mid last
    → IsBetween first mid file → IsBetween first last file
between_longer first mid last file more b = record {
  office = b.office;
  from_first = b.from_first;
  up_to_last = extends_both b.office mid last b.up_to_last more;
  stands = b.stands;
}

between_earlier : (first mid last : Office) (file : List ℕ) → Extends first mid
    → IsBetween mid last file → IsBetween first last file
between_earlier first mid last file more b = record {
  office = b.office;
  from_first = extends_both first mid b.office more b.from_first;
  up_to_last = b.up_to_last;
  stands = b.stands;
}

settled_extends : (o : Office) (doubt : Option Entry) (settled : Office) → IsSettled o doubt settled
    → Extends o settled
settled_extends o doubt settled is =
    let s = settled_others o doubt settled is in extends_with_others o settled s.0 s.1

made_extends : (o new : Office) (made : Option Entry) → new ≡ with_made o made → Extends o new
made_extends o new None is = subst (λ (p : Office). Extends o p) (sym is) (extends_still o)
made_extends o new (Some e) is = record {
  origin = ap (λ (p : Office). p.origin) is;
  more = e ∷ [];
  history = ap (λ (p : Office). p.history) is;
}

stands_with : (o : Office) (doubt : Option Entry) (settled : Office) (file : List ℕ)
    → IsSettled o doubt settled → StandsFor settled file
    → StandsFor o file ⊎ ((e : Entry) × StandsFor (with_entry o e) file)
stands_with o None settled file is stands = inl (subst (λ (p : Office). StandsFor p file) is stands)
stands_with o (Some e) settled file (inl is) stands =
    inl (subst (λ (p : Office). StandsFor p file) is stands)
stands_with o (Some e) settled file (inr is) stands =
    inr (e, subst (λ (p : Office). StandsFor p file) is stands)

-- what stood there stands between
settled_between : (first last : Office) (doubt : Option Entry) (file : List ℕ) → Extends first last
    → StandsSettled first doubt file
    → IsBetween first last file
settled_between first last doubt file more (settled, is, stands) = record {
  office = first;
  from_first = extends_still first;
  up_to_last = more;
  stands = stands_with first doubt settled file is stands;
}

change_between : {D : Type 0} (old : OfficeOn D) (reading : ℕ) (command : Command)
    (new : OfficeOn D) (file : List ℕ) → Extends old.office new.office
    → Leaves old reading command new file → IsBetween old.office new.office file
change_between old reading command new file more (unsettled stands) =
    settled_between old.office new.office old.doubt file more stands
change_between old reading command new file more (written settled made is grows accepts stands) =
    record {
      office = settled;
      from_first = settled_extends old.office old.doubt settled is;
      up_to_last = made_extends settled new.office made grows;
      stands = inr (entry_at settled reading command, stands);
    }

left_between : {D : Type 0} (old : OfficeOn D) (reading : ℕ) (request : Request) (new : OfficeOn D)
    (file : List ℕ) → Extends old.office new.office
    → LeavesBy old reading request new file → IsBetween old.office new.office file
left_between old reading (Ask query) new file more stands =
    settled_between old.office new.office old.doubt file more stands
left_between old reading (Change command) new file more leaves =
    change_between old reading command new file more leaves

module _ {D : Type 0} (S : DiskSenses D) (only_now : OnlyNow S) where
  -- what a part of a session leaves, at each moment and at its end
  record PartIsKept (old new : OwnOn D) : Type 0 where
    pub moments : LeavesOnly S old.kept.disk new.kept.disk
        (IsBetween old.kept.office new.kept.office)
    pub now : All (StandsSettled new.kept.office new.kept.doubt) (S.images new.kept.disk)
    pub more : Extends old.kept.office new.kept.office

  abbrev Keeps : OwnOn D → OwnOn D → Type 0
  Keeps old new =
      All (StandsSettled old.kept.office old.kept.doubt) (S.images old.kept.disk)
      → PartIsKept old new

  keeps_still : (o : OwnOn D) → Keeps o o
  keeps_still o stands = record {
    moments = leaves_still {S = S} only_now
        (λ file image. settled_between o.kept.office o.kept.office o.kept.doubt file
        (extends_still o.kept.office) (stands file image));
    now = stands;
    more = extends_still o.kept.office;
  }

  keeps_both : (a b c : OwnOn D) → Keeps a b → Keeps b c → Keeps a c
  keeps_both a b c first second stands =
      let one = first stands in
      let two = second one.now in
      record {
        moments = leaves_then one.moments (leaves_weaker two.moments
            (λ file. between_earlier a.kept.office b.kept.office c.kept.office file one.more))
            (λ file. between_longer a.kept.office b.kept.office c.kept.office file two.more);
        now = two.now;
        more = extends_both a.kept.office b.kept.office c.kept.office one.more two.more;
      }

  asking_keeps : (old : OwnOn D) (reading : ℕ) (request : Request) (outcome : Outcome)
      (new : OwnOn D) → OwnAsks S old reading request outcome new → Keeps old new
  asking_keeps old reading request outcome new asks stands =
      let more : Extends old.kept.office new.kept.office =
      step_extends _ reading request outcome _
      (own_steps S old reading request outcome new asks) in
      record {
        moments = leaves_weaker asks.any_moment
            (λ file. left_between old.kept reading request new.kept file more);
        now = asks.stands;
        more = more;
      }

  turn_keeps : (old : OwnOn D) (said : Said) (last : Bool) (reading : ℕ) (text : List ℕ)
      (new : OwnOn D) → AnswersMessage (OwnAsks S) old said last reading text new → Keeps old new
  turn_keeps old said last reading text new (asked request outcome for asks answer) =
      asking_keeps old reading request outcome new asks
  turn_keeps old said last reading text new (at_once reason for answer same) =
      subst (λ (o : OwnOn D). Keeps old o) (sym same) (keeps_still old)
  turn_keeps old said last reading text new (unread answer same) =
      subst (λ (o : OwnOn D). Keeps old o) (sym same) (keeps_still old)

  pub turns_leave : (count : ℕ) (old : OwnOn D) (turns : List Turn) (new : OwnOn D)
      → Trace (AnswersMessage (OwnAsks S)) count old turns new
      → All (StandsSettled old.kept.office old.kept.doubt) (S.images old.kept.disk)
      → LeavesOnly S old.kept.disk new.kept.disk (IsBetween old.kept.office new.kept.office)
  turns_leave count old turns new trace stands =
      (trace_keeps (AnswersMessage (OwnAsks S)) Keeps keeps_still keeps_both turn_keeps
      count old turns new trace stands).moments

  pub end_leaves : (refusal : OwnOn D → ℕ → List ℕ) (end : SessionEnd)
      (old new : SessionWorld (OwnOn D)) → EndsSo (AnswersMessage (OwnAsks S)) refusal end old new
      → All (StandsSettled old.handler.kept.office old.handler.kept.doubt)
      (S.images old.handler.kept.disk)
      → LeavesOnly S old.handler.kept.disk new.handler.kept.disk
      (IsBetween old.handler.kept.office new.handler.kept.office)
  end_leaves refusal end old new ends stands =
      (end_keeps (AnswersMessage (OwnAsks S)) Keeps keeps_still keeps_both turn_keeps
      refusal end old new ends stands).moments
