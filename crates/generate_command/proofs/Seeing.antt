-- A session that ended well, as it is seen through a part of its handler, where the handler was
-- fine to the end and each answer is whole.
use Rattle.std.proofs.Common.{◌≡◌, ℕ, ◌+◌, List, [], ◌∷◌, ◌++◌, Bool, false, Option, Some, sym}
use Rattle.std.proofs.Common.{ap, subst, ◌∙◌, inl, inr, flat_map, true}
use Rattle.std.specs.List.{AllByRecursion}
use Rattle.message_heads.specs.Streams.{Said}
use Rattle.office_outside.specs.Told.{Gained}
use Rattle.message_session.specs.Sessions.{Answering, SessionWorld, session_world, Turn, Trace}
use Rattle.message_session.specs.Sessions.{Serves}
use Rattle.message_session.specs.Sessions.{EndsByTurn, EndsByBad, EndsByBytes, EndsSo}
use Rattle.message_session.specs.declared.SessionEnd.TheVariants.{Done}
use Rattle.generate_command.specs.Playing.{HasNone}
use Rattle.generate_command.proofs.Nowhere.{gained_told, none_before, none_behind, none_in_turns}

-- the session's world with this part in place of the handler
abbrev pub seen : {H T : Type 0} → (H → T) → SessionWorld H → SessionWorld T
seen part s = session_world s.left s.to_come (part s.handler) s.held

-- one turn, seen so: the handler behind it is sound
abbrev pub IsSeen : {H T : Type 0} → (H → Type 0) → Answering T → (H → T) → H → Said → Bool → ℕ
    → List ℕ → H → Type 0
IsSeen Sound treats part old said last reading text new =
    Sound new × treats (part old) said last reading text (part new)

module _ {H T : Type 0} (answers : Answering H) (treats : Answering T) (part : H → T)
    (Sound Fine : H → Type 0) (piece : List ℕ)
    (was_fine : (old : H) (said : Said) (last : Bool) (reading : ℕ) (text : List ℕ) (new : H)
    → answers old said last reading text new → Fine new → Fine old)
    (each : (old : H) (said : Said) (last : Bool) (reading : ℕ) (text : List ℕ) (new : H)
    → Sound old → Fine new → HasNone piece text → answers old said last reading text new
    → IsSeen Sound treats part old said last reading text new)
    (refusal : H → ℕ → List ℕ) (words : T → ℕ → List ℕ)
    (spelled : (h : H) (status : ℕ) → refusal h status ≡ words (part h) status) where
  trace_fine : (count : ℕ) (old : H) (turns : List Turn) (new : H)
      → Trace answers count old turns new → Fine new → Fine old
  trace_fine count old [] new is fine = subst Fine is fine
  trace_fine count old (t ∷ ts) new (mid, open_yet, treated, rest) fine =
      was_fine old t.said false t.reading t.answer mid treated
      (trace_fine (count + 1) mid ts new rest fine)

  trace_seen : (count : ℕ) (old : H) (turns : List Turn) (new : H)
      → Trace answers count old turns new → Sound old → Fine new
      → AllByRecursion (λ (t : Turn). HasNone piece t.answer) turns
      → Sound new × Trace treats count (part old) turns (part new)
  trace_seen count old [] new is sound fine whole = (subst Sound (sym is) sound, ap part is)
  trace_seen count old (t ∷ ts) new (mid, open_yet, treated, rest) sound fine (first, others) =
      let mid_fine = trace_fine (count + 1) mid ts new rest fine in
      let one = each old t.said false t.reading t.answer mid sound mid_fine first treated in
      let more = trace_seen (count + 1) mid ts new rest one.0 fine others in
      (more.0, (part mid, open_yet, one.1, more.1))

  serves_seen : (turns : List Turn) (waiting : List ℕ) (old new : SessionWorld H)
      → Serves answers turns waiting old new → Sound old.handler → Fine new.handler
      → HasNone piece (flat_map (λ (t : Turn). t.answer) turns)
      → Sound new.handler × Serves treats turns waiting (seen part old) (seen part new)
  serves_seen turns waiting old new s sound fine none =
      let traced =
      trace_seen 0 old.handler turns new.handler s.trace sound fine
      (none_in_turns piece turns none) in (
        traced.0,
        record {
          taken = s.taken;
          lost = s.lost;
          messages = s.messages;
          few = s.few;
          readings = s.readings;
          trace = traced.1;
          gained = s.gained;
        },
      )

  -- the answers so far, where they are told
  told_so_far : (turns : List Turn) (waiting : List ℕ) (old new : SessionWorld H)
      → Serves answers turns waiting old new → old.held ≡ Some []
      → new.held ≡ Some (flat_map (λ (t : Turn). t.answer) turns)
  told_so_far turns waiting old new s empty =
      gained_told _ [] new.held
      (subst (λ (o : Option (List ℕ)). Gained (flat_map (λ (t : Turn). t.answer) turns) o new.held)
      empty s.gained)

  -- and with one more text
  told_with : (turns : List Turn) (waiting text bytes : List ℕ) (old mid : SessionWorld H)
      (held : Option (List ℕ)) → Serves answers turns waiting old mid → old.held ≡ Some []
      → Gained text mid.held held → held ≡ Some bytes
      → bytes ≡ flat_map (λ (t : Turn). t.answer) turns ++ text
  told_with turns waiting text bytes old mid held s empty gained is =
      let before = told_so_far turns waiting old mid s empty in
      let after =
      gained_told text (flat_map (λ (t : Turn). t.answer) turns) held
      (subst (λ (o : Option (List ℕ)). Gained text o held) before gained) in
      let same = sym is ∙ after in
      cc same

  turn_seen : (bytes : List ℕ) (old new : SessionWorld H) → EndsByTurn answers Gained true old new
      → Sound old.handler → Fine new.handler → old.held ≡ Some [] → new.held ≡ Some bytes
      → HasNone piece bytes → EndsByTurn treats Gained true (seen part old) (seen part new)
  turn_seen bytes old new t sound fine empty told none =
      let turn = t.one.turn in
      let takes = t.one.takes in
      let whole =
      subst (HasNone piece)
      (told_with t.turns t.waiting turn.answer bytes old t.mid new.held t.before empty
      takes.answered told) none in
      let mid_fine =
      was_fine t.mid.handler turn.said true turn.reading turn.answer new.handler takes.treated
      fine in
      let before =
      serves_seen t.turns t.waiting old t.mid t.before sound mid_fine
      (none_before piece _ turn.answer whole) in
      record {
        turns = t.turns;
        waiting = t.waiting;
        mid = seen part t.mid;
        before = before.1;
        size = t.size;
        one = record {
          turn = turn;
          which = t.one.which;
          takes = record {
            message = takes.message;
            unread = takes.unread;
            reading = takes.reading;
            treated =
                (each t.mid.handler turn.said true turn.reading turn.answer new.handler before.0
                fine (none_behind piece _ turn.answer whole) takes.treated).1;
            answered = takes.answered;
          };
        };
      }

  bad_seen : (bytes : List ℕ) (old new : SessionWorld H) → EndsByBad answers refusal Gained old new
      → Sound old.handler → Fine new.handler → old.held ≡ Some [] → new.held ≡ Some bytes
      → HasNone piece bytes → EndsByBad treats words Gained (seen part old) (seen part new)
  bad_seen bytes old new b sound fine empty told none =
      let whole =
      subst (HasNone piece)
      (told_with b.turns b.waiting (refusal b.mid.handler b.status) bytes old b.mid new.held
      b.before empty b.answered told) none in
      record {
        turns = b.turns;
        waiting = b.waiting;
        mid = seen part b.mid;
        before =
            (serves_seen b.turns b.waiting old b.mid b.before sound (subst Fine b.unasked fine)
            (none_before piece _ (refusal b.mid.handler b.status) whole)).1;
        status = b.status;
        bad = b.bad;
        unread = b.unread;
        unclocked = b.unclocked;
        unasked = ap part b.unasked;
        answered = subst (λ (l : List ℕ). Gained l b.mid.held new.held)
            (spelled b.mid.handler b.status) b.answered;
      }

  bytes_seen : (bytes : List ℕ) (old new : SessionWorld H)
      → EndsByBytes answers (λ waiting. waiting ≡ []) old new
      → Sound old.handler → Fine new.handler → old.held ≡ Some [] → new.held ≡ Some bytes
      → HasNone piece bytes
      → EndsByBytes treats (λ waiting. waiting ≡ []) (seen part old) (seen part new)
  bytes_seen bytes old new e sound fine empty told none =
      let after = told_so_far e.turns e.waiting old new e.serves empty in
      let same : Some bytes ≡ Some (flat_map (λ (t : Turn). t.answer) e.turns) = sym told ∙ after in
      let is : bytes ≡ flat_map (λ (t : Turn). t.answer) e.turns = cc same in
      record {
        turns = e.turns;
        waiting = e.waiting;
        serves =
            (serves_seen e.turns e.waiting old new e.serves sound fine
            (subst (HasNone piece) is none)).1;
        more = e.more;
        rest = e.rest;
      }

  pub done_seen : (bytes : List ℕ) (old new : SessionWorld H) → EndsSo answers refusal Done old new
      → Sound old.handler → Fine new.handler → old.held ≡ Some [] → new.held ≡ Some bytes
      → HasNone piece bytes → EndsSo treats words Done (seen part old) (seen part new)
  done_seen bytes old new (inl t) sound fine empty told none =
      inl (turn_seen bytes old new t sound fine empty told none)
  done_seen bytes old new (inr (inl b)) sound fine empty told none =
      inr (inl (bad_seen bytes old new b sound fine empty told none))
  done_seen bytes old new (inr (inr (e, over))) sound fine empty told none =
      inr (inr (bytes_seen bytes old new e sound fine empty told none, over))
