-- The entries that a pass makes are those for which its session's messages ask.
use Rattle.std.proofs.Common.{◌≡◌, ◌⊎◌, inl, inr, ⊎_elim, ℕ, zero, suc, ◌+◌, ◌≤◌, Bool, List}
use Rattle.std.proofs.Common.{[], ◌∷◌, ◌++◌, length, take, map, Option, Some, None, refl, sym, ap}
use Rattle.std.proofs.Common.{◌∙◌, subst, arith, length-append}
use Rattle.std.specs.Prelude.{slice_get}
use Rattle.std.proofs.Math.Seq.{take-append_seam, take-length}
use Rattle.std.proofs.lemmas.List.{length-map, take-append-le}
use Rattle.std.proofs.lemmas.Option.{slice_get_within}
use Rattle.turn_desk.specs.Histories.{Has}
use Rattle.turn_desk.specs.Ledgers.{left_in_doubt}
use Rattle.turn_desk.specs.Passes.{PassState}
use Rattle.turn_desk.specs.Sources.{HasDoubt}
use Rattle.turn_desk.specs.declared.Doubt.{Doubt}
use Rattle.turn_desk.proofs.Histories.{has_append}
use Rattle.turn_desk.proofs.Ledgers.{left_is}
use Rattle.record_form.specs.declared.Command.{Command}
use Rattle.record_form.specs.declared.Entry.{Entry}
use Rattle.record_form.specs.declared.Outcome.{Outcome}
use Rattle.record_form.specs.declared.Query.{Query}
use Rattle.record_form.specs.declared.Request.{Request}
use Rattle.record_form.specs.declared.Request.TheVariants.{Change, Ask}
use Rattle.record_form.specs.Laws.{EntriesAreReadBack}
use Rattle.record_form.specs.Records.{record_of}
use Rattle.office_history.specs.History.{Office, with_entry}
use Rattle.office_counter.specs.Laws.{Extends}
use Rattle.office_counter.specs.Steps as steps
use Rattle.office_counter.specs.Steps.{place_of, with_made}
use Rattle.office_counter.proofs.Steps.{extends_both, extends_still, step_extends}
use Rattle.message_session.specs.Sessions.{EndsSo, SessionWorld, Turn}
use Rattle.message_session.specs.declared.SessionEnd.{SessionEnd}
use Rattle.own_counter.specs.Own.{places_with}
use Rattle.own_counter.specs.Requests.{IsAsked, turns_of}
use Rattle.office_keep.specs.Office as keep
use Rattle.office_keep.specs.Office.{Changes, OfficeOn, entry_at}
use Rattle.office_session.specs.Messages.{AnswersMessage, asked, at_once, unread}
use Rattle.turn_counter.specs.Asked.{AsksAt, AsksBehind, IsAskedByOne, MakesAsked, front}
use Rattle.turn_counter.specs.Seen.{entry_in, ledger_of, office_seen, record_if, standing_of}
use Rattle.turn_counter.specs.Stepping.{turn_steps}
use Rattle.turn_counter.specs.Turns.{TurnAsks}
use Rattle.turn_counter.proofs.Holding.{at_seam, made_is}
use Rattle.turn_counter.proofs.Reading.{entry_back}
use Rattle.turn_counter.proofs.Turning.{end_does}
use Rattle.office_outside.specs.Senses.{DiskSenses}

-- an entry that stands there stands there once there are more
get_more : {X : Type 0} (xs ys : List X) (p : ℕ) (x : X) → slice_get xs p ≡ Some x
    → slice_get (xs ++ ys) p ≡ Some x
get_more [] ys p x at = absurd (cc at)
get_more (z ∷ xs) ys zero x at = at
get_more (z ∷ xs) ys (suc p) x at = get_more xs ys p x at

pub front_still : (o last : Office) (place : ℕ) → Extends o last → place ≤ length o.history
    → front last place ≡ front o place
front_still o last place stays low =
    ap (λ (origin : ℕ). record { origin = origin; history = take place last.history }) stays.origin
    ∙ ap (λ (h : List Entry). record { origin = o.origin; history = take place h }) stays.history
    ∙ ap (λ (h : List Entry). record { origin = o.origin; history = h })
    (take-append-le place o.history stays.more low)

pub by_one_left : (ts us : List Turn) (ps qs : List (Option ℕ)) (place : ℕ) (o : Office) (e : Entry)
    → IsAskedByOne ts ps place o e → IsAskedByOne (ts ++ us) (ps ++ qs) place o e
by_one_left [] us ps qs place o e none = absurd none
by_one_left (t ∷ ts) us [] qs place o e none = absurd none
by_one_left (t ∷ ts) us (p ∷ ps) qs place o e (inl is) = inl is
by_one_left (t ∷ ts) us (p ∷ ps) qs place o e (inr later) =
    inr (by_one_left ts us ps qs place o e later)

pub by_one_right : (ts us : List Turn) (ps qs : List (Option ℕ)) (place : ℕ) (o : Office)
    (e : Entry) → length ps ≡ length ts → IsAskedByOne us qs place o e
    → IsAskedByOne (ts ++ us) (ps ++ qs) place o e
by_one_right [] us [] qs place o e each is = is
by_one_right [] us (p ∷ ps) qs place o e each is = absurd (omega (arith, each))
by_one_right (t ∷ ts) us [] qs place o e each is = absurd (omega (arith, each))
by_one_right (t ∷ ts) us (p ∷ ps) qs place o e each is =
    inr (by_one_right ts us ps qs place o e (omega (arith, each)) is)

-- what was asked for stays so, as the office goes on and there are more turns
module _ (ts us : List Turn) (ps qs : List (Option ℕ))
    (more : (place : ℕ) (o : Office) (e : Entry) → IsAskedByOne ts ps place o e
    → IsAskedByOne us qs place o e) (o last : Office) (stays : Extends o last) where
  pub at_later : (place : ℕ) → AsksAt ts ps o place → AsksAt us qs last place
  at_later place (e, at, by) =
      let there : slice_get last.history place ≡ Some e =
      ap (λ (h : List Entry). slice_get h place) stays.history
      ∙ get_more o.history stays.more place e at in
      let low : place ≤ length o.history =
      omega (arith, slice_get_within o.history place e at) in (
        e,
        there,
        subst (λ (f : Office). IsAskedByOne us qs place f e)
            (sym (front_still o last place stays low)) (more place (front o place) e by),
      )

  pub behind_later : (place : ℕ) (bytes : List ℕ) → AsksBehind ts ps o place bytes
      → AsksBehind us qs last place bytes
  behind_later place bytes (low, by) = (
    omega (arith, low, ap length stays.history, length-append o.history stays.more),
    subst (λ (f : Office). IsAskedByOne us qs place f (entry_in bytes))
        (sym (front_still o last place stays low)) (more place (front o place) (entry_in bytes) by),
  )

pub doubt_append : (xs ys : List Doubt) (p : ℕ) (bytes : List ℕ) → HasDoubt (xs ++ ys) p bytes
    → HasDoubt xs p bytes ⊎ HasDoubt ys p bytes
doubt_append [] ys p bytes had = inr had
doubt_append (x ∷ xs) ys p bytes (inl is) = inl (inl is)
doubt_append (x ∷ xs) ys p bytes (inr later) =
    ⊎_elim (λ a. inl (inr a)) (λ b. inr b) (doubt_append xs ys p bytes later)

-- an own place is an older one, or the one that was told
place_from : (place : Option ℕ) (own : List ℕ) (p : ℕ) → Has (places_with place own) p
    → Has own p ⊎ (place ≡ Some p)
place_from None own p had = inl had
place_from (Some q) own p had = ⊎_elim (λ older. inl older)
    (λ new. ⊎_elim (λ (is : p ≡ q). inr (ap Some (sym is))) (λ none. absurd none) new)
    (has_append own (q ∷ []) p had)

-- the place of a turn's entry: that of the one that it added, or else behind the history
abbrev claimed : Option ℕ → ℕ → Option ℕ
claimed None behind = Some behind
claimed (Some p) behind = Some p

-- one change, whose message is the turn's
module _ {D : Type 0} (t : Turn) (command : Command)
    (ask : (o : Office) → IsAsked t o (entry_at o t.reading command)) (taken put : OfficeOn D)
    (claim : Option ℕ) where
  -- the entry that was added behind a settled office
  added_at : (settled : Office) (e : Entry) (outcome : Outcome) (p : ℕ)
      → steps.Comes settled t.reading (Change command) outcome (Some e)
      → put.office ≡ with_entry settled e → p ≡ length settled.history → claim ≡ Some p
      → AsksAt (t ∷ []) (claim ∷ []) put.office p
  added_at settled e outcome p come grows at claims =
      let is : e ≡ entry_at settled t.reading command =
      made_is settled t.reading command outcome e come in
      let there : slice_get (with_entry settled e).history (length settled.history) ≡ Some e =
      at_seam settled.history e [] in
      let before : front (with_entry settled e) (length settled.history) ≡ settled =
      ap (λ (h : List Entry). record { origin = settled.origin; history = h })
      (take-append_seam settled.history (e ∷ [])) in
      subst (λ (o : Office). AsksAt (t ∷ []) (claim ∷ []) o p) (sym grows)
      (subst (λ (n : ℕ). AsksAt (t ∷ []) (claim ∷ []) (with_entry settled e) n) (sym at) (
        e,
        there,
        inl (
          claims ∙ ap Some at,
          subst (λ (o : Office). IsAsked t o e) (sym before)
              (subst (IsAsked t settled) (sym is) (ask settled)),
        ),
      ))

  made_at : (settled : Office) (made : Option Entry) (outcome : Outcome) (p : ℕ)
      → steps.Comes settled t.reading (Change command) outcome made
      → put.office ≡ with_made settled made → Some p ≡ place_of settled made → claim ≡ Some p
      → AsksAt (t ∷ []) (claim ∷ []) put.office p
  made_at settled None outcome p come grows at claims = absurd (cc at)
  made_at settled (Some e) outcome p come grows at claims =
      added_at settled e outcome p come grows (cc at) claims

  -- the place that a change added
  own_asked : (outcome : Outcome) (place : Option ℕ) (p : ℕ)
      → Changes taken t.reading command outcome place put → place ≡ Some p → claim ≡ Some p
      → AsksAt (t ∷ []) (claim ∷ []) put.office p
  own_asked outcome place p (keep.past late told same at) is claims = absurd (cc (sym at ∙ is))
  own_asked outcome place p (keep.refused_memory told timely unmoved at) is claims =
      absurd (cc (sym at ∙ is))
  own_asked outcome place p (keep.not_settled told timely before at) is claims =
      absurd (cc (sym at ∙ is))
  own_asked outcome place p (keep.not_kept told timely unmoved at) is claims =
      absurd (cc (sym at ∙ is))
  own_asked outcome place p (keep.in_doubt told timely doubt at) is claims =
      absurd (cc (sym at ∙ is))
  own_asked outcome place p (keep.done settled made settles timely come grows none at) is claims =
      made_at settled made outcome p come grows (sym is ∙ at) claims

  -- nothing was left in doubt where nothing is, and where the same is in doubt behind the same
  module _ (S : DiskSenses D) where
    abbrev Left : ℕ → List ℕ → Type 0
    Left p bytes = HasDoubt (left_in_doubt (ledger_of S taken) (ledger_of S put)) p bytes

    none_left : (p : ℕ) (bytes : List ℕ) → put.doubt ≡ None → Left p bytes → ⊥
    none_left p bytes none left =
        let is = left_is (ledger_of S taken) (ledger_of S put) p bytes left in
        cc (sym (ap record_if none) ∙ is.1)

    same_left : (p : ℕ) (bytes : List ℕ) → put.office ≡ taken.office → put.doubt ≡ taken.doubt
        → Left p bytes → ⊥
    same_left p bytes office doubt left =
        let is = left_is (ledger_of S taken) (ledger_of S put) p bytes left in
        is.2 (ap (λ (o : Office). length (map record_of o.history)) office) (ap record_if doubt)

    -- the entry that a change left in doubt
    doubt_asked : EntriesAreReadBack → (p : ℕ) (bytes : List ℕ)
        → keep.IsInDoubt taken t.reading command put → claim ≡ Some (length put.office.history)
        → Left p bytes → AsksBehind (t ∷ []) (claim ∷ []) put.office p bytes
    doubt_asked back p bytes doubt claims left =
        let is = left_is (ledger_of S taken) (ledger_of S put) p bytes left in
        let e = entry_at put.office t.reading command in
        let spelled : record_of e ≡ bytes = same_bytes (sym (ap record_if doubt.doubt) ∙ is.1) in
        let read : entry_in bytes ≡ e =
        ap entry_in (sym spelled) ∙ entry_back back e doubt.accepts.fits in
        let behind : p ≡ length put.office.history =
        is.0 ∙ length-map put.office.history record_of in
        let before : front put.office (length put.office.history) ≡ put.office =
        ap (λ (h : List Entry). record { origin = put.office.origin; history = h })
        (take-length put.office.history) in (
          omega (arith, behind),
          inl (
            claims ∙ ap Some (sym behind),
            subst (λ (n : ℕ). IsAsked t (front put.office n) (entry_in bytes)) (sym behind)
                (subst (λ (o : Office). IsAsked t o (entry_in bytes)) (sym before)
                (subst (IsAsked t put.office) (sym read) (ask put.office))),
          ),
        )
      where
        same_bytes : {a b : List ℕ} → Some a ≡ Some b → a ≡ b
        same_bytes is = cc is

    raised_asked : EntriesAreReadBack → (outcome : Outcome) (place : Option ℕ) (p : ℕ)
        (bytes : List ℕ) → Changes taken t.reading command outcome place put
        → (place ≡ None → claim ≡ Some (length put.office.history)) → Left p bytes
        → AsksBehind (t ∷ []) (claim ∷ []) put.office p bytes
    raised_asked back outcome place p bytes (keep.past late told same at) claims
        left =
        absurd (same_left p bytes (ap (λ (k : OfficeOn D). k.office) same)
        (ap (λ (k : OfficeOn D). k.doubt) same) left)
    raised_asked back outcome place p bytes (keep.refused_memory told timely unmoved at) claims
        left =
        absurd (none_left p bytes unmoved.none left)
    raised_asked back outcome place p bytes (keep.not_settled told timely before at) claims
        left =
        absurd (same_left p bytes before.office before.doubt left)
    raised_asked back outcome place p bytes (keep.not_kept told timely unmoved at) claims
        left =
        absurd (none_left p bytes unmoved.none left)
    raised_asked back outcome place p bytes (keep.in_doubt told timely doubt at) claims left =
        doubt_asked back p bytes doubt (claims at) left
    raised_asked back outcome place p bytes (keep.done settled made is timely come now none at)
        claims left =
        absurd (none_left p bytes none left)

-- what passes do by turns: the office that was seen goes on, and what was made was asked for
abbrev pub Does : List Turn → PassState → PassState → Type 0
Does turns old new = Extends (office_seen old) (office_seen new) × MakesAsked turns old new

pub does_none : (p : PassState) → Does [] p p
does_none p = (
  extends_still (office_seen p),
  record {
    places = [];
    each = refl;
    own = λ place had. inl had;
    raised = λ place bytes had. inl had;
  },
)

pub does_both : (ts us : List Turn) (a b c : PassState) → Does ts a b → Does us b c
    → Does (ts ++ us) a c
does_both ts us a b c (grows, first) (goes, second) =
    let ps = first.places in
    let qs = second.places in
    let later : (place : ℕ) (o : Office) (e : Entry) → IsAskedByOne us qs place o e
    → IsAskedByOne (ts ++ us) (ps ++ qs) place o e =
    λ place o e by. by_one_right ts us ps qs place o e first.each by in (
      extends_both (office_seen a) (office_seen b) (office_seen c) grows goes,
      record {
        places = ps ++ qs;
        each = length-append ps qs ∙ ap (λ n. n + length qs) first.each
            ∙ ap (λ n. length ts + n) second.each ∙ sym (length-append ts us);
        own = λ place had. ⊎_elim
            (λ older. ⊎_elim (λ oldest. inl oldest)
            (λ at. inr (at_later ts (ts ++ us) ps (ps ++ qs) (by_one_left ts us ps qs)
            (office_seen b) (office_seen c) goes place at)) (first.own place older))
            (λ at. inr (at_later us (ts ++ us) qs (ps ++ qs) later (office_seen c) (office_seen c)
            (extends_still (office_seen c)) place at))
            (second.own place had);
        raised = λ place bytes had. ⊎_elim
            (λ older. ⊎_elim (λ oldest. inl oldest)
            (λ at. inr (behind_later ts (ts ++ us) ps (ps ++ qs) (by_one_left ts us ps qs)
            (office_seen b) (office_seen c) goes place bytes at)) (first.raised place bytes older))
            (λ at. inr (behind_later us (ts ++ us) qs (ps ++ qs) later (office_seen c)
            (office_seen c) (extends_still (office_seen c)) place bytes at))
            (second.raised place bytes had);
      },
    )

does_nothing : (t : Turn) (old new : PassState) → new ≡ old → Does (t ∷ []) old new
does_nothing t old new same = subst (λ (p : PassState). Does (t ∷ []) old p) (sym same) (
  extends_still (office_seen old),
  record {
    places = None ∷ [];
    each = refl;
    own = λ place had. inl had;
    raised = λ place bytes had. inl had;
  },
)

module _ {D : Type 0} (back : EntriesAreReadBack) (S : DiskSenses D) where
  abbrev Asks : PassState → ℕ → Request → Outcome → PassState → Type 0
  Asks = TurnAsks S

  asks_extend : (old : PassState) (reading : ℕ) (request : Request) (outcome : Outcome)
      (new : PassState) → Asks old reading request outcome new
      → Extends (office_seen old) (office_seen new)
  asks_extend old reading request outcome new asks =
      step_extends (standing_of old) reading request outcome (standing_of new)
      (turn_steps S old reading request outcome new asks)

  change_does : (t : Turn) (command : Command)
      → ((o : Office) → IsAsked t o (entry_at o t.reading command))
      → (old : PassState) (outcome : Outcome) (new : PassState)
      → Asks old t.reading (Change command) outcome new → Does (t ∷ []) old new
  change_does t command ask old outcome new a =
      let behind = length a.put.office.history in
      let claim = claimed a.place behind in (
        asks_extend old t.reading (Change command) outcome new a,
        record {
          places = claim ∷ [];
          each = refl;
          own = λ p had. ⊎_elim (λ older. inl older)
              (λ told. inr (subst (λ (o : Office). AsksAt (t ∷ []) (claim ∷ []) o p) (sym a.seen)
              (own_asked t command ask a.taken a.put claim outcome a.place p a.acts.ended told
              (ap (λ (q : Option ℕ). claimed q behind) told))))
              (place_from a.place old.own p (subst (λ (l : List ℕ). Has l p) a.own had));
          raised = λ p bytes had. ⊎_elim (λ older. inl older)
              (λ left. inr (subst (λ (o : Office). AsksBehind (t ∷ []) (claim ∷ []) o p bytes)
              (sym a.seen)
              (raised_asked t command ask a.taken a.put claim S back outcome a.place p bytes
              a.acts.ended (λ none. ap (λ (q : Option ℕ). claimed q behind) none) left)))
              (doubt_append old.raised (left_in_doubt (ledger_of S a.taken)
              (ledger_of S a.put)) p bytes
              (subst (λ (l : List Doubt). HasDoubt l p bytes) a.raised had));
        },
      )

  -- a query makes nothing
  query_does : (t : Turn) (query : Query) (old : PassState) (outcome : Outcome) (new : PassState)
      → Asks old t.reading (Ask query) outcome new → Does (t ∷ []) old new
  query_does t query old outcome new a = (
    asks_extend old t.reading (Ask query) outcome new a,
    record {
      places = None ∷ [];
      each = refl;
      own = λ p had. inl (subst (λ (l : List ℕ). Has l p)
          (a.own ∙ ap (λ (place : Option ℕ). places_with place old.own) a.acts.ended.no_place) had);
      raised = λ p bytes had. ⊎_elim (λ older. inl older)
          (λ left. absurd (let is = left_is (ledger_of S a.taken) (ledger_of S a.put) p
          bytes left in is.2
          (ap (λ (k : OfficeOn D). length (map record_of k.office.history)) a.acts.ended.stays)
          (ap (λ (k : OfficeOn D). record_if k.doubt) a.acts.ended.stays)))
          (doubt_append old.raised (left_in_doubt (ledger_of S a.taken)
          (ledger_of S a.put)) p bytes
          (subst (λ (l : List Doubt). HasDoubt l p bytes) a.raised had));
    },
  )

  turn_does : (old : PassState) (t : Turn) (last : Bool) (new : PassState)
      → AnswersMessage Asks old t.said last t.reading t.answer new → Does (t ∷ []) old new
  turn_does old t last new (asked (Change command) outcome stands asks tells) =
      change_does t command (λ o. record { command = command; request = stands; entry = refl }) old
      outcome new asks
  turn_does old t last new (asked (Ask query) outcome stands asks tells) =
      query_does t query old outcome new asks
  turn_does old t last new (at_once reason stands text same) = does_nothing t old new same
  turn_does old t last new (unread text same) = does_nothing t old new same

  pub session_does : (refusal : PassState → ℕ → List ℕ) (end : SessionEnd)
      (old new : SessionWorld PassState) (ends : EndsSo (AnswersMessage Asks) refusal end old new)
      → Does (turns_of (AnswersMessage Asks) refusal end old new ends) old.handler new.handler
  session_does refusal end old new ends =
      end_does (AnswersMessage Asks) Does does_none does_both turn_does refusal end old new ends
