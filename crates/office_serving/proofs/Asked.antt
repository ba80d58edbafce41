-- Each entry behind the first is one for which a message asks.
use Rattle.std.proofs.Common.{◌≡◌, ◌⊎◌, inl, inr, ⊎_elim, ℕ, zero, suc, ◌+◌, ◌<◌, ◌≤◌, false, List}
use Rattle.std.proofs.Common.{[], ◌∷◌, ◌++◌, length, Option, Some, refl, sym, ap, ◌∙◌, subst}
use Rattle.std.proofs.Common.{arith}
use Rattle.std.specs.Prelude.{All, slice_get}
use Rattle.std.specs.List.{AllByRecursion}
use Rattle.std.proofs.lemmas.List.{length-map}
use Rattle.std.proofs.lemmas.List.Elements.{All-weaker, recursion_from_All}
use Rattle.std.proofs.lemmas.Option.{slice_get_within}
use Rattle.turn_desk.specs.Histories.{Has}
use Rattle.turn_desk.specs.Passes.{PassState}
use Rattle.turn_desk.specs.Sources.{Accounts, AreAll, HasDoubt, own_of, raised_of}
use Rattle.turn_desk.specs.Sources.{total}
use Rattle.turn_desk.specs.declared.Doubt.{Doubt}
use Rattle.turn_desk.specs.declared.Opening.{Opening}
use Rattle.turn_desk.proofs.Histories.{has_append}
use Rattle.office_doors.specs.declared.Visit.{Visit}
use Rattle.record_form.specs.declared.Entry.{Entry}
use Rattle.record_form.specs.Laws.{EntriesAreReadBack}
use Rattle.record_form.specs.Ranges.{FitsRecord}
use Rattle.record_form.specs.Records.{record_of}
use Rattle.office_history.specs.History.{Office}
use Rattle.office_counter.specs.Laws.{Extends}
use Rattle.office_counter.proofs.Steps.{extends_still}
use Rattle.message_session.specs.Sessions.{Turn}
use Rattle.turn_counter.specs.Asked.{AsksAt, AsksBehind, IsAskedByOne, front}
use Rattle.turn_counter.specs.Seen.{entry_in, office_seen, record_if}
use Rattle.office_keep.specs.Files.{OfficeIsWhole, records}
use Rattle.turn_counter.proofs.Asked.{Does, at_later, behind_later, by_one_left, by_one_right}
use Rattle.turn_counter.proofs.Asked.{doubt_append}
use Rattle.turn_counter.proofs.Reading.{entry_back}
use Rattle.visit_workers.specs.Visits.{Chain, Service}
use Rattle.visit_workers.specs.Workers.{ServesDoors}
use Rattle.office_serving.specs.Asked.{AddsNoOther, IsDoubted, turns_of_chain}
use Rattle.office_serving.specs.Workers.{DeskSenses, GoesOn, passes_like, turns_of_workers}

-- the passes that workers leave are all that the desk was opened for
pub are_all : (start : PassState) (passes : List PassState) → All (λ p. GoesOn start p) passes
    → start.parts ≡ 1 → start.has_split ≡ false → length passes ≡ start.opening.passes
    → AreAll start.opening passes
are_all start passes go one none count = record {
  opened = All-weaker (λ p. GoesOn start p) (λ p. p.opening ≡ start.opening)
      (λ p g. g.stays.opening) passes go;
  whole = ones passes (recursion_from_All (λ p. GoesOn start p) passes go) ∙ count;
  none_split = All-weaker (λ p. GoesOn start p) (λ p. p.has_split ≡ false)
      (λ p g. g.stays.has_split ∙ none) passes go;
}
  where
    ones : (ps : List PassState) → AllByRecursion (λ p. GoesOn start p) ps
        → total (λ p. p.parts) ps ≡ length ps
    ones [] none = refl
    ones (p ∷ ps) (g, rest) = let later = ones ps rest in
        let here : p.parts ≡ 1 = g.stays.parts ∙ one in omega (arith, later, here)

-- where each worker makes what the messages of its visits ask for, all of them do
module _ {A I O C : Type 0} (worker : DeskSenses A I O C) (start : PassState) (last : Office)
    (does : (services : List (Service (Visit I O C))) (new : PassState)
    (chain : Chain worker.asks worker.look start services new)
    → Does (turns_of_chain worker.asks worker.look start services new chain) start new)
    (none_own : start.own ≡ []) (none_raised : start.raised ≡ []) where
  nothing_own : (p : ℕ) → Has start.own p → ⊥
  nothing_own p had = subst (λ (l : List ℕ). Has l p) none_own had

  nothing_raised : (p : ℕ) (bytes : List ℕ) → HasDoubt start.raised p bytes → ⊥
  nothing_raised p bytes had = subst (λ (l : List Doubt). HasDoubt l p bytes) none_raised had

  -- the places of all turns
  abbrev pub places_of : (opened closed : List A) (ends : List PassState)
      → ServesDoors worker (passes_like start opened) opened closed ends → List (Option ℕ)
  places_of (o ∷ os) (c ∷ cs) (e ∷ es) (works, others) =
      (does works.services e works.chain).1.places ++ places_of os cs es others
  places_of opened closed ends works = []

  pub own_asked : (opened closed : List A) (ends : List PassState)
      (works : ServesDoors worker (passes_like start opened) opened closed ends)
      → AllByRecursion (λ p. Extends (office_seen p) last) ends → (place : ℕ)
      → Has (own_of ends) place
      → AsksAt (turns_of_workers worker (passes_like start opened) opened closed ends works)
      (places_of opened closed ends works) last place
  own_asked [] [] [] works each place had = absurd had
  own_asked [] [] (e ∷ es) works each place had = absurd works
  own_asked [] (c ∷ cs) ends works each place had = absurd works
  own_asked (o ∷ os) [] ends works each place had = absurd works
  own_asked (o ∷ os) (c ∷ cs) [] works each place had = absurd works
  own_asked (o ∷ os) (c ∷ cs) (e ∷ es) (works, others) (here, rest) place had =
      let mine = turns_of_chain worker.asks worker.look start works.services e works.chain in
      let more = turns_of_workers worker (passes_like start os) os cs es others in
      let made = (does works.services e works.chain).1 in
      let ps = made.places in
      let qs = places_of os cs es others in
      ⊎_elim
      (λ own. ⊎_elim (λ before. absurd (nothing_own place before))
      (λ at. at_later mine (mine ++ more) ps (ps ++ qs) (by_one_left mine more ps qs)
      (office_seen e) last here place at)
      (made.own place own))
      (λ later. at_later more (mine ++ more) qs (ps ++ qs)
      (λ at o f by. by_one_right mine more ps qs at o f made.each by) last last
      (extends_still last) place (own_asked os cs es others rest place later))
      (has_append e.own (own_of es) place had)

  pub raised_asked : (opened closed : List A) (ends : List PassState)
      (works : ServesDoors worker (passes_like start opened) opened closed ends)
      → AllByRecursion (λ p. Extends (office_seen p) last) ends → (place : ℕ) (bytes : List ℕ)
      → HasDoubt (raised_of ends) place bytes
      → AsksBehind (turns_of_workers worker (passes_like start opened) opened closed ends works)
      (places_of opened closed ends works) last place bytes
  raised_asked [] [] [] works each place bytes had = absurd had
  raised_asked [] [] (e ∷ es) works each place bytes had = absurd works
  raised_asked [] (c ∷ cs) ends works each place bytes had = absurd works
  raised_asked (o ∷ os) [] ends works each place bytes had = absurd works
  raised_asked (o ∷ os) (c ∷ cs) [] works each place bytes had = absurd works
  raised_asked (o ∷ os) (c ∷ cs) (e ∷ es) (works, others) (here, rest) place bytes had =
      let mine = turns_of_chain worker.asks worker.look start works.services e works.chain in
      let more = turns_of_workers worker (passes_like start os) os cs es others in
      let made = (does works.services e works.chain).1 in
      let ps = made.places in
      let qs = places_of os cs es others in
      ⊎_elim
      (λ raised. ⊎_elim (λ before. absurd (nothing_raised place bytes before))
      (λ at. behind_later mine (mine ++ more) ps (ps ++ qs) (by_one_left mine more ps qs)
      (office_seen e) last here place bytes at)
      (made.raised place bytes raised))
      (λ later. behind_later more (mine ++ more) qs (ps ++ qs)
      (λ at o f by. by_one_right mine more ps qs at o f made.each by) last last
      (extends_still last) place bytes (raised_asked os cs es others rest place bytes later))
      (doubt_append e.raised (raised_of es) place bytes had)

-- an entry of a history has a record, where each has
fits_at : (history : List Entry) → AllByRecursion FitsRecord history → (place : ℕ) (e : Entry)
    → slice_get history place ≡ Some e → FitsRecord e
fits_at [] fit place e at = absurd (cc at)
fits_at (x ∷ xs) (here, rest) zero e at = subst FitsRecord (same at) here
  where
    same : Some x ≡ Some e → x ≡ e
    same is = cc is
fits_at (x ∷ xs) (here, rest) (suc place) e at = fits_at xs rest place e at

record_at : (history : List Entry) (place : ℕ) (e : Entry) → slice_get history place ≡ Some e
    → slice_get (records history) place ≡ Some (record_of e)
record_at [] place e at = absurd (cc at)
record_at (x ∷ xs) zero e at = ap (λ (found : Option Entry). record_if found) at
record_at (x ∷ xs) (suc place) e at = record_at xs place e at

-- what the desk accounts for, told of the office
module _ (back : EntriesAreReadBack) (turns : List Turn) (places : List (Option ℕ))
    (first : Office) (doubt : Option Entry)
    (last : Office) (whole : OfficeIsWhole last) (opening : Opening)
    (length_is : opening.length ≡ length (records first.history))
    (doubt_is : opening.doubt ≡ record_if doubt) (own : List ℕ) (raised : List Doubt)
    (accounts : Accounts opening own raised (records last.history))
    (own_by : (place : ℕ) → Has own place → AsksAt turns places last place)
    (raised_by : (place : ℕ) (bytes : List ℕ) → HasDoubt raised place bytes
    → AsksBehind turns places last place bytes) where
  same_entry : (place : ℕ) (e f : Entry) → slice_get last.history place ≡ Some e
      → slice_get last.history place ≡ Some f → e ≡ f
  same_entry place e f at there = cc (sym at ∙ there)

  asked_at : (place : ℕ) (e : Entry) → length first.history ≤ place
      → slice_get last.history place ≡ Some e
      → ((place ≡ length first.history) × IsDoubted doubt e)
      ⊎ IsAskedByOne turns places place (front last place) e
  asked_at place e low at =
      let count : length (records first.history) ≡ length first.history =
      length-map first.history record_of in
      let read : entry_in (record_of e) ≡ e =
      entry_back back e (fits_at last.history whole.fit place e at) in ⊎_elim
      (λ old. ⊎_elim
      (λ (before : place < opening.length). absurd (omega (arith, before, length_is, count, low)))
      (λ (doubted : (place ≡ opening.length) × (opening.doubt ≡ Some (record_of e))).
      inl (doubted.0 ∙ length_is ∙ count, sym doubt_is ∙ doubted.1)) old)
      (λ made. inr (⊎_elim
      (λ had. let by = own_by place had in
      subst (λ (f : Entry). IsAskedByOne turns places place (front last place) f)
      (same_entry place by.0 e by.1 at) by.2)
      (λ had. subst (λ (f : Entry). IsAskedByOne turns places place (front last place) f) read
      (raised_by place (record_of e) had).1) made))
      (accounts place (record_of e) (record_at last.history place e at))

  pub adds_no_other : AddsNoOther turns first doubt last
  adds_no_other = record { places = places; asked = asked_at }

-- nothing is made by passes that are as they were
pub none_made : (start : PassState) (passes : List PassState) → start.own ≡ []
    → AllByRecursion (λ p. p ≡ start) passes → (place : ℕ) → Has (own_of passes) place → ⊥
none_made start [] none each place had = had
none_made start (p ∷ ps) none (same, rest) place had = ⊎_elim
    (λ own. subst (λ (l : List ℕ). Has l place)
    (ap (λ (q : PassState). q.own) same ∙ none) own)
    (λ later. none_made start ps none rest place later) (has_append p.own (own_of ps) place had)

pub none_raised : (start : PassState) (passes : List PassState) → start.raised ≡ []
    → AllByRecursion (λ p. p ≡ start) passes → (place : ℕ) (bytes : List ℕ)
    → HasDoubt (raised_of passes) place bytes → ⊥
none_raised start [] none each place bytes had = had
none_raised start (p ∷ ps) none (same, rest) place bytes had = ⊎_elim
    (λ raised. subst (λ (l : List Doubt). HasDoubt l place bytes)
    (ap (λ (q : PassState). q.raised) same ∙ none) raised)
    (λ later. none_raised start ps none rest place bytes later)
    (doubt_append p.raised (raised_of ps) place bytes had)

-- an office that stays adds nothing
pub still_no_other : (o : Office) (doubt : Option Entry) → AddsNoOther [] o doubt o
still_no_other o doubt = record {
  places = [];
  asked = λ place e low at. absurd (omega (arith, low, slice_get_within o.history place e at));
}
