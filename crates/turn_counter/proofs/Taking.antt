-- What a turn at the desk is to the counter that takes it.
use Rattle.std.proofs.Common.{◌≡◌, ◌≤◌, ◌+◌, ◌-◌, ℕ, List, [], ◌∷◌, ◌++◌, length, Option, Some}
use Rattle.std.proofs.Common.{None}
use Rattle.std.proofs.Common.{refl, sym, ap, subst, ◌∙◌, arith}
use Rattle.std.specs.Prelude.{is_some}
use Rattle.std.proofs.lemmas.List.{length-map}
use Rattle.slo_limits.specs.declared.TheConstants.{MAX_MINUTE}
use Rattle.turn_desk.specs.Passes.{PassState, own_after}
use Rattle.turn_desk.specs.Turns.{TookTurn}
use Rattle.record_form.specs.declared.Outcome.{Outcome}
use Rattle.record_form.specs.declared.Request.{Request}
use Rattle.record_form.specs.Laws.{EntriesAreReadBack}
use Rattle.record_form.specs.Records.{record_of}
use Rattle.own_counter.specs.Own.{places_with}
use Rattle.turn_counter.specs.Seen.{ledger_of, office_seen}
use Rattle.turn_counter.specs.Turns.{Acts, Asked, TurnAsks}
use Rattle.turn_counter.proofs.Going.{went_on}
use Rattle.turn_counter.proofs.Reading.{sees_beginning, sees_office}
use Rattle.office_outside.specs.Senses.{DiskSenses}

-- the last position is the place that was told
places : (place : Option ℕ) (own : List ℕ) (count : ℕ)
    → ((p : ℕ) → place ≡ Some p → count ≡ p + 1)
    → own_after own (is_some place) count ≡ places_with place own
places None own count last = refl
places (Some p) own count last =
    let at : count - 1 ≡ p = omega (arith, last p refl) in
    ap (λ (n : ℕ). own ++ n ∷ []) at

pub turn_asks : {D C : Type 0} (S : DiskSenses D) (reading : C → ℕ)
    (request : C → Request) (call : C) (result : Outcome × Option ℕ) (call_after : C)
    (v w : PassState)
    → EntriesAreReadBack
    → TookTurn (ledger_of S)
    (λ c old out after new. Acts S old (reading c) (request c) out.0 out.1 new)
    (λ c old out new. is_some out.1) call result call_after v w
    → TurnAsks S v (reading call) (request call) result.0 w
turn_asks S reading request call result call_after v w back took =
    let acts = took.clause in
    let went = went_on took.before took.after result.1 (reading call) (request call) result.0
    acts.ended in
    let root : v.root ≡ (ledger_of S took.after).root = sym (took.went_on.root ∙ took.root) in
    let within : took.after.office.origin ≤ MAX_MINUTE = omega (arith, acts.origin, went.origin) in
    record {
      taken = took.before;
      put = took.after;
      place = result.1;
      goes_on = sees_beginning back v took.before.office acts.was_whole acts.origin
          (sym took.root) took.began;
      acts = acts;
      seen = ap office_seen took.pass_is
          ∙ sees_office back v.root took.after.office acts.whole within root;
      own = ap (λ (p : PassState). p.own) took.pass_is
          ∙ ap (λ (n : ℕ). own_after v.own (is_some result.1) n)
          (length-map took.after.office.history record_of)
          ∙ places result.1 v.own (length took.after.office.history) went.last;
      raised = ap (λ (p : PassState). p.raised) took.pass_is;
      counted = ap (λ (p : PassState). p.faults) took.pass_is;
      desk = ap (λ (p : PassState). p.desk) took.pass_is;
      root = ap (λ (p : PassState). p.root) took.pass_is;
      opening = ap (λ (p : PassState). p.opening) took.pass_is;
      parts = ap (λ (p : PassState). p.parts) took.pass_is;
      has_split = ap (λ (p : PassState). p.has_split) took.pass_is;
    }

-- the same of a counter, which is seen as its pass
pub counter_asks : {D : Type 0} (S : DiskSenses D) (reading : ℕ) (request : Request)
    (call : Asked) (result : Outcome × Option ℕ) (call_after : Asked) (self v w : PassState)
    → call ≡ record { reading = reading; request = request } → v ≡ self
    → EntriesAreReadBack
    → TookTurn (ledger_of S)
    (λ (c : Asked) old out after new. Acts S old c.reading c.request out.0 out.1 new)
    (λ c old out new. is_some out.1) call result call_after v w
    → TurnAsks S self reading request result.0 w
counter_asks S reading request call result call_after self v w is same back took =
    subst (λ (p : PassState). TurnAsks S p reading request result.0 w) same
    (subst (λ (a : Asked). TurnAsks S v a.reading a.request result.0 w) is
    (turn_asks S (λ (a : Asked). a.reading) (λ (a : Asked). a.request) call result call_after v w
    back took))
