-- What one asking leaves of the history and of the own places.
use Rattle.std.proofs.Common.{◌≡◌, ◌<◌, ◌≤◌, ℕ, ◌+◌, List, [], ◌∷◌, ◌++◌, length, arith, refl, sym}
use Rattle.std.proofs.Common.{ap, subst, ◌∙◌, append_assoc, append-nil, length-append, Some, None}
use Rattle.std.proofs.Common.{Bool, true, false, cond, nat_lt}
use Rattle.std.specs.declared.option.Option.{Option}
use Rattle.std.specs.List.{AllByRecursion}
use Rattle.record_form.specs.declared.Entry.{Entry}
use Rattle.record_form.specs.declared.Outcome.{Outcome}
use Rattle.record_form.specs.declared.Request.{Request}
use Rattle.record_form.specs.declared.Request.TheVariants.{Change, Ask}
use Rattle.office_history.specs.History.{Office, end_of, moment_of, with_entry}
use Rattle.office_history.specs.Outcomes.{IsOutcome, IsOutcomeAt}
use Rattle.office_counter.specs.Laws.{Extends, IsOwned, Rise}
use Rattle.office_counter.specs.Steps.{Comes, ComesAt, past, comes, Does, acts, lacks, fails}
use Rattle.office_counter.specs.Steps.{Standing, Step, own_with, with_made, with_others}

outcome_at : (o : Office) (moment : ℕ) (request : Request) (outcome : Outcome)
    (made : Option Entry)
    → ComesAt o moment request outcome made → IsOutcomeAt o moment request outcome
outcome_at o moment (Ask query) outcome made at = at.0
outcome_at o moment (Change command) outcome made at = (at.0, at.1, at.2)

-- in the range the one, past it the other
inside : {A : Type 0} (B : Type 0) (b : Bool) → b ≡ true → A → cond b A B
inside {A} B b is a = subst (λ (c : Bool). cond c A B) (sym is) a

outside : {B : Type 0} (A : Type 0) (b : Bool) → b ≡ false → B → cond b A B
outside {B} A b is x = subst (λ (c : Bool). cond c A B) (sym is) x

pub comes_to_its_outcome : (o : Office) (reading : ℕ) (request : Request) (outcome : Outcome)
    (made : Option Entry)
    → Comes o reading request outcome made → IsOutcome o reading request outcome
comes_to_its_outcome o reading request outcome made (past at_end told none) =
    outside _ (nat_lt (moment_of o reading) (end_of o.origin)) at_end told
comes_to_its_outcome o reading request outcome made (comes in_range at) =
    inside _ (nat_lt (moment_of o reading) (end_of o.origin)) in_range
    (outcome_at o (moment_of o reading) request outcome made at)

below_more : (places : List ℕ) (m n : ℕ) → m ≤ n → AllByRecursion (λ p. p < m) places
    → AllByRecursion (λ p. p < n) places
below_more [] m n le all = tt
below_more (p ∷ ps) m n le (first, rest) = (omega (arith, first), below_more ps m n le rest)

below_last : (places : List ℕ) (n : ℕ) → AllByRecursion (λ p. p < n) places
    → AllByRecursion (λ p. p < n + 1) (places ++ n ∷ [])
below_last [] n all = (omega arith, tt)
below_last (p ∷ ps) n (first, rest) = (omega (arith, first), below_last ps n rest)

above_last : (places : List ℕ) (q n : ℕ) → q < n → AllByRecursion (λ p. q < p) places
    → AllByRecursion (λ p. q < p) (places ++ n ∷ [])
above_last [] q n lt all = (lt, tt)
above_last (p ∷ ps) q n lt (first, rest) = (first, above_last ps q n lt rest)

rise_last : (places : List ℕ) (n : ℕ) → Rise places → AllByRecursion (λ p. p < n) places
    → Rise (places ++ n ∷ [])
rise_last [] n rise all = (tt, tt)
rise_last (p ∷ ps) n (above, rise) (first, rest) =
    (above_last ps p n first above, rise_last ps n rise rest)

-- nothing of the asker's was added
owned_still : (old new : Standing) (point : Office)
    → length old.office.history ≤ length point.history
    → new.office ≡ point → new.own ≡ old.own → IsOwned old → IsOwned new
owned_still old new point longer office own owned = record {
  rise = subst (λ (l : List ℕ). Rise l) (sym own) owned.rise;
  within = subst (λ (o : Office). AllByRecursion (λ p. p < length o.history) new.own) (sym office)
      (subst (λ (l : List ℕ). AllByRecursion (λ p. p < length point.history) l) (sym own)
      (below_more old.own (length old.office.history) (length point.history) longer owned.within));
}

-- an entry of the asker's was added
owned_with : (old new : Standing) (point : Office) (e : Entry)
    → length old.office.history ≤ length point.history
    → new.office ≡ with_entry point e → new.own ≡ old.own ++ length point.history ∷ [] → IsOwned old
    → IsOwned new
owned_with old new point e longer office own owned =
    let below =
    below_more old.own (length old.office.history) (length point.history) longer owned.within in
    record {
      rise = subst (λ (l : List ℕ). Rise l) (sym own)
          (rise_last old.own (length point.history) owned.rise below);
      within =
          subst (λ (o : Office). AllByRecursion (λ p. p < length o.history) new.own) (sym office)
          (subst (λ n. AllByRecursion (λ p. p < n) new.own)
          (sym (length-append point.history (e ∷ [])))
          (subst (λ (l : List ℕ). AllByRecursion (λ p. p < length point.history + 1) l) (sym own)
          (below_last old.own (length point.history) below)));
    }

owned_acts : (old new : Standing) (point : Office) (made : Option Entry)
    → length old.office.history ≤ length point.history
    → new.office ≡ with_made point made → new.own ≡ own_with point made old.own → IsOwned old
    → IsOwned new
owned_acts old new point None longer office own owned =
    owned_still old new point longer office own owned
owned_acts old new point (Some e) longer office own owned =
    owned_with old new point e longer office own owned

does_owned : (point : Office) (reading : ℕ) (request : Request) (outcome : Outcome)
    (old new : Standing)
    → length old.office.history ≤ length point.history → Does point reading request outcome old new
    → IsOwned old → IsOwned new
does_owned point reading request outcome old new longer (acts made came office own) owned =
    owned_acts old new point made longer office own owned
does_owned point reading request outcome old new longer (lacks told office own) owned =
    owned_still old new point longer office own owned
does_owned point reading request outcome old new longer (fails told is at rose office own) owned =
    owned_still old new point longer office own owned

pub step_owned : (old : Standing) (reading : ℕ) (request : Request) (outcome : Outcome)
    (new : Standing)
    → Step old reading request outcome new → IsOwned old → IsOwned new
step_owned old reading request outcome new step owned =
    does_owned (with_others old.office step.others) reading request outcome old new
    (omega (arith, length-append old.office.history step.others)) step.does owned

pub extends_with_others : (old new : Office) (others : List Entry) → new ≡ with_others old others
    → Extends old new
extends_with_others old new others is = record {
  origin = ap (λ (o : Office). o.origin) is;
  more = others;
  history = ap (λ (o : Office). o.history) is;
}

extends_made : (old new : Office) (others : List Entry) (made : Option Entry)
    → new ≡ with_made (with_others old others) made → Extends old new
extends_made old new others None is = extends_with_others old new others is
extends_made old new others (Some e) is = record {
  origin = ap (λ (o : Office). o.origin) is;
  more = others ++ e ∷ [];
  history = ap (λ (o : Office). o.history) is ∙ append_assoc old.history others (e ∷ []);
}

does_extends : (others : List Entry) (reading : ℕ) (request : Request) (outcome : Outcome)
    (old new : Standing)
    → Does (with_others old.office others) reading request outcome old new
    → Extends old.office new.office
does_extends others reading request outcome old new (acts made came office own) =
    extends_made old.office new.office others made office
does_extends others reading request outcome old new (lacks told office own) =
    extends_with_others old.office new.office others office
does_extends others reading request outcome old new (fails told change in_range rose office own) =
    extends_with_others old.office new.office others office

pub step_extends : (old : Standing) (reading : ℕ) (request : Request) (outcome : Outcome)
    (new : Standing)
    → Step old reading request outcome new → Extends old.office new.office
step_extends old reading request outcome new step =
    does_extends step.others reading request outcome old new step.does

-- what was seen extends itself
pub extends_still : (o : Office) → Extends o o
extends_still o = record { origin = refl; more = []; history = sym (append-nil o.history) }

pub extends_both : (a b c : Office) → Extends a b → Extends b c → Extends a c
extends_both a b c first second = record {
  origin = second.origin ∙ first.origin;
  more = first.more ++ second.more;
  history = second.history ∙ (ap (λ (l : List Entry). l ++ second.more) first.history
      ∙ append_assoc a.history first.more second.more);
}
