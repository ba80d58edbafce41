-- Each asking in a turn is a step.
use Rattle.std.specs.Prelude.{◌≡◌, ℕ, ◌≤◌, Bool, true, false, List}
use Rattle.std.specs.Prelude.{◌++◌, refl}
use Rattle.std.proofs.Common.{sym, ap, subst, ◌∙◌, append_assoc, arith}
use Rattle.std.proofs.lemmas.Bool.Decides.{nat_tests}
use Rattle.turn_desk.specs.Ledgers.{has_risen}
use Rattle.turn_desk.specs.Passes.{PassState, faults_after}
use Rattle.office_outside.specs.Faults.{Rose}
use Rattle.office_outside.specs.Senses.{DiskSenses}
use Rattle.record_form.specs.declared.Entry.{Entry}
use Rattle.record_form.specs.declared.Outcome.{Outcome}
use Rattle.record_form.specs.declared.Request.{Request}
use Rattle.office_history.specs.History.{Office}
use Rattle.office_history.specs.Legal.{IsLegal}
use Rattle.office_counter.specs.Laws.{Extends}
use Rattle.office_counter.specs.Steps.{Does, Standing, Step, acts, fails, lacks, with_others}
use Rattle.own_counter.specs.Own.{OwnAsks, own_on, performed}
use Rattle.own_counter.specs.Stepping.{own_steps}
use Rattle.turn_counter.specs.Seen.{standing_of}
use Rattle.turn_counter.specs.Turns.{TurnAsks}

-- the pass's count rises with the disk's, and doesn't fall
rises : (b : Bool) (before now faults : ℕ) → has_risen before now ≡ b → Rose before now
    → Rose faults (faults_after faults b)
rises true before now faults is rose = omega arith
rises false before now faults is rose = absurd (grind (arith, nat_tests))

never_falls : (b : Bool) (faults : ℕ) → faults ≤ faults_after faults b
never_falls true faults = omega arith
never_falls false faults = omega arith

extended : (old new : Office) (e : Extends old new) → new ≡ with_others old e.more
extended old new e =
    ap (λ (origin : ℕ). record { origin = origin; history = new.history }) e.origin
    ∙ ap (λ (history : List Entry). record { origin = old.origin; history = history }) e.history

with_both : (o : Office) (more others : List Entry)
    → with_others (with_others o more) others ≡ with_others o (more ++ others)
with_both o more others =
    ap (λ (history : List Entry). record { origin = o.origin; history = history })
    (append_assoc o.history more others)

abbrev at_office : Office → Standing → ℕ → Standing
at_office o s faults = record { office = o; own = s.own; faults = faults }

-- what was done over the office that was taken out, told of what the pass knows
module _ (old new : Standing) (taken put : Office) (before now : ℕ) (reading : ℕ)
    (request : Request) (outcome : Outcome) (seen : new.office ≡ put)
    (counted : new.faults ≡ faults_after old.faults (has_risen before now)) where
  does_told : (point : Office)
      → Does point reading request outcome (at_office taken old before) (at_office put new now)
      → Does point reading request outcome old new
  does_told point (acts made came is own) = acts made came (seen ∙ is) own
  does_told point (lacks told is own) = lacks told (seen ∙ is) own
  does_told point (fails told change timely rose is own) =
      fails told change timely
      (subst (λ (n : ℕ). Rose old.faults n) (sym counted)
      (rises (has_risen before now) before now old.faults refl rose))
      (seen ∙ is) own

  step_told : Extends old.office taken
      → Step (at_office taken old before) reading request outcome (at_office put new now)
      → Step old reading request outcome new
  step_told goes_on step =
      let point : with_others taken step.others
      ≡ with_others old.office (goes_on.more ++ step.others) =
      ap (λ (o : Office). with_others o step.others) (extended old.office taken goes_on)
      ∙ with_both old.office goes_on.more step.others in
      record {
        others = goes_on.more ++ step.others;
        later = subst (λ (n : ℕ). old.faults ≤ n) (sym counted)
            (never_falls (has_risen before now) old.faults);
        legal = subst (λ (o : Office). IsLegal o.origin o.history) (sym seen) step.legal;
        does = subst (λ (p : Office). Does p reading request outcome old new) point
            (does_told (with_others taken step.others) step.does);
      }

pub turn_steps : {D : Type 0} (S : DiskSenses D) (old : PassState) (reading : ℕ)
    (request : Request) (outcome : Outcome) (new : PassState)
    → TurnAsks S old reading request outcome new
    → Step (standing_of old) reading request outcome (standing_of new)
turn_steps S old reading request outcome new asked =
    let asks : OwnAsks S (own_on asked.taken old.own) reading request outcome
    (own_on asked.put new.own) =
    record {
      place = asked.place;
      ended = performed asked.acts.ended;
      places = asked.own;
      any_moment = asked.acts.any_moment;
      stands = asked.acts.stands;
      whole = asked.acts.whole;
      after_settling = asked.acts.after_settling;
      cause = asked.acts.cause;
    } in
    step_told (standing_of old) (standing_of new) asked.taken.office asked.put.office
    (S.faults asked.taken.disk) (S.faults asked.put.disk) reading request outcome asked.seen
    asked.counted asked.goes_on
    (own_steps S (own_on asked.taken old.own) reading request outcome (own_on asked.put new.own)
    asks)
