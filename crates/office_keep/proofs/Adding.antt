-- A change where nothing is in doubt.
use Rattle.std.proofs.Common.{◌≡◌, inl, inr, ℕ, List, Option, Some, None}
use Rattle.std.proofs.Common.{refl, sym, ap, ◌∙◌, subst, arith}
use Rattle.record_form.specs.declared.Command.{Command}
use Rattle.record_form.specs.declared.Entry.{Entry}
use Rattle.record_form.specs.declared.Outcome.{Outcome}
use Rattle.record_form.specs.Records.{record_of}
use Rattle.record_form.specs.Ranges.{FitsRecord}
use Rattle.office_history.specs.declared.Judgement.{Judgement}
use Rattle.office_history.specs.declared.Judgement.TheVariants.{Accepted, Refused, Same}
use Rattle.office_history.specs.History.{Office, moment_of}
use Rattle.office_history.specs.Judges.{Judges}
use Rattle.office_history.specs.Outcomes.{outcome_by}
use Rattle.office_counter.specs.Steps.{comes, entry_of, made_by, with_made}
use Rattle.slo_journal.specs.File.{Stands}
use Rattle.slo_journal.specs.Keeping as keeping
use Rattle.office_keep.specs.Files.{records}
use Rattle.office_keep.specs.Office.{Accepts, Changes, IsBlamed, IsSettled, IsTimely, Leaves}
use Rattle.office_keep.specs.Office.{OfficeOn, entry_at}
use Rattle.office_keep.specs.Office.{done, in_doubt, not_kept, refused_memory, unsettled, written}
use Rattle.office_keep.specs.Steps.{Unmade, is_changeless, is_refused, lacks_memory}
use Rattle.office_keep.specs.Steps.{Writes, fails, is_written, lacks, stays_in_doubt}
use Rattle.office_keep.proofs.Blame.{same_no_fault}
use Rattle.office_keep.proofs.Histories.{records_more}

pub settled_none : (o settled : Office) (doubt : Option Entry) → doubt ≡ None → settled ≡ o →
    IsSettled o doubt settled
settled_none o settled doubt none same =
    subst (λ (d : Option Entry). IsSettled o d settled) (sym none) same

-- what is made, if anything
pub record Made (o new : Office) : Type 0 where
  pub entry : Option Entry
  pub is : new ≡ with_made o entry

made_of : (o : Office) (e : Entry) (outcome : Outcome) (place : Option ℕ) (new : Office)
    (doubt : Option Entry) → Writes o e outcome place new doubt → Made o new
made_of o e outcome place new doubt (lacks told at same none) = record { entry = None; is = same }
made_of o e outcome place new doubt (fails told at same none) = record { entry = None; is = same }
made_of o e outcome place new doubt (stays_in_doubt told at same some) =
    record { entry = None; is = same }
made_of o e outcome place new doubt (is_written told at same none) =
    record { entry = made_by o e Accepted; is = same }

timely_as : (o new : Office) (reading : ℕ) → new ≡ o → IsTimely o reading → IsTimely new reading
timely_as o new reading same timely = subst (λ (p : Office). IsTimely p reading) (sym same) timely

module _ {D : Type 0} (old new : OfficeOn D) (reading : ℕ) (command : Command)
    (none : old.doubt ≡ None) (timely : IsTimely old.office reading)
    (accepts : Accepts old.office reading command) where
  ended_as : (outcome : Outcome) (place : Option ℕ) →
      Writes old.office (entry_at old.office reading command) outcome place new.office new.doubt →
      Changes old reading command outcome place new
  ended_as outcome place (lacks told at same nothing) =
      refused_memory told (timely_as old.office new.office reading same timely)
      (record { settled = settled_none old.office new.office old.doubt none same; none = nothing })
      at
  ended_as outcome place (fails told at same nothing) =
      not_kept told (timely_as old.office new.office reading same timely)
      (record { settled = settled_none old.office new.office old.doubt none same; none = nothing })
      at
  ended_as outcome place (stays_in_doubt told at same some) =
      in_doubt told (timely_as old.office new.office reading same timely)
      (record {
        settled = settled_none old.office new.office old.doubt none same;
        accepts = subst (λ (o : Office). Accepts o reading command) (sym same) accepts;
        doubt = some ∙ ap (λ (o : Office). Some (entry_at o reading command)) (sym same);
      }) at
  ended_as outcome place (is_written told at same nothing) =
      done old.office (made_by old.office (entry_at old.office reading command) Accepted)
      (settled_none old.office old.office old.doubt none refl) timely
      (comes timely (Accepted, accepts.accepted, told, refl)) same nothing at

  leaves_as : Made old.office new.office → (file : List ℕ) →
      keeping.WithOrWithout old.office.origin (records old.office.history)
      (record_of (entry_at old.office reading command)) file →
      Leaves old reading command new file
  leaves_as made file (inl s) =
      unsettled (old.office, settled_none old.office old.office old.doubt none refl, s)
  leaves_as made file (inr s) =
      written old.office made.entry (settled_none old.office old.office old.doubt none refl) made.is
      accepts
      (subst (λ (l : List (List ℕ)). Stands old.office.origin l file)
      (sym (records_more old.office.history (entry_at old.office reading command))) s)

-- the same of an entry at a moment, over an office that is this one
module _ {D : Type 0} (old new : OfficeOn D) (reading : ℕ) (command : Command)
    (none : old.doubt ≡ None) (timely : IsTimely old.office reading) (o : Office) (moment : ℕ)
    (same : o ≡ old.office) (at : moment ≡ moment_of old.office reading)
    (judged : Judges old.office moment command Accepted)
    (fits : FitsRecord (entry_of moment command)) where
  accepts_at : Accepts old.office reading command
  accepts_at = record {
    accepted = subst (λ (m : ℕ). Judges old.office m command Accepted) at judged;
    fits = subst (λ (m : ℕ). FitsRecord (entry_of m command)) at fits;
  }

  pub writes_at : (outcome : Outcome) (place : Option ℕ) →
      Writes o (entry_of moment command) outcome place new.office new.doubt →
      Writes old.office (entry_at old.office reading command) outcome place new.office new.doubt
  writes_at outcome place w =
      subst (λ (m : ℕ). Writes old.office (entry_of m command) outcome place new.office new.doubt)
      at
      (subst (λ (p : Office). Writes p (entry_of moment command) outcome place new.office new.doubt)
      same w)

  pub ended_at : (outcome : Outcome) (place : Option ℕ) →
      Writes o (entry_of moment command) outcome place new.office new.doubt →
      Changes old reading command outcome place new
  ended_at outcome place w =
      ended_as old new reading command none timely accepts_at outcome place
      (writes_at outcome place w)

  pub leaves_at : (outcome : Outcome) (place : Option ℕ) →
      Writes o (entry_of moment command) outcome place new.office new.doubt →
      (file : List ℕ) →
      keeping.WithOrWithout o.origin (records o.history)
      (record_of (entry_of moment command)) file →
      Leaves old reading command new file
  leaves_at outcome place w file s =
      leaves_as old new reading command none timely accepts_at
      (made_of old.office (entry_at old.office reading command) outcome place new.office new.doubt
      (writes_at outcome place w)) file
      (subst (λ (m : ℕ). keeping.WithOrWithout old.office.origin (records old.office.history)
      (record_of (entry_of m command)) file) at
      (subst (λ (p : Office). keeping.WithOrWithout p.origin (records p.history)
      (record_of (entry_of moment command)) file) same s))

module _ {D : Type 0} (old new : OfficeOn D) (reading : ℕ) (command : Command)
    (outcome : Outcome) (moment : ℕ) (none : old.doubt ≡ None)
    (timely : IsTimely old.office reading) (at : moment ≡ moment_of old.office reading)
    (same : new.office ≡ old.office) (nothing : new.doubt ≡ None) where
  -- a judgement that makes no entry
  judged_at : (j : Judgement) → Judges old.office moment command j →
      outcome ≡ outcome_by old.office (entry_at old.office reading command) j →
      None ≡ made_by old.office (entry_at old.office reading command) j →
      Changes old reading command outcome None new
  judged_at j judged told made =
      done old.office None (settled_none old.office old.office old.doubt none refl) timely
      (comes timely (j, subst (λ (m : ℕ). Judges old.office m command j) at judged, told, made))
      same nothing refl

  -- where the judging made no entry, the change comes to its outcome, or memory ran out
  pub unmade_at : Unmade old.office (entry_of moment command) outcome →
      Changes old reading command outcome None new
  unmade_at (is_changeless judged) = judged_at (Same outcome) judged refl refl
  unmade_at (is_refused refusal told judged) = judged_at (Refused refusal) judged told refl
  unmade_at (lacks_memory told) =
      refused_memory told (timely_as old.office new.office reading same timely)
      (record { settled = settled_none old.office new.office old.doubt none same; none = nothing })
      refl

-- a judging blames no disk
pub blames_none : (before : ℕ) (o : Office) (e : Entry) (outcome : Outcome) →
    Unmade o e outcome → IsBlamed before before outcome
blames_none before o e outcome (is_changeless judged) = record {
  later = omega arith;
  rose = λ failed. absurd (same_no_fault o e.moment e.command outcome judged failed);
}
blames_none before o e outcome (is_refused refusal told judged) =
    record { later = omega arith; rose = λ failed. absurd (cc (told, failed)) }
blames_none before o e outcome (lacks_memory told) =
    record { later = omega arith; rose = λ failed. absurd (cc (told, failed)) }
