-- What the adopting of an entry comes to.
use Rattle.std.proofs.Common.{◌≡◌, inl, inr, ℕ, nat_lt, cond, Bool, true, false, List, ◌∷◌}
use Rattle.std.proofs.Common.{[], Option, Some, None, refl, sym, ap, ◌∙◌, subst}
use Rattle.std.specs.List.{AllByRecursion}
use Rattle.std.specs.Prelude.{IfSome}
use Rattle.slo_limits.specs.declared.TheConstants.{MAX_JOURNAL_BYTES}
use Rattle.office_outside.specs.Disk.{LeavesOnly, OnlyNow}
use Rattle.office_outside.specs.Senses.{DiskSenses}
use Rattle.office_outside.proofs.Moments.{leaves_still, leaves_weaker}
use Rattle.sample_book.specs.declared.Row.{Row}
use Rattle.record_form.specs.declared.Command.{Command}
use Rattle.record_form.specs.declared.Command.TheVariants.{Define, Remove, PutZone, Samples}
use Rattle.record_form.specs.declared.Command.TheVariants.{Exclude, Lift, Tick, Take, Upgrade}
use Rattle.record_form.specs.declared.Entry.{Entry}
use Rattle.record_form.specs.declared.Outcome.{Outcome}
use Rattle.record_form.specs.declared.Outcome.TheVariants as outcomes
use Rattle.record_form.specs.Ranges.{Fits, FitsRow}
use Rattle.record_form.specs.Records.{record_of}
use Rattle.office_history.specs.History.{Office, tail_of}
use Rattle.office_history.specs.Legal.{MayFollow}
use Rattle.office_history.specs.Outcomes.{outcome_of}
use Rattle.office_core.specs.Machine.{HasRevision, HasRevisions}
use Rattle.office_core.specs.Seen.{Machine}
use Rattle.office_counter.specs.Steps.{needed_for, place_of, with_made}
use Rattle.slo_journal.specs.File.{Stands}
use Rattle.slo_journal.specs.Keeping as keeping
use Rattle.slo_journal.specs.Keeping.{JournalOn}
use Rattle.office_keep.specs.Adopting.{AdoptsTo, IsPrepared, LeavesAdopting, adopted_by}
use Rattle.office_keep.specs.declared.adopting.Adopted.TheVariants as ends
use Rattle.office_keep.specs.Files.{records}
use Rattle.office_keep.specs.Steps.{OfficeIsKept, KeepsOffice, Writes, entry_in, fails}
use Rattle.office_keep.specs.Steps.{is_written, lacks, stays_in_doubt}
use Rattle.office_keep.proofs.Histories.{records_more}

-- the rows of an entry that has a record have revisions
revisions : (rows : List Row) → AllByRecursion FitsRow rows → AllByRecursion HasRevision rows
revisions [] a = tt
revisions (r ∷ rows) a = (
  record { first = a.0.range.first_revision; last = a.0.range.last_revision },
  revisions rows a.1,
)

pub fitting_revisions : (command : Command) → Fits command → HasRevisions command
fitting_revisions (Define text) fits = tt
fitting_revisions (Remove kind name) fits = tt
fitting_revisions (PutZone name bytes) fits = tt
fitting_revisions (Samples rows) fits = revisions rows fits.1
fitting_revisions (Exclude value) fits = tt
fitting_revisions (Lift id) fits = tt
fitting_revisions Tick fits = tt
fitting_revisions (Take number) fits = tt
fitting_revisions Upgrade fits = tt

-- what is written, where the journal has room or has none
written : (o : Office) (e : Entry) (full : Bool) (outcome : Outcome) (place : Option ℕ)
    (new : Office) (doubt : Option Entry) → MayFollow o e
    → nat_lt MAX_JOURNAL_BYTES (needed_for o e) ≡ full
    → outcome ≡ cond full (outcomes.JournalFull (needed_for o e) (tail_of o.history))
    (outcome_of o e.moment e.command)
    → place ≡ place_of o (cond full None (Some e)) → new ≡ with_made o (cond full None (Some e))
    → doubt ≡ None → AdoptsTo o e (adopted_by outcome place) new doubt
written o e true outcome place new doubt may is told at grown none =
    rw (told, at) ((record { follows = may; full = is }, record { office = grown; none = none }))
written o e false outcome place new doubt may is told at grown none =
    rw at (record { follows = may; room = is; at = refl; office = grown; none = none })

pub adopts : (o : Office) (e : Entry) (outcome : Outcome) (place : Option ℕ) (new : Office)
    (doubt : Option Entry) → MayFollow o e → Writes o e outcome place new doubt
    → AdoptsTo o e (adopted_by outcome place) new doubt
adopts o e outcome place new doubt may (lacks told at same none) =
    rw (told, at) (record { office = same; none = none })
adopts o e outcome place new doubt may (fails told at same none) =
    rw (told, at) (record { follows = may; office = same; doubted = inl none })
adopts o e outcome place new doubt may (stays_in_doubt told at same some) =
    rw (told, at) (record { follows = may; office = same; doubted = inr some })
adopts o e outcome place new doubt may (is_written told at grown none) =
    written o e (nat_lt MAX_JOURNAL_BYTES (needed_for o e)) outcome place new doubt may refl told at
    grown none

-- the disk is blamed for the entry only where it is blamed by the outcome
blamed : (o : Office) (e : Entry) (full : Bool) (outcome : Outcome) (place : Option ℕ)
    → outcome ≡ cond full (outcomes.JournalFull (needed_for o e) (tail_of o.history))
    (outcome_of o e.moment e.command)
    → place ≡ place_of o (cond full None (Some e))
    → adopted_by outcome place ≡ ends.DiskFault → outcome ≡ outcomes.DiskFault
blamed o e true outcome place told at is = absurd (cc (sym (ap (λ x. adopted_by x place) told
    ∙ ap (adopted_by (outcomes.JournalFull (needed_for o e) (tail_of o.history))) at) ∙ is))
blamed o e false outcome place told at is = absurd (cc (sym (ap (adopted_by outcome) at) ∙ is))

pub blames : (o : Office) (e : Entry) (outcome : Outcome) (place : Option ℕ) (new : Office)
    (doubt : Option Entry) → Writes o e outcome place new doubt
    → adopted_by outcome place ≡ ends.DiskFault → outcome ≡ outcomes.DiskFault
blames o e outcome place new doubt (lacks told at same none) is =
    absurd (cc (sym (ap (λ x. adopted_by x place) told ∙ ap (adopted_by outcomes.NoMemory) at)
    ∙ is))
blames o e outcome place new doubt (fails told at same none) is = told
blames o e outcome place new doubt (stays_in_doubt told at same some) is = told
blames o e outcome place new doubt (is_written told at grown none) is =
    blamed o e (nat_lt MAX_JOURNAL_BYTES (needed_for o e)) outcome place told at is

-- what was made ready where it may follow
pub prepared_as : (o : Office) (e : Entry) (pending : Option Entry) (found : Option (List ℕ))
    (bytes : List ℕ) → found ≡ Some bytes → IfSome found (IsPrepared o e pending)
    → IsPrepared o e pending bytes
prepared_as o e pending found bytes is prepared =
    subst (λ (x : Option (List ℕ)). IfSome x (IsPrepared o e pending)) is prepared

module _ {D : Type 0} (S : DiskSenses D) where
  -- an office with nothing in doubt keeps its journal
  pub undoubted : (m : Machine) (doubt : Option (List ℕ)) (journal : JournalOn D)
      → OfficeIsKept S m doubt journal → entry_in doubt m.pending ≡ None
      → (doubt ≡ None) × KeepsOffice S m.office journal
  undoubted m None journal k none = (refl, k)
  undoubted m (Some bytes) journal k none = absurd (cc (sym k.pending ∙ none))

  -- where nothing is written the images stay
  pub unwritten : OnlyNow S → (o : Office) (e : Entry) (journal : JournalOn D)
      → KeepsOffice S o journal → LeavesOnly S journal.disk journal.disk (LeavesAdopting o e)
  unwritten only_now o e journal k =
      leaves_still {S = S} only_now (λ file image. inl (k.each file image))

  -- while an entry that may follow is written
  pub writing : (o : Office) (e : Entry) (old new : D) → MayFollow o e
      → LeavesOnly S old new (keeping.WithOrWithout o.origin (records o.history) (record_of e))
      → LeavesOnly S old new (LeavesAdopting o e)
  writing o e old new may leaves = leaves_weaker leaves by
    where
      by : (file : List ℕ)
          → keeping.WithOrWithout o.origin (records o.history) (record_of e) file
          → LeavesAdopting o e file
      by file (inl s) = inl s
      by file (inr s) = inr (
        may,
        subst (λ (l : List (List ℕ)). Stands o.origin l file)
            (sym (records_more o.history e)) s,
      )
