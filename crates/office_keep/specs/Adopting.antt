-- What the adopting of an entry comes to, and what a stop may leave meanwhile.
use Rattle.std.specs.Prelude.{◌≡◌, ◌⊎◌, ℕ, ◌≤◌, true, false, nat_lt, List, length, Option, Some}
use Rattle.std.specs.Prelude.{None}
use Rattle.slo_limits.specs.declared.TheConstants.{MAX_JOURNAL_BYTES}
use Rattle.office_outside.specs.Faults.{Rose}
use Rattle.record_form.specs.declared.Entry.{Entry}
use Rattle.record_form.specs.declared.Outcome.{Outcome}
use Rattle.record_form.specs.declared.Outcome.TheVariants as outcomes
use Rattle.record_form.specs.Records.{record_of}
use Rattle.office_history.specs.History.{Office, with_entry}
use Rattle.office_history.specs.Legal.{MayFollow}
use Rattle.office_counter.specs.Steps.{needed_for}
use Rattle.office_keep.specs.Files.{StandsFor}
use Rattle.office_keep.specs.Office.{OfficeOn}
use Rattle.office_keep.specs.declared.adopting.Adopted.{Adopted}
use Rattle.office_keep.specs.declared.adopting.Adopted.TheVariants as ends

-- room was made for an entry that may follow: it is pending, and this is its record
pub record IsPrepared (o : Office) (e : Entry) (pending : Option Entry) (bytes : List ℕ) : Type 0
  where
    pub follows : MayFollow o e
    pub spelled : bytes ≡ record_of e
    pub is_pending : pending ≡ Some e

-- the office is as it was
pub record IsLeft (old new : Office) (doubt : Option Entry) : Type 0 where
  pub office : new ≡ old
  pub none : doubt ≡ None

-- the entry may follow, and the journal has room for it or has none
pub record Fills (o : Office) (e : Entry) : Type 0 where
  pub follows : MayFollow o e
  pub full : nat_lt MAX_JOURNAL_BYTES (needed_for o e) ≡ true

-- the entry stands behind the history
pub record IsTaken (o : Office) (e : Entry) (position : ℕ) (new : Office) (doubt : Option Entry) :
    Type 0 where
  pub follows : MayFollow o e
  pub room : nat_lt MAX_JOURNAL_BYTES (needed_for o e) ≡ false
  pub at : position ≡ length o.history
  pub office : new ≡ with_entry o e
  pub none : doubt ≡ None

-- the disk failed as the entry was written: it is left out, or in doubt
pub record IsFailed (o : Office) (e : Entry) (new : Office) (doubt : Option Entry) : Type 0 where
  pub follows : MayFollow o e
  pub office : new ≡ o
  pub doubted : (doubt ≡ None) ⊎ (doubt ≡ Some e)

-- How the adopting of an entry ended, over an office with nothing in doubt: by what it came to.
abbrev pub AdoptsTo : Office → Entry → Adopted → Office → Option Entry → Type 0
AdoptsTo o e (ends.Taken position) new doubt = IsTaken o e position new doubt
AdoptsTo o e ends.Illegal new doubt = (MayFollow o e → ⊥) × IsLeft o new doubt
AdoptsTo o e ends.JournalFull new doubt = Fills o e × IsLeft o new doubt
AdoptsTo o e ends.DiskFault new doubt = IsFailed o e new doubt
AdoptsTo o e ends.NoMemory new doubt = IsLeft o new doubt

abbrev pub Adopts : {D : Type 0} → OfficeOn D → Entry → Adopted → OfficeOn D → Type 0
Adopts old e adopted new = AdoptsTo old.office e adopted new.office new.doubt

-- A stop meanwhile leaves the office, or it with the entry, which may follow then.
abbrev pub LeavesAdopting : Office → Entry → List ℕ → Type 0
LeavesAdopting o e file = StandsFor o file ⊎ (MayFollow o e × StandsFor (with_entry o e) file)

-- the disk is blamed only where its count rose
pub record IsBlamedFor (before now : ℕ) (adopted : Adopted) : Type 0 where
  pub later : before ≤ now
  pub rose : adopted ≡ ends.DiskFault → Rose before now

-- What the writing of an entry comes to that added none, by its outcome.
abbrev pub adopted_without : Outcome → Adopted
adopted_without (outcomes.JournalFull needed tail) = ends.JournalFull
adopted_without outcomes.NoMemory = ends.NoMemory
adopted_without _ = ends.DiskFault

-- What the writing of an entry comes to, by the place of the entry that it added, if it added one.
abbrev pub adopted_by : Outcome → Option ℕ → Adopted
adopted_by outcome None = adopted_without outcome
adopted_by outcome (Some place) = ends.Taken place
