-- What an office that keeps its history is seen as, and what a request leaves of it.
use Rattle.std.specs.Prelude.{◌≡◌, ◌⊎◌, ℕ, ◌≤◌, true, false, nat_lt, List, Option, Some, None}
use Rattle.office_outside.specs.Disk.{All, IsQuiet, LeavesOnly}
use Rattle.office_outside.specs.Faults.{Rose}
use Rattle.office_outside.specs.Senses.{DiskSenses}
use Rattle.record_form.specs.declared.Command.{Command}
use Rattle.record_form.specs.declared.Entry.{Entry}
use Rattle.record_form.specs.declared.Outcome.{Outcome}
use Rattle.record_form.specs.declared.Outcome.TheVariants.{ClockRange, DiskFault, NoMemory}
use Rattle.record_form.specs.declared.Query.{Query}
use Rattle.record_form.specs.declared.Request.{Request}
use Rattle.record_form.specs.declared.Request.TheVariants.{Change, Ask}
use Rattle.record_form.specs.Ranges.{FitsRecord}
use Rattle.office_history.specs.declared.Judgement.TheVariants.{Accepted}
use Rattle.office_history.specs.History.{Office, end_of, moment_of, with_entry}
use Rattle.office_history.specs.Judges.{Judges}
use Rattle.office_counter.specs.Steps.{Comes, entry_of, place_of, with_made}
use Rattle.office_keep.specs.Files.{StandsFor}

-- the origin and the history, the entry in doubt if there is one, and the disk
pub record OfficeOn (D : Type 0) : Type 0 where
  pub office : Office
  pub doubt : Option Entry
  pub disk : D

-- the office after the settling of what is in doubt
abbrev pub IsSettled : Office → Option Entry → Office → Type 0
IsSettled o None settled = settled ≡ o
IsSettled o (Some e) settled = (settled ≡ o) ⊎ (settled ≡ with_entry o e)

-- The bytes stand for the office, or where an entry is in doubt for it with that entry.
abbrev pub StandsSettled : Office → Option Entry → List ℕ → Type 0
StandsSettled o doubt file =
    (settled : Office) × IsSettled o doubt settled × StandsFor settled file

-- the entry that a command makes at a reading of the clock
abbrev pub entry_at : Office → ℕ → Command → Entry
entry_at o reading command = entry_of (moment_of o reading) command

-- the moment of what is read at this reading of the clock lies in the office's range
abbrev pub IsTimely : Office → ℕ → Type 0
IsTimely o reading = nat_lt (moment_of o reading) (end_of o.origin) ≡ true

-- the command is accepted over the office, and its entry has a record
pub record Accepts (o : Office) (reading : ℕ) (command : Command) : Type 0 where
  pub accepted : Judges o (moment_of o reading) command Accepted
  pub fits : FitsRecord (entry_at o reading command)

-- The bytes stand for a settled office, or for it with the entry of the change.
abbrev pub WithOrWithout : Office → ℕ → Command → List ℕ → Type 0
WithOrWithout settled reading command file =
    StandsFor settled file
    ⊎ (Accepts settled reading command
    × StandsFor (with_entry settled (entry_at settled reading command)) file)

-- What a stop may leave while a change is made: what stood there, or, once what was in doubt is
-- settled, that with the entry of the change.
pub data Leaves {D : Type 0} (old : OfficeOn D) (reading : ℕ) (command : Command)
    (new : OfficeOn D) (file : List ℕ) : Type 0 where
  unsettled : StandsSettled old.office old.doubt file → Leaves old reading command new file
  written : (settled : Office) → (made : Option Entry) → IsSettled old.office old.doubt settled
      → new.office ≡ with_made settled made → Accepts settled reading command
      → StandsFor (with_entry settled (entry_at settled reading command)) file
      → Leaves old reading command new file

-- What a stop may leave while a request is performed; a query leaves what stood there.
abbrev pub LeavesBy : {D : Type 0} → OfficeOn D → ℕ → Request → OfficeOn D → List ℕ → Type 0
LeavesBy old reading (Ask query) new file = StandsSettled old.office old.doubt file
LeavesBy old reading (Change command) new file = Leaves old reading command new file

-- what was in doubt is settled, and nothing was added
pub record IsUnmoved {D : Type 0} (old new : OfficeOn D) : Type 0 where
  pub settled : IsSettled old.office old.doubt new.office
  pub none : new.doubt ≡ None

-- nothing is settled
pub record IsAsBefore {D : Type 0} (old new : OfficeOn D) : Type 0 where
  pub office : new.office ≡ old.office
  pub doubt : new.doubt ≡ old.doubt

-- what was in doubt is settled, and the entry of this change is in doubt
pub record IsInDoubt {D : Type 0} (old : OfficeOn D) (reading : ℕ) (command : Command)
    (new : OfficeOn D) : Type 0 where
  pub settled : IsSettled old.office old.doubt new.office
  pub accepts : Accepts new.office reading command
  pub doubt : new.doubt ≡ Some (entry_at new.office reading command)

-- How a change ended, and the place of the entry that it added. Past the range nothing is settled
-- or tried, and each other end is one in the range. The disk failed in the settling, before the
-- gate of the change's entry was touched, or at this gate. Else the change comes to its outcome
-- over the settled office.
pub data Changes {D : Type 0} (old : OfficeOn D) (reading : ℕ) (command : Command)
    (outcome : Outcome) (place : Option ℕ) (new : OfficeOn D) : Type 0 where
  past : nat_lt (moment_of old.office reading) (end_of old.office.origin) ≡ false
      → outcome ≡ ClockRange (end_of old.office.origin) (moment_of old.office reading)
      → new ≡ old → place ≡ None → Changes old reading command outcome place new
  refused_memory : outcome ≡ NoMemory → IsTimely new.office reading → IsUnmoved old new
      → place ≡ None → Changes old reading command outcome place new
  not_settled : outcome ≡ DiskFault → IsTimely new.office reading → IsAsBefore old new
      → place ≡ None → Changes old reading command outcome place new
  not_kept : outcome ≡ DiskFault → IsTimely new.office reading → IsUnmoved old new
      → place ≡ None → Changes old reading command outcome place new
  in_doubt : outcome ≡ DiskFault → IsTimely new.office reading → IsInDoubt old reading command new
      → place ≡ None → Changes old reading command outcome place new
  done : (settled : Office) → (made : Option Entry) → IsSettled old.office old.doubt settled
      → IsTimely settled reading → Comes settled reading (Change command) outcome made
      → new.office ≡ with_made settled made
      → new.doubt ≡ None → place ≡ place_of settled made
      → Changes old reading command outcome place new

-- How a query ended: all stays as it was, and the query comes to its outcome, or memory ran out.
pub record Asks {D : Type 0} (old : OfficeOn D) (reading : ℕ) (query : Query)
    (outcome : Outcome) (place : Option ℕ) (new : OfficeOn D) : Type 0 where
  pub stays : new ≡ old
  pub told : Comes old.office reading (Ask query) outcome None ⊎ (outcome ≡ NoMemory)
  pub no_place : place ≡ None

-- How a request ended, and the place of the entry that it added, if it added one.
abbrev pub Performs : {D : Type 0} → OfficeOn D → ℕ → Request → Outcome → Option ℕ → OfficeOn D
    → Type 0
Performs old reading (Ask query) outcome place new = Asks old reading query outcome place new
Performs old reading (Change command) outcome place new =
    Changes old reading command outcome place new

-- Up to some moment of the call, the end of the settling, no image came up. There each image of the
-- disk stands for the settled office, and from there on a stop leaves this office, or it with the
-- change's entry.
pub record SettledFrom {D : Type 0} (S : DiskSenses D) (old : OfficeOn D) (reading : ℕ)
    (command : Command) (new : OfficeOn D) : Type 0 where
  pub settled : Office
  pub made : Option Entry
  pub is_settled : IsSettled old.office old.doubt settled
  pub ended : new.office ≡ with_made settled made
  pub between : D
  pub before : IsQuiet S old.disk between
  pub stands : All (StandsFor settled) (S.images between)
  pub after : LeavesOnly S between new.disk (WithOrWithout settled reading command)

-- A query settles nothing; a change settles, or leaves what was in doubt, and then no image came
-- up.
abbrev pub SettlesBy : {D : Type 0} → DiskSenses D → OfficeOn D → ℕ → Request → OfficeOn D
    → Type 0
SettlesBy S old reading (Ask query) new = new ≡ old
SettlesBy S old reading (Change command) new =
    (IsAsBefore old new × IsQuiet S old.disk new.disk) ⊎ SettledFrom S old reading command new

-- the disk is blamed only where its count rose
pub record IsBlamed (before now : ℕ) (outcome : Outcome) : Type 0 where
  pub later : before ≤ now
  pub rose : outcome ≡ DiskFault → Rose before now
