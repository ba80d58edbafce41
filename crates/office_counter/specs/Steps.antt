-- What a request comes to over an office, and what one asking of it may do.
use Rattle.std.specs.Prelude.{◌≡◌, ℕ, ◌+◌, ◌≤◌, cond, nat_lt, true, false, List, [], ◌∷◌}
use Rattle.std.specs.Prelude.{◌++◌, length, Option, Some, None}
use Rattle.std.specs.List.{AllByRecursion}
use Rattle.slo_limits.specs.declared.TheConstants.{MAX_JOURNAL_BYTES, MAX_REVISION}
use Rattle.office_outside.specs.Faults.{Rose}
use Rattle.sample_book.specs.declared.Row.{Row}
use Rattle.record_form.specs.declared.Command.{Command}
use Rattle.record_form.specs.declared.Command.TheVariants.{Samples}
use Rattle.record_form.specs.declared.Entry.{Entry}
use Rattle.record_form.specs.declared.Outcome.{Outcome}
use Rattle.record_form.specs.declared.Outcome.TheVariants.{ClockRange, DiskFault, NoMemory}
use Rattle.record_form.specs.declared.Request.{Request}
use Rattle.record_form.specs.declared.Request.TheVariants.{Change, Ask}
use Rattle.record_form.specs.Records.{record_of}
use Rattle.office_history.specs.declared.Judgement.{Judgement}
use Rattle.office_history.specs.declared.Judgement.TheVariants.{Accepted, Refused, Same}
use Rattle.office_history.specs.Answers.{Answers}
use Rattle.office_history.specs.History.{Office, end_of, moment_of, tail_of, with_entry}
use Rattle.office_history.specs.Judges.{Judges}
use Rattle.office_history.specs.Legal.{IsLegal}
use Rattle.office_history.specs.Outcomes.{outcome_by}

-- the entry of a command at a moment
abbrev pub entry_of : ℕ → Command → Entry
entry_of moment command = record { moment = moment; command = command }

-- how many bytes a journal takes with this entry behind the office's
abbrev pub needed_for : Office → Entry → ℕ
needed_for o e = tail_of o.history + (length (record_of e) + 6)

-- the entry that a change of this judgement makes: its own, where it is accepted and the journal
-- has room
abbrev pub made_by : Office → Entry → Judgement → Option Entry
made_by o e (Refused refusal) = None
made_by o e (Same outcome) = None
made_by o e Accepted = cond (nat_lt MAX_JOURNAL_BYTES (needed_for o e)) None (Some e)

-- the office with the entry that was made, if there is one
abbrev pub with_made : Office → Option Entry → Office
with_made o None = o
with_made o (Some e) = with_entry o e

-- where the entry that was made stands in the history
abbrev pub place_of : Office → Option Entry → Option ℕ
place_of o None = None
place_of o (Some e) = Some (length o.history)

-- what a request comes to at a moment in range, and the entry that it makes
abbrev pub ComesAt : Office → ℕ → Request → Outcome → Option Entry → Type 0
ComesAt o moment (Ask query) outcome made = Answers o moment query outcome × (made ≡ None)
ComesAt o moment (Change command) outcome made =
    (j : Judgement) × Judges o moment command j
    × (outcome ≡ outcome_by o (entry_of moment command) j)
    × (made ≡ made_by o (entry_of moment command) j)

-- What a request that is read at this reading of the clock comes to, and the entry that it makes.
pub data Comes (o : Office) (reading : ℕ) (request : Request) (outcome : Outcome)
    (made : Option Entry) : Type 0 where
  past : nat_lt (moment_of o reading) (end_of o.origin) ≡ false
      → outcome ≡ ClockRange (end_of o.origin) (moment_of o reading) → made ≡ None
      → Comes o reading request outcome made
  comes : nat_lt (moment_of o reading) (end_of o.origin) ≡ true
      → ComesAt o (moment_of o reading) request outcome made → Comes o reading request outcome made

-- the revisions of a batch's rows are from 1 to 10^9
pub record HasRevision (r : Row) : Type 0 where
  pub first : 1 ≤ r.revision
  pub last : r.revision ≤ MAX_REVISION

abbrev pub HasRevisions : Command → Type 0
HasRevisions (Samples rows) = AllByRecursion HasRevision rows
HasRevisions _ = Unit {0}

-- those of a request's rows
abbrev pub HasRevisionsIn : Request → Type 0
HasRevisionsIn (Ask query) = Unit {0}
HasRevisionsIn (Change command) = HasRevisions command

abbrev pub IsChange : Request → Type 0
IsChange (Ask query) = ⊥
IsChange (Change command) = Unit {0}

-- What an asker knows: the office as it was last seen, the places of the asker's own entries, and
-- how often the disk has failed.
pub record Standing : Type 0 where
  pub office : Office
  pub own : List ℕ
  pub faults : ℕ

-- the office with entries of others, or one that was settled, behind those that were seen
abbrev pub with_others : Office → List Entry → Office
with_others o others = record { origin = o.origin; history = o.history ++ others }

-- the own places, and that of the entry that was made
abbrev pub own_with : Office → Option Entry → List ℕ → List ℕ
own_with o None own = own
own_with o (Some e) own = own ++ length o.history ∷ []

-- At a point of the history the request comes to its outcome; or memory ran out, or, for a change,
-- the disk failed, and no entry is the asker's.
pub data Does (point : Office) (reading : ℕ) (request : Request) (outcome : Outcome)
    (old new : Standing) : Type 0 where
  acts : (made : Option Entry) → Comes point reading request outcome made
      → new.office ≡ with_made point made
      → new.own ≡ own_with point made old.own → Does point reading request outcome old new
  lacks : outcome ≡ NoMemory → new.office ≡ point → new.own ≡ old.own
      → Does point reading request outcome old new
  fails : outcome ≡ DiskFault → IsChange request
      → nat_lt (moment_of point reading) (end_of point.origin) ≡ true
      → Rose old.faults new.faults → new.office ≡ point → new.own ≡ old.own
      → Does point reading request outcome old new

-- One asking: the point extends what was seen before, and what is seen afterwards is legal.
pub record Step (old : Standing) (reading : ℕ) (request : Request) (outcome : Outcome)
    (new : Standing) : Type 0 where
  pub others : List Entry
  pub later : old.faults ≤ new.faults
  pub legal : IsLegal new.office.origin new.office.history
  pub does : Does (with_others old.office others) reading request outcome old new
