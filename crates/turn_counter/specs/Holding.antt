-- What holds of passes at an office's desk, and of the entries that were made by them.
use Rattle.std.specs.Prelude.{◌≡◌, ℕ, ◌≤◌, [], ◌∷◌, ◌++◌, length, Some, slice_get}
use Rattle.atomic_table.specs.Seated.{TableId}
use Rattle.slo_limits.specs.declared.TheConstants.{MAX_MINUTE}
use Rattle.turn_desk.specs.Histories.{Extends as Begins}
use Rattle.turn_desk.specs.Ledgers.{Ledger}
use Rattle.turn_desk.specs.Passes.{PassState, newcomer}
use Rattle.record_form.specs.declared.Command.{Command}
use Rattle.record_form.specs.declared.Outcome.{Outcome}
use Rattle.record_form.specs.declared.Query.{Query}
use Rattle.record_form.specs.declared.Request.TheVariants.{Change, Ask}
use Rattle.office_history.specs.History.{Office, moment_of}
use Rattle.office_counter.specs.Laws.{Extends}
use Rattle.office_counter.specs.Steps.{Standing, Step, entry_of}
use Rattle.office_keep.specs.Files.{OfficeIsWhole, records}
use Rattle.turn_counter.specs.Seen.{office_seen, root_of}

-- The pass is one of the same desk, and over the same origin. It stands for as many of the passes
-- that the desk was opened for, and no further one was split off it.
pub record StaysAtDesk (old new : PassState) : Type 0 where
  pub desk : new.desk ≡ old.desk
  pub root : new.root ≡ old.root
  pub opening : new.opening ≡ old.opening
  pub parts : new.parts ≡ old.parts
  pub has_split : new.has_split ≡ old.has_split

-- A pass that has seen the first records of an office has seen the beginning of its history.
abbrev pub PassesSeeBeginnings : Type 0
PassesSeeBeginnings =
    (p : PassState) (o : Office) → OfficeIsWhole o → o.origin ≤ MAX_MINUTE → p.root
    ≡ root_of o.origin → Begins p.seen (records o.history) → Extends (office_seen p) o

-- A new pass has seen the office.
abbrev pub NewPassesSeeAll : Type 0
NewPassesSeeAll =
    (desk : TableId) (ledger : Ledger) (passes : ℕ) (o : Office) → OfficeIsWhole o
    → o.origin ≤ MAX_MINUTE → ledger.root ≡ root_of o.origin → ledger.history ≡ records o.history
    → office_seen (newcomer desk ledger passes) ≡ o

-- The place holds the entry of the command, at the moment of its reading over an office that goes
-- on from what was seen.
pub record HoldsEntry (seen : Office) (reading : ℕ) (command : Command) (last : Office)
    (place : ℕ) : Type 0 where
  pub point : Office
  pub goes_on : Extends seen point
  pub behind : place ≡ length point.history
  pub holds : slice_get last.history place ≡ Some (entry_of (moment_of point reading) command)

-- The place that a change added to the asker's own holds its very entry, and stays so.
abbrev pub OwnEntriesStay : Type 0
OwnEntriesStay =
    (old : Standing) (reading : ℕ) (command : Command) (outcome : Outcome) (mid : Standing)
    (last : Office) (place : ℕ)
    → Step old reading (Change command) outcome mid → mid.own ≡ old.own ++ place ∷ []
    → Extends mid.office last → HoldsEntry old.office reading command last place

-- A query adds none.
abbrev pub QueriesOwnNothing : Type 0
QueriesOwnNothing =
    (old : Standing) (reading : ℕ) (query : Query) (outcome : Outcome) (new : Standing)
    → Step old reading (Ask query) outcome new → new.own ≡ old.own
