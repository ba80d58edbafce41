-- What a history of entries says of the present, of rows and exclusions, and of its journal.
use Rattle.std.specs.Prelude.{ℕ, Bool, List, [], ◌∷◌, ◌++◌, fold, max, map, length, filter, ◌+◌}
use Rattle.std.specs.Prelude.{sum_by}
use Rattle.std.specs.List.{flat_map}
use Rattle.slo_limits.specs.declared.TheConstants.{RANGE_MINUTES}
use Rattle.sample_book.specs.declared.Row.{Row}
use Rattle.sample_book.specs.declared.Exclusion.{Exclusion}
use Rattle.sample_book.specs.Exclusions.{Change, Excluded, Lifted}
use Rattle.sample_book.specs.Rows.{current_rows}
use Rattle.sample_book.specs.Puts.{verdicts}
use Rattle.sample_book.specs.History.{Arrival, Came, Changed, exclusions_of, is_put}
use Rattle.record_form.specs.Records.{record_of}
use Rattle.record_form.specs.declared.Command.{Command}
use Rattle.record_form.specs.declared.Command.TheVariants.{Samples, Exclude, Lift}
use Rattle.record_form.specs.declared.Entry.{Entry}

-- An office: the minute at which its history begins, and the entries that it accepted.
pub record Office : Type 0 where
  pub origin : ℕ
  pub history : List Entry

-- the office with one entry more
abbrev pub with_entry : Office → Entry → Office
with_entry o e = record { origin = o.origin; history = o.history ++ e ∷ [] }

-- the present: the greatest moment of the history, or its origin
abbrev pub present : Office → ℕ
present o = fold (λ greatest e. max greatest e.moment) o.origin o.history

-- the moment of a request that is read at this reading of the clock
abbrev pub moment_of : Office → ℕ → ℕ
moment_of o reading = max (present o) reading

-- the first minute after the office's range
abbrev pub end_of : ℕ → ℕ
end_of origin = origin + RANGE_MINUTES

abbrev pub rows_of : Command → List Row
rows_of (Samples rows) = rows
rows_of _ = []

-- the rows of all batches, in order
abbrev pub rows_in : List Entry → List Row
rows_in history = flat_map (λ (e : Entry). rows_of e.command) history

-- the current rows: of each cell the row of the greatest revision
abbrev pub current_in : List Entry → List Row
current_in history = current_rows (rows_in history)

-- how many rows were new to their cell or newer than its row when they came
abbrev pub accepted_rows : List Row → ℕ
accepted_rows rows = length (filter is_put (verdicts [] rows))

abbrev pub changes_of : Command → List Change
changes_of (Exclude value) = Excluded value ∷ []
changes_of (Lift id) = Lifted id ∷ []
changes_of _ = []

-- the exclusions and liftings, in order
abbrev pub changes_in : List Entry → List Change
changes_in history = flat_map (λ (e : Entry). changes_of e.command) history

-- the exclusions, each live unless its id was lifted
abbrev pub exclusions_in : List Entry → List (Exclusion × Bool)
exclusions_in history = exclusions_of (changes_in history)

abbrev pub arrivals_of : Command → List Arrival
arrivals_of (Samples rows) = map Came rows
arrivals_of (Exclude value) = Changed (Excluded value) ∷ []
arrivals_of (Lift id) = Changed (Lifted id) ∷ []
arrivals_of _ = []

-- what happens to the book of samples, in order
abbrev pub arrivals_in : List Entry → List Arrival
arrivals_in history = flat_map (λ (e : Entry). arrivals_of e.command) history

-- where the last gate of a journal of these entries stands
abbrev pub tail_of : List Entry → ℕ
tail_of history = 13 + sum_by (λ (e : Entry). 5 + length (record_of e)) history
