-- Legal histories: each entry may follow those before it.
use Rattle.std.specs.Prelude.{ℕ, ◌<◌, ◌≤◌, List, [], ◌∷◌, ◌++◌}
use Rattle.record_form.specs.declared.Entry.{Entry}
use Rattle.office_history.specs.declared.judgement.Judgement.TheVariants.{Accepted}
use Rattle.office_history.specs.History.{Office, present, end_of}
use Rattle.office_history.specs.Judges.{Judges}

-- An entry may follow a history: its moment is in range and not below the present, and its command
-- is accepted at it.
pub record MayFollow (o : Office) (e : Entry) : Type 0 where
  pub in_range : e.moment < end_of o.origin
  pub later : present o ≤ e.moment
  pub accepted : Judges o e.moment e.command Accepted

abbrev pub office : ℕ → List Entry → Office
office origin history = record { origin = origin; history = history }

pub data IsLegal (origin : ℕ) : List Entry → Type 0 where
  empty : IsLegal origin []
  followed : {h : List Entry} (e : Entry) → IsLegal origin h → MayFollow (office origin h) e
      → IsLegal origin (h ++ e ∷ [])
