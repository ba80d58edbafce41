-- The records that a reader has left, from where it stands in its text.
use Rattle.std.specs.Prelude.{◌≡◌, ℕ, suc, List, [], length, Option, Some, None, Bool, true, false}
use Rattle.std.specs.Prelude.{⊤}
use Rattle.std.specs.Borrow.{Bor}
use Rattle.csv.specs.Machine.{ends_at_end}
use Rattle.csv.specs.Reading.{Ready, default_config, records_from, source_of}
use Rattle.csv.specs.declared.parser.Config.{Config}
use Rattle.csv.specs.declared.parser.State.{State}
use Rattle.csv.specs.declared.reader.Reader.{Reader}
use Rattle.csv.specs.declared.reader.Trim.TheVariants as trim
use Rattle.csv_records.specs.Records.{Fields}

-- the state stands between two records
abbrev pub IsBetween : State → Type 0
IsBetween s = ends_at_end s ≡ false

-- the records of these bytes, read from a state
abbrev pub rest : Config → State → List ℕ → List Fields
rest cfg s xs = records_from cfg (suc (length xs)) s xs

-- the bytes that a reader over a text has yet to read; none are told once it has failed
abbrev pub unread : Reader (Bor (List ℕ)) → Option (List ℕ)
unread rdr = source_of (λ s. Some s.now) rdr

-- the records of the unread bytes
abbrev pub records_of_unread : State → Option (List ℕ) → List Fields
records_of_unread s None = []
records_of_unread s (Some xs) = rest default_config s xs

-- a reader that reads on: set up for every record as it stands, of any length, and between
-- two of them
pub record IsReading (rdr : Reader (Bor (List ℕ))) : Type 0 where
  pub trim : rdr.trim ≡ trim.None
  pub ready : Ready rdr
  pub config : rdr.config ≡ default_config
  pub flexible : rdr.flexible ≡ true
  pub between : IsBetween rdr.state
  pub told : (bytes : List ℕ) × (unread rdr ≡ Some bytes)

-- the records that are left, where reading has not ended
abbrev pub left_of : Bool → Reader (Bor (List ℕ)) → List Fields
left_of true rdr = []
left_of false rdr = records_of_unread rdr.state (unread rdr)

-- reading has ended, or goes on
abbrev pub IsSound : Bool → Reader (Bor (List ℕ)) → Type 0
IsSound true rdr = ⊤
IsSound false rdr = IsReading rdr
