-- Which entries have a record: the ranges of the numbers, and what the types themselves promise
-- of their values.
use Rattle.std.specs.Prelude.{ℕ, ◌<◌, ◌≤◌, ◌^◌, ◌≡◌, List, length, IsTrue}
use Rattle.std.specs.List.{AllByRecursion}
use Rattle.exact_fraction.specs.Label.{is_label}
use Rattle.exact_fraction.specs.ZoneName.{is_zone_name}
use Rattle.slice_method.specs.declared.amount.Amount.{Amount}
use Rattle.slice_method.specs.declared.amount.Amount.TheVariants.{Counts, Value, Withdrawn}
use Rattle.sample_book.specs.declared.row.Row.{Row}
use Rattle.sample_book.specs.declared.exclusions.Exclusion.{Exclusion}
use Rattle.slo_limits.specs.declared.TheConstants.{MAX_BATCH_ROWS, MAX_DECIMAL, MAX_MINUTE}
use Rattle.slo_limits.specs.declared.TheConstants.{MAX_REVISION, MAX_TEXT_BYTES, MAX_ZONE_BYTES}
use Rattle.record_form.specs.declared.fields.TheConstants.{MAX_EXCLUDED_MINUTE}
use Rattle.record_form.specs.declared.command.Command.{Command}
use Rattle.record_form.specs.declared.command.Command.TheVariants.{Define, Remove, PutZone, Samples}
use Rattle.record_form.specs.declared.command.Command.TheVariants.{Exclude, Lift, Tick, Take}
use Rattle.record_form.specs.declared.command.Command.TheVariants.{Upgrade}
use Rattle.record_form.specs.declared.entry.Entry.{Entry}
use Rattle.record_form.specs.Records.{record_of}

-- What is asked of whoever writes a record: of a row
pub record IsRowInRange (r : Row) : Type 0 where
  pub minute : r.minute ≤ MAX_MINUTE
  pub first_revision : 1 ≤ r.revision
  pub last_revision : r.revision ≤ MAX_REVISION

-- of the rows of a batch, which has so many at most
abbrev pub AreRowsInRange : List Row → Type 0
AreRowsInRange rows = (length rows ≤ MAX_BATCH_ROWS) × AllByRecursion IsRowInRange rows

-- of an exclusion
pub record IsExclusionInRange (x : Exclusion) : Type 0 where
  pub from : x.from ≤ MAX_EXCLUDED_MINUTE
  pub to : x.to ≤ MAX_EXCLUDED_MINUTE

-- of a command
abbrev pub IsInRange : Command → Type 0
IsInRange (Define documents) = length documents ≤ MAX_TEXT_BYTES
IsInRange (Remove kind name) = Unit {0}
IsInRange (PutZone name bytes) = length bytes ≤ MAX_ZONE_BYTES
IsInRange (Samples rows) = AreRowsInRange rows
IsInRange (Exclude value) = IsExclusionInRange value
IsInRange (Lift id) = Unit {0}
IsInRange Tick = Unit {0}
IsInRange (Take number) = Unit {0}
IsInRange Upgrade = Unit {0}

-- and of an entry
pub record IsEntryInRange (e : Entry) : Type 0 where
  pub moment : e.moment ≤ MAX_MINUTE
  pub command : IsInRange e.command

-- What has a record: the ranges, and what the values of the types are by themselves. An amount that
-- has one
abbrev pub FitsAmount : Amount → Type 0
FitsAmount (Counts part total) = (part < 2 ^ 32) × (total < 2 ^ 32)
FitsAmount (Value value) = value ≤ MAX_DECIMAL
FitsAmount Withdrawn = Unit {0}

-- a row that has a record
pub record FitsRow (r : Row) : Type 0 where
  pub sli : IsTrue (is_label r.sli)
  pub source : IsTrue (is_label r.source)
  pub range : IsRowInRange r
  pub amount : FitsAmount r.amount

-- the rows of a batch that has a record
abbrev pub FitsRows : List Row → Type 0
FitsRows rows = (length rows ≤ MAX_BATCH_ROWS) × AllByRecursion FitsRow rows

-- an exclusion that has a record
pub record FitsExclusion (x : Exclusion) : Type 0 where
  pub id : IsTrue (is_label x.id)
  pub slo : IsTrue (is_label x.slo)
  pub range : IsExclusionInRange x

-- a command that has a record
abbrev pub Fits : Command → Type 0
Fits (Define documents) = length documents ≤ MAX_TEXT_BYTES
Fits (Remove kind name) = IsTrue (is_label name)
Fits (PutZone name bytes) = IsTrue (is_zone_name name) × (length bytes ≤ MAX_ZONE_BYTES)
Fits (Samples rows) = FitsRows rows
Fits (Exclude value) = FitsExclusion value
Fits (Lift id) = IsTrue (is_label id)
Fits Tick = Unit {0}
Fits (Take number) = number < 2 ^ 32
Fits Upgrade = Unit {0}

-- an entry that has a record
pub record FitsRecord (e : Entry) : Type 0 where
  pub moment : e.moment ≤ MAX_MINUTE
  pub command : Fits e.command

-- The bytes are the entry's record.
pub record IsRecord (bytes : List ℕ) (e : Entry) : Type 0 where
  pub spelled : bytes ≡ record_of e
  pub fits : FitsRecord e
