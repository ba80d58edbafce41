-- An office as a ledger, and what a pass has seen of it.
use Rattle.std.specs.Prelude.{ℕ, List, Option, Some, None, map}
use Rattle.std.specs.Int.{from_be_bytes, to_be_bytes, w32}
use Rattle.turn_desk.specs.Ledgers.{Ledger}
use Rattle.turn_desk.specs.Passes.{PassState}
use Rattle.office_outside.specs.Senses.{DiskSenses}
use Rattle.record_form.specs.declared.Command.TheVariants.{Tick}
use Rattle.record_form.specs.declared.Entry.{Entry}
use Rattle.record_form.specs.Records.{record_of}
use Rattle.record_form.specs.Records.{entry_of as entry_of_record}
use Rattle.office_history.specs.History.{Office}
use Rattle.office_counter.specs.Steps.{Standing}
use Rattle.office_keep.specs.Files.{records}
use Rattle.office_keep.specs.Office.{OfficeOn}

-- the origin's four bytes, the highest first, and the origin of four bytes
abbrev pub root_of : ℕ → List ℕ
root_of origin = to_be_bytes w32 origin

abbrev pub origin_in : List ℕ → ℕ
origin_in root = from_be_bytes w32 root

-- the record of an entry, if there is one
abbrev pub record_if : Option Entry → Option (List ℕ)
record_if None = None
record_if (Some e) = Some (record_of e)

-- The root is the origin's bytes. The history is that of the records, each of which is one entry's.
-- The entry in doubt is the office's, and the faults are the disk's.
abbrev pub ledger_of : {D : Type 0} → DiskSenses D → OfficeOn D → Ledger
ledger_of S o = record {
  root = root_of o.office.origin;
  history = records o.office.history;
  doubt = record_if o.doubt;
  faults = S.faults o.disk;
}

-- a tick stands for bytes that are no record: no history has such
abbrev pub entry_or_tick : Option Entry → Entry
entry_or_tick None = record { moment = 0; command = Tick }
entry_or_tick (Some e) = e

-- the entry whose record the bytes are
abbrev pub entry_in : List ℕ → Entry
entry_in bytes = entry_or_tick (entry_of_record bytes)

-- the office as a pass has seen it
abbrev pub office_seen : PassState → Office
office_seen p = record { origin = origin_in p.root; history = map entry_in p.seen }

-- what a pass knows of the office
abbrev pub standing_of : PassState → Standing
standing_of p = record { office = office_seen p; own = p.own; faults = p.faults }
