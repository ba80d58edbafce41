-- What the doors in memory show together.
use Rattle.std.specs.Prelude.{◌≡◌, ℕ, List, []}
use Rattle.office_doors.specs.Calls.{Numbered}
use Rattle.office_doors.specs.DoorMemory.{VisitInMemory, book_of, calls_of}
use Rattle.office_doors.specs.Books.{IsFresh}
use Rattle.office_doors.specs.Entrances.{Entrance}
use Rattle.office_doors.specs.declared.memory_door.MemoryDoor.{MemoryDoor}
use Rattle.office_doors.specs.declared.memory_doors.MemoryDoors.{MemoryDoors}

-- the visits that aren't shared out, and the doors that were opened and closed
abbrev pub entrance_of : {K : Type 0} → MemoryDoors K → Entrance (MemoryDoor K) (VisitInMemory K)
entrance_of doors = record {
  held = doors.held.items;
  opened = doors.opened;
  closed = doors.closed.items;
}

-- the ports that doors were asked for at
abbrev pub ports_of : {K : Type 0} → MemoryDoors K → List ℕ
ports_of doors = doors.asked.items

-- their calls of `open`, with the faults of the doors that were closed
abbrev pub openings_of : {K : Type 0} → MemoryDoors K → Numbered
openings_of doors = doors.calls

-- before the first call
abbrev pub fresh_entrance : {D V : Type 0} → List V → Entrance D V
fresh_entrance visits = record { held = visits; opened = 0; closed = [] }

-- a door in memory that was opened just now
pub record IsNew {K : Type 0} (door : MemoryDoor K) : Type 0 where
  pub fresh : IsFresh (book_of door)
  pub quiet : (calls_of door).faults ≡ 0
