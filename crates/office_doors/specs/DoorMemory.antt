-- What a door in memory shows.
use Rattle.std.specs.Prelude.{List, [], false}
use Rattle.office_doors.specs.Books.{Book}
use Rattle.office_doors.specs.Calls.{Numbered}
use Rattle.office_doors.specs.declared.memory_door.MemoryDoor.{MemoryDoor}
use Rattle.office_doors.specs.declared.visit.Visit.{Visit}
use Rattle.office_outside.specs.Memory.{SourceInMemory}
use Rattle.std.specs.Prelude.{ℕ}

-- a visit in memory
abbrev pub VisitInMemory : Type 0 → Type 0
VisitInMemory K = Visit SourceInMemory K (List ℕ)

-- the visits that a door in memory handed out, got back and has left
abbrev pub book_of : {K : Type 0} → MemoryDoor K → Book (VisitInMemory K)
book_of door = record {
  handed = door.handed.items;
  back = door.back.items;
  left = door.left.items;
  ended = door.ended;
}

-- its calls of `next`
abbrev pub calls_of : {K : Type 0} → MemoryDoor K → Numbered
calls_of door = door.calls

-- before the first call
abbrev pub fresh_book : {V : Type 0} → List V → Book V
fresh_book visits = record { handed = []; back = []; left = visits; ended = false }
