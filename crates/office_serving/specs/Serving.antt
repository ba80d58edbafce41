-- How the serving of an office ends.
use Rattle.std.specs.Prelude.{◌≡◌, ◌⊎◌, ℕ, ◌+◌, List, [], ◌∷◌, ◌++◌, length, flat_map, All, codes}
use Rattle.std.specs.Prelude.{Option, is_some, true}
use Rattle.office_outside.specs.Disk as disks
use Rattle.office_outside.specs.Told.{Gained, GainedPrefix}
use Rattle.office_outside.specs.Senses.{DiskSenses}
use Rattle.office_doors.specs.Books.{Book, HasAllBack, IsFresh, Moves, WhereTold}
use Rattle.office_doors.specs.Entrances.{Entrance, Stays, left_at}
use Rattle.office_doors.specs.declared.Visit.{Visit}
use Rattle.office_history.specs.History.{Office}
use Rattle.office_counter.specs.Laws.{Extends}
use Rattle.office_keep.specs.Files.{OfficeIsWhole}
use Rattle.office_keep.specs.Office.{OfficeOn, StandsSettled}
use Rattle.visit_workers.specs.Visits.{HasEnded}
use Rattle.visit_workers.specs.Workers.{WorkerSenses}
use Rattle.office_serving.specs.Asked.{AddsNoOther}
use Rattle.office_serving.specs.Workers.{DeskSenses, WorkersServe}
use Rattle.office_serving.specs.declared.serving.ServeEnd.{ServeEnd}
use Rattle.office_serving.specs.declared.serving.ServeEnd.TheVariants.{Done, DoorsFault}
use Rattle.office_serving.specs.declared.serving.ServeEnd.TheVariants.{NoMemory, WriteFault}

-- These doors were opened, with all visits that were held shared out among them, and closed again.
pub record WereOpen {A V : Type 0} (told : A → Option (Book V)) (opened closed : List A)
    (old new : Entrance A V) : Type 0 where
  pub shared : old.held ≡ flat_map (λ d. left_at (told d)) opened
  pub none_held : new.held ≡ []
  pub count : new.opened ≡ old.opened + length opened
  pub closed_are : new.closed ≡ old.closed ++ closed

-- what the serving speaks to beside the office: what its doors tell, the ports that they were asked
-- for at, and what `ready` holds
pub record ServingWorld (A V : Type 0) : Type 0 where
  pub entrance : Option (Entrance A V)
  pub ports : List ℕ
  pub held : Option (List ℕ)

abbrev pub serving_world : {A V : Type 0} → Option (Entrance A V) → List ℕ → Option (List ℕ)
    → ServingWorld A V
serving_world entrance ports held = record { entrance = entrance; ports = ports; held = held }

-- doors were asked for once, at this port
abbrev pub AskedAt : ℕ → List ℕ → List ℕ → Type 0
AskedAt port old new = new ≡ old ++ port ∷ []

-- doors were asked for once, at this port, or not at all
abbrev pub AskedAtMost : ℕ → List ℕ → List ℕ → Type 0
AskedAtMost port old new = (new ≡ old) ⊎ AskedAt port old new

-- the bytes that say that visitors may come
abbrev pub ready_line : List ℕ
ready_line = codes "ready\n"

-- Each of the four workers has a door, which was opened just now; each tells where the doors
-- together do.
pub record AreOpened {T A I O C : Type 0} (worker : WorkerSenses T A I O C) (opened : List A)
    (old : Option (Entrance A (Visit I O C))) : Type 0 where
  pub count : length opened ≡ 4
  pub fresh : All (λ d. WhereTold IsFresh (worker.told d)) opened
  pub tell : WhereTold (λ _. All (λ d. is_some (worker.told d) ≡ true) opened) old

-- Doors were opened at the port, `ready` was said, and then workers served them as `Serve` says.
-- The doors were closed again, each when all visits that it had handed out had come back.
pub record Ran {T A I O C : Type 0} (worker : WorkerSenses T A I O C) (port : ℕ)
    (Serve : List A → List A → Type 0) (old new : ServingWorld A (Visit I O C)) : Type 0 where
  pub opened : List A
  pub closed : List A
  pub asked : AskedAt port old.ports new.ports
  pub are_opened : AreOpened worker opened old.entrance
  pub ready : Gained ready_line old.held new.held
  pub serve : Serve opened closed
  pub were_open : Moves (WereOpen worker.told opened closed) old.entrance new.entrance
  pub back : All (λ d. WhereTold HasAllBack (worker.told d)) closed

-- It ended well: each door has handed out all visits that it had.
pub record RanToEnd {T A I O C : Type 0} (worker : WorkerSenses T A I O C) (port : ℕ)
    (Serve : List A → List A → Type 0) (old new : ServingWorld A (Visit I O C)) : Type 0 where
  pub ran : Ran worker port Serve old new
  pub ended : All (λ d. WhereTold HasEnded (worker.told d)) ran.closed

-- No visit was taken: the doors that were opened at the port are closed as they were, and `IfIdle`
-- holds.
pub record SaidNotReady {T A I O C : Type 0} (worker : WorkerSenses T A I O C) (port : ℕ)
    (IfIdle : Type 0) (old new : ServingWorld A (Visit I O C)) : Type 0 where
  pub opened : List A
  pub asked : AskedAt port old.ports new.ports
  pub are_opened : AreOpened worker opened old.entrance
  pub part : GainedPrefix ready_line old.held new.held
  pub were_open : Moves (WereOpen worker.told opened opened) old.entrance new.entrance
  pub idle : IfIdle

-- no door was opened, doors were asked for like this, and `IfIdle` holds
pub record NoneOpened {A V : Type 0} (Asked : List ℕ → List ℕ → Type 0) (IfIdle : Type 0)
    (old new : ServingWorld A V) : Type 0 where
  pub entrance : Moves Stays old.entrance new.entrance
  pub asked : Asked old.ports new.ports
  pub held : new.held ≡ old.held
  pub idle : IfIdle

-- What each end says: workers served as `Serve` says, or nobody worked, and then `IfIdle` holds.
abbrev pub EndsServing : {T A I O C : Type 0} → WorkerSenses T A I O C → ℕ
    → (List A → List A → Type 0) → Type 0 → ServeEnd → ServingWorld A (Visit I O C)
    → ServingWorld A (Visit I O C) → Type 0
EndsServing worker port Serve IfIdle Done old new = RanToEnd worker port Serve old new
EndsServing worker port Serve IfIdle WriteFault old new = SaidNotReady worker port IfIdle old new
EndsServing worker port Serve IfIdle DoorsFault old new =
    Ran worker port Serve old new ⊎ NoneOpened (AskedAt port) IfIdle old new
EndsServing worker port Serve IfIdle NoMemory old new =
    NoneOpened (AskedAtMost port) IfIdle old new

-- An office was served at a port, and its disk is handed back: the history extends the one that was
-- handed in, and is legal. Each image of the disk stands for it, or for it with the one entry in
-- doubt. Where nobody worked, nothing was added but what was in doubt.
pub record IsServed {D A I O C : Type 0} (S : DiskSenses D) (worker : DeskSenses A I O C)
    (port : ℕ) (office : OfficeOn D) (end : ServeEnd) (old new : ServingWorld A (Visit I O C))
    (disk : D) : Type 0 where
  pub last : OfficeOn D
  pub handed_back : disk ≡ last.disk
  pub grows : Extends office.office last.office
  pub whole : OfficeIsWhole last.office
  pub stands : disks.All (StandsSettled last.office last.doubt) (S.images disk)
  pub ends : EndsServing worker port (WorkersServe worker office.office office.doubt last.office)
      (AddsNoOther [] office.office office.doubt last.office) end old new
