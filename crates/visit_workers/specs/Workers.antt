-- What workers do, each with a counter and a door of its own.
use Rattle.std.specs.Prelude.{◌≡◌, ℕ, ◌+◌, ◌≤◌, Bool, true, List, [], ◌∷◌, ◌++◌, length, All}
use Rattle.std.specs.Prelude.{Option}
use Rattle.office_outside.specs.Faults.{Rose}
use Rattle.office_doors.specs.Books.{Book, HasAllBack, Moves, WhereTold}
use Rattle.office_doors.specs.Entrances.{Entrance}
use Rattle.office_doors.specs.declared.Visit.{Visit}
use Rattle.office_counter.specs.Laws.{Extends, IsOwned}
use Rattle.office_counter.specs.Steps.{Standing}
use Rattle.office_session.specs.Messages.{Asking}
use Rattle.visit_workers.specs.Visits.{HasEnded, VisitSenses, ServesVisits}
use Rattle.visit_workers.specs.declared.visits.WorkEnd.{WorkEnd}
use Rattle.visit_workers.specs.declared.visits.WorkEnd.TheVariants.{Done, DoorFault}

-- what workers ask, and how one looks at their doors and visits
pub record WorkerSenses (T A I O C : Type 0) : Type 1 where
  pub asks : Asking T
  pub look : VisitSenses I O C
  pub told : A → Option (Book (Visit I O C))
  pub faults : A → ℕ

abbrev pub worker_senses : {T A I O C : Type 0} → Asking T → VisitSenses I O C
    → (A → Option (Book (Visit I O C))) → (A → ℕ) → WorkerSenses T A I O C
worker_senses asks look told faults =
    record { asks = asks; look = look; told = told; faults = faults }

-- What a counter knows of the office goes on from what it knew: it has seen all that it had seen,
-- and then perhaps more, and the places of its own entries go on to rise and to lie in it.
pub record KnowsMore (old new : Standing) : Type 0 where
  pub seen : Extends old.office new.office
  pub owned : IsOwned old → IsOwned new

-- What one worker did, by its counter, its door and how its work ended.
pub record ServedDoor {T A I O C : Type 0} (worker : WorkerSenses T A I O C)
    (standing : T → Standing) (old new : T) (opened closed : A) (end : WorkEnd) : Type 0 where
  pub works : ServesVisits worker.asks worker.look old new (worker.told opened) (worker.told closed)
  pub knows : KnowsMore (standing old) (standing new)
  pub back : WhereTold HasAllBack (worker.told closed)
  pub done : end ≡ Done → WhereTold HasEnded (worker.told closed)
  pub fault : end ≡ DoorFault → Rose (worker.faults opened) (worker.faults closed)

-- Each door was worked at by the counter of its place, which began so and ended so.
abbrev pub ServesDoors : {T A I O C : Type 0} → WorkerSenses T A I O C → List T → List A → List A
    → List T → Type 0
ServesDoors worker [] [] [] [] = Unit {0}
ServesDoors worker (start ∷ starts) (opened ∷ more) (closed ∷ rest) (end ∷ ends) =
    ServesVisits worker.asks worker.look start end (worker.told opened) (worker.told closed)
    × ServesDoors worker starts more rest ends
ServesDoors worker starts opened closed ends = ⊥

-- what each of these counters knows goes on
abbrev pub KnowMore : {T : Type 0} → (T → Standing) → List T → List T → Type 0
KnowMore standing [] [] = Unit {0}
KnowMore standing (start ∷ starts) (end ∷ ends) =
    KnowsMore (standing start) (standing end) × KnowMore standing starts ends
KnowMore standing starts ends = ⊥

-- so many doors can still be closed
abbrev pub HasRoom : {A V : Type 0} → ℕ → Entrance A V → Type 0
HasRoom count entrance = length entrance.closed + count ≤ entrance.opened

-- these doors are closed, one after another
abbrev pub AreClosed : {A V : Type 0} → List A → Entrance A V → Entrance A V → Type 0
AreClosed doors old new = new ≡ record old { closed = old.closed ++ doors }

-- What workers did to the doors that were opened, and how their counters ended.
pub record RanWorkers {T A I O C : Type 0} (worker : WorkerSenses T A I O C)
    (standing : T → Standing) (starts : List T) (opened : List A)
    (old new : Option (Entrance A (Visit I O C))) (ends : List T) (well : Bool) : Type 0 where
  pub closed : List A
  pub works : ServesDoors worker starts opened closed ends
  pub know : KnowMore standing starts ends
  pub back : All (λ d. WhereTold HasAllBack (worker.told d)) closed
  pub ended : well ≡ true → All (λ d. WhereTold HasEnded (worker.told d)) closed
  pub were_closed : Moves (AreClosed closed) old new
