-- What workers did, from what each of them did.
use Rattle.std.proofs.Common.{◌≡◌, ◌<◌, ◌≤◌, ◌⊎◌, ℕ, Bool, true, false, List, [], ◌∷◌, ◌++◌}
use Rattle.std.proofs.Common.{length, refl, sym, subst, arith, map, inl, inr, Some}
use Rattle.std.specs.Prelude.{All, min, slice_index_or}
use Rattle.std.specs.List.{AllByRecursion}
use Rattle.std.specs.declared.option.Option.{Option}
use Rattle.std.proofs.lemmas.List.Elements.{All-from_recursion, All-pop, recursion_from_All}
use Rattle.office_outside.specs.Faults.{Rose, last_count}
use Rattle.office_doors.specs.Books.{HasAllBack, Moves, WhereTold}
use Rattle.office_doors.specs.Entrances.{Entrance, joined_count}
use Rattle.office_doors.specs.declared.Visit.{Visit}
use Rattle.office_counter.specs.Steps.{Standing}
use Rattle.visit_workers.specs.Visits.{HasEnded}
use Rattle.visit_workers.specs.Workers.{AreClosed, KnowMore, RanWorkers, WorkerSenses, ServedDoor}
use Rattle.visit_workers.specs.Workers.{ServesDoors}
use Rattle.visit_workers.specs.declared.visits.WorkEnd.{WorkEnd}
use Rattle.visit_workers.specs.declared.visits.WorkEnd.TheVariants.{Done, DoorFault}
use Rattle.visit_workers.proofs.Closing.{risen_after, risen_now}
use Rattle.visit_workers.proofs.Lists.{Pairs, pairs_of}

module _ {T A I O C W : Type 0} (worker : WorkerSenses T A I O C) (standing : T → Standing)
    (counter_of : W → T) (door_of : W → A) (end_of : W → WorkEnd) where
  abbrev pub WorkedBy : W → W → Type 0
  WorkedBy w a =
      ServedDoor worker standing (counter_of w) (counter_of a) (door_of w) (door_of a) (end_of a)

  back_each : (ws behind : List W) → Pairs WorkedBy ws behind
      → AllByRecursion (λ d. WhereTold HasAllBack (worker.told d)) (map door_of behind)
  back_each [] [] pairs = tt
  back_each [] (a ∷ behind) pairs = absurd pairs
  back_each (w ∷ ws) [] pairs = absurd pairs
  back_each (w ∷ ws) (a ∷ behind) (worked, rest) = (worked.back, back_each ws behind rest)

  ended_each : (ws behind : List W) → Pairs WorkedBy ws behind
      → AllByRecursion (λ a. end_of a ≡ Done) behind
      → AllByRecursion (λ d. WhereTold HasEnded (worker.told d)) (map door_of behind)
  ended_each [] [] pairs done = tt
  ended_each [] (a ∷ behind) pairs done = absurd pairs
  ended_each (w ∷ ws) [] pairs done = absurd pairs
  ended_each (w ∷ ws) (a ∷ behind) (worked, rest) (is, more) =
      (worked.done is, ended_each ws behind rest more)

  abbrev pub Faulty : W → Type 0
  Faulty w = end_of w ≡ DoorFault → 1 ≤ worker.faults (door_of w)

  faulty : (w a : W) → WorkedBy w a → worker.faults (door_of w) ≡ 0 → Faulty a
  faulty w a worked quiet is = omega (arith, worked.fault is, quiet)

  faulty_each : (ws behind : List W) → Pairs WorkedBy ws behind
      → AllByRecursion (λ d. worker.faults d ≡ 0) (map door_of ws) → AllByRecursion Faulty behind
  faulty_each [] [] pairs quiet = tt
  faulty_each [] (a ∷ behind) pairs quiet = absurd pairs
  faulty_each (w ∷ ws) [] pairs quiet = absurd pairs
  faulty_each (w ∷ ws) (a ∷ behind) (worked, rest) (none, more) =
      (faulty w a worked none, faulty_each ws behind rest more)

  works_each : (ws behind : List W) → Pairs WorkedBy ws behind
      → ServesDoors worker (map counter_of ws) (map door_of ws) (map door_of behind)
      (map counter_of behind)
  works_each [] [] pairs = tt
  works_each [] (a ∷ behind) pairs = absurd pairs
  works_each (w ∷ ws) [] pairs = absurd pairs
  works_each (w ∷ ws) (a ∷ behind) (worked, rest) = (worked.works, works_each ws behind rest)

  know_more : (ws behind : List W) → Pairs WorkedBy ws behind
      → KnowMore standing (map counter_of ws) (map counter_of behind)
  know_more [] [] pairs = tt
  know_more [] (a ∷ behind) pairs = absurd pairs
  know_more (w ∷ ws) [] pairs = absurd pairs
  know_more (w ∷ ws) (a ∷ behind) (worked, rest) = (worked.knows, know_more ws behind rest)

  -- what was told of each index, over the list that the workers were lent from
  paired : (ws lent behind : List W) → lent ≡ ws → length behind ≡ length lent
      → ((k : ℕ) (d : W) → k < length lent
      → WorkedBy (slice_index_or lent k d) (slice_index_or behind k d))
      → Pairs WorkedBy ws behind
  paired ws lent behind is same each =
      subst (λ (l : List W). Pairs WorkedBy l behind) is (pairs_of WorkedBy lent behind same each)

  pub all_faulty : (ws lent behind : List W) (opened : List A) → lent ≡ ws
      → length behind ≡ length lent
      → ((k : ℕ) (d : W) → k < length lent
      → WorkedBy (slice_index_or lent k d) (slice_index_or behind k d))
      → map door_of ws ≡ opened → All (λ d. worker.faults d ≡ 0) opened → All Faulty behind
  all_faulty ws lent behind opened is same each doors quiet =
      All-from_recursion Faulty behind (faulty_each ws behind (paired ws lent behind is same each)
      (recursion_from_All (λ d. worker.faults d ≡ 0) (map door_of ws)
      (subst (All (λ d. worker.faults d ≡ 0)) (sym doors) quiet)))

  pub ran_workers : (ws lent behind : List W) (starts : List T) (opened : List A) (ends : List T)
      (before after : Option (Entrance A (Visit I O C))) (well : Bool) → lent ≡ ws
      → length behind ≡ length lent
      → ((k : ℕ) (d : W) → k < length lent
      → WorkedBy (slice_index_or lent k d) (slice_index_or behind k d))
      → map counter_of ws ≡ starts → map door_of ws ≡ opened → ends ≡ map counter_of behind
      → (well ≡ true → All (λ a. end_of a ≡ Done) behind)
      → Moves (AreClosed (map door_of behind)) before after
      → RanWorkers worker standing starts opened before after ends well
  ran_workers ws lent behind starts opened ends before after well lends same worked begins doors is
      done closed =
      let pairs = paired ws lent behind lends same worked in
      let closing = map door_of behind in
      record {
        closed = closing;
        works = subst (λ (l : List T). ServesDoors worker l opened closing ends) begins
            (subst (λ (l : List A). ServesDoors worker (map counter_of ws) l closing ends) doors
            (subst (λ (l : List T). ServesDoors worker (map counter_of ws) (map door_of ws) closing
            l) (sym is) (works_each ws behind pairs)));
        know = subst (λ (l : List T). KnowMore standing l ends) begins
            (subst (λ (l : List T). KnowMore standing (map counter_of ws) l) (sym is)
            (know_more ws behind pairs));
        back = All-from_recursion (λ d. WhereTold HasAllBack (worker.told d)) closing
            (back_each ws behind pairs);
        ended = λ yes. All-from_recursion (λ d. WhereTold HasEnded (worker.told d)) closing
            (ended_each ws behind pairs
            (recursion_from_All (λ a. end_of a ≡ Done) behind (done yes)));
        were_closed = closed;
      }

-- a door is closed, whose worker may have failed
pub cause_more : {W : Type 0} (F : W → Type 0) (faults_of : W → ℕ) (ends : W → WorkEnd)
    (well : Bool) (ws : List W) (w : W) (start before now : ℕ)
    → ((w : W) → F w → ends w ≡ DoorFault → 1 ≤ faults_of w)
    → min start last_count ≤ before
    → now ≡ joined_count before (faults_of w) → (well ≡ false → All F ws → Rose start before)
    → (well ≡ false) ⊎ (ends w ≡ DoorFault) → All F (ws ++ w ∷ []) → Rose start now
cause_more F faults_of ends well ws w start before now counts low is so_far (inl bad) all =
    risen_after start before now (faults_of w)
    (so_far bad (All-pop F (ws ++ w ∷ []) ws (Some w) refl all).0) is
cause_more F faults_of ends well ws w start before now counts low is so_far (inr bad) all =
    risen_now start before now (faults_of w) low is
    (counts w (All-pop F (ws ++ w ∷ []) ws (Some w) refl all).1 bad)
