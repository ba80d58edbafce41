-- What workers at one desk do, each with a pass and a door of its own.
use Rattle.std.specs.Prelude.{◌≡◌, List, [], ◌∷◌, ◌++◌, All, flat_map, map, Option}
use Rattle.turn_desk.specs.Histories.{Distinct}
use Rattle.turn_desk.specs.Passes.{PassState}
use Rattle.record_form.specs.declared.Entry.{Entry}
use Rattle.office_history.specs.History.{Office}
use Rattle.office_counter.specs.Laws.{Extends, IsOwned}
use Rattle.message_session.specs.Sessions.{Turn}
use Rattle.turn_counter.specs.Holding.{StaysAtDesk}
use Rattle.turn_counter.specs.Seen.{office_seen, standing_of}
use Rattle.visit_workers.specs.Workers.{WorkerSenses, ServesDoors}
use Rattle.office_serving.specs.Asked.{AddsNoOther, turns_of_chain}

-- what workers ask by their passes, and how one looks at their doors and visits
abbrev pub DeskSenses : (A I O C : Type 0) → Type 1
DeskSenses A I O C = WorkerSenses PassState A I O C

-- A pass at the same desk has seen what the other had seen, and then perhaps more.
pub record GoesOn (old new : PassState) : Type 0 where
  pub stays : StaysAtDesk old new
  pub seen : Extends (office_seen old) (office_seen new)
  pub owned : IsOwned (standing_of old) → IsOwned (standing_of new)

-- a pass like this for each of the doors
abbrev pub passes_like : {A : Type 0} → PassState → List A → List PassState
passes_like start doors = map (λ door. start) doors

-- the turns of all sessions over visits at these doors
abbrev pub turns_of_workers : {A I O C : Type 0} (worker : DeskSenses A I O C)
    (starts : List PassState) (opened closed : List A) (ends : List PassState)
    → ServesDoors worker starts opened closed ends → List Turn
turns_of_workers worker (start ∷ starts) (opened ∷ more) (closed ∷ rest) (end ∷ ends)
    (works, others) =
    turns_of_chain worker.asks worker.look start works.services end works.chain
    ++ turns_of_workers worker starts more rest ends others
turns_of_workers worker starts opened closed ends works = []

-- Workers served these doors. Each began with the office as it was handed in, and had made none of
-- its entries; the office at the end extends what each has seen. The places of the entries that a
-- worker made lie in what it has seen, and no two workers made one entry. Each entry behind those
-- of the first office is the one that was in doubt then, or a message of one of the sessions asks
-- for it.
pub record WorkersServe {A I O C : Type 0} (worker : DeskSenses A I O C) (first : Office)
    (doubt : Option Entry) (last : Office) (opened closed : List A) : Type 0 where
  pub start : PassState
  pub begins : office_seen start ≡ first
  pub none_own : start.own ≡ []
  pub none_failed : start.faults ≡ 0
  pub ends : List PassState
  pub works : ServesDoors worker (passes_like start opened) opened closed ends
  pub extended : All (λ p. Extends (office_seen p) last) ends
  pub owned : All (λ p. IsOwned (standing_of p)) ends
  pub apart : Distinct (flat_map (λ p. p.own) ends)
  pub no_other : AddsNoOther
      (turns_of_workers worker (passes_like start opened) opened closed ends works) first doubt last
