-- What a pass has seen grows through visits.
use Rattle.std.proofs.Common.{List, [], ◌∷◌, sym, subst}
use Rattle.turn_desk.specs.Passes.{PassState}
use Rattle.office_doors.specs.declared.Visit.{Visit}
use Rattle.office_counter.proofs.Steps.{extends_still}
use Rattle.record_form.specs.Laws.{EntriesAreReadBack}
use Rattle.office_session.specs.Messages.{AnswersMessage, refusal_text}
use Rattle.turn_counter.specs.Seen.{office_seen, standing_of}
use Rattle.turn_counter.specs.Stepping.{turn_steps}
use Rattle.turn_counter.specs.Turns.{TurnAsks}
use Rattle.own_counter.specs.Requests.{turns_of}
use Rattle.turn_counter.proofs.Asked.{Does, does_both, does_none, session_does}
use Rattle.turn_counter.proofs.Staying.{end_stays, stays_both, stays_still}
use Rattle.turn_counter.specs.Holding.{StaysAtDesk}
use Rattle.visit_workers.specs.Visits.{Chain, VisitSenses, Service, visit_world}
use Rattle.visit_workers.proofs.Growing.{chain_knows}
use Rattle.office_serving.specs.Asked.{turns_of_chain}
use Rattle.office_serving.specs.Workers.{GoesOn}
use Rattle.office_outside.specs.Senses.{DiskSenses}

pub goes_still : (p : PassState) → GoesOn p p
goes_still p = record {
  stays = stays_still p;
  seen = extends_still (office_seen p);
  owned = λ owned. owned;
}

module _ {D I O C : Type 0} (S : DiskSenses D) (look : VisitSenses I O C) where
  chain_stays : (old : PassState) (services : List (Service (Visit I O C))) (new : PassState)
      → Chain (TurnAsks S) look old services new → StaysAtDesk old new
  chain_stays old [] new same =
      subst (λ (p : PassState). StaysAtDesk old p) (sym same) (stays_still old)
  chain_stays old (s ∷ ss) new (mid, serves, rest) =
      stays_both old mid new
      (end_stays S refusal_text serves.end (visit_world look s.visit old)
      (visit_world look s.given mid) serves.ends)
      (chain_stays mid ss new rest)

  pub chain_goes : (old : PassState) (services : List (Service (Visit I O C))) (new : PassState)
      → Chain (TurnAsks S) look old services new → GoesOn old new
  chain_goes old services new chain =
      let knows = chain_knows (TurnAsks S) standing_of (turn_steps S) look old services new chain in
      record {
        stays = chain_stays old services new chain;
        seen = knows.seen;
        owned = knows.owned;
      }

  -- a worker's pass makes what the messages of its visits ask for
  pub chain_does : EntriesAreReadBack → (old : PassState)
      (services : List (Service (Visit I O C))) (new : PassState)
      (chain : Chain (TurnAsks S) look old services new)
      → Does (turns_of_chain (TurnAsks S) look old services new chain) old new
  chain_does back old [] new same =
      subst (λ (p : PassState). Does [] old p) (sym same) (does_none old)
  chain_does back old (s ∷ ss) new (mid, serves, rest) =
      does_both (turns_of (AnswersMessage (TurnAsks S)) refusal_text serves.end
      (visit_world look s.visit old) (visit_world look s.given mid) serves.ends)
      (turns_of_chain (TurnAsks S) look mid ss new rest) old mid new
      (session_does back S refusal_text serves.end (visit_world look s.visit old)
      (visit_world look s.given mid) serves.ends)
      (chain_does back mid ss new rest)
