-- What a counter knows goes on through visits.
use Rattle.std.proofs.Common.{ℕ, List, [], ◌∷◌, sym, subst}
use Rattle.office_doors.specs.declared.Visit.{Visit}
use Rattle.record_form.specs.declared.Outcome.{Outcome}
use Rattle.record_form.specs.declared.Request.{Request}
use Rattle.office_counter.specs.Steps.{Standing, Step}
use Rattle.office_counter.proofs.Steps.{extends_both, extends_still}
use Rattle.office_session.specs.Messages.{Asking}
use Rattle.office_session.proofs.Owning.{end_extends, end_owned}
use Rattle.visit_workers.specs.Visits.{Chain, VisitSenses, Service, ServesVisit, visit_world}
use Rattle.visit_workers.specs.Workers.{KnowsMore}

knows_still : (s : Standing) → KnowsMore s s
knows_still s = record { seen = extends_still s.office; owned = λ owned. owned }

knows_both : (a b c : Standing) → KnowsMore a b → KnowsMore b c → KnowsMore a c
knows_both a b c first second = record {
  seen = extends_both a.office b.office c.office first.seen second.seen;
  owned = λ owned. second.owned (first.owned owned);
}

module _ {T I O C : Type 0} (asks : Asking T) (standing : T → Standing)
    (steps : (old : T) (reading : ℕ) (request : Request) (outcome : Outcome) (new : T)
    → asks old reading request outcome new
    → Step (standing old) reading request outcome (standing new)) (look : VisitSenses I O C) where
  visit_knows : (visit given : Visit I O C) (old new : T)
      → ServesVisit asks look visit given old new → KnowsMore (standing old) (standing new)
  visit_knows visit given old new serves = record {
    seen = end_extends asks standing steps serves.end (visit_world look visit old)
        (visit_world look given new) serves.ends;
    owned = end_owned asks standing steps serves.end (visit_world look visit old)
        (visit_world look given new) serves.ends;
  }

  pub chain_knows : (old : T) (services : List (Service (Visit I O C))) (new : T)
      → Chain asks look old services new → KnowsMore (standing old) (standing new)
  chain_knows old [] new same =
      subst (λ (t : T). KnowsMore (standing old) (standing t)) (sym same)
      (knows_still (standing old))
  chain_knows old (s ∷ ss) new (mid, served, rest) =
      knows_both (standing old) (standing mid) (standing new)
      (visit_knows s.visit s.given old mid served) (chain_knows mid ss new rest)
