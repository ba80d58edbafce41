-- A counter that keeps a tally.
use Rattle.std.specs.Prelude.{◌≡◌, ℕ, ◌||◌}
use Rattle.record_form.specs.declared.Outcome.{Outcome}
use Rattle.record_form.specs.declared.Request.{Request}
use Rattle.office_session.specs.Messages.{Asking}
use Rattle.generate_command.specs.Tallies.{is_lack, tally_with}
use Rattle.generate_command.specs.declared.tallying.Tallying.{Tallying}

-- it asks its counter, and tallies the outcome
pub record TallyAsks {T : Type 0} (asks : Asking T) (old : Tallying T) (reading : ℕ)
    (request : Request) (outcome : Outcome) (new : Tallying T) : Type 0 where
  pub asked : asks old.counter reading request outcome new.counter
  pub tallied : new.tally ≡ tally_with outcome old.tally
  pub lacking : new.lacks ≡ (old.lacks || is_lack outcome)
