-- From how a command ended to the status of the run and to what the faults sink is told.
use Rattle.std.proofs.Common.{◌≡◌, ℕ, List, arith, refl, inl, inr}
use Rattle.std.specs.Prelude.{Option, Some, Ok, Err}
use Rattle.office_run.specs.Answer.{Answers}
use Rattle.office_run.specs.Runs.{IsStatus, Settled, TellsRefusal}
use Rattle.command_words.specs.declared.InputCommand.{InputCommand}
use Rattle.office_run.specs.declared.ending.RunRefusal.{RunRefusal}
use Rattle.office_run.specs.declared.ending.Ending.{Ending}
use Rattle.office_run.specs.declared.ending.Ending.TheVariants.{Done, Usage, ReadFault}
use Rattle.office_run.specs.declared.ending.Ending.TheVariants.{WriteFault, NoMemory, Refused}
use Rattle.office_run.specs.declared.ending.TheConstants.{REFUSED}

module _ (command : InputCommand) (left : Option (List ℕ)) (status : ℕ) (old new : Option (List ℕ))
    (before now : ℕ) where
  pub status-settled : (read write : Type 0) (ending : Ending) →
      (ending ≡ Done → (text : List ℕ) × Answers command left (Ok text)) →
      ((refusal : RunRefusal) → ending ≡ Refused refusal → Answers command left (Err refusal)) →
      (ending ≡ ReadFault → read) → (ending ≡ WriteFault → write) → (ending ≡ Usage → ⊥) →
      Settled ending status old new before now → IsStatus (Some command) left read write status
  status-settled read write Done done refused r w u s =
      let (text, answer) = done refl in inl (Ok text, answer, s.0)
  status-settled read write Usage done refused r w u s = absurd (u refl)
  status-settled read write ReadFault done refused r w u s = inr (inr (inl (s.0, r refl)))
  status-settled read write WriteFault done refused r w u s = inr (inr (inr (s.0, w refl)))
  status-settled read write NoMemory done refused r w u s = inr (inl s.0)
  status-settled read write (Refused refusal) done refused r w u (inl s) =
      inl (Err refusal, refused refusal refl, s.0)
  status-settled read write (Refused refusal) done refused r w u (inr s) = inr (inl s.0)

  pub refusal-settled : (ending : Ending) →
      ((refusal : RunRefusal) → ending ≡ Refused refusal → Answers command left (Err refusal)) →
      Settled ending status old new before now → status ≡ REFUSED →
      TellsRefusal (Some command) left old new before now
  refusal-settled Done refused s e = absurd (omega (arith, s.0, e))
  refusal-settled Usage refused s e = absurd (omega (arith, s.0, e))
  refusal-settled ReadFault refused s e = absurd (omega (arith, s.0, e))
  refusal-settled WriteFault refused s e = absurd (omega (arith, s.0, e))
  refusal-settled NoMemory refused s e = absurd (omega (arith, s.0, e))
  refusal-settled (Refused refusal) refused (inl s) e =
      record { refusal = refusal; answer = refused refusal refl; told = s.1 }
  refusal-settled (Refused refusal) refused (inr s) e = absurd (omega (arith, s.0, e))
