-- The moves as requests that come at readings of a clock.
use Rattle.std.specs.Prelude.{◌≡◌, ℕ, List, [], ◌∷◌, Option, length}
use Rattle.record_form.specs.declared.Command.{Command}
use Rattle.record_form.specs.declared.Entry.{Entry}
use Rattle.record_form.specs.declared.Outcome.{Outcome}
use Rattle.record_form.specs.declared.Outcome.TheVariants.{JournalFull}
use Rattle.record_form.specs.declared.Request.TheVariants.{Change}
use Rattle.office_history.specs.History.{Office, moment_of}
use Rattle.office_history.specs.Outcomes.{outcome_of}
use Rattle.office_history.specs.Legal.{IsLegal, office}
use Rattle.office_counter.specs.Steps.{Comes, with_made}
use Rattle.export_terms.specs.Moves.{moves}
use Rattle.export_laws.specs.Replay.{IsEqualOffice, after}
use Rattle.export_laws.specs.Anew.{AreSmall, AreReadings}

abbrev pub IsNotFull : Outcome → Type 0
IsNotFull outcome = (needed tail : ℕ) → outcome ≡ JournalFull needed tail → ⊥

-- Requests come one after another at these readings, each to its outcome, none to JournalFull.
abbrev pub Come : Office → List Command → List ℕ → List Outcome → Office → Type 0
Come o [] [] [] last = last ≡ o
Come o (c ∷ cs) (r ∷ rs) (outcome ∷ outcomes) last = (made : Option Entry)
    × Comes o r (Change c) outcome made × IsNotFull outcome
    × Come (with_made o made) cs rs outcomes last
Come o _ _ _ last = ⊥

-- each outcome is that of an accepted command
abbrev pub AreOutcomes : Office → List Command → List ℕ → List Outcome → Type 0
AreOutcomes o [] [] [] = Unit {0}
AreOutcomes o (c ∷ cs) (r ∷ rs) (outcome ∷ outcomes) = (outcome ≡ outcome_of o (moment_of o r) c)
    × AreOutcomes (after o r c) cs rs outcomes
AreOutcomes o _ _ _ = ⊥

abbrev pub ComingMakesEqual : Type 0
ComingMakesEqual = (origin : ℕ) (h : List Entry) (readings : List ℕ) (outcomes : List Outcome)
    (last : Office) → IsLegal origin h → AreSmall h
    → AreReadings origin h (length (moves (office origin h))) readings
    → Come (office origin []) (moves (office origin h)) readings outcomes last
    → AreOutcomes (office origin []) (moves (office origin h)) readings outcomes
    × IsEqualOffice (office origin h) last × IsLegal origin last.history
