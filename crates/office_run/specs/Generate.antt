-- How `generate` ends, in statuses and lines.
use Rattle.std.specs.Prelude.{◌≡◌, ℕ, List, Option}
use Rattle.office_outside.specs.Faults.{Rose}
use Rattle.office_outside.specs.Told.{Gained, GainedPrefix}
use Rattle.generate_command.specs.Generated.{IsGenerated}
use Rattle.office_run.specs.Runs.{EndsWith}
use Rattle.office_run.specs.declared.generate.GenerateEnd.{GenerateEnd}
use Rattle.office_run.specs.declared.generate.GenerateEnd.TheVariants.{Done, WriteFault}
use Rattle.office_run.specs.declared.generate.GenerateEnd.TheVariants.{NoMemory}
use Rattle.office_run.specs.declared.ending.TheConstants as statuses

-- The output gained so much of the summary of the stream of this number.
pub record PrintsSummary (Gains : List ℕ → Option (List ℕ) → Option (List ℕ) → Type 0) (number : ℕ)
    (old new : Option (List ℕ)) : Type 0 where
  pub text : List ℕ
  pub exact : IsGenerated number text
  pub gained : Gains text old new

-- What each end says of the output, which counted its faults so before and after.
abbrev pub EndsGenerating : ℕ → GenerateEnd → Option (List ℕ) → Option (List ℕ) → ℕ → ℕ → Type 0
EndsGenerating number Done old new before now = PrintsSummary Gained number old new
EndsGenerating number WriteFault old new before now =
    PrintsSummary GainedPrefix number old new × Rose before now
EndsGenerating number NoMemory old new before now = new ≡ old

-- Each end has its status, and the faults sink tells its line; where the summary was printed, it
-- tells nothing.
abbrev pub SettledGenerate : GenerateEnd → ℕ → Option (List ℕ) → Option (List ℕ) → ℕ → ℕ → Type 0
SettledGenerate Done status old new before now = (status ≡ statuses.DONE) × (new ≡ old)
SettledGenerate WriteFault status old new before now =
    EndsWith statuses.WRITE_FAULT status old new before now
SettledGenerate NoMemory status old new before now =
    EndsWith statuses.NO_MEMORY status old new before now
