-- What the statuses of `counters`, `generate`, `init`, `pipe` and `report` say.
use Rattle.std.proofs.Common.{◌≡◌, ◌<◌, ◌≤◌, ℕ, List, arith, inl, inr, subst}
use Rattle.std.specs.Prelude.{Option, Some}
use Rattle.office_outside.specs.Told.{Gained}
use Rattle.office_outside.specs.Senses.{DiskSenses}
use Rattle.counters_command.specs.Answer.{EndsCounters, EndsOver}
use Rattle.counters_command.specs.Laws.{GainsDifferences}
use Rattle.counters_command.proofs.LawLemmas.{done-is}
use Rattle.counters_command.specs.declared.CountersEnd.{CountersEnd}
use Rattle.counters_command.specs.declared.CountersEnd.TheVariants as counters
use Rattle.counters_command.specs.declared.CountersFault.{CountersFault}
use Rattle.message_session.specs.declared.SessionEnd.{SessionEnd}
use Rattle.message_session.specs.declared.SessionEnd.TheVariants as session
use Rattle.journal_commands.specs.Making.{JournalWorld, EndsMaking, HasHeader}
use Rattle.journal_commands.specs.Reporting.{EndsReporting, IsPrinted, IsUnprinted, OpensTo}
use Rattle.office_keep.specs.Opening.{IsBad, IsFoundOn}
use Rattle.journal_commands.specs.Serving.{EndsServing, SessionOutside}
use Rattle.journal_commands.specs.declared.InitEnd.{InitEnd}
use Rattle.journal_commands.specs.declared.InitEnd.TheVariants as init
use Rattle.journal_commands.specs.declared.PipeEnd.{PipeEnd}
use Rattle.journal_commands.specs.declared.PipeEnd.TheVariants as pipe
use Rattle.journal_commands.specs.declared.PrintEnd.TheVariants as printing
use Rattle.journal_commands.specs.declared.ReportEnd.{ReportEnd}
use Rattle.journal_commands.specs.declared.ReportEnd.TheVariants as report
use Rattle.office_keep.specs.declared.KeepFault.{KeepFault}
use Rattle.office_keep.specs.declared.KeepFault.TheVariants as unopened
use Rattle.office_run.specs.Counters.{SettledCounters}
use Rattle.office_run.specs.Generate.{EndsGenerating, PrintsSummary, SettledGenerate}
use Rattle.office_run.specs.Init.{SettledInit}
use Rattle.office_run.specs.Pipe.{SettledPipe, SettledSession}
use Rattle.office_run.specs.Report.{SettledReport}
use Rattle.office_run.specs.Unopened.{SettledUnopened}
use Rattle.office_run.specs.declared.ending.TheConstants.{BAD_FILE, DONE, REFUSED}
use Rattle.office_run.specs.declared.generate.GenerateEnd.{GenerateEnd}
use Rattle.office_run.specs.declared.generate.GenerateEnd.TheVariants as generate

module _ (sli bytes : List ℕ) (status : ℕ) (said said_after : Option (List ℕ))
    (told told_after : ℕ) (held held_after : Option (List ℕ)) where
  pub counters_done : (end : CountersEnd) →
      SettledCounters end status said said_after told told_after →
      EndsOver sli bytes end held held_after → status ≡ DONE →
      GainsDifferences sli bytes held held_after
  counters_done counters.Done s ends e = done-is sli bytes held held_after ends
  counters_done (counters.Refused fault) (inl s) ends e = absurd (omega (arith, s.0, e))
  counters_done (counters.Refused fault) (inr s) ends e = absurd (omega (arith, s.0, e))
  counters_done counters.ReadFault s ends e = absurd (omega (arith, s.0, e))
  counters_done counters.WriteFault s ends e = absurd (omega (arith, s.0, e))
  counters_done counters.NoMemory s ends e = absurd (omega (arith, s.0, e))

  pub counters_refused : (end : CountersEnd) →
      SettledCounters end status said said_after told told_after →
      EndsOver sli bytes end held held_after → status ≡ REFUSED →
      (fault : CountersFault) × EndsOver sli bytes (counters.Refused fault) held held_after
  counters_refused counters.Done s ends e = absurd (omega (arith, s.0, e))
  counters_refused (counters.Refused fault) s ends e = (fault, ends)
  counters_refused counters.ReadFault s ends e = absurd (omega (arith, s.0, e))
  counters_refused counters.WriteFault s ends e = absurd (omega (arith, s.0, e))
  counters_refused counters.NoMemory s ends e = absurd (omega (arith, s.0, e))

module _ (status : ℕ) (said said_after : Option (List ℕ)) (told told_after : ℕ) where
  pub counters_file : (end : CountersEnd) →
      SettledCounters end status said said_after told told_after → status ≡ BAD_FILE → ⊥
  counters_file counters.Done s e = omega (arith, s.0, e)
  counters_file (counters.Refused fault) (inl s) e = omega (arith, s.0, e)
  counters_file (counters.Refused fault) (inr s) e = omega (arith, s.0, e)
  counters_file counters.ReadFault s e = omega (arith, s.0, e)
  counters_file counters.WriteFault s e = omega (arith, s.0, e)
  counters_file counters.NoMemory s e = omega (arith, s.0, e)

-- the ends over the bytes that a source tells
pub ends_told : (sli bytes : List ℕ) (left : Option (List ℕ)) (end : CountersEnd)
    (held held_after : Option (List ℕ)) → left ≡ Some bytes →
    EndsCounters sli left end held held_after → EndsOver sli bytes end held held_after
ends_told sli bytes left end held held_after is ends =
    subst (λ (x : Option (List ℕ)). EndsCounters sli x end held held_after) is ends

pub generate_done : (number status : ℕ) (end : GenerateEnd) (said said_after : Option (List ℕ))
    (told told_after : ℕ) (held held_after : Option (List ℕ)) (writes writes_after : ℕ) →
    SettledGenerate end status said said_after told told_after →
    EndsGenerating number end held held_after writes writes_after → status ≡ DONE →
    PrintsSummary Gained number held held_after
generate_done number status generate.Done said said_after told told_after held held_after writes
    writes_after s ends e = ends
generate_done number status generate.WriteFault said said_after told told_after held held_after
    writes writes_after s ends e = absurd (omega (arith, s.0, e))
generate_done number status generate.NoMemory said said_after told told_after held held_after
    writes writes_after s ends e = absurd (omega (arith, s.0, e))

module _ {D : Type 0} (S : DiskSenses D) (status origin reading : ℕ)
    (old new : Option (List ℕ)) (before now : ℕ) (first last : JournalWorld D) where
  pub init_bad : (end : InitEnd) → SettledInit end status old new before now →
      EndsMaking S origin reading end first last →
      status ≡ BAD_FILE → (file : List ℕ) → S.content first.disk ≡ Some file → HasHeader file
  init_bad init.Done s ends e file read = absurd (omega (arith, s.0, e))
  init_bad init.OriginAboveClock s ends e file read = absurd (omega (arith, s.0, e))
  init_bad init.AlreadyThere s ends e file read = ends.1.header file read
  init_bad init.DiskFault s ends e file read = absurd (omega (arith, s.0, e))
  init_bad init.WriteFault s ends e file read = absurd (omega (arith, s.0, e))
  init_bad init.NoMemory s ends e file read = absurd (omega (arith, s.0, e))

  pub init_refused : (end : InitEnd) → SettledInit end status old new before now →
      EndsMaking S origin reading end first last → status ≡ REFUSED → reading < origin
  init_refused init.Done s ends e = absurd (omega (arith, s.0, e))
  init_refused init.OriginAboveClock s ends e = ends.0
  init_refused init.AlreadyThere s ends e = absurd (omega (arith, s.0, e))
  init_refused init.DiskFault s ends e = absurd (omega (arith, s.0, e))
  init_refused init.WriteFault s ends e = absurd (omega (arith, s.0, e))
  init_refused init.NoMemory s ends e = absurd (omega (arith, s.0, e))

  pub init_taken : (end : InitEnd) → SettledInit end status old new before now →
      EndsMaking S origin reading end first last → (status ≡ REFUSED → ⊥) → origin ≤ reading
  init_taken init.Done s ends e = ends.0
  init_taken init.OriginAboveClock s ends e = absurd (e s.0)
  init_taken init.AlreadyThere s ends e = ends.0
  init_taken init.DiskFault s ends e = ends.0
  init_taken init.WriteFault s ends e = ends.0
  init_taken init.NoMemory s ends e = ends.0

module _ (status : ℕ) (old new : Option (List ℕ)) (before now : ℕ) where
  session_bad : (end : SessionEnd) → SettledSession end status old new before now →
      status ≡ BAD_FILE → ⊥
  session_bad session.Done s e = omega (arith, s.0, e)
  session_bad session.Cut s e = omega (arith, s.0, e)
  session_bad session.ReadFault s e = omega (arith, s.0, e)
  session_bad session.WriteFault s e = omega (arith, s.0, e)
  session_bad session.NoMemory s e = omega (arith, s.0, e)

module _ (status : ℕ) (old new : Option (List ℕ)) (before now : ℕ) where
  pub unopened_bad : {D : Type 0} (S : DiskSenses D) (disk : D) (why : KeepFault) →
      SettledUnopened why status old new before now → IsFoundOn S why disk →
      status ≡ BAD_FILE → (file : List ℕ) → S.content disk ≡ Some file → IsBad file
  unopened_bad S disk unopened.AlreadyThere s found e file read = absurd found
  unopened_bad S disk unopened.NotAJournal s found e file read = inl (found file read)
  unopened_bad S disk (unopened.Damaged at) s found e file read = inr (at, found file read)
  unopened_bad S disk unopened.DiskFault s found e file read = absurd (omega (arith, s.0, e))
  unopened_bad S disk unopened.NoMemory s found e file read = absurd (omega (arith, s.0, e))

  pub unopened_not_done : (why : KeepFault) → SettledUnopened why status old new before now →
      status ≡ DONE → ⊥
  unopened_not_done unopened.AlreadyThere s e = omega (arith, s.0, e)
  unopened_not_done unopened.NotAJournal s e = omega (arith, s.0, e)
  unopened_not_done (unopened.Damaged at) (inl s) e = omega (arith, s.0, e)
  unopened_not_done (unopened.Damaged at) (inr s) e = omega (arith, s.0, e)
  unopened_not_done unopened.DiskFault s e = omega (arith, s.0, e)
  unopened_not_done unopened.NoMemory s e = omega (arith, s.0, e)

  pub unopened_not_refused : (why : KeepFault) → SettledUnopened why status old new before now →
      status ≡ REFUSED → ⊥
  unopened_not_refused unopened.AlreadyThere s e = omega (arith, s.0, e)
  unopened_not_refused unopened.NotAJournal s e = omega (arith, s.0, e)
  unopened_not_refused (unopened.Damaged at) (inl s) e = omega (arith, s.0, e)
  unopened_not_refused (unopened.Damaged at) (inr s) e = omega (arith, s.0, e)
  unopened_not_refused unopened.DiskFault s e = omega (arith, s.0, e)
  unopened_not_refused unopened.NoMemory s e = omega (arith, s.0, e)

module _ {D : Type 0} (S : DiskSenses D) (status : ℕ)
    (old new : Option (List ℕ)) (before now : ℕ) (first last : SessionOutside)
    (disk after : D) where
  pub pipe_bad : (end : PipeEnd) → SettledPipe end status old new before now →
      EndsServing S end first last disk after →
      status ≡ BAD_FILE → (file : List ℕ) → S.content disk ≡ Some file → IsBad file
  pipe_bad (pipe.Served end) s ends e file read =
      absurd (session_bad status old new before now end s e)
  pipe_bad (pipe.Unopened why) s ends e file read =
      unopened_bad status old new before now S disk why s ends.0 e file read

module _ {D : Type 0} (S : DiskSenses D) (asked : Option ℕ) (reading status : ℕ)
    (old new : Option (List ℕ)) (before now : ℕ) (first last : JournalWorld D) where
  pub report_bad : (end : ReportEnd) → SettledReport end status old new before now →
      EndsReporting S asked reading end first last →
      status ≡ BAD_FILE → (file : List ℕ) → S.content first.disk ≡ Some file → IsBad file
  report_bad (report.Opened printing.Done) s ends e file read = absurd (omega (arith, s.0, e))
  report_bad (report.Opened printing.OutOfRange) s ends e file read =
      absurd (omega (arith, s.0, e))
  report_bad (report.Opened printing.WriteFault) s ends e file read =
      absurd (omega (arith, s.0, e))
  report_bad (report.Opened printing.NoMemory) s ends e file read = absurd (omega (arith, s.0, e))
  report_bad (report.Unopened why) s ends e file read =
      unopened_bad status old new before now S first.disk why s ends.0 e file read

  pub report_refused : (end : ReportEnd) → SettledReport end status old new before now →
      EndsReporting S asked reading end first last → status ≡ REFUSED →
      OpensTo S (IsUnprinted asked reading first.held last.held) first.disk last.disk
  report_refused (report.Opened printing.Done) s ends e = absurd (omega (arith, s.0, e))
  report_refused (report.Opened printing.OutOfRange) s ends e = ends
  report_refused (report.Opened printing.WriteFault) s ends e = absurd (omega (arith, s.0, e))
  report_refused (report.Opened printing.NoMemory) s ends e = absurd (omega (arith, s.0, e))
  report_refused (report.Unopened why) s ends e =
      absurd (unopened_not_refused status old new before now why s e)

  pub report_done : (end : ReportEnd) → SettledReport end status old new before now →
      EndsReporting S asked reading end first last → status ≡ DONE →
      OpensTo S (IsPrinted Gained asked reading first.held last.held) first.disk last.disk
  report_done (report.Opened printing.Done) s ends e = ends
  report_done (report.Opened printing.OutOfRange) s ends e = absurd (omega (arith, s.0, e))
  report_done (report.Opened printing.WriteFault) s ends e = absurd (omega (arith, s.0, e))
  report_done (report.Opened printing.NoMemory) s ends e = absurd (omega (arith, s.0, e))
  report_done (report.Unopened why) s ends e =
      absurd (unopened_not_done status old new before now why s e)
