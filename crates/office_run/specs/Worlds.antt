-- What a run does to all that it speaks to, by what its words ask for.
use Rattle.std.specs.Prelude.{◌≡◌, ◌≢◌, ◌⊎◌, ℕ, List, Option, Some, None}
use Rattle.office_outside.specs.Faults.{Rose}
use Rattle.office_outside.specs.Told.{HasNothingLeft}
use Rattle.office_outside.specs.Senses.{DiskSenses}
use Rattle.budget_command.specs.Input.{TakesAtMost}
use Rattle.journal_commands.specs.Exporting.{ExportsFrom}
use Rattle.journal_commands.specs.Following.{EndsFollowing, follow_world}
use Rattle.journal_commands.specs.Making.{Makes, journal_world}
use Rattle.journal_commands.specs.Migrating.{Migrates}
use Rattle.journal_commands.specs.Reporting.{Reports}
use Rattle.journal_commands.specs.Serving.{EndsServing, session_outside}
use Rattle.journal_commands.specs.declared.ExportEnd.{ExportEnd}
use Rattle.journal_commands.specs.declared.FollowingEnd.{FollowingEnd}
use Rattle.journal_commands.specs.declared.InitEnd.{InitEnd}
use Rattle.journal_commands.specs.declared.MigrateEnd.{MigrateEnd}
use Rattle.journal_commands.specs.declared.PipeEnd.{PipeEnd}
use Rattle.journal_commands.specs.declared.ReportEnd.{ReportEnd}
use Rattle.counters_command.specs.declared.CountersEnd.{CountersEnd}
use Rattle.office_run.specs.Commands.{most_taken}
use Rattle.office_run.specs.Counters.{SettledCounters, WritesRows}
use Rattle.office_run.specs.Endings.{line_of_status}
use Rattle.office_run.specs.Export.{SettledExport}
use Rattle.office_run.specs.Follow.{SettledFollow}
use Rattle.office_run.specs.Generate.{EndsGenerating, SettledGenerate}
use Rattle.office_run.specs.Init.{SettledInit}
use Rattle.office_run.specs.Migrate.{SettledMigrate}
use Rattle.office_run.specs.Pipe.{SettledPipe}
use Rattle.office_run.specs.Report.{SettledReport}
use Rattle.office_run.specs.Runs.{IsStatus, Prints, PrintsPart, GainsLine, TellsRefusal}
use Rattle.command_words.specs.declared.Invocation.{Invocation}
use Rattle.command_words.specs.declared.Invocation.TheVariants.{Answer, Counters, Export}
use Rattle.command_words.specs.declared.Invocation.TheVariants.{Follow, Generate, Init}
use Rattle.command_words.specs.declared.Invocation.TheVariants.{Migrate, Pipe, Report, Serve}
use Rattle.command_words.specs.declared.InputCommand.{InputCommand}
use Rattle.office_run.specs.declared.ending.TheConstants.{DONE, USAGE, READ_FAULT}
use Rattle.office_run.specs.declared.ending.TheConstants.{WRITE_FAULT, NO_MEMORY, REFUSED}
use Rattle.office_run.specs.declared.generate.GenerateEnd.{GenerateEnd}

-- All that a run speaks to, at one moment: the bytes that its input has left, what its output and
-- its faults sink hold, how often each of these has failed, its clock's readings to come, and its
-- disk.
pub record World (D : Type 0) : Type 0 where
  pub left : Option (List ℕ)
  pub reads : ℕ
  pub held : Option (List ℕ)
  pub writes : ℕ
  pub said : Option (List ℕ)
  pub tellings : ℕ
  pub to_come : ℕ → Option ℕ
  pub disk : D

abbrev pub world : {D : Type 0} → Option (List ℕ) → ℕ → Option (List ℕ) → ℕ → Option (List ℕ) → ℕ →
    (ℕ → Option ℕ) → D → World D
world left reads held writes said tellings to_come disk = record {
  left = left;
  reads = reads;
  held = held;
  writes = writes;
  said = said;
  tellings = tellings;
  to_come = to_come;
  disk = disk;
}

-- The faults sink gained this line, or counted a fault and gained a prefix of it.
abbrev pub SaysLine : {D : Type 0} → List ℕ → World D → World D → Type 0
SaysLine line before after = GainsLine line before.said after.said before.tellings after.tellings

-- the input, the output, the clock and the disk are as they were
pub record IsStill {D : Type 0} (before after : World D) : Type 0 where
  pub left : after.left ≡ before.left
  pub held : after.held ≡ before.held
  pub to_come : after.to_come ≡ before.to_come
  pub disk : after.disk ≡ before.disk

-- The words are no form of a command.
pub record RunsNothing {D : Type 0} (status : ℕ) (before after : World D) : Type 0 where
  pub status_is : status ≡ USAGE
  pub told : SaysLine (line_of_status USAGE) before after
  pub still : IsStill before after

-- Memory ran out while the words were read.
pub record RunsOutOfMemory {D : Type 0} (status : ℕ) (before after : World D) : Type 0 where
  pub status_is : status ≡ NO_MEMORY
  pub told : SaysLine (line_of_status NO_MEMORY) before after
  pub still : IsStill before after

-- A run of a command that is answered from the bytes of its input. Neither the clock nor the disk
-- is touched.
pub record RunsAnswer {D : Type 0} (command : InputCommand) (status : ℕ) (before after : World D) :
    Type 0 where
  pub status_is : IsStatus (Some command) before.left (Rose before.reads after.reads)
      (Rose before.writes after.writes) status
  -- DONE: the output gained just the answer's lines, and the input was read to its end.
  pub done : status ≡ DONE → Prints (Some command) before.left before.held after.held
  pub ended : status ≡ DONE → HasNothingLeft after.left
  pub silent : status ≡ DONE → after.said ≡ before.said
  -- REFUSED: the answer is a refusal, and its line says which.
  pub refused : status ≡ REFUSED →
      TellsRefusal (Some command) before.left before.said after.said before.tellings after.tellings
  -- Each other status has its line, and a fault's status has that object's count as its cause.
  pub told : status ≢ DONE → status ≢ REFUSED → SaysLine (line_of_status status) before after
  pub read : status ≡ READ_FAULT → Rose before.reads after.reads
  pub write : status ≡ WRITE_FAULT → Rose before.writes after.writes
  -- The output keeps what it held, but for a prefix of the lines where a write failed.
  pub part : status ≡ WRITE_FAULT → PrintsPart (Some command) before.left before.held after.held
  pub quiet : status ≢ DONE → status ≢ WRITE_FAULT → after.held ≡ before.held
  pub takes : TakesAtMost (most_taken (Some command)) before.left after.left
  -- the clock and the disk are as they were
  pub unread : after.to_come ≡ before.to_come
  pub untouched : after.disk ≡ before.disk

-- A run of `generate`, by how the printing of the summary ended. Neither the input nor the clock
-- nor the disk is touched.
pub record RunsGenerate {D : Type 0} (number status : ℕ) (before after : World D) : Type 0 where
  pub end : GenerateEnd
  pub settled : SettledGenerate end status before.said after.said before.tellings after.tellings
  pub generates :
      EndsGenerating number end before.held after.held before.writes after.writes
  pub untaken : after.left ≡ before.left
  pub unread : after.to_come ≡ before.to_come
  pub untouched : after.disk ≡ before.disk

-- A run of `counters`, by how the writing of the rows ended. Neither the clock nor the disk is
-- touched.
pub record RunsCounters {D : Type 0} (sli : List ℕ) (status : ℕ) (before after : World D) :
    Type 0 where
  pub end : CountersEnd
  pub settled : SettledCounters end status before.said after.said before.tellings after.tellings
  pub writes_rows : WritesRows sli end before.left after.left before.held after.held
  pub unread : after.to_come ≡ before.to_come
  pub untouched : after.disk ≡ before.disk

-- A run of `init`, by how the making of the journal ended. The input isn't touched.
pub record RunsInit {D : Type 0} (S : DiskSenses D) (origin : Option ℕ) (status : ℕ)
    (before after : World D) : Type 0 where
  pub end : InitEnd
  pub settled : SettledInit end status before.said after.said before.tellings after.tellings
  pub makes : Makes S origin end
      (journal_world before.disk before.to_come before.held)
      (journal_world after.disk after.to_come after.held)
  pub untaken : after.left ≡ before.left

-- A run of `migrate`, by how the upgrade of the journal's office ended. The input isn't touched.
pub record RunsMigrate {D : Type 0} (S : DiskSenses D) (status : ℕ) (before after : World D) :
    Type 0 where
  pub end : MigrateEnd
  pub settled : SettledMigrate end status before.said after.said before.tellings after.tellings
  pub migrates : Migrates S end
      (journal_world before.disk before.to_come before.held)
      (journal_world after.disk after.to_come after.held)
  pub untaken : after.left ≡ before.left

-- A run of `pipe`, by how the serving of the journal ended.
pub record RunsPipe {D : Type 0} (S : DiskSenses D) (status : ℕ) (before after : World D) :
    Type 0 where
  pub end : PipeEnd
  pub settled : SettledPipe end status before.said after.said before.tellings after.tellings
  pub serves : EndsServing S end (session_outside before.left before.to_come before.held)
      (session_outside after.left after.to_come after.held) before.disk after.disk

-- A run of `follow`, by how following over the journal ended. The clock isn't read.
pub record RunsFollow {D : Type 0} (S : DiskSenses D) (status : ℕ) (before after : World D) :
    Type 0 where
  pub end : FollowingEnd
  pub settled : SettledFollow end status before.said after.said before.tellings after.tellings
  pub follows : EndsFollowing S end
      (follow_world before.disk before.left before.reads before.held)
      (follow_world after.disk after.left after.reads after.held)
  pub unread : after.to_come ≡ before.to_come

-- A run of `report`, by how the printing of the report ended. The input isn't touched.
pub record RunsReport {D : Type 0} (S : DiskSenses D) (at : Option ℕ) (status : ℕ)
    (before after : World D) : Type 0 where
  pub end : ReportEnd
  pub settled : SettledReport end status before.said after.said before.tellings after.tellings
  pub reports : Reports S at end
      (journal_world before.disk before.to_come before.held)
      (journal_world after.disk after.to_come after.held)
  pub untaken : after.left ≡ before.left

-- A run of `export`, by how the export of the part ended. Neither the input nor the clock is
-- touched.
pub record RunsExport {D : Type 0} (S : DiskSenses D) (part status : ℕ) (before after : World D) :
    Type 0 where
  pub end : ExportEnd
  pub settled : SettledExport end status before.said after.said before.tellings after.tellings
  pub exports : ExportsFrom S part end before.held after.held before.disk after.disk
  pub untaken : after.left ≡ before.left
  pub unread : after.to_come ≡ before.to_come

-- A run of `serve` neither reads its input nor its clock: visits have their own. What it does to
-- the doors, the output and the disk is said by `RunsServe`.
pub record IsUnheard {D : Type 0} (before after : World D) : Type 0 where
  pub left : after.left ≡ before.left
  pub to_come : after.to_come ≡ before.to_come

-- What a run does that has read its words, by what they ask for.
abbrev pub Does : {D : Type 0} → DiskSenses D → Option Invocation → ℕ → World D → World D → Type 0
Does S None status before after = RunsNothing status before after
Does S (Some (Answer command)) status before after = RunsAnswer command status before after
Does S (Some (Generate number)) status before after = RunsGenerate number status before after
Does S (Some (Counters order)) status before after = RunsCounters order.sli status before after
Does S (Some (Init origin)) status before after = RunsInit S origin status before after
Does S (Some Migrate) status before after = RunsMigrate S status before after
Does S (Some (Export part)) status before after = RunsExport S part status before after
Does S (Some Pipe) status before after = RunsPipe S status before after
Does S (Some Follow) status before after = RunsFollow S status before after
Does S (Some (Report at)) status before after = RunsReport S at status before after
Does S (Some (Serve port)) status before after = IsUnheard before after

-- What a run does: what its words ask for, or memory ran out while they were read.
abbrev pub Runs : {D : Type 0} → DiskSenses D → Option Invocation → ℕ → World D → World D → Type 0
Runs S asked status before after =
    RunsOutOfMemory status before after ⊎ Does S asked status before after

-- The disk belongs to `init`, `migrate`, `pipe`, `follow`, `report` and `export`.
abbrev pub IsOffDisk : Option Invocation → Type 0
IsOffDisk None = Unit {0}
IsOffDisk (Some (Answer command)) = Unit {0}
IsOffDisk (Some (Generate number)) = Unit {0}
IsOffDisk (Some (Counters order)) = Unit {0}
IsOffDisk (Some (Init origin)) = ⊥
IsOffDisk (Some Migrate) = ⊥
IsOffDisk (Some (Export part)) = ⊥
IsOffDisk (Some Pipe) = ⊥
IsOffDisk (Some Follow) = ⊥
IsOffDisk (Some (Report at)) = ⊥
IsOffDisk (Some (Serve port)) = ⊥

-- The clock belongs to the same commands but `follow` and `export`.
abbrev pub IsOffClock : Option Invocation → Type 0
IsOffClock (Some (Export part)) = Unit {0}
IsOffClock (Some Follow) = Unit {0}
IsOffClock asked = IsOffDisk asked

-- The doors belong to `serve`.
abbrev pub IsOffDoors : Option Invocation → Type 0
IsOffDoors None = Unit {0}
IsOffDoors (Some (Answer command)) = Unit {0}
IsOffDoors (Some (Generate number)) = Unit {0}
IsOffDoors (Some (Counters order)) = Unit {0}
IsOffDoors (Some (Init origin)) = Unit {0}
IsOffDoors (Some Migrate) = Unit {0}
IsOffDoors (Some (Export part)) = Unit {0}
IsOffDoors (Some Pipe) = Unit {0}
IsOffDoors (Some Follow) = Unit {0}
IsOffDoors (Some (Report at)) = Unit {0}
IsOffDoors (Some (Serve port)) = ⊥
