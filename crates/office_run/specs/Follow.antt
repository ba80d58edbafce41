-- How `follow` ends, in statuses and lines.
use Rattle.std.specs.Prelude.{◌≡◌, ◌⊎◌, ℕ, ◌≤◌, List, ◌++◌, Option, Some, codes, length, take}
use Rattle.std.specs.Fmt.{decimal}
use Rattle.office_outside.specs.Disk.{All, IsQuiet, LeavesOnly}
use Rattle.office_outside.specs.Senses.{DiskSenses}
use Rattle.record_form.specs.declared.Entry.{Entry}
use Rattle.office_history.specs.Legal.{IsLegal, office}
use Rattle.office_keep.specs.Files.{StandsFor}
use Rattle.follow_terms.specs.Prefixes.{Asked, AreFeedsOf, furthest}
use Rattle.follow_laws.specs.Laws.{IsKeepable}
use Rattle.office_follow.specs.Followed.{StandsForFront}
use Rattle.follow_terms.specs.declared.FollowEnd.{FollowEnd}
use Rattle.follow_terms.specs.declared.FollowEnd.TheVariants as follow
use Rattle.journal_commands.specs.declared.FollowingEnd.{FollowingEnd}
use Rattle.journal_commands.specs.declared.FollowingEnd.TheVariants.{Done, NoMemory, Stopped}
use Rattle.journal_commands.specs.declared.FollowingEnd.TheVariants.{Unopened, WriteFault}
use Rattle.office_run.specs.Runs.{EndsSaying, EndsWith}
use Rattle.office_run.specs.Unopened.{SettledUnopened}
use Rattle.office_run.specs.declared.ending.TheConstants as statuses

-- A refusal that names a number has its line, which tells it; where the line can't be made for want
-- of memory, that is the ending.
abbrev pub numbered_line : List ℕ → ℕ → List ℕ
numbered_line words number =
    codes "slo_office: " ++ (words ++ (codes " at " ++ (decimal number ++ codes "\n")))

abbrev pub origin_line : ℕ → List ℕ
origin_line origin = codes "slo_office: other origin " ++ (decimal origin ++ codes "\n")

abbrev pub SettledLine : List ℕ → ℕ → Option (List ℕ) → Option (List ℕ) → ℕ → ℕ → Type 0
SettledLine line status old new before now =
    EndsSaying statuses.REFUSED line status old new before now
    ⊎ EndsWith statuses.NO_MEMORY status old new before now

-- Each end of following before that of the input has its status, and the faults sink tells its
-- line.
abbrev pub SettledStop : FollowEnd → ℕ → Option (List ℕ) → Option (List ℕ) → ℕ → ℕ → Type 0
SettledStop follow.Done status old new before now = (status ≡ statuses.DONE) × (new ≡ old)
SettledStop follow.ReadFault status old new before now =
    EndsWith statuses.READ_FAULT status old new before now
SettledStop follow.TooLarge status old new before now =
    EndsSaying statuses.REFUSED (codes "slo_office: input too large\n") status old new before now
SettledStop follow.Cut status old new before now =
    EndsSaying statuses.REFUSED (codes "slo_office: cut\n") status old new before now
SettledStop (follow.Broken at) status old new before now =
    SettledLine (numbered_line (codes "feed broken") at) status old new before now
SettledStop (follow.OtherOrigin origin) status old new before now =
    SettledLine (origin_line origin) status old new before now
SettledStop (follow.Gap at) status old new before now =
    SettledLine (numbered_line (codes "gap") at) status old new before now
SettledStop (follow.Diverges at) status old new before now =
    SettledLine (numbered_line (codes "diverges") at) status old new before now
SettledStop (follow.Illegal at) status old new before now =
    SettledLine (numbered_line (codes "illegal") at) status old new before now
SettledStop follow.JournalFull status old new before now =
    EndsSaying statuses.REFUSED (codes "slo_office: journal full\n") status old new before now
SettledStop follow.DiskFault status old new before now =
    EndsWith statuses.DISK_FAULT status old new before now
SettledStop follow.NoMemory status old new before now =
    EndsWith statuses.NO_MEMORY status old new before now

-- Each end of `follow`: where all was followed it tells nothing on the faults sink.
abbrev pub SettledFollow : FollowingEnd → ℕ → Option (List ℕ) → Option (List ℕ) → ℕ → ℕ → Type 0
SettledFollow Done status old new before now = (status ≡ statuses.DONE) × (new ≡ old)
SettledFollow (Stopped stop) status old new before now = SettledStop stop status old new before now
SettledFollow WriteFault status old new before now =
    EndsWith statuses.WRITE_FAULT status old new before now
SettledFollow NoMemory status old new before now =
    EndsWith statuses.NO_MEMORY status old new before now
SettledFollow (Unopened why) status old new before now =
    SettledUnopened why status old new before now

-- What `follow` leaves over feeds of fronts of one history, where the file stood for the front of
-- so many entries: from the opening on a stop left a front that begins with this one, and where the
-- run is done the disk stands for the front that reaches so far.
pub record LeavesFronts {D : Type 0} (S : DiskSenses D) (origin : ℕ) (g : List Entry)
    (held reach status : ℕ) (before after : D) : Type 0 where
  pub opened : D
  pub quiet : IsQuiet S before opened
  pub moments : LeavesOnly S opened after (StandsForFront origin g held)
  pub complete : status ≡ statuses.DONE
      → All (StandsFor (office origin (take reach g))) (S.images after)

-- the history, how many entries of it the file holds, what feeds of it the input is
abbrev pub LeadsRun : {D : Type 0} → DiskSenses D → ℕ → D → D → Option (List ℕ) → Type 0
LeadsRun S status before after left = (origin : ℕ) (g : List Entry) (n : ℕ) (asked : List Asked)
    (file bytes : List ℕ) → IsLegal origin g → IsKeepable origin g → n ≤ length g
    → S.content before ≡ Some file → StandsFor (office origin (take n g)) file
    → left ≡ Some bytes → AreFeedsOf origin g asked bytes
    → IsQuiet S before after ⊎ LeavesFronts S origin g n (furthest g n asked) status before after
