-- What the following of feeds over a journal's file does.
use Rattle.std.specs.Prelude.{◌≡◌, ℕ, List, [], ◌∷◌, ◌++◌, codes, length, Option}
use Rattle.std.specs.Fmt.{decimal}
use Rattle.office_outside.specs.Disk.{IsQuiet}
use Rattle.office_outside.specs.Senses.{DiskSenses}
use Rattle.office_outside.specs.Told.{Gained, GainedPrefix}
use Rattle.office_keep.specs.Office.{OfficeOn}
use Rattle.office_keep.specs.Opening.{IsFoundOn, Opens}
use Rattle.follow_terms.specs.declared.FollowEnd.{FollowEnd}
use Rattle.follow_terms.specs.declared.FollowEnd.TheVariants as follow_ends
use Rattle.office_follow.specs.Followed.{HasFollowedInput, LeadsTo}
use Rattle.journal_commands.specs.declared.following.FollowingEnd.{FollowingEnd}
use Rattle.journal_commands.specs.declared.following.FollowingEnd.TheVariants as ends

-- The line that tells how many entries there are.
abbrev pub entries_line : ℕ → List ℕ
entries_line entries = codes "entries " ++ (decimal entries ++ 10 ∷ [])

-- What following speaks to, at one moment: the disk, of the input the bytes that are left and how
-- often it failed, and the bytes that the output holds.
pub record FollowWorld (D : Type 0) : Type 0 where
  pub disk : D
  pub left : Option (List ℕ)
  pub reads : ℕ
  pub held : Option (List ℕ)

abbrev pub follow_world : {D : Type 0} → D → Option (List ℕ) → ℕ → Option (List ℕ) → FollowWorld D
follow_world disk left reads held =
    record { disk = disk; left = left; reads = reads; held = held }

-- How the end of following is told: where all was followed, by a line on the output, or a part of
-- it where the output failed; else by nothing there.
abbrev pub TellsEnd : FollowEnd → ℕ → FollowingEnd → Option (List ℕ) → Option (List ℕ) → Type 0
TellsEnd end entries ends.Done old new =
    (end ≡ follow_ends.Done) × Gained (entries_line entries) old new
TellsEnd end entries (ends.Stopped stop) old new =
    (end ≡ stop) × (stop ≡ follow_ends.Done → ⊥) × (new ≡ old)
TellsEnd end entries ends.WriteFault old new =
    (end ≡ follow_ends.Done) × GainedPrefix (entries_line entries) old new
TellsEnd end entries ends.NoMemory old new = (end ≡ follow_ends.Done) × (new ≡ old)
TellsEnd end entries (ends.Unopened why) old new = ⊥

-- Over the office that was opened the input was followed to this end, and it was told so. Feeds of
-- fronts of one history lead to it. The disk is handed back.
pub record EndsOverOffice {D : Type 0} (S : DiskSenses D) (office : OfficeOn D)
    (end : FollowingEnd) (old new : FollowWorld D) : Type 0 where
  pub last : OfficeOn D
  pub came_to : FollowEnd
  pub followed : HasFollowedInput S office old.left old.reads came_to last new.reads
  pub leads : LeadsTo S office old.left came_to last
  pub told : TellsEnd came_to (length last.office.history) end old.held new.held
  pub handed_back : new.disk ≡ last.disk

-- What each end says: the input was followed over the office that was opened, or nothing was
-- touched but the disk, on which no image came up.
abbrev pub EndsFollowing : {D : Type 0} → DiskSenses D → FollowingEnd → FollowWorld D
    → FollowWorld D → Type 0
EndsFollowing S (ends.Unopened why) old new = IsFoundOn S why old.disk
    × IsQuiet S old.disk new.disk × (new.left ≡ old.left) × (new.held ≡ old.held)
EndsFollowing S ends.Done old new =
    Opens S (λ office. EndsOverOffice S office ends.Done old new) old.disk
EndsFollowing S (ends.Stopped stop) old new =
    Opens S (λ office. EndsOverOffice S office (ends.Stopped stop) old new) old.disk
EndsFollowing S ends.WriteFault old new =
    Opens S (λ office. EndsOverOffice S office ends.WriteFault old new) old.disk
EndsFollowing S ends.NoMemory old new =
    Opens S (λ office. EndsOverOffice S office ends.NoMemory old new) old.disk
