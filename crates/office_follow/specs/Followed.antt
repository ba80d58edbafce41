-- What the following of an input does, whole.
use Rattle.std.specs.Prelude.{◌≡◌, ℕ, ◌≤◌, List, Option, Some, length, take}
use Rattle.office_outside.specs.Disk.{All, LeavesOnly}
use Rattle.office_outside.specs.Senses.{DiskSenses}
use Rattle.record_form.specs.declared.Entry.{Entry}
use Rattle.office_history.specs.Legal.{IsLegal, office}
use Rattle.office_keep.specs.Files.{OfficeIsWhole, StandsFor}
use Rattle.office_keep.specs.Office.{OfficeOn, StandsSettled}
use Rattle.follow_terms.specs.declared.FollowEnd.{FollowEnd}
use Rattle.follow_terms.specs.Follows.{Between}
use Rattle.follow_terms.specs.Prefixes.{Asked, AreFeedsOf, furthest}
use Rattle.follow_laws.specs.Laws.{HasFollowed, IsKeepable}
use Rattle.office_follow.specs.Points.{EndsFrom, point}

-- An office followed an input from its start to this end; the images of its disk stand for it, or
-- for it with the entry in doubt, and its history is legal.
pub record HasFollowedInput {D : Type 0} (S : DiskSenses D) (old : OfficeOn D)
    (left : Option (List ℕ)) (faults : ℕ) (end : FollowEnd) (new : OfficeOn D) (now : ℕ)
    : Type 0 where
  pub ended : EndsFrom S Between (point old 0 left faults) end new now
  pub stands : All (StandsSettled new.office new.doubt) (S.images new.disk)
  pub whole : OfficeIsWhole new.office

-- The file stands for a front of the history, which begins with so many entries.
pub record StandsForFront (origin : ℕ) (g : List Entry) (held : ℕ) (file : List ℕ) : Type 0 where
  pub reached : ℕ
  pub least : held ≤ reached
  pub most : reached ≤ length g
  pub stands : StandsFor (office origin (take reached g)) file

-- Over true feeds the office has come towards their history, and a stop left a front of it.
pub record IsLedTo {D : Type 0} (S : DiskSenses D) (origin : ℕ) (g : List Entry) (held reach : ℕ)
    (old : OfficeOn D) (end : FollowEnd) (new : OfficeOn D) : Type 0 where
  pub followed : HasFollowed origin g held reach new.office end
  pub moments : LeavesOnly S old.disk new.disk (StandsForFront origin g held)

-- An office that holds a front of a legal history, and follows feeds of its fronts, comes towards
-- it.
abbrev pub LeadsTo : {D : Type 0} → DiskSenses D → OfficeOn D → Option (List ℕ) → FollowEnd
    → OfficeOn D → Type 0
LeadsTo S old left end new = (origin : ℕ) (g : List Entry) (n : ℕ) (asked : List Asked)
    (bytes : List ℕ) → IsLegal origin g → IsKeepable origin g → n ≤ length g
    → old.office ≡ office origin (take n g) → left ≡ Some bytes
    → AreFeedsOf origin g asked bytes
    → IsLedTo S origin g n (furthest g n asked) old end new
