-- An office of one's own, and what one asking does to it.
use Rattle.std.specs.Prelude.{◌≡◌, ℕ, List, [], ◌∷◌, ◌++◌, Option, Some, None}
use Rattle.office_outside.specs.Disk.{All, LeavesOnly}
use Rattle.office_outside.specs.Senses.{DiskSenses}
use Rattle.record_form.specs.declared.Outcome.{Outcome}
use Rattle.record_form.specs.declared.Outcome.TheVariants.{NoMemory}
use Rattle.record_form.specs.declared.Request.{Request}
use Rattle.office_counter.specs.Steps.{Standing}
use Rattle.office_keep.specs.Files.{OfficeIsWhole}
use Rattle.office_keep.specs.Office.{IsBlamed, LeavesBy, OfficeOn, Performs, SettlesBy}
use Rattle.office_keep.specs.Office.{StandsSettled}

-- the office, and the places of one's own entries in its history
pub record OwnOn (D : Type 0) : Type 0 where
  pub kept : OfficeOn D
  pub own : List ℕ

-- a counter's office and its own places
abbrev pub own_on : {D : Type 0} → OfficeOn D → List ℕ → OwnOn D
own_on kept own = record { kept = kept; own = own }

-- nobody else's entries lie in between: what is seen is the office itself
abbrev pub standing_of : {D : Type 0} → DiskSenses D → OwnOn D → Standing
standing_of S c = record { office = c.kept.office; own = c.own; faults = S.faults c.kept.disk }

-- the own places, and that of an entry that was added
abbrev pub places_with : Option ℕ → List ℕ → List ℕ
places_with None own = own
places_with (Some place) own = own ++ place ∷ []

-- The office performed the request; or there was no memory for the place of its entry, and nothing
-- was done.
pub data Ends {D : Type 0} (old : OfficeOn D) (reading : ℕ) (request : Request)
    (outcome : Outcome) (place : Option ℕ) (new : OfficeOn D) : Type 0 where
  performed : Performs old reading request outcome place new
      → Ends old reading request outcome place new
  no_room : outcome ≡ NoMemory → place ≡ None → new ≡ old
      → Ends old reading request outcome place new

-- What one asking does: how it ended, what a stop may leave while it runs and at its end, and when
-- the disk is blamed.
pub record OwnAsks {D : Type 0} (S : DiskSenses D) (old : OwnOn D) (reading : ℕ)
    (request : Request) (outcome : Outcome) (new : OwnOn D) : Type 0 where
  pub place : Option ℕ
  pub ended : Ends old.kept reading request outcome place new.kept
  pub places : new.own ≡ places_with place old.own
  pub any_moment : LeavesOnly S old.kept.disk new.kept.disk
      (LeavesBy old.kept reading request new.kept)
  pub stands : All (StandsSettled new.kept.office new.kept.doubt) (S.images new.kept.disk)
  pub whole : OfficeIsWhole new.kept.office
  pub after_settling : SettlesBy S old.kept reading request new.kept
  pub cause : IsBlamed (S.faults old.kept.disk) (S.faults new.kept.disk) outcome
