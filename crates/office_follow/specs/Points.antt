-- Points in the course of following, and the ways from one to another.
use Rattle.std.specs.Prelude.{◌≡◌, ◌⊎◌, ℕ, ◌≤◌, List, Option, Some, None, Result, Ok, Err, ⊤}
use Rattle.std.specs.Prelude.{length}
use Rattle.std.specs.Prelude.{slice_get}
use Rattle.office_outside.specs.Disk.{LeavesOnly}
use Rattle.office_outside.specs.Faults.{Rose}
use Rattle.office_outside.specs.Senses.{DiskSenses}
use Rattle.record_form.specs.declared.Entry.{Entry}
use Rattle.record_form.specs.Records.{record_of}
use Rattle.office_history.specs.History.{Office, with_entry}
use Rattle.office_history.specs.Legal.{MayFollow}
use Rattle.office_keep.specs.declared.Adopted.{Adopted}
use Rattle.office_keep.specs.declared.Adopted.TheVariants as adopted
use Rattle.office_keep.specs.Files.{StandsFor}
use Rattle.office_keep.specs.Office.{OfficeOn}
use Rattle.follow_terms.specs.declared.FollowEnd.{FollowEnd}
use Rattle.follow_terms.specs.declared.FollowEnd.TheVariants as ends
use Rattle.follow_terms.specs.Follows.{Place, Follows, IsDiskEnd, IsOutside}

-- The office that follows, how many bytes were read, and of the input what is left, where it tells,
-- and how often it failed.
pub record Point (D : Type 0) : Type 0 where
  pub office : OfficeOn D
  pub at : ℕ
  pub left : Option (List ℕ)
  pub faults : ℕ

abbrev pub point : {D : Type 0} → OfficeOn D → ℕ → Option (List ℕ) → ℕ → Point D
point office at left faults =
    record { office = office; at = at; left = left; faults = faults }

-- what following comes to over an office, where the input tells
abbrev pub FollowsWhere : Place → Office → ℕ → Option (List ℕ) → Office → FollowEnd → Type 0
FollowsWhere place o at None last end = ⊤
FollowsWhere place o at (Some left) last end = Follows place o at left last end

-- what following comes to from a point on
abbrev pub FollowsFrom : {D : Type 0} → Place → Point D → Office → FollowEnd → Type 0
FollowsFrom place p last end = FollowsWhere place p.office.office p.at p.left last end

-- A stop leaves an office to which following comes from this point on, were it to end there.
abbrev pub LeavesFollowed : {D : Type 0} → Place → Point D → List ℕ → Type 0
LeavesFollowed place p file =
    (o : Office) × FollowsFrom place p o ends.NoMemory × StandsFor o file

-- From one point it went on to another, with nothing in doubt: what following comes to from there
-- on it comes to from the first one on, and so a stop meanwhile left.
pub record GoesOn {D : Type 0} (S : DiskSenses D) (one : Place) (old : Point D) (two : Place)
    (new : Point D) : Type 0 where
  pub none : new.office.doubt ≡ None
  pub comes : (last : Office) (end : FollowEnd) → FollowsFrom two new last end
      → FollowsFrom one old last end
  pub moments : LeavesOnly S old.office.disk new.office.disk (LeavesFollowed one old)
  pub disk_later : S.faults old.office.disk ≤ S.faults new.office.disk
  pub later : old.faults ≤ new.faults

-- From a point on it ended so: as following comes to, and so a stop meanwhile left. A read or the
-- disk is blamed only where it failed.
pub record EndsFrom {D : Type 0} (S : DiskSenses D) (place : Place) (old : Point D)
    (end : FollowEnd) (new : OfficeOn D) (faults : ℕ) : Type 0 where
  pub comes : FollowsFrom place old new.office end
  pub moments : LeavesOnly S old.office.disk new.disk (LeavesFollowed place old)
  pub disk_later : S.faults old.office.disk ≤ S.faults new.disk
  pub disk_failed : end ≡ ends.DiskFault → Rose (S.faults old.office.disk) (S.faults new.disk)
  -- an entry is in doubt only where the disk failed
  pub clear : (end ≡ ends.DiskFault → ⊥) → new.doubt ≡ None
  pub later : old.faults ≤ faults
  pub failed : end ≡ ends.ReadFault → Rose old.faults faults

-- The entry of a position is there after that: the office held it, or took it.
pub data IsThere (o : Office) (position : ℕ) (e : Entry) (new : Office) : Type 0 where
  was_held : (held : Entry) → slice_get o.history position ≡ Some held
      → record_of held ≡ record_of e → new ≡ o → IsThere o position e new
  was_taken : position ≡ length o.history → MayFollow o e → new ≡ with_entry o e
      → IsThere o position e new

-- It isn't there, and the office is as before.
pub data IsOut (o : Office) (position : ℕ) (e : Entry) : FollowEnd → Type 0 where
  other_held : (held : Entry) → slice_get o.history position ≡ Some held
      → (record_of held ≡ record_of e → ⊥) → IsOut o position e (ends.Diverges position)
  may_not : position ≡ length o.history → (MayFollow o e → ⊥)
      → IsOut o position e (ends.Illegal position)
  not_kept : {end : FollowEnd} → position ≡ length o.history → MayFollow o e → IsDiskEnd end
      → IsOut o position e end
  by_outside : {end : FollowEnd} → IsOutside end → IsOut o position e end

-- so following ends at it, with nothing in doubt but where the disk failed
pub record IsOutOf (o : Office) (position : ℕ) (e : Entry) (new : Office) (doubt : Option Entry)
    (end : FollowEnd) : Type 0 where
  pub out : IsOut o position e end
  pub office : new ≡ o
  pub clear : (end ≡ ends.DiskFault → ⊥) → doubt ≡ None

-- A stop meanwhile leaves the office, or it with the entry, where its position is the next.
abbrev pub LeavesPlacing : Office → ℕ → Entry → List ℕ → Type 0
LeavesPlacing o position e file = StandsFor o file
    ⊎ ((position ≡ length o.history) × MayFollow o e × StandsFor (with_entry o e) file)

-- how following ends where an entry isn't adopted
abbrev pub end_of : Adopted → ℕ → Result Prim.Unit FollowEnd
end_of (adopted.Taken at) position = Ok tt
end_of adopted.Illegal position = Err (ends.Illegal position)
end_of adopted.JournalFull position = Err ends.JournalFull
end_of adopted.DiskFault position = Err ends.DiskFault
end_of adopted.NoMemory position = Err ends.NoMemory
