-- What becomes of an entry at its position.
use Rattle.std.proofs.Common.{◌≡◌, inl, inr, ℕ, zero, suc, ◌≤◌, List, [], ◌∷◌, length, Option, Some}
use Rattle.std.proofs.Common.{None}
use Rattle.std.proofs.Common.{Result, Ok, Err, refl, sym, ap, ◌∙◌, subst, arith}
use Rattle.std.proofs.Common.{length-append}
use Rattle.std.specs.Prelude.{option_map, slice_get, IfErr, OnOk, ◌+◌}
use Rattle.office_outside.specs.Disk.{All, LeavesOnly, OnlyNow}
use Rattle.office_outside.specs.Senses.{DiskSenses}
use Rattle.office_outside.proofs.Moments.{leaves_still, leaves_weaker}
use Rattle.record_form.specs.declared.Entry.{Entry}
use Rattle.record_form.specs.Records.{record_of}
use Rattle.office_history.specs.History.{Office}
use Rattle.office_keep.specs.declared.Adopted.{Adopted}
use Rattle.office_keep.specs.declared.Adopted.TheVariants as adopted
use Rattle.office_keep.specs.Adopting.{AdoptsTo, LeavesAdopting}
use Rattle.office_keep.specs.Files.{StandsFor}
use Rattle.office_keep.specs.Office.{StandsSettled}
use Rattle.follow_terms.specs.declared.FollowEnd.{FollowEnd}
use Rattle.follow_terms.specs.declared.FollowEnd.TheVariants as ends
use Rattle.follow_terms.specs.Follows.{disk_fault, journal_full, no_memory}
use Rattle.office_follow.specs.Points.{IsOut, IsOutOf, IsThere, LeavesPlacing, by_outside}
use Rattle.office_follow.specs.Points.{end_of, may_not, not_kept, other_held, was_held, was_taken}

-- the entry whose record stands at a position
pub record IsHeld (found : Option Entry) (bytes : List ℕ) : Type 0 where
  pub held : Entry
  pub is : found ≡ Some held
  pub spelled : record_of held ≡ bytes

pub held_at : (found : Option Entry) (bytes : List ℕ)
    → ◌≡◌ {A = Option (List ℕ)} (Some bytes) (option_map record_of found) → IsHeld found bytes
held_at None bytes e = absurd cc
held_at (Some held) bytes e = record { held = held; is = refl; spelled = cc (sym e) }

-- where none stands the history ends
pub none_at : (h : List Entry) (position : ℕ)
    → ◌≡◌ {A = Option (List ℕ)} None (option_map record_of (slice_get h position))
    → position ≤ length h → position ≡ length h
none_at [] position e le = omega (arith, le)
none_at (x ∷ h) zero e le = absurd cc
none_at (x ∷ h) (suc position) e le =
    ap suc (none_at h position e (omega (arith, le)))

pub held_below : (h : List Entry) (position : ℕ) (held : Entry)
    → slice_get h position ≡ Some held → suc position ≤ length h
held_below [] position held e = absurd cc
held_below (x ∷ h) zero held e = omega arith
held_below (x ∷ h) (suc position) held e = omega (arith, held_below h position held e)

pub is_there : (o : Office) (position : ℕ) (e : Entry) (held piece : List ℕ)
    → IsHeld (slice_get o.history position) held → held ≡ piece → piece ≡ record_of e
    → IsThere o position e o
is_there o position e held piece h same spelled =
    was_held h.held h.is (h.spelled ∙ same ∙ spelled) refl

pub is_other : (o : Office) (position : ℕ) (e : Entry) (held piece : List ℕ)
    → IsHeld (slice_get o.history position) held → (held ≡ piece → ⊥) → piece ≡ record_of e
    → IsOut o position e (ends.Diverges position)
is_other o position e held piece h other spelled =
    other_held h.held h.is (λ same. other (sym h.spelled ∙ same ∙ sym spelled))

-- the history is longer by the entry
pub there_below : (o new : Office) (position : ℕ) (e : Entry) → IsThere o position e new
    → suc position ≤ length new.history
there_below o new position e (was_held held is same grown) =
    subst (λ (p : Office). suc position ≤ length p.history) (sym grown)
    (held_below o.history position held is)
there_below o new position e (was_taken is may grown) =
    omega (
      arith,
      is,
      ap (λ (p : Office). length p.history) grown,
      length-append o.history (e ∷ []),
    )

-- what becomes of an entry that is adopted
pub record IsPlaced (o : Office) (e : Entry) (position : ℕ) (r : Result Prim.Unit FollowEnd)
    (new : Office) (doubt : Option Entry) : Type 0 where
  pub there : OnOk r (IsThere o position e new)
  pub none : OnOk r (doubt ≡ None)
  pub out : IfErr r (IsOutOf o position e new doubt)

by_adopted : (o : Office) (e : Entry) (a : Adopted) (new : Office) (doubt : Option Entry)
    (position : ℕ) → position ≡ length o.history → AdoptsTo o e a new doubt
    → IsPlaced o e position (end_of a position) new doubt
by_adopted o e (adopted.Taken at) new doubt position is took = record {
  there = was_taken is took.follows took.office;
  none = took.none;
  out = tt;
}
by_adopted o e adopted.Illegal new doubt position is left = record {
  there = tt;
  none = tt;
  out = record {
    out = may_not is left.0;
    office = left.1.office;
    clear = λ other. left.1.none;
  };
}
by_adopted o e adopted.JournalFull new doubt position is left = record {
  there = tt;
  none = tt;
  out = record {
    out = not_kept is left.0.follows journal_full;
    office = left.1.office;
    clear = λ other. left.1.none;
  };
}
by_adopted o e adopted.DiskFault new doubt position is left = record {
  there = tt;
  none = tt;
  out = record {
    out = not_kept is left.follows disk_fault;
    office = left.office;
    clear = λ other. absurd (other refl);
  };
}
by_adopted o e adopted.NoMemory new doubt position is left = record {
  there = tt;
  none = tt;
  out = record {
    out = by_outside no_memory;
    office = left.office;
    clear = λ other. left.none;
  };
}

pub placed : (o : Office) (e : Entry) (a : Adopted) (new : Office) (doubt : Option Entry)
    (position : ℕ) (r : Result Prim.Unit FollowEnd) → r ≡ end_of a position
    → position ≡ length o.history → AdoptsTo o e a new doubt → IsPlaced o e position r new doubt
placed o e a new doubt position r same is adopts =
    subst (λ (x : Result Prim.Unit FollowEnd). IsPlaced o e position x new doubt) (sym same)
    (by_adopted o e a new doubt position is adopts)

-- the history is then longer than the position
pub placed_below : (o : Office) (e : Entry) (position : ℕ) (r : Result Prim.Unit FollowEnd)
    (new : Office) → OnOk r (IsThere o position e new)
    → OnOk r (position + 1 ≤ length new.history)
placed_below o e position (Ok x) new there =
    omega (arith, there_below o new position e there)
placed_below o e position (Err end) new there = tt

-- the disk is blamed where adopting blames it
pub placed_blames : (a : Adopted) (position : ℕ) (r : Result Prim.Unit FollowEnd)
    → r ≡ end_of a position → r ≡ Err ends.DiskFault → a ≡ adopted.DiskFault
placed_blames (adopted.Taken at) position r same is = absurd (cc (sym same ∙ is))
placed_blames adopted.Illegal position r same is = absurd (cc (sym same ∙ is))
placed_blames adopted.JournalFull position r same is = absurd (cc (sym same ∙ is))
placed_blames adopted.DiskFault position r same is = refl
placed_blames adopted.NoMemory position r same is = absurd (cc (sym same ∙ is))

-- and no read
pub placed_reads_none : (a : Adopted) (position : ℕ) (r : Result Prim.Unit FollowEnd)
    → r ≡ end_of a position → r ≡ Err ends.ReadFault → ⊥
placed_reads_none (adopted.Taken at) position r same is = absurd (cc (sym same ∙ is))
placed_reads_none adopted.Illegal position r same is = absurd (cc (sym same ∙ is))
placed_reads_none adopted.JournalFull position r same is = absurd (cc (sym same ∙ is))
placed_reads_none adopted.DiskFault position r same is = absurd (cc (sym same ∙ is))
placed_reads_none adopted.NoMemory position r same is = absurd (cc (sym same ∙ is))

-- with nothing in doubt a file stands for the office
pub stands_here : (o : Office) (doubt : Option Entry) (file : List ℕ) → doubt ≡ None
    → StandsSettled o doubt file → StandsFor o file
stands_here o None file none (settled, is, stands) =
    subst (λ (p : Office). StandsFor p file) is stands
stands_here o (Some e) file none stands = absurd cc

module _ {D : Type 0} (S : DiskSenses D) where
  -- where an entry is only compared the images stay
  pub compared : OnlyNow S → (o : Office) (doubt : Option Entry) (position : ℕ) (e : Entry)
      (disk : D)
      → doubt ≡ None → All (StandsSettled o doubt) (S.images disk)
      → LeavesOnly S disk disk (LeavesPlacing o position e)
  compared only_now o doubt position e disk none stands = leaves_still {S = S} only_now
      (λ file image. inl (stands_here o doubt file none (stands file image)))

  pub adopting : (o : Office) (position : ℕ) (e : Entry) (old new : D)
      → position ≡ length o.history → LeavesOnly S old new (LeavesAdopting o e)
      → LeavesOnly S old new (LeavesPlacing o position e)
  adopting o position e old new is leaves = leaves_weaker leaves by
    where
      by : (file : List ℕ) → LeavesAdopting o e file → LeavesPlacing o position e file
      by file (inl stands) = inl stands
      by file (inr (may, stands)) = inr (is, may, stands)
