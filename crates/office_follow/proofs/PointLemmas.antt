-- From one point of following to the next.
use Rattle.std.proofs.Common.{◌≡◌, inl, inr, ℕ, suc, ◌+◌, ◌-◌, ◌≤◌, List, length, Option, Some}
use Rattle.std.proofs.Common.{None, Result, Ok, Err, refl, sym, subst, arith}
use Rattle.std.specs.Prelude.{IfErr, IfOk}
use Rattle.office_outside.specs.Disk.{All, LeavesOnly, OnlyNow}
use Rattle.office_outside.specs.Faults.{Rose}
use Rattle.office_outside.specs.Senses.{DiskSenses}
use Rattle.office_outside.proofs.Moments.{leaves_still, leaves_then, leaves_weaker}
use Rattle.record_form.specs.declared.Entry.{Entry}
use Rattle.office_history.specs.History.{Office, with_entry}
use Rattle.office_history.specs.Legal.{MayFollow}
use Rattle.office_keep.specs.Office.{OfficeOn, StandsSettled}
use Rattle.follow_terms.specs.declared.FollowEnd.{FollowEnd}
use Rattle.follow_terms.specs.declared.FollowEnd.TheVariants as ends
use Rattle.follow_terms.specs.Follows.{Place, Between, Inside, Follows, IsOutside, differs}
use Rattle.follow_terms.specs.Follows.{disk_ends}
use Rattle.follow_terms.specs.Follows.{done, feed_ends, head_ends, head_passes, illegal, is_held}
use Rattle.follow_terms.specs.Follows.{length_ends, no_memory, outside, record_ends, taken}
use Rattle.office_follow.specs.Heads.{IsHeadRead, LacksHead}
use Rattle.office_follow.specs.Pieces.{IsEntryRead, LacksEntry}
use Rattle.office_follow.specs.Points.{EndsFrom, FollowsFrom, FollowsWhere, GoesOn, IsOut, IsThere}
use Rattle.office_follow.specs.Points.{LeavesFollowed, LeavesPlacing, Point, by_outside, may_not}
use Rattle.office_follow.specs.Points.{not_kept, other_held, point, was_held, was_taken}
use Rattle.office_follow.proofs.PlaceLemmas.{stands_here}

-- an end of the outside, here
pub ends_here : (place : Place) (o : Office) (at : ℕ) (left : Option (List ℕ)) (end : FollowEnd)
    → IsOutside end → FollowsWhere place o at left o end
ends_here place o at None end out = tt
ends_here place o at (Some left) end out = outside out

-- no head
pub no_head : (o : Office) (at : ℕ) (left : Option (List ℕ)) (end : FollowEnd)
    → LacksHead o at left end → FollowsWhere Between o at left o end
no_head o at left end (inl out) = ends_here Between o at left end out
no_head o at None end (inr lacks) = tt
no_head o at (Some left) end (inr (inl lacks)) =
    subst (Follows Between o at left o) (sym lacks.1) (done lacks.0)
no_head o at (Some left) end (inr (inr lacks)) = head_ends lacks.0 lacks.1

-- behind a head
pub into_feed : (o : Office) (at : ℕ) (head : ℕ × ℕ) (old new : Option (List ℕ)) (last : Office)
    (end : FollowEnd) → IsHeadRead o at head old new
    → FollowsWhere (Inside head.1 head.0) o (at + 20) new last end
    → FollowsWhere Between o at old last end
into_feed o at head None new last end read f = tt
into_feed o at head (Some left) None last end read f = absurd read
into_feed o at head (Some left) (Some rest) last end read f = head_passes read.0 read.1
    (subst (λ (bs : List ℕ). Follows (Inside head.1 head.0) o (at + 20) bs last end) read.2 f)

-- behind a feed
pub out_of_feed : (o : Office) (at position : ℕ) (left : Option (List ℕ)) (last : Office)
    (end : FollowEnd) → FollowsWhere Between o at left last end
    → FollowsWhere (Inside 0 position) o at left last end
out_of_feed o at position None last end f = tt
out_of_feed o at position (Some left) last end f = feed_ends f

-- no entry
pub no_entry : (o : Office) (at count position : ℕ) (left : Option (List ℕ)) (end : FollowEnd)
    → LacksEntry at left end → FollowsWhere (Inside (suc count) position) o at left o end
no_entry o at count position left end (inl out) =
    ends_here (Inside (suc count) position) o at left end out
no_entry o at count position None end (inr lacks) = tt
no_entry o at count position (Some left) end (inr (inl ended)) = length_ends ended
no_entry o at count position (Some left) end (inr (inr (size, read, ended))) =
    record_ends read ended

-- behind an entry that is there
there_on : (o new : Office) (at count position size : ℕ) (e : Entry) (left rest : List ℕ)
    (last : Office) (end : FollowEnd) → IsEntryRead at size e (Some left) (Some rest)
    → IsThere o position e new
    → Follows (Inside count (suc position)) new (at + 4 + size) rest last end
    → Follows (Inside (suc count) position) o at left last end
there_on o new at count position size e left rest last end read (was_held held is same grown) f =
    is_held read.0 read.1 is same (subst (λ (p : Office × List ℕ).
    Follows (Inside count (suc position)) p.0 (at + 4 + size) p.1 last end)
    (λ i. (grown i, read.2 i)) f)
there_on o new at count position size e left rest last end read (was_taken is may grown) f =
    taken read.0 read.1 is may (subst (λ (p : Office × List ℕ).
    Follows (Inside count (suc position)) p.0 (at + 4 + size) p.1 last end)
    (λ i. (grown i, read.2 i)) f)

pub behind_entry : (o new : Office) (at count position size : ℕ) (e : Entry)
    (old mid : Option (List ℕ)) (last : Office) (end : FollowEnd) → IsEntryRead at size e old mid
    → IsThere o position e new
    → FollowsWhere (Inside count (suc position)) new (at + 4 + size) mid last end
    → FollowsWhere (Inside (suc count) position) o at old last end
behind_entry o new at count position size e None mid last end read there f = tt
behind_entry o new at count position size e (Some left) None last end read there f = absurd read
behind_entry o new at count position size e (Some left) (Some rest) last end read there f =
    there_on o new at count position size e left rest last end read there f

-- at an entry that isn't
out_here : (o : Office) (at count position size : ℕ) (e : Entry) (left rest : List ℕ)
    (end : FollowEnd) → IsEntryRead at size e (Some left) (Some rest) → IsOut o position e end
    → Follows (Inside (suc count) position) o at left o end
out_here o at count position size e left rest _ read (other_held held is other) =
    differs read.0 read.1 is other
out_here o at count position size e left rest _ read (may_not is refused) =
    illegal read.0 read.1 is refused
out_here o at count position size e left rest end read (not_kept is may disk) =
    disk_ends read.0 read.1 is may disk
out_here o at count position size e left rest end read (by_outside out) = outside out

pub at_entry : (o : Office) (at count position size : ℕ) (e : Entry) (old mid : Option (List ℕ))
    (end : FollowEnd) → IsEntryRead at size e old mid → IsOut o position e end
    → FollowsWhere (Inside (suc count) position) o at old o end
at_entry o at count position size e None mid end read out = tt
at_entry o at count position size e (Some left) None end read out = absurd read
at_entry o at count position size e (Some left) (Some rest) end read out =
    out_here o at count position size e left rest end read out

-- where the entry is written it is as if following went on behind it, and ended there
written_on : (o : Office) (at count position size : ℕ) (e : Entry) (old mid : Option (List ℕ))
    → IsEntryRead at size e old mid → position ≡ length o.history → MayFollow o e
    → FollowsWhere (Inside (suc count) position) o at old (with_entry o e) ends.NoMemory
written_on o at count position size e old mid read is may =
    behind_entry o (with_entry o e) at count position size e old mid (with_entry o e) ends.NoMemory
    read (was_taken is may refl)
    (ends_here (Inside count (suc position)) (with_entry o e) (at + 4 + size) mid ends.NoMemory
    no_memory)

module _ {D : Type 0} (S : DiskSenses D) where
  -- a run that touches no disk
  still : OnlyNow S → (place : Place) (p : Point D) → p.office.doubt ≡ None
      → All (StandsSettled p.office.office p.office.doubt) (S.images p.office.disk)
      → LeavesOnly S p.office.disk p.office.disk (LeavesFollowed place p)
  still only_now place p none stands = leaves_still {S = S} only_now (λ file image. (
    p.office.office,
    ends_here place p.office.office p.at p.left ends.NoMemory no_memory,
    stands_here p.office.office p.office.doubt file none (stands file image),
  ))

  pub goes_still : OnlyNow S → (place : Place) (p : Point D) → p.office.doubt ≡ None
      → All (StandsSettled p.office.office p.office.doubt) (S.images p.office.disk)
      → GoesOn S place p place p
  goes_still only_now place p none stands = record {
    none = none;
    comes = λ last end f. f;
    moments = still only_now place p none stands;
    disk_later = omega arith;
    later = omega arith;
  }

  -- an end without a call of the disk
  pub ends_still : OnlyNow S → (place : Place) (p : Point D) (end : FollowEnd) (faults : ℕ)
      → p.office.doubt ≡ None
      → All (StandsSettled p.office.office p.office.doubt) (S.images p.office.disk)
      → FollowsFrom place p p.office.office end → (end ≡ ends.DiskFault → ⊥) → p.faults ≤ faults
      → (end ≡ ends.ReadFault → Rose p.faults faults) → EndsFrom S place p end p.office faults
  ends_still only_now place p end faults none stands comes never later failed = record {
    comes = comes;
    moments = still only_now place p none stands;
    disk_later = omega arith;
    disk_failed = λ is. absurd (never is);
    clear = λ other. none;
    later = later;
    failed = failed;
  }

  -- a head that is read
  pub goes_into : OnlyNow S → (office : OfficeOn D) (at : ℕ) (head : ℕ × ℕ)
      (left rest : Option (List ℕ)) (faults now : ℕ) → office.doubt ≡ None
      → All (StandsSettled office.office office.doubt) (S.images office.disk)
      → IsHeadRead office.office at head left rest → faults ≤ now
      → GoesOn S Between (point office at left faults) (Inside head.1 head.0)
      (point office (at + 20) rest now)
  goes_into only_now office at head left rest faults now none stands read later = record {
    none = none;
    comes = λ last end f. into_feed office.office at head left rest last end read f;
    moments = still only_now Between (point office at left faults) none stands;
    disk_later = omega arith;
    later = later;
  }

  goes_out : (one : Place) (old : Point D) (position : ℕ) (new : Point D)
      → GoesOn S one old (Inside 0 position) new → GoesOn S one old Between new
  goes_out one old position new g = record {
    none = g.none;
    comes = λ last end f. g.comes last end
        (out_of_feed new.office.office new.at position new.left last end f);
    moments = g.moments;
    disk_later = g.disk_later;
    later = g.later;
  }

  pub leaves_feed : (one : Place) (old : Point D) (more position : ℕ) (new : Point D) → more ≡ 0
      → GoesOn S one old (Inside more position) new → GoesOn S one old Between new
  leaves_feed one old more position new none g = goes_out one old position new
      (subst (λ (n : ℕ). GoesOn S one old (Inside n position) new) none g)

  -- one entry of those that are left is the next
  pub goes_next : (one : Place) (old : Point D) (more position : ℕ) (new : Point D) → 1 ≤ more
      → GoesOn S one old (Inside more position) new
      → GoesOn S one old (Inside (suc (more - 1)) position) new
  goes_next one old more position new some g =
      subst (λ (n : ℕ). GoesOn S one old (Inside n position) new) (omega (arith, some)) g

  pub goes_up : (one : Place) (old : Point D) (more position : ℕ) (new : Point D)
      → GoesOn S one old (Inside more (suc position)) new
      → GoesOn S one old (Inside more (position + 1)) new
  goes_up one old more position new g =
      subst (λ (n : ℕ). GoesOn S one old (Inside more n) new) (omega arith) g

  -- one way after another
  pub goes_then : (one : Place) (a : Point D) (two : Place) (b : Point D) (three : Place)
      (c : Point D) → GoesOn S one a two b → GoesOn S two b three c → GoesOn S one a three c
  goes_then one a two b three c first second = record {
    none = second.none;
    comes = λ last end f. first.comes last end (second.comes last end f);
    moments = leaves_then first.moments (leaves_weaker second.moments
        (λ file left. (left.0, first.comes left.0 ends.NoMemory left.1, left.2)))
        (λ file left. left);
    disk_later = omega (arith, first.disk_later, second.disk_later);
    later = omega (arith, first.later, second.later);
  }

  rose_then : (a b c : ℕ) → a ≤ b → Rose b c → Rose a c
  rose_then a b c le rose = omega (arith, le, rose)

  -- and an end after a way
  pub ends_then : (one : Place) (a : Point D) (two : Place) (b : Point D) (end : FollowEnd)
      (new : OfficeOn D) (faults : ℕ) → GoesOn S one a two b → EndsFrom S two b end new faults
      → EndsFrom S one a end new faults
  ends_then one a two b end new faults first second = record {
    comes = first.comes new.office end second.comes;
    moments = leaves_then first.moments (leaves_weaker second.moments
        (λ file left. (left.0, first.comes left.0 ends.NoMemory left.1, left.2)))
        (λ file left. left);
    disk_later = omega (arith, first.disk_later, second.disk_later);
    disk_failed = λ is. rose_then (S.faults a.office.disk) (S.faults b.office.disk)
        (S.faults new.disk)
        first.disk_later (second.disk_failed is);
    clear = second.clear;
    later = omega (arith, first.later, second.later);
    failed = λ is. rose_then a.faults b.faults faults first.later (second.failed is);
  }

  -- the same where they may not have come
  pub goes_then_ok : (one : Place) (a : Point D) (two : Place) (b : Point D) (three : Place)
      (c : ℕ → Point D) (r : Result ℕ FollowEnd) → GoesOn S one a two b
      → IfOk r (λ now. GoesOn S two b three (c now)) → IfOk r (λ now. GoesOn S one a three (c now))
  goes_then_ok one a two b three c (Ok now) first second =
      goes_then one a two b three (c now) first second
  goes_then_ok one a two b three c (Err end) first second = tt

  pub ends_then_err : (one : Place) (a : Point D) (two : Place) (b : Point D) (new : OfficeOn D)
      (faults : ℕ) (r : Result ℕ FollowEnd) → GoesOn S one a two b
      → IfErr r (λ end. EndsFrom S two b end new faults)
      → IfErr r (λ end. EndsFrom S one a end new faults)
  ends_then_err one a two b new faults (Ok now) first second = tt
  ends_then_err one a two b new faults (Err end) first second =
      ends_then one a two b end new faults first second

  module _ (old new : OfficeOn D) (at count position size : ℕ) (e : Entry)
      (left rest : Option (List ℕ)) (faults now : ℕ)
      (read : IsEntryRead at size e left rest)
      (leaves : LeavesOnly S old.disk new.disk (LeavesPlacing old.office position e)) where
    placing : LeavesOnly S old.disk new.disk
        (LeavesFollowed (Inside (suc count) position) (point old at left faults))
    placing = leaves_weaker leaves by
      where
        by : (file : List ℕ) → LeavesPlacing old.office position e file
            → LeavesFollowed (Inside (suc count) position) (point old at left faults) file
        by file (inl stands) = (
          old.office,
          ends_here (Inside (suc count) position) old.office at left ends.NoMemory no_memory,
          stands,
        )
        by file (inr (is, may, stands)) = (
          with_entry old.office e,
          written_on old.office at count position size e left rest read is may,
          stands,
        )

    -- an entry that is there
    pub goes_behind : IsThere old.office position e new.office → new.doubt ≡ None
        → S.faults old.disk ≤ S.faults new.disk → faults ≤ now
        → GoesOn S (Inside (suc count) position) (point old at left faults)
        (Inside count (suc position)) (point new (at + 4 + size) rest now)
    goes_behind there none disk_later later = record {
      none = none;
      comes = λ last end f. behind_entry old.office new.office at count position size e left rest
          last end read there f;
      moments = placing;
      disk_later = disk_later;
      later = later;
    }

    -- and one that isn't
    pub ends_at : (end : FollowEnd) → IsOut old.office position e end → new.office ≡ old.office
        → S.faults old.disk ≤ S.faults new.disk
        → (end ≡ ends.DiskFault → Rose (S.faults old.disk) (S.faults new.disk))
        → ((end ≡ ends.DiskFault → ⊥) → new.doubt ≡ None) → faults ≤ now
        → (end ≡ ends.ReadFault → ⊥)
        → EndsFrom S (Inside (suc count) position) (point old at left faults) end new now
    ends_at end out same disk_later disk_failed clear later never = record {
      comes = subst
          (λ (o : Office). FollowsWhere (Inside (suc count) position) old.office at left o end)
          (sym same) (at_entry old.office at count position size e left rest end read out);
      moments = placing;
      disk_later = disk_later;
      disk_failed = disk_failed;
      clear = clear;
      later = later;
      failed = λ is. absurd (never is);
    }
