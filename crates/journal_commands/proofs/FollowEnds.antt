-- How following over a journal ends, from how it ends over the office that was opened.
use Rattle.std.proofs.Common.{◌≡◌, ◌⊎◌, ℕ, List, Option, length, inl, inr, refl, subst}
use Rattle.office_outside.specs.Senses.{DiskSenses}
use Rattle.office_outside.specs.Told.{Gained, GainedPrefix}
use Rattle.office_keep.specs.Office.{OfficeOn}
use Rattle.office_keep.specs.Opening.{Opens}
use Rattle.office_keep.specs.declared.KeepFault.{KeepFault}
use Rattle.follow_terms.specs.declared.FollowEnd.{FollowEnd}
use Rattle.follow_terms.specs.declared.FollowEnd.TheVariants as follow_ends
use Rattle.journal_commands.specs.Following.{EndsFollowing, EndsOverOffice, FollowWorld, TellsEnd}
use Rattle.journal_commands.specs.Following.{entries_line}
use Rattle.journal_commands.specs.declared.following.FollowingEnd.{FollowingEnd}
use Rattle.journal_commands.specs.declared.following.FollowingEnd.TheVariants as ends

-- all was followed, and the output told it, whole or in part, or there was no memory for the line
pub told_entries : (entries : ℕ) (told : FollowingEnd) (old new : Option (List ℕ))
    → (told ≡ ends.Done → Gained (entries_line entries) old new)
    → (told ≡ ends.WriteFault → GainedPrefix (entries_line entries) old new)
    → (told ≡ ends.NoMemory → new ≡ old)
    → (told ≡ ends.Done) ⊎ ((told ≡ ends.WriteFault) ⊎ (told ≡ ends.NoMemory))
    → TellsEnd follow_ends.Done entries told old new
told_entries entries ends.Done old new done part memory other = (refl, done refl)
told_entries entries (ends.Stopped stop) old new done part memory (inl e) = absurd (cc e)
told_entries entries (ends.Stopped stop) old new done part memory (inr (inl e)) = absurd (cc e)
told_entries entries (ends.Stopped stop) old new done part memory (inr (inr e)) = absurd (cc e)
told_entries entries ends.WriteFault old new done part memory other = (refl, part refl)
told_entries entries ends.NoMemory old new done part memory other = (refl, memory refl)
told_entries entries (ends.Unopened why) old new done part memory (inl e) = absurd (cc e)
told_entries entries (ends.Unopened why) old new done part memory (inr (inl e)) = absurd (cc e)
told_entries entries (ends.Unopened why) old new done part memory (inr (inr e)) = absurd (cc e)

-- following that was stopped came to that end
pub came_so : (end stop : FollowEnd) (entries : ℕ) (told : FollowingEnd) (old new : Option (List ℕ))
    → TellsEnd end entries told old new → told ≡ ends.Stopped stop → end ≡ stop
came_so end stop entries told old new tells is =
    let so = subst (λ (t : FollowingEnd). TellsEnd end entries t old new) is tells in so.0

module _ {D : Type 0} (S : DiskSenses D) (end : FollowingEnd) (old new : FollowWorld D) where
  -- over an office that was opened it doesn't end unopened
  pub was_opened : (o : OfficeOn D) (why : KeepFault) → EndsOverOffice S o end old new
      → end ≡ ends.Unopened why → ⊥
  was_opened o why over is =
      subst (λ (t : FollowingEnd).
      TellsEnd over.came_to (length over.last.office.history) t old.held new.held) is over.told

pub ends_opened : {D : Type 0} (S : DiskSenses D) (end : FollowingEnd) (old new : FollowWorld D)
    → Opens S (λ office. EndsOverOffice S office end old new) old.disk
    → EndsFollowing S end old new
ends_opened S ends.Done old new opens = opens
ends_opened S (ends.Stopped stop) old new opens = opens
ends_opened S ends.WriteFault old new opens = opens
ends_opened S ends.NoMemory old new opens = opens
ends_opened S (ends.Unopened why) old new opens = absurd opens.so.told
