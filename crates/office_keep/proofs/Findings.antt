-- What a file that isn't opened was found to be.
use Rattle.std.proofs.Common.{◌≡◌, ◌⊎◌, inl, inr, ℕ, List, refl, sym, subst}
use Rattle.std.specs.Prelude.{Some}
use Rattle.office_outside.specs.Senses.{DiskSenses}
use Rattle.slo_journal.specs.Front.{HasNoHeader}
use Rattle.office_keep.specs.Files.{IsDamagedAt}
use Rattle.office_keep.specs.Opening.{IsFoundOn}
use Rattle.office_keep.specs.declared.fault.KeepFault.{KeepFault}
use Rattle.office_keep.specs.declared.fault.KeepFault.TheVariants.{AlreadyThere, NotAJournal}
use Rattle.office_keep.specs.declared.fault.KeepFault.TheVariants.{Damaged, DiskFault, NoMemory}

module _ {D : Type 0} (S : DiskSenses D) (disk : D) where
  -- by what the fault says of the file
  pub as_found : (why : KeepFault) → (why ≡ AlreadyThere → ⊥) →
      (why ≡ NotAJournal → (file : List ℕ) → S.content disk ≡ Some file → HasNoHeader file) →
      ((at : ℕ) → why ≡ Damaged at → (file : List ℕ) → S.content disk ≡ Some file →
      IsDamagedAt at file) → IsFoundOn S why disk
  as_found NotAJournal other header damaged = header refl
  as_found (Damaged at) other header damaged = damaged at refl
  as_found DiskFault other header damaged = tt
  as_found NoMemory other header damaged = tt
  as_found AlreadyThere other header damaged = other refl

  -- where nothing but the header was looked at
  pub as_unread : (why : KeepFault) → (why ≡ DiskFault) ⊎ (why ≡ NotAJournal) →
      (why ≡ NotAJournal → (file : List ℕ) → S.content disk ≡ Some file → HasNoHeader file) →
      IsFoundOn S why disk
  as_unread why (inl is) header = subst (λ (w : KeepFault). IsFoundOn S w disk) (sym is) tt
  as_unread why (inr is) header =
      subst (λ (w : KeepFault). IsFoundOn S w disk) (sym is) (header is)
