-- Steps of an opening that are known.
use Rattle.std.proofs.Common.{◌≡◌, ◌<◌, ◌≤◌, ◌-◌, ℕ, List, Bool, Result, Ok, Err, ap, subst, arith}
use Rattle.slo_journal.specs.Scanning.{IsNext}
use Rattle.slo_journal.specs.declared.ScanFault.{ScanFault}
use Rattle.office_keep.specs.declared.fault.KeepFault.{KeepFault}
use Rattle.office_keep.specs.declared.fault.KeepFault.TheVariants.{AlreadyThere, DiskFault}
use Rattle.office_keep.specs.declared.fault.KeepFault.TheVariants.{NotAJournal, Damaged, NoMemory}

abbrev place_of : Result Bool KeepFault → ℕ
place_of (Ok x) = 0
place_of (Err (Damaged at)) = at
place_of (Err DiskFault) = 0
place_of (Err AlreadyThere) = 0
place_of (Err NotAJournal) = 0
place_of (Err NoMemory) = 0

abbrev pub the_fault : ℕ → Result Bool KeepFault
the_fault at = Err (Damaged at)

pub same_place : (a b : ℕ) → the_fault a ≡ the_fault b → a ≡ b
same_place a b e = ap place_of e

pub known : (bytes : List ℕ) (at : ℕ) (result is : Result Bool ScanFault) (out : List ℕ) →
    result ≡ is → IsNext bytes at result out → IsNext bytes at is out
known bytes at result is out e next = subst (λ r. IsNext bytes at r out) e next

pub smaller : (old new limit : ℕ) → old < new → new ≤ limit → limit - new < limit - old
smaller old new limit less few = omega (arith, less, few)
