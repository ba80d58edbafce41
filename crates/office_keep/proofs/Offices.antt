-- What the office's type keeps, and what the images of its disk stand for.
use Rattle.std.proofs.Common.{◌≡◌, ◌<◌, ◌≤◌, ◌*◌, inl, inr, ⊎_elim, ℕ, List, [], ◌∷◌, ◌++◌, length}
use Rattle.std.proofs.Common.{Option, Some, None, Bool, Result, refl, sym, ap, ◌∙◌, subst, arith}
use Rattle.std.specs.List.{AllByRecursion}
use Rattle.slo_limits.specs.declared.TheConstants.{MAX_ENTRIES, MAX_JOURNAL_BYTES}
use Rattle.office_outside.specs.Disk.{All}
use Rattle.office_outside.specs.Senses.{DiskSenses}
use Rattle.record_form.specs.declared.Entry.{Entry}
use Rattle.record_form.specs.Laws.{RecordsHaveSizes}
use Rattle.record_form.specs.Ranges.{FitsRecord}
use Rattle.record_form.specs.Records.{record_of}
use Rattle.office_history.specs.History.{Office, with_entry}
use Rattle.office_core.specs.Seen.{Machine}
use Rattle.slo_journal.specs.File.{Stands, StandsInDoubt, size_of, tail_of}
use Rattle.slo_journal.specs.Keeping.{JournalOn, Keeps, Appended, Settled}
use Rattle.slo_journal.specs.declared.AppendFault.{AppendFault}
use Rattle.slo_journal.specs.declared.DiskFault.{DiskFault}
use Rattle.slo_journal.proofs.Files.{by_gate}
use Rattle.office_keep.specs.Files.{records}
use Rattle.office_keep.specs.Office.{StandsSettled}
use Rattle.office_keep.specs.Steps.{IsDoubted, OfficeIsKept, KeepsOffice, entry_in}
use Rattle.office_keep.proofs.Histories.{records_more}

-- a file in doubt stands for the office, or for it with the entry
by_entry : (o : Office) (e : Entry) (file : List ℕ) →
    StandsInDoubt o.origin (records o.history) (record_of e) file → StandsSettled o (Some e) file
by_entry o e file d = ⊎_elim
    (λ s. (o, inl refl, s))
    (λ s. (
      with_entry o e,
      inr refl,
      subst (λ (l : List (List ℕ)). Stands o.origin l file) (sym (records_more o.history e)) s,
    ))
    (by_gate o.origin (records o.history) (record_of e) file d)

-- an entry takes ten bytes of the journal at least: its gate, its length and a record of five
ten_each : RecordsHaveSizes → (h : List Entry) → AllByRecursion FitsRecord h →
    10 * length h ≤ size_of (records h)
ten_each law [] fit = omega arith
ten_each law (e ∷ h) fit = omega (arith, (law e fit.0).least, ten_each law h fit.1)

-- so the journal is full before the history has as many entries as it may
pub few_entries : RecordsHaveSizes → (h : List Entry) → AllByRecursion FitsRecord h → (tail : ℕ) →
    tail ≡ tail_of (records h) → tail < MAX_JOURNAL_BYTES → length h < MAX_ENTRIES
few_entries law h fit tail is within = omega (arith, ten_each law h fit, is, within)

-- facts by cases don't say whose senses they are about, so each lemma is told
module _ {D : Type 0} (S : DiskSenses D) where
  pub doubted_of : (m : Machine) (doubt : Option (List ℕ)) (journal : JournalOn D)
      (bytes : List ℕ) → OfficeIsKept S m doubt journal → doubt ≡ Some bytes →
      IsDoubted S m bytes journal
  doubted_of m doubt journal bytes k some =
      subst (λ (d : Option (List ℕ)). OfficeIsKept S m d journal) some k

  pub kept_of : (m : Machine) (doubt : Option (List ℕ)) (journal : JournalOn D) (o : Office) →
      doubt ≡ None → m.office ≡ o → KeepsOffice S o journal → OfficeIsKept S m doubt journal
  kept_of m doubt journal o none same k =
      subst (λ (d : Option (List ℕ)). OfficeIsKept S m d journal) (sym none)
      (subst (λ (p : Office). KeepsOffice S p journal) (sym same) k)

  -- the closed gate stands behind the records of the history
  pub tail_now : (m : Machine) (doubt : Option (List ℕ)) (journal : JournalOn D) →
      OfficeIsKept S m doubt journal → journal.tail ≡ tail_of (records m.office.history)
  tail_now m None journal k = k.tail
  tail_now m (Some bytes) journal k = k.doubts.tail

  -- with one entry more
  pub keeps_more : (o : Office) (e : Entry) (journal : JournalOn D) →
      Keeps S o.origin (records o.history ++ record_of e ∷ []) journal →
      KeepsOffice S (with_entry o e) journal
  keeps_more o e journal k =
      subst (λ (l : List (List ℕ)). Keeps S o.origin l journal)
      (sym (records_more o.history e)) k

  -- what the images stand for now
  pub stands_now : (m : Machine) (doubt : Option (List ℕ)) (journal : JournalOn D) →
      OfficeIsKept S m doubt journal →
      All (StandsSettled m.office (entry_in doubt m.pending)) (S.images journal.disk)
  stands_now m None journal k = λ file image. (m.office, refl, k.each file image)
  stands_now m (Some bytes) journal k = λ file image.
      subst (λ (d : Option Entry). StandsSettled m.office d file) (sym k.pending)
      (by_entry m.office k.entry file (k.doubts.each file image))

  pub stands_in_doubt : (m : Machine) (doubt : Option (List ℕ)) (journal : JournalOn D)
      (bytes : List ℕ) → doubt ≡ Some bytes → (d : IsDoubted S m bytes journal) →
      (file : List ℕ) →
      StandsInDoubt m.office.origin (records m.office.history) (record_of d.entry) file →
      StandsSettled m.office (entry_in doubt m.pending) file
  stands_in_doubt m doubt journal bytes some d file s =
      subst (λ (e : Option Entry). StandsSettled m.office e file)
      (sym (ap (λ (x : Option (List ℕ)). entry_in x m.pending) some ∙ d.pending))
      (by_entry m.office d.entry file s)

  pub appended : (o : Office) (frame r : List ℕ) (result known : Result Prim.Unit AppendFault)
      (journal : JournalOn D) → frame ≡ r → result ≡ known →
      Appended S o.origin (records o.history) frame result journal →
      Appended S o.origin (records o.history) r known journal
  appended o frame r result known journal same is after =
      subst (λ x. Appended S o.origin (records o.history) r x journal) is
      (subst (λ (x : List ℕ). Appended S o.origin (records o.history) x result journal)
      same after)

  pub settled_as : (o : Office) (r : List ℕ) (result known : Result Bool DiskFault)
      (journal : JournalOn D) → result ≡ known →
      Settled S o.origin (records o.history) r result journal →
      Settled S o.origin (records o.history) r known journal
  settled_as o r result known journal is after =
      subst (λ x. Settled S o.origin (records o.history) r x journal) is after
