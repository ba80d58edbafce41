-- What the writing of an entry comes to.
use Rattle.std.proofs.Common.{◌≡◌, ℕ, ◌<◌, ◌≤◌, nat_lt, cond, List, length, Option, Some, None}
use Rattle.std.proofs.Common.{Bool, true, false, Result, sym, ap, ◌∙◌, subst, arith}
use Rattle.std.proofs.lemmas.Bool.Decides.{nat_tests}
use Rattle.slo_limits.specs.declared.TheConstants.{MAX_JOURNAL_BYTES}
use Rattle.office_outside.specs.Disk.{LeavesOnly}
use Rattle.office_outside.specs.Senses.{DiskSenses}
use Rattle.record_form.specs.declared.Entry.{Entry}
use Rattle.record_form.specs.declared.Outcome.{Outcome}
use Rattle.record_form.specs.declared.Outcome.TheVariants.{JournalFull}
use Rattle.record_form.specs.Records.{record_of}
use Rattle.office_history.specs.History.{Office, with_entry}
use Rattle.office_history.specs.History as history
use Rattle.office_history.specs.Outcomes.{outcome_of}
use Rattle.office_counter.specs.Steps.{needed_for, place_of, with_made}
use Rattle.slo_journal.specs.File as files
use Rattle.slo_journal.specs.Keeping as keeping
use Rattle.slo_journal.specs.Keeping.{FullExactly, WithOrWithout}
use Rattle.slo_journal.specs.declared.AppendFault.{AppendFault}
use Rattle.office_keep.specs.Files.{records}
use Rattle.office_keep.specs.Steps.{Writes, entry_in, is_written}
use Rattle.office_keep.proofs.Histories.{same_tail}

-- one entry is pending
pub same_pending : (p : Option Entry) (a b : Entry) → p ≡ Some a → p ≡ Some b → a ≡ b
same_pending p a b is is2 = cc (sym is ∙ is2)

pub none_in : (doubt : Option (List ℕ)) (pending : Option Entry) → doubt ≡ None →
    entry_in doubt pending ≡ None
none_in doubt pending none = ap (λ (d : Option (List ℕ)). entry_in d pending) none

pub full_known : (tail : ℕ) (r : List ℕ) (result known : Result Prim.Unit AppendFault) →
    result ≡ known → FullExactly tail r result → FullExactly tail r known
full_known tail r result known is full = subst (λ x. FullExactly tail r x) is full

-- the same images, told of the record
pub as_record : {D : Type 0} {S : DiskSenses D} {old new : D} {origin : ℕ} {rs : List (List ℕ)}
    {frame r : List ℕ} → frame ≡ r → LeavesOnly S old new (WithOrWithout origin rs frame) →
    LeavesOnly S old new (WithOrWithout origin rs r)
as_record {S} {old} {new} {origin} {rs} same leaves =
    subst (λ (x : List ℕ). LeavesOnly S old new (WithOrWithout origin rs x)) same leaves

module _ (o : Office) (e : Entry) (tail : ℕ) (frame : List ℕ)
    (place : tail ≡ files.tail_of (records o.history)) (same : frame ≡ record_of e) where
  -- the journal has room exactly where the definition says so
  needed_is : keeping.needed_for tail frame ≡ needed_for o e
  needed_is = omega (arith, same_tail o.history, place, ap length same)

  has_room : keeping.needed_for tail frame ≤ MAX_JOURNAL_BYTES →
      nat_lt MAX_JOURNAL_BYTES (needed_for o e) ≡ false
  has_room few = none (needed_for o e) (omega (arith, few, needed_is))
    where
      none : (n : ℕ) → n ≤ MAX_JOURNAL_BYTES → nat_lt MAX_JOURNAL_BYTES n ≡ false
      none n less = grind (arith, nat_tests)

  has_no_room : MAX_JOURNAL_BYTES < keeping.needed_for tail frame →
      nat_lt MAX_JOURNAL_BYTES (needed_for o e) ≡ true
  has_no_room many = some (needed_for o e) (omega (arith, many, needed_is))
    where
      some : (n : ℕ) → MAX_JOURNAL_BYTES < n → nat_lt MAX_JOURNAL_BYTES n ≡ true
      some n more = grind (arith, nat_tests)

  -- where the entry has room it is added
  pub adds : (outcome : Outcome) (at : ℕ) (new : Office) (doubt : Option Entry) →
      keeping.needed_for tail frame ≤ MAX_JOURNAL_BYTES → outcome ≡ outcome_of o e.moment e.command
      →
      at ≡ length o.history → new ≡ with_entry o e → doubt ≡ None →
      Writes o e outcome (Some at) new doubt
  adds outcome at new doubt few told is more none =
      let room = has_room few in
      is_written
      (told ∙ sym
      (ap (λ (b : Bool). cond b (JournalFull (needed_for o e) (history.tail_of o.history))
      (outcome_of o e.moment e.command)) room))
      (ap (λ (n : ℕ). Some n) is ∙ sym (ap (λ (b : Bool). place_of o (cond b None (Some e))) room))
      (more ∙ sym (ap (λ (b : Bool). with_made o (cond b None (Some e))) room))
      none

  -- where it has none the journal is full
  pub fills : (needed at : ℕ) (new : Office) (doubt : Option Entry) → at ≡ tail →
      needed ≡ keeping.needed_for tail frame → MAX_JOURNAL_BYTES < needed → new ≡ o → doubt ≡ None →
      Writes o e (JournalFull needed at) None new doubt
  fills needed at new doubt at_tail sum many as_before none =
      let full = has_no_room (omega (arith, many, sum)) in
      let told : JournalFull needed at ≡ JournalFull (needed_for o e) (history.tail_of o.history) =
      ap (λ (n : ℕ). JournalFull n at) (sum ∙ needed_is)
      ∙ ap (λ (n : ℕ). JournalFull (needed_for o e) n)
      (at_tail ∙ place ∙ sym (same_tail o.history)) in
      is_written
      (told ∙ sym
      (ap (λ (b : Bool). cond b (JournalFull (needed_for o e) (history.tail_of o.history))
      (outcome_of o e.moment e.command)) full))
      (sym (ap (λ (b : Bool). place_of o (cond b None (Some e))) full))
      (as_before ∙ sym (ap (λ (b : Bool). with_made o (cond b None (Some e))) full))
      none
