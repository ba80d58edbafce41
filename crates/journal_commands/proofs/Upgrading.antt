-- What an upgrade comes to, and what it leaves.
use Rattle.std.proofs.Common.{◌≡◌, ◌<◌, ◌⊎◌, ◌||◌, ℕ, List, [], ◌∷◌, ◌++◌, length, cond}
use Rattle.std.proofs.Common.{nat_lt, Bool, true, false, Option, Some, None, refl, sym, ap, ◌∙◌}
use Rattle.std.proofs.Common.{subst, inl, inr, arith}
use Rattle.std.specs.Prelude.{is_some}
use Rattle.std.proofs.lemmas.Bool.Decides.{nat_tests}
use Rattle.std.proofs.lemmas.List.Folds.{list_any-append}
use Rattle.slo_limits.specs.declared.TheConstants.{MAX_ENTRIES, MAX_JOURNAL_BYTES}
use Rattle.office_outside.specs.Disk.{All}
use Rattle.office_outside.specs.Senses.{DiskSenses}
use Rattle.office_outside.specs.Told.{Gained, GainedPrefix}
use Rattle.record_form.specs.declared.Command.TheVariants.{Upgrade}
use Rattle.record_form.specs.declared.Entry.{Entry}
use Rattle.record_form.specs.declared.LimitName.TheVariants as limits
use Rattle.record_form.specs.declared.Outcome.{Outcome}
use Rattle.record_form.specs.declared.Outcome.TheVariants as outcomes
use Rattle.record_form.specs.declared.Refusal.TheVariants as refusals
use Rattle.record_form.specs.declared.Request.TheVariants.{Change}
use Rattle.office_history.specs.declared.Judgement.{Judgement}
use Rattle.office_history.specs.declared.Judgement.TheVariants.{Accepted, Refused, Same}
use Rattle.office_history.specs.History.{Office, end_of, moment_of, tail_of, with_entry}
use Rattle.office_history.specs.Outcomes.{outcome_by}
use Rattle.office_history.specs.Versions.{is_upgrade, is_upgraded}
use Rattle.office_counter.specs.Steps as steps
use Rattle.office_counter.specs.Steps.{Comes, made_by, needed_for, with_made}
use Rattle.office_keep.specs.Files.{StandsFor}
use Rattle.office_keep.specs.Office as keep
use Rattle.office_keep.specs.Office.{Accepts, Changes, IsSettled, IsTimely, Leaves, OfficeOn}
use Rattle.office_keep.specs.Office.{StandsSettled, WithOrWithout, entry_at}
use Rattle.journal_commands.specs.Migrating.{CameTo, EndsChange, EndsUpgrade, IsLeftAsItWas}
use Rattle.journal_commands.specs.Migrating.{IsLeftUpgraded, Upgrades, already_line, end_by}
use Rattle.journal_commands.specs.Migrating.{upgraded_line}
use Rattle.journal_commands.specs.declared.migrating.UpgradeEnd.{UpgradeEnd}
use Rattle.journal_commands.specs.declared.migrating.UpgradeEnd.TheVariants as ends
use Rattle.journal_commands.proofs.Sessions.{as_opened}

-- what an upgrade may come to: the moment is past the range, the office is upgraded, there are as
-- many entries as may be, the journal is full, or the entry is made
data Upshot (o : Office) (reading : ℕ) (outcome : Outcome) (made : Option Entry) : Type 0 where
  is_late : outcome ≡ outcomes.ClockRange (end_of o.origin) (moment_of o reading) → made ≡ None
      → Upshot o reading outcome made
  is_there : is_upgraded o.history ≡ true → outcome ≡ outcomes.Changed None → made ≡ None
      → Upshot o reading outcome made
  has_many : nat_lt (length o.history) MAX_ENTRIES ≡ false
      → outcome ≡ outcomes.Refused (refusals.Limit limits.Entries) → Upshot o reading outcome made
  is_full : outcome ≡ outcomes.JournalFull (needed_for o (entry_at o reading Upgrade))
      (tail_of o.history) → made ≡ None → Upshot o reading outcome made
  is_made : outcome ≡ outcomes.Changed (Some (length o.history))
      → made ≡ Some (entry_at o reading Upgrade) → Upshot o reading outcome made

module _ (o : Office) (reading : ℕ) (outcome : Outcome) (made : Option Entry) where
  by_room : (full : Bool) →
      outcome ≡ cond full
      (outcomes.JournalFull (needed_for o (entry_at o reading Upgrade)) (tail_of o.history))
      (outcomes.Changed (Some (length o.history))) →
      made ≡ cond full None (Some (entry_at o reading Upgrade)) → Upshot o reading outcome made
  by_room true told is = is_full told is
  by_room false told is = is_made told is

  by_judgement : (upgraded few : Bool) → is_upgraded o.history ≡ upgraded →
      nat_lt (length o.history) MAX_ENTRIES ≡ few → (j : Judgement) →
      j ≡ cond upgraded (Same (outcomes.Changed None))
      (cond few Accepted (Refused (refusals.Limit limits.Entries))) →
      outcome ≡ outcome_by o (entry_at o reading Upgrade) j →
      made ≡ made_by o (entry_at o reading Upgrade) j → Upshot o reading outcome made
  by_judgement true few same below j judged told is =
      is_there same (told ∙ ap (outcome_by o (entry_at o reading Upgrade)) judged)
      (is ∙ ap (made_by o (entry_at o reading Upgrade)) judged)
  by_judgement false false same below j judged told is =
      has_many below (told ∙ ap (outcome_by o (entry_at o reading Upgrade)) judged)
  by_judgement false true same below j judged told is =
      by_room (nat_lt MAX_JOURNAL_BYTES (needed_for o (entry_at o reading Upgrade)))
      (told ∙ ap (outcome_by o (entry_at o reading Upgrade)) judged)
      (is ∙ ap (made_by o (entry_at o reading Upgrade)) judged)

  upshot : Comes o reading (Change Upgrade) outcome made → Upshot o reading outcome made
  upshot (steps.past out told none) = is_late told none
  upshot (steps.comes timely (j, judged, told, is)) =
      by_judgement (is_upgraded o.history) (nat_lt (length o.history) MAX_ENTRIES) refl refl j
      judged told is

-- so many entries are no fewer than may be
not_many : (n : ℕ) → n < MAX_ENTRIES → nat_lt n MAX_ENTRIES ≡ false → ⊥
not_many n few many = grind (arith, nat_tests, few, many)

-- an upgrade ended: how, and what the disk holds then
pub record Ended {D : Type 0} (S : DiskSenses D) (o : Office) (reading : ℕ) (outcome : Outcome)
    (disk : D) : Type 0 where
  pub end : UpgradeEnd
  pub is : end_by outcome ≡ Some end
  pub ends : EndsChange S o reading end disk

-- what was in doubt, where nothing was, is settled
settled_is : (o p : Office) (doubt : Option Entry) → doubt ≡ None → IsSettled o doubt p → p ≡ o
settled_is o p doubt none s = subst (λ (d : Option Entry). IsSettled o d p) none s

-- the office with the entry in doubt, or without it
either : (o : Office) (reading : ℕ) (file : List ℕ) → Accepts o reading Upgrade →
    StandsSettled o (Some (entry_at o reading Upgrade)) file → WithOrWithout o reading Upgrade file
either o reading file accepts (settled, inl same, stands) =
    inl (subst (λ (p : Office). StandsFor p file) same stands)
either o reading file accepts (settled, inr more, stands) =
    inr (accepts, subst (λ (p : Office). StandsFor p file) more stands)

module _ {D : Type 0} (S : DiskSenses D) (reading : ℕ) (old new : OfficeOn D) where
  -- where nothing is in doubt afterwards, each image stands for the office
  at_rest : (p : Office) → new.office ≡ p → new.doubt ≡ None →
      All (StandsSettled new.office new.doubt) (S.images new.disk) →
      All (StandsFor p) (S.images new.disk)
  at_rest p same none stands =
      subst (λ (q : Office). All (StandsFor q) (S.images new.disk)) same
      (as_opened S new none stands)

  came : (outcome known : Outcome) (made kept : Option Entry) → outcome ≡ known → made ≡ kept →
      Comes old.office reading (Change Upgrade) outcome made →
      All (StandsFor (with_made old.office made)) (S.images new.disk) →
      CameTo S old.office reading known kept new.disk
  came outcome known made kept told is come stands = record {
    comes =
        subst (λ (x : Outcome). Comes old.office reading (Change Upgrade) x kept) told
        (subst (λ (m : Option Entry). Comes old.office reading (Change Upgrade) outcome m) is
        come);
    stands =
        subst (λ (m : Option Entry). All (StandsFor (with_made old.office m)) (S.images new.disk))
        is stands;
  }

  by_upshot : (outcome : Outcome) (made : Option Entry) →
      length old.office.history < MAX_ENTRIES →
      Comes old.office reading (Change Upgrade) outcome made →
      All (StandsFor (with_made old.office made)) (S.images new.disk) →
      Upshot old.office reading outcome made → Ended S old.office reading outcome new.disk
  by_upshot outcome made few come stands (is_late told is) = record {
    end = ends.OutOfRange;
    is = ap end_by told;
    ends = came outcome _ made None told is come stands;
  }
  by_upshot outcome made few come stands (has_many none told) =
      absurd (not_many (length old.office.history) few none)
  by_upshot outcome made few come stands (is_there same told is) = record {
    end = ends.Already;
    is = ap end_by told;
    ends = came outcome _ made None told is come stands;
  }
  by_upshot outcome made few come stands (is_full told is) = record {
    end = ends.JournalFull;
    is = ap end_by told;
    ends = came outcome _ made None told is come stands;
  }
  by_upshot outcome made few come stands (is_made told is) = record {
    end = ends.Upgraded;
    is = ap end_by told;
    ends = came outcome _ made (Some (entry_at old.office reading Upgrade)) told is come stands;
  }

  -- the disk failed and nothing is in doubt
  failed_at_rest : (outcome : Outcome) → outcome ≡ outcomes.DiskFault →
      IsTimely new.office reading → new.office ≡ old.office → new.doubt ≡ None →
      All (StandsSettled new.office new.doubt) (S.images new.disk) →
      Ended S old.office reading outcome new.disk
  failed_at_rest outcome told timely same none stands = record {
    end = ends.DiskFault;
    is = ap end_by told;
    ends = (
      subst (λ (p : Office). IsTimely p reading) same timely,
      λ file image. inl (at_rest old.office same none stands file image),
    );
  }

  -- how a change that is the upgrade ended, where nothing was in doubt
  pub change_ended : (outcome : Outcome) (place : Option ℕ) → old.doubt ≡ None →
      length old.office.history < MAX_ENTRIES →
      Changes old reading Upgrade outcome place new →
      All (StandsSettled new.office new.doubt) (S.images new.disk) →
      Ended S old.office reading outcome new.disk
  change_ended outcome place none few (keep.past out told same at) stands =
      by_upshot outcome None few (steps.past out told refl)
      (at_rest old.office (ap (λ (k : OfficeOn D). k.office) same)
      (ap (λ (k : OfficeOn D). k.doubt) same ∙ none) stands)
      (is_late told refl)
  change_ended outcome place none few (keep.refused_memory told timely unmoved at) stands = record {
    end = ends.NoMemory;
    is = ap end_by told;
    ends =
        at_rest old.office (settled_is old.office new.office old.doubt none unmoved.settled)
        unmoved.none stands;
  }
  change_ended outcome place none few (keep.not_settled told timely before at) stands =
      failed_at_rest outcome told timely before.office (before.doubt ∙ none) stands
  change_ended outcome place none few (keep.not_kept told timely unmoved at) stands =
      failed_at_rest outcome told timely
      (settled_is old.office new.office old.doubt none unmoved.settled) unmoved.none stands
  change_ended outcome place none few (keep.in_doubt told timely doubt at) stands =
      let same = settled_is old.office new.office old.doubt none doubt.settled in
      record {
        end = ends.DiskFault;
        is = ap end_by told;
        ends = (
          subst (λ (p : Office). IsTimely p reading) same timely,
          λ file image.
              subst (λ (p : Office). WithOrWithout p reading Upgrade file) same
              (either new.office reading file doubt.accepts
              (subst (λ (d : Option Entry). StandsSettled new.office d file) doubt.doubt
              (stands file image))),
        );
      }
  change_ended outcome place none few (keep.done settled made is timely come grows rest at) stands =
      let same = settled_is old.office settled old.doubt none is in
      let here =
      subst (λ (p : Office). Comes p reading (Change Upgrade) outcome made) same come in
      by_upshot outcome made few here
      (at_rest (with_made old.office made)
      (grows ∙ ap (λ (p : Office). with_made p made) same) rest stands)
      (upshot old.office reading outcome made here)

  -- what a stop may leave while the upgrade is made, where nothing was in doubt
  pub left_by : old.doubt ≡ None → (file : List ℕ) → Leaves old reading Upgrade new file →
      WithOrWithout old.office reading Upgrade file
  left_by none file (keep.unsettled (settled, is, stands)) =
      inl (subst (λ (p : Office). StandsFor p file)
      (settled_is old.office settled old.doubt none is) stands)
  left_by none file (keep.written settled made is grows accepts stands) =
      let same = settled_is old.office settled old.doubt none is in
      inr (subst (λ (p : Office). Accepts p reading Upgrade
      × StandsFor (with_entry p (entry_at p reading Upgrade)) file) same (accepts, stands))

-- an outcome that the upgrade comes to is one of these
pub no_other : (outcome : Outcome) → is_some (end_by outcome) ≡ true →
    ((entry : Option ℕ) → outcome ≡ outcomes.Changed entry → ⊥) →
    ((end moment : ℕ) → outcome ≡ outcomes.ClockRange end moment → ⊥) →
    ((needed tail : ℕ) → outcome ≡ outcomes.JournalFull needed tail → ⊥) →
    (outcome ≡ outcomes.DiskFault → ⊥) → (outcome ≡ outcomes.NoMemory → ⊥) → ⊥
no_other (outcomes.Changed entry) is changed past full failed memory = changed entry refl
no_other (outcomes.ClockRange end moment) is changed past full failed memory =
    past end moment refl
no_other (outcomes.JournalFull needed tail) is changed past full failed memory =
    full needed tail refl
no_other outcomes.DiskFault is changed past full failed memory = failed refl
no_other outcomes.NoMemory is changed past full failed memory = memory refl
no_other _ is changed past full failed memory = cc is

-- an outcome has one end
one_end : (outcome : Outcome) (a b : UpgradeEnd) → end_by outcome ≡ Some a →
    end_by outcome ≡ Some b → a ≡ b
one_end outcome a b is other = let same : Some a ≡ Some b = sym is ∙ other in cc same

pub ended_so : {D : Type 0} (S : DiskSenses D) (o : Office) (reading : ℕ) (outcome : Outcome)
    (end : UpgradeEnd) (disk : D) → Ended S o reading outcome disk →
    end_by outcome ≡ Some end → EndsChange S o reading end disk
ended_so S o reading outcome end disk ended is =
    subst (λ (x : UpgradeEnd). EndsChange S o reading x disk)
    (one_end outcome ended.end end ended.is is) ended.ends

-- what was told of an upgrade that ended so: its line, or a part of it where the output failed
module _ {D : Type 0} (S : DiskSenses D) (o : Office) (reading : ℕ) (old new : Option (List ℕ))
    (disk : D) (text : List ℕ) (rose : Type 0) (end result : UpgradeEnd) where
  pub told_made : end ≡ ends.Upgraded → text ≡ upgraded_line (length o.history) →
      EndsChange S o reading end disk →
      ((result ≡ end) × Gained text old new)
      ⊎ ((result ≡ ends.WriteFault) × rose × GainedPrefix text old new) →
      EndsUpgrade S o reading result old new disk
  told_made same line change (inl (is, gained)) =
      subst (λ (e : UpgradeEnd). EndsUpgrade S o reading e old new disk) (sym (is ∙ same)) (
        subst (λ (e : UpgradeEnd). EndsChange S o reading e disk) same change,
        subst (λ (l : List ℕ). Gained l old new) line gained,
      )
  told_made same line change (inr (is, cause, gained)) =
      subst (λ (e : UpgradeEnd). EndsUpgrade S o reading e old new disk) (sym is)
      (inl (
        subst (λ (e : UpgradeEnd). EndsChange S o reading e disk) same change,
        subst (λ (l : List ℕ). GainedPrefix l old new) line gained,
      ))

  pub told_there : end ≡ ends.Already → text ≡ already_line → EndsChange S o reading end disk →
      ((result ≡ end) × Gained text old new)
      ⊎ ((result ≡ ends.WriteFault) × rose × GainedPrefix text old new) →
      EndsUpgrade S o reading result old new disk
  told_there same line change (inl (is, gained)) =
      subst (λ (e : UpgradeEnd). EndsUpgrade S o reading e old new disk) (sym (is ∙ same)) (
        subst (λ (e : UpgradeEnd). EndsChange S o reading e disk) same change,
        subst (λ (l : List ℕ). Gained l old new) line gained,
      )
  told_there same line change (inr (is, cause, gained)) =
      subst (λ (e : UpgradeEnd). EndsUpgrade S o reading e old new disk) (sym is)
      (inr (
        subst (λ (e : UpgradeEnd). EndsChange S o reading e disk) same change,
        subst (λ (l : List ℕ). GainedPrefix l old new) line gained,
      ))

-- an end that was told is the one that was to be told, or a fault of the output with its cause
module _ (end result : UpgradeEnd) (gained part rose : Type 0) where
  pub told_rose : (end ≡ ends.WriteFault → ⊥) →
      ((result ≡ end) × gained) ⊎ ((result ≡ ends.WriteFault) × rose × part) →
      result ≡ ends.WriteFault → rose
  told_rose other (inl (is, g)) failed = absurd (other (sym is ∙ failed))
  told_rose other (inr (is, cause, p)) failed = cause

  pub told_no_disk : (end ≡ ends.DiskFault → ⊥) →
      ((result ≡ end) × gained) ⊎ ((result ≡ ends.WriteFault) × rose × part) →
      result ≡ ends.DiskFault → ⊥
  told_no_disk other (inl (is, g)) failed = other (sym is ∙ failed)
  told_no_disk other (inr (is, cause, p)) failed =
      let no : ends.WriteFault ≡ ends.DiskFault = sym is ∙ failed in cc no

-- WHAT IS LEFT

upgraded_more : (h : List Entry) (e : Entry) → is_upgrade e.command ≡ true →
    is_upgraded (h ++ e ∷ []) ≡ true
upgraded_more h e is = list_any-append (λ (x : Entry). is_upgrade x.command) h (e ∷ [])
    ∙ ap (λ b. is_upgraded h || (b || false)) is ∙ or_true (is_upgraded h)
  where
    or_true : (b : Bool) → (b || true) ≡ true
    or_true true = refl
    or_true false = refl

module _ {D : Type 0} (S : DiskSenses D) (reading : ℕ) (old new : Option (List ℕ)) (after : D)
    (office : OfficeOn D) where
  pub left_made : Upgrades S reading ends.Upgraded old new after office →
      IsLeftUpgraded S after office
  left_made u = record {
    made = Some (entry_at office.office reading Upgrade);
    upgraded =
        upgraded_more office.office.history (entry_at office.office reading Upgrade) refl;
    stands = u.ends.0.stands;
  }

  there_upgraded : (made : Option Entry) →
      Upshot office.office reading (outcomes.Changed None) made →
      is_upgraded office.office.history ≡ true
  there_upgraded made (is_late told is) = cc told
  there_upgraded made (is_there same told is) = same
  there_upgraded made (has_many none told) = cc told
  there_upgraded made (is_full told is) = cc told
  there_upgraded made (is_made told is) = cc told

  pub left_there : Upgrades S reading ends.Already old new after office →
      IsLeftUpgraded S after office
  left_there u = record {
    made = None;
    upgraded =
        there_upgraded None
        (upshot office.office reading (outcomes.Changed None) None u.ends.0.comes);
    stands = u.ends.0.stands;
  }

  pub left_late : Upgrades S reading ends.OutOfRange old new after office →
      IsLeftAsItWas S after office
  left_late u = u.ends.0.stands

  pub left_full : Upgrades S reading ends.JournalFull old new after office →
      IsLeftAsItWas S after office
  left_full u = u.ends.0.stands
