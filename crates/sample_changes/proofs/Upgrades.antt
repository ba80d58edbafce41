-- The upgrade: what is kept then, and that it comes once.
use Rattle.std.proofs.Common.{◌≡◌, ℕ, ◌+◌, ◌<◌, ◌||◌, ◌++◌, List, [], ◌∷◌, Bool, true, false, refl}
use Rattle.std.proofs.Common.{ap, sym, ◌∙◌, subst, arith, length}
use Rattle.std.proofs.lemmas.List.{append-nil}
use Rattle.std.proofs.lemmas.List.Folds.{list_any-append}
use Rattle.slo_limits.specs.declared.TheConstants as most
use Rattle.sample_book.specs.History.{Holds}
use Rattle.record_form.specs.declared.Command.TheVariants.{Upgrade}
use Rattle.record_form.specs.declared.Entry.{Entry}
use Rattle.office_history.specs.declared.Judgement.TheVariants.{Accepted}
use Rattle.office_history.specs.History.{Office, arrivals_in, with_entry}
use Rattle.office_history.specs.Verdicts.{upgrade_verdict}
use Rattle.office_history.specs.Versions.{is_upgrade, is_upgraded}
use Rattle.office_derived.specs.declared.Derived.{Derived}
use Rattle.office_derived.specs.declared.Work.TheVariants as works
use Rattle.office_derived.specs.Derived.{IsNext, IsSound, Reflects, entry_of}
use Rattle.office_derived.proofs.Sound.{more_cells, more_rows}
use Rattle.office_derived.proofs.Still.{reflects_still}
use Rattle.sample_changes.specs.Once.{UpgradeActsOnce}
use Rattle.sample_changes.proofs.Kept.{accepted_still, room_for_one}

-- there is room for the entry
pub upgrade_entries : (d : Derived) (o : Office) (m : ℕ) → IsNext d o m works.Upgrade
    → d.entries < most.MAX_ENTRIES
upgrade_entries d o m n = omega (
  arith,
  n.reflects.entries,
  room (is_upgraded o.history) (length o.history) (sym n.accepted),
)
  where
    room : (u : Bool) (n : ℕ) → upgrade_verdict u n ≡ Accepted → n < most.MAX_ENTRIES
    room true n h = cc h
    room false n h = room_for_one n h

-- what is kept after the upgrade
abbrev pub with_upgrade : Derived → ℕ → Derived
with_upgrade d moment = record d { upgraded = true; entries = d.entries + 1; present = moment }

-- it is what the history with the entry says
pub upgrade_reflected : (d : Derived) (o : Office) (m : ℕ) → IsNext d o m works.Upgrade
    → Reflects (with_upgrade d m) (with_entry o (entry_of m works.Upgrade))
upgrade_reflected d o m n =
    reflects_still d (with_upgrade d m) o m works.Upgrade n.reflects n.later
    (record { no_tick = refl; no_taking = λ number. refl }) refl refl refl refl refl refl refl
    (sym (append-nil d.zones.kept))
    (subst (λ es. Holds es d.book.rows d.book.exclusions) (sym (append-nil (arrivals_in o.history)))
    n.reflects.held)
    (accepted_still d o n.reflects)

-- it agrees in itself
pub upgrade_sound : (d : Derived) (o : Office) (m : ℕ) → IsSound d → IsNext d o m works.Upgrade
    → IsSound (with_upgrade d m)
upgrade_sound d o m s n = record {
  origin = s.origin;
  entries = omega (arith, upgrade_entries d o m n);
  cells = omega (arith, s.cells, more_cells d.upgraded);
  summed = s.summed;
  accepted = omega (arith, s.accepted, more_rows d.upgraded);
  few_waiting = s.few_waiting;
  made = omega (arith, s.made);
  read = s.read;
  placed = s.placed;
  sums = s.sums;
}

-- a history that has an upgrade is upgraded
pub upgraded_by : (before after : List Entry) (e : Entry) → e.command ≡ Upgrade
    → is_upgraded (before ++ e ∷ after) ≡ true
upgraded_by before after e is = list_any-append (λ (e : Entry). is_upgrade e.command) before
    (e ∷ after)
    ∙ ap (λ c. is_upgraded before || (is_upgrade c || is_upgraded after)) is
    ∙ or-true (is_upgraded before)
  where
    or-true : (b : Bool) → (b || true) ≡ true
    or-true true = refl
    or-true false = refl

pub upgrade_once : UpgradeActsOnce
upgrade_once origin h before after e moment split is =
    sym (ap (λ u. upgrade_verdict u (length h)) (ap is_upgraded split ∙ upgraded_by before after e
    is))
