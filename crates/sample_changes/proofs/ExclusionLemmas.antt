-- What is kept after an exclusion or a lifting.
use Rattle.std.proofs.Common.{◌≡◌, ℕ, ◌+◌, ◌<◌, ◌||◌, ◌++◌, List, [], false, fold, refl, ap, sym}
use Rattle.std.proofs.Common.{◌∙◌}
use Rattle.std.specs.List.{AllByRecursion}
use Rattle.std.proofs.lemmas.List.{append-nil}
use Rattle.slo_limits.specs.declared.TheConstants as most
use Rattle.sample_book.specs.declared.Row.{Row}
use Rattle.sample_book.specs.Book.{Book}
use Rattle.sample_book.specs.History.{Holds}
use Rattle.record_form.specs.declared.Command.{Command}
use Rattle.office_history.specs.Catalog.{definitions_of, members_after}
use Rattle.office_history.specs.History.{Office, accepted_rows, arrivals_in, arrivals_of, rows_in}
use Rattle.office_history.specs.History.{rows_of, with_entry}
use Rattle.office_history.specs.Versions.{is_upgrade}
use Rattle.office_history.specs.Zones.{zones_of}
use Rattle.office_derived.specs.declared.Derived.{Derived}
use Rattle.office_derived.specs.declared.Work.{Work}
use Rattle.office_history.specs.declared.Measure.{Measure}
use Rattle.kept_sums.specs.Objectives.{AreKept, HasSums, IsLike, IsObjective, KeptObjectives}
use Rattle.kept_sums.specs.Objectives.{measures_of}
use Rattle.kept_sums.specs.declared.ObjectiveSums.{ObjectiveSums}
use Rattle.office_derived.specs.Derived.{IsNext, IsSound, Reflects, command_of, entry_of}
use Rattle.office_derived.proofs.Still.{IsStill, reflects_still}
use Rattle.sample_changes.proofs.Following.{change_followed}
use Rattle.sample_changes.proofs.Kept.{accepted_still, sound_still}

-- what is kept with one entry more that changes the book and the sums
abbrev pub changed : Derived → Book → KeptObjectives → ℕ → Derived
changed d book sums moment =
    record d { book = book; sums = sums; entries = d.entries + 1; present = moment }

-- a command that changes no more than exclusions
pub record IsOfExclusions (c : Command) : Type 0 where
  pub still : IsStill c
  pub no_object : definitions_of c ≡ []
  pub no_zone : zones_of c ≡ []
  pub no_row : rows_of c ≡ []
  pub no_upgrade : is_upgrade c ≡ false

-- it is what the history with the entry says
pub change_reflected : (d : Derived) (book : Book) (sums : KeptObjectives) (o : Office)
    (moment : ℕ) (work : Work) → IsNext d o moment work → IsOfExclusions (command_of work) →
    Holds (arrivals_in o.history ++ arrivals_of (command_of work)) book.rows book.exclusions →
    Reflects (changed d book sums moment) (with_entry o (entry_of moment work))
change_reflected d book sums o moment work next only held =
    reflects_still d (changed d book sums moment) o moment work next.reflects next.later only.still
    refl refl refl (sym (ap (λ b. b || d.upgraded) only.no_upgrade)) refl refl
    (ap (fold members_after d.catalog) (sym only.no_object))
    (sym (ap (λ zs. d.zones.kept ++ zs) only.no_zone ∙ append-nil d.zones.kept))
    held
    (accepted_still d o next.reflects
    ∙ ap (λ (rows : List Row). accepted_rows (rows_in o.history ++ rows)) (sym only.no_row))

-- it agrees in itself, where those sums have followed that were left
pub change_sound : (d : Derived) (book : Book) (left sums : KeptObjectives) (moment : ℕ) →
    IsSound d → d.entries < most.MAX_ENTRIES → book.rows ≡ d.book.rows →
    AllByRecursion (λ (k : ObjectiveSums). IsLike d.catalog false k.measure) left.own →
    left.pooled ≡ d.sums.pooled → measures_of sums.own ≡ measures_of left.own →
    sums.pooled ≡ left.pooled → AreKept book.exclusions book.rows sums.own →
    ((m : Measure) → IsObjective d.catalog m →
    HasSums d.book.exclusions d.sums.own d.sums.pooled m
    → HasSums book.exclusions left.own left.pooled m) →
    IsSound (changed d book sums moment)
change_sound d book left sums moment sound few rows only stays measures pool are still =
    let d' = changed d book sums moment in
    sound_still d d' sound few refl refl refl refl rows refl refl
    (change_followed d d' left sound refl rows only stays measures pool are still)
