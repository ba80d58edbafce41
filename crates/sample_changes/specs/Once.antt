-- What comes again over a legal history that has it already.
use Rattle.std.specs.Prelude.{◌≡◌, ◌≤◌, ℕ, Bool, cond, List, ◌∷◌, ◌++◌, None}
use Rattle.std.specs.List.{list_any, AllByRecursion}
use Rattle.std.specs.Str.{bytes_eq}
use Rattle.slo_limits.specs.declared.TheConstants.{MAX_DAYS}
use Rattle.sample_book.specs.declared.Row.{Row}
use Rattle.sample_book.specs.declared.Exclusion.{Exclusion}
use Rattle.sample_book.specs.Exclusions.{lifted_in}
use Rattle.sample_book.specs.Puts.{verdicts}
use Rattle.record_form.specs.declared.Command.TheVariants.{Samples, Exclude, Lift, Upgrade}
use Rattle.record_form.specs.declared.Entry.{Entry}
use Rattle.record_form.specs.declared.Outcome.TheVariants.{Changed}
use Rattle.record_form.specs.declared.Refusal.TheVariants as refusals
use Rattle.office_history.specs.declared.Judgement.TheVariants.{Same, Refused}
use Rattle.office_history.specs.Batches.{objective_days, batch_outcome}
use Rattle.office_history.specs.Catalog.{catalog_in}
use Rattle.office_history.specs.History.{present, rows_in, current_in, changes_in}
use Rattle.office_history.specs.Judges.{Judges}
use Rattle.office_history.specs.Legal.{IsLegal, office}
use Rattle.office_derived.specs.Derived.{RowIsRead}

-- the id of an exclusion was lifted
abbrev pub is_lifted : List Entry → List ℕ → Bool
is_lifted h id = list_any (bytes_eq id) (lifted_in (changes_in h))

-- a lifting that is an entry leaves all as it is when it comes again
abbrev pub LiftActsOnce : Type 0
LiftActsOnce = (origin : ℕ) (h before after : List Entry) (e : Entry) (id : List ℕ) (moment : ℕ) →
    IsLegal origin h → h ≡ before ++ e ∷ after → e.command ≡ Lift id →
    Judges (office origin h) moment (Lift id) (Same (Changed None))

-- so does the upgrade
abbrev pub UpgradeActsOnce : Type 0
UpgradeActsOnce = (origin : ℕ) (h before after : List Entry) (e : Entry) (moment : ℕ) →
    h ≡ before ++ e ∷ after → e.command ≡ Upgrade →
    Judges (office origin h) moment Upgrade (Same (Changed None))

-- so does an exclusion, unless its id was lifted: then it is refused as withdrawn
abbrev pub ExcludeActsOnce : Type 0
ExcludeActsOnce =
    (origin : ℕ) (h before after : List Entry) (e : Entry) (value : Exclusion) (moment : ℕ) →
    IsLegal origin h → h ≡ before ++ e ∷ after → e.command ≡ Exclude value →
    Judges (office origin h) moment (Exclude value)
    (cond (is_lifted h value.id) (Refused (refusals.Withdrawn value.id)) (Same (Changed None)))

-- A batch that is an entry leaves all as it is when it comes again, where the catalog still reads
-- its rows and the days of the history are within their limit.
abbrev pub BatchActsOnce : Type 0
BatchActsOnce =
    (origin : ℕ) (h before after : List Entry) (e : Entry) (rows : List Row) (moment : ℕ) →
    IsLegal origin h → h ≡ before ++ e ∷ after → e.command ≡ Samples rows →
    present (office origin h) ≤ moment → AllByRecursion (RowIsRead (catalog_in h)) rows →
    objective_days (catalog_in h) (current_in h) ≤ MAX_DAYS →
    Judges (office origin h) moment (Samples rows)
    (Same (batch_outcome (verdicts (rows_in h) rows) None))
