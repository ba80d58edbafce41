-- What comes again over a legal history that has it already.
use Rattle.std.specs.Prelude.{◌≡◌, ◌≤◌, ℕ, false, cond, List, ◌∷◌, ◌++◌, Option, Some, None}
use Rattle.std.specs.List.{list_any}
use Rattle.sample_book.specs.declared.Row.{Row}
use Rattle.sample_book.specs.History.{is_put}
use Rattle.sample_book.specs.Puts.{verdicts}
use Rattle.record_form.specs.declared.Command.{Command}
use Rattle.record_form.specs.declared.Command.TheVariants.{Define, Remove, PutZone, Samples}
use Rattle.record_form.specs.declared.Command.TheVariants.{Exclude, Lift, Tick, Take, Upgrade}
use Rattle.record_form.specs.declared.Entry.{Entry}
use Rattle.record_form.specs.declared.Outcome.TheVariants.{Changed}
use Rattle.record_form.specs.declared.Refusal.TheVariants as refusals
use Rattle.office_history.specs.declared.Judgement.{Judgement}
use Rattle.office_history.specs.declared.Judgement.TheVariants.{Same, Refused}
use Rattle.office_history.specs.Batches.{batch_outcome}
use Rattle.office_history.specs.History.{present, rows_in}
use Rattle.office_history.specs.Judges.{Judges}
use Rattle.office_history.specs.Legal.{IsLegal, office}
use Rattle.sample_changes.specs.Once.{is_lifted}

-- a batch that is an entry leaves all as it is when it comes again, and adds no entry
abbrev pub BatchActsOnce : Type 0
BatchActsOnce = (origin : ℕ) (h before after : List Entry) (e : Entry) (rows : List Row)
    (moment : ℕ) → IsLegal origin h → h ≡ before ++ e ∷ after → e.command ≡ Samples rows →
    present (office origin h) ≤ moment →
    Judges (office origin h) moment (Samples rows)
    (Same (batch_outcome (verdicts (rows_in h) rows) None))

-- none of its rows is new then, or newer than what is kept
abbrev pub BatchBringsNothing : Type 0
BatchBringsNothing = (origin : ℕ) (h before after : List Entry) (e : Entry) (rows : List Row) →
    IsLegal origin h → h ≡ before ++ e ∷ after → e.command ≡ Samples rows →
    list_any is_put (verdicts (rows_in h) rows) ≡ false

-- What becomes of a change that a history has already: all stays as it is, and no entry is added;
-- only an exclusion whose id was lifted is withdrawn. Nothing is said of a definition, a removal
-- and a tick, which may change something again.
abbrev pub repeated_judgement : List Entry → Command → Option Judgement
repeated_judgement h (Samples rows) = Some (Same (batch_outcome (verdicts (rows_in h) rows) None))
repeated_judgement h (PutZone name bytes) = Some (Same (Changed None))
repeated_judgement h (Exclude value) = Some
    (cond (is_lifted h value.id) (Refused (refusals.Withdrawn value.id)) (Same (Changed None)))
repeated_judgement h (Lift id) = Some (Same (Changed None))
repeated_judgement h (Take number) = Some (Same (Changed None))
repeated_judgement h Upgrade = Some (Same (Changed None))
repeated_judgement h (Define text) = None
repeated_judgement h (Remove kind name) = None
repeated_judgement h Tick = None

-- so it is judged at any moment from the present on
abbrev pub ChangesActOnce : Type 0
ChangesActOnce = (origin : ℕ) (h before after : List Entry) (e : Entry) (moment : ℕ)
    (judgement : Judgement) → IsLegal origin h → h ≡ before ++ e ∷ after →
    present (office origin h) ≤ moment → repeated_judgement h e.command ≡ Some judgement →
    Judges (office origin h) moment e.command judgement

-- two entries of one command are definitions, removals or ticks
abbrev pub NoneStandsTwice : Type 0
NoneStandsTwice = (origin : ℕ) (h before between after : List Entry) (first second : Entry) →
    IsLegal origin h → h ≡ before ++ first ∷ (between ++ second ∷ after) →
    second.command ≡ first.command → repeated_judgement h first.command ≡ None
