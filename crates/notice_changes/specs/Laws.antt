-- What becomes of notices as entries are added.
use Rattle.std.specs.Prelude.{◌≡◌, ℕ, true, List, ◌++◌, None}
use Rattle.notice_box.specs.Box.{AreNumbered, notices_of}
use Rattle.notice_box.specs.declared.Notice.{Notice}
use Rattle.record_form.specs.declared.Command.TheVariants.{Take}
use Rattle.record_form.specs.declared.Entry.{Entry}
use Rattle.record_form.specs.declared.Outcome.TheVariants.{Changed}
use Rattle.office_history.specs.declared.Judgement.TheVariants.{Same}
use Rattle.office_history.specs.History.{Office, with_entry}
use Rattle.office_history.specs.Judges.{Judges}
use Rattle.office_history.specs.Legal.{IsLegal, office}
use Rattle.office_history.specs.Notices.{is_taken, notices_in}

-- a notice that a legal history takes may be taken again, and all stays the same
abbrev pub ATakingActsOnce : Type 0
ATakingActsOnce = (origin : ℕ) (h : List Entry) (number moment : ℕ) → IsLegal origin h →
    is_taken h number ≡ true →
    Judges (office origin h) moment (Take number) (Same (Changed None))

abbrev pub NoticesAreInOrder : Type 0
NoticesAreInOrder = (o : Office) → AreNumbered 1 (notices_of (notices_in o))

-- the notices behind an entry are those before it, and perhaps more
abbrev pub NoticesStay : Type 0
NoticesStay = (o : Office) (e : Entry) → (more : List Notice)
    × (notices_of (notices_in (with_entry o e)) ≡ notices_of (notices_in o) ++ more)
