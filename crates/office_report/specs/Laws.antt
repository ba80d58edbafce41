-- What holds of all reports.
use Rattle.std.specs.Prelude.{◌≡◌, ◌≤◌, ℕ, List}
use Rattle.office_history.specs.History.{Office}
use Rattle.office_report.specs.Report.{IsReport}

-- two reports of one office at one minute that isn't before its origin are the same
abbrev pub EachReportIsOneText : Type 0
EachReportIsOneText =
    (o : Office) (at : ℕ) (a b : List ℕ) → o.origin ≤ at → IsReport o at a → IsReport o at b → a ≡ b
