-- How a machine is seen.
use Rattle.std.specs.Prelude.{List, Option}
use Rattle.record_form.specs.declared.Entry.{Entry}
use Rattle.office_history.specs.History.{Office}
use Rattle.kept_sums.specs.declared.ObjectiveSums.{ObjectiveSums}
use Rattle.kept_lines.specs.declared.WatchLine.{WatchLine}

-- its office, the entry for which room was made, if any, and what it keeps beside them: the sums of
-- its objectives, and the lines of its alerts
pub record Machine : Type 0 where
  pub office : Office
  pub pending : Option Entry
  pub sums : List ObjectiveSums
  pub lines : List WatchLine
