-- The calls of a memory form, and which of them fail.
use Rattle.std.specs.Prelude.{ℕ, List}
use Rattle.office_outside.specs.Faults.{next_count}
use Rattle.office_doors.specs.Entrances.{joined_count}

-- how the calls of a memory form go
pub record Numbered : Type 0 where
  -- the call of each of these numbers fails; calls are counted from 0
  pub failing : List ℕ
  -- how many calls there were
  pub calls : ℕ
  -- how many of them failed
  pub faults : ℕ

-- before the first call
abbrev pub numbered : List ℕ → Numbered
numbered failing = record { failing = failing; calls = 0; faults = 0 }

-- after a call that was done
abbrev pub after_call : Numbered → Numbered
after_call n = record n { calls = next_count n.calls }

-- after a call that failed
abbrev pub after_failure : Numbered → Numbered
after_failure n = record n { calls = next_count n.calls; faults = next_count n.faults }

-- with the faults of another object
abbrev pub with_faults : ℕ → Numbered → Numbered
with_faults faults n = record n { faults = joined_count n.faults faults }
