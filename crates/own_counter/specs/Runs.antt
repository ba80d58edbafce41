-- What a stop may leave in the course of many askings.
use Rattle.std.specs.Prelude.{ℕ, List, ◌⊎◌}
use Rattle.record_form.specs.declared.Entry.{Entry}
use Rattle.office_history.specs.History.{Office, with_entry}
use Rattle.office_counter.specs.Laws.{Extends}
use Rattle.office_keep.specs.Files.{StandsFor}

-- The bytes stand for an office whose history begins with the first one's and with which the last
-- one's begins, or for it with one entry more.
pub record IsBetween (first last : Office) (file : List ℕ) : Type 0 where
  pub office : Office
  pub from_first : Extends first office
  pub up_to_last : Extends office last
  pub stands : StandsFor office file ⊎ ((e : Entry) × StandsFor (with_entry office e) file)
