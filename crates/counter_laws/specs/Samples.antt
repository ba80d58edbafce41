-- The samples of differences.
use Rattle.std.specs.Prelude.{ℕ, Bool, List}
use Rattle.slice_method.specs.declared.Amount.TheVariants.{Counts}
use Rattle.counter_book.specs.declared.Difference.{Difference}
use Rattle.sample_book.specs.declared.Row.{Row}
use Rattle.cell_index.specs.Cells.{cell_eq}
use Rattle.sample_book.specs.Rows.{cell_of}

-- the row of a difference under an indicator, as it is sent to an office
abbrev pub sample_of : List ℕ → Difference → Row
sample_of sli d = record {
  sli = sli;
  source = d.source;
  minute = d.minute;
  revision = d.revision;
  amount = Counts d.part d.total;
}

-- whether a row is of this indicator's source and minute
abbrev pub is_sample_at : List ℕ → List ℕ → ℕ → Row → Bool
is_sample_at sli source minute row =
    cell_eq (record { sli = sli; source = source; minute = minute }) (cell_of row)
