-- Batches of samples, as records of CSV.
use Rattle.std.specs.Prelude.{ℕ, ◌+◌, ◌-◌, ◌*◌, ◌%◌, List, ◌++◌, Bool, true, false, codes, decimal}
use Rattle.std.specs.List.{flat_map, range_with_len}
use Rattle.sample_stream.specs.declared.batch.Batch.{Batch}

-- The row of a minute: of the events that `shop-good` counts, from the source `s`, so many of 1,000
-- were good.
abbrev pub row_text : ℕ → ℕ → ℕ → List ℕ
row_text minute revision good =
    codes "shop-good,s," ++ (decimal minute ++ (codes "," ++ (decimal revision ++ (codes ","
    ++ (decimal good ++ codes ",1000\n")))))

-- A batch counts a minute for the first time, where each other minute has one event that wasn't
-- good; or it corrects it.
abbrev pub row_by : Bool → ℕ → ℕ → List ℕ
row_by false minute place = row_text minute 1 (1000 - place % 2)
row_by true minute place = row_text minute 2 1000

-- the row of a minute of a batch, counted from its first one
abbrev pub row_at : Batch → ℕ → List ℕ
row_at batch place = row_by batch.corrects (batch.first + place) place

-- the rows of a batch
unfoldable pub rows_of : Batch → List ℕ
rows_of batch = flat_map (row_at batch) (range_with_len 0 batch.count)

-- the batch of 1,000 minutes of this number, from 0 on
abbrev pub batch_of : ℕ → Batch
batch_of number = record { first = 1000 * number; count = 1000; corrects = false }

-- the first 100 minutes, corrected
abbrev pub corrections : Batch
corrections = record { first = 0; count = 100; corrects = true }
