use Rattle.std.proofs.Common.{◌≡◌, ◌*◌, ◌+◌, ◌≤◌, arith, length, ap, List, ℕ}
use Rattle.sample_stream.specs.Batches.{row_at}
use Rattle.sample_stream.proofs.Places.{texts, length_more}
use Rattle.sample_stream.proofs.batch.rows_length.Goals as goal

-- the length so far, with that of one more text
more : (text : ℕ → List ℕ) (place total : ℕ) (line row : List ℕ) → line ≡ row → row ≡ text place
    → total ≡ length (texts text 0 place) → total ≤ 100 * place → length row ≤ 100
    → (total + length line ≡ length (texts text 0 (place + 1)))
    × (total + length line ≤ 100 * (place + 1))
more text place total line row is row_is so_far few short =
    let same = ap (λ (l : List ℕ). length l) is in
    let row_same = ap (λ (l : List ℕ). length l) row_is in (
      omega (arith, length_more text place, same, row_same, so_far),
      omega (arith, same, few, short),
    )

pub loop-place-preserved : goal.loop-place-preserved
loop-place-preserved c =
    more (row_at c.args.batch) c.loop-place.place c.loop-place.total c.as_bytes.result.now
    c.row.result c.as_bytes.ensures c.row.ensures.row c.loop-place.invariant.0
    c.loop-place.invariant.1 c.row.ensures.short
