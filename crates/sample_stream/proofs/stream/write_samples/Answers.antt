use Rattle.std.proofs.Common.{◌≡◌, ◌++◌, codes, length, ℕ, List, refl}
use Rattle.sample_stream.specs.Batches.{rows_of}
use Rattle.request_texts.specs.Requests.{head_of}
use Rattle.sample_stream.specs.Stream.{samples}
use Rattle.sample_stream.specs.declared.batch.Batch.{Batch}
use Rattle.request_texts.proofs.Pieces.{both_behind, part_behind, part_of_first}
use Rattle.sample_stream.proofs.stream.write_samples.Goals as goal

-- a head and the rows are the request
whole : (batch : Batch) (line head : List ℕ) (count : ℕ) → line ≡ head
    → head ≡ head_of (codes "POST /samples") count → count ≡ length (rows_of batch)
    → line ++ rows_of batch ≡ samples batch
unfolding samples
whole batch line head count line_is head_is count_is =
    rw (line_is, head_is, count_is) refl

pub returns-in_err-write_whole-clause-part : goal.returns-in_err-write_whole-clause-part
returns-in_err-write_whole-clause-part g c =
    let is =
    whole c.args.batch _ _ _ c.as_bytes.ensures c.head-head.ensures c.rows_length.ensures in
    part_of_first (samples c.args.batch) c.as_bytes.result.now (rows_of c.args.batch) is _ _
    c.from_residual.result c.in_err-write_whole.ensures.part

pub returns-clause-gained : goal.returns-clause-gained
returns-clause-gained g c =
    let is =
    whole c.args.batch _ _ _ c.as_bytes.ensures c.head-head.ensures c.rows_length.ensures in
    both_behind (samples c.args.batch) c.as_bytes.result.now (rows_of c.args.batch) is _ _ _
    c.write_rows.result c.in_ok-write_whole.ensures.gained c.write_rows.ensures.gained

pub returns-clause-part : goal.returns-clause-part
returns-clause-part g c =
    let is =
    whole c.args.batch _ _ _ c.as_bytes.ensures c.head-head.ensures c.rows_length.ensures in
    part_behind (samples c.args.batch) c.as_bytes.result.now (rows_of c.args.batch) is _ _ _
    c.write_rows.result c.in_ok-write_whole.ensures.gained c.write_rows.ensures.part
