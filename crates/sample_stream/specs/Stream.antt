-- The stream of a number.
use Rattle.std.specs.Prelude.{ℕ, List, [], ◌++◌, codes}
use Rattle.std.specs.List.{flat_map, range_with_len}
use Rattle.request_texts.specs.Requests.{request}
use Rattle.sample_stream.specs.Batches.{batch_of, corrections, rows_of}
use Rattle.sample_stream.specs.declared.batch.Batch.{Batch}
use Rattle.sample_stream.specs.declared.documents.TheConstants.{ALERT_TARGETS, SHOP}

-- what the samples count, as documents
unfoldable pub documents : List ℕ
documents = ALERT_TARGETS.now ++ (codes "---\n" ++ SHOP.now)

-- the request that defines it
unfoldable pub definitions : List ℕ
definitions = request (codes "POST /objects") documents

-- the request that sends a batch
unfoldable pub samples : Batch → List ℕ
samples batch = request (codes "POST /samples") (rows_of batch)

-- so many batches, one after another
abbrev pub batches : ℕ → List ℕ
batches count = flat_map (λ number. samples (batch_of number)) (range_with_len 0 count)

-- a tick, and the question for the budget
unfoldable pub questions : List ℕ
questions = request (codes "POST /tick") [] ++ request (codes "GET /budgets/shop-slo") []

-- the corrections, the first batch again, and the questions
abbrev pub last_requests : List ℕ
last_requests = samples corrections ++ (samples (batch_of 0) ++ questions)

-- The stream of a number: definitions, so many batches, and the last requests.
abbrev pub stream_of : ℕ → List ℕ
stream_of number = definitions ++ (batches number ++ last_requests)
