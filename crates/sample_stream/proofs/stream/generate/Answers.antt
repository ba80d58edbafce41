use Rattle.std.proofs.Common.{◌++◌, refl, List, ℕ}
use Rattle.sample_stream.specs.Stream.{batches, definitions, last_requests, stream_of}
use Rattle.request_texts.proofs.Pieces.{part_behind, part_of_first}
use Rattle.sample_stream.proofs.stream.generate.Goals as goal

-- the requests behind the definitions
abbrev rest_of : ℕ → List ℕ
rest_of number = batches number ++ last_requests

pub returns-in_err-write_definitions-clause-part :
    goal.returns-in_err-write_definitions-clause-part
returns-in_err-write_definitions-clause-part g c =
    let n = c.args.number in
    part_of_first (stream_of n) definitions (rest_of n) refl _ _ c.from_residual.result
    c.in_err-write_definitions.ensures.part

pub returns-in_err-write_batches-clause-part : goal.returns-in_err-write_batches-clause-part
returns-in_err-write_batches-clause-part g c =
    let n = c.args.number in
    let r = c.from_residual-in_err-write_batches.result in
    part_behind (stream_of n) definitions (rest_of n) refl _ _ _ r
    c.in_ok-write_definitions.ensures.gained
    (part_of_first (rest_of n) (batches n) last_requests refl _ _ r
    c.in_err-write_batches.ensures.part)

pub returns-clause-part : goal.returns-clause-part
returns-clause-part g c =
    let n = c.args.number in
    let r = c.write_last.result in
    part_behind (stream_of n) definitions (rest_of n) refl _ _ _ r
    c.in_ok-write_definitions.ensures.gained
    (part_behind (rest_of n) (batches n) last_requests refl _ _ _ r
    c.in_ok-write_batches.ensures.gained c.write_last.ensures.part)
