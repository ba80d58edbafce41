use Rattle.std.proofs.Common.{◌≡◌, ◌≤◌, ◌+◌, ◌++◌, ◌∙◌, sym, ℕ, List, ap, arith, drop, length}
use Rattle.std.proofs.Common.{subst, take}
use Rattle.std.proofs.lemmas.Grind.{common_steps}
use Rattle.std.proofs.lemmas.List.{take-append-le}
use Rattle.csv_records.specs.Records.{csv_records}
use Rattle.office_outside.specs.Told.{Lost}
use Rattle.budget_command.specs.Input.{HasTakenBytes}
use Rattle.budget_command.proofs.InputLemmas.{taken-few_records, taken-more, taken-piece}
use Rattle.budget_command.proofs.InputLemmas.{taken-rest_few}
use Rattle.budget_command.proofs.JudgingLemmas.{on_ok-holds}
use Rattle.budget_command.proofs.input.judge_input.Goals as goal

pub judge_part-requires-clause-few : goal.judge_part-requires-clause-few
judge_part-requires-clause-few g c =
    let few = taken-rest_few _ _ c.reading.taken c.reading.waiting c.reading.judging
    c.reading.invariant.so_far in
    let taken = c.reading.invariant.few in
    let is = ap (λ (text : List ℕ). length (csv_records text)) c.text.ensures in
    omega (arith, few, taken, is)

pub take_piece-requires-clause-few : goal.take_piece-requires-clause-few
take_piece-requires-clause-few g c = λ count.
    let piece = take c.in-Ok.count (c.read.new.piece ++ drop c.min-room.result c.reading.piece) in
    let few = taken-few_records _ _ c.reading.taken c.reading.waiting piece count c.reading.judging
    c.reading.invariant.so_far in
    let taken = c.reading.invariant.few in
    let small : length piece ≤ 65536 = grind
    (arith, common_steps, c.in-Ok.ensures.count, c.read.auto.piece, c.min-room.ensures) in
    omega (arith, few, taken, small)

pub returns-then-is_err-clause-takes : goal.returns-then-is_err-clause-takes
returns-then-is_err-clause-takes g c =
    taken-piece 67108865 _ _ _ c.reading.taken c.reading.waiting c.read.new.piece c.in-Ok.count
    c.reading.judging c.reading.invariant.so_far c.in-Ok.ensures.bytes
    (grind (
      arith,
      common_steps,
      c.in-Ok.ensures.count,
      c.read.auto.piece,
      c.min-room.ensures,
      c.reading-test.true,
    ))

pub reading-preserved : goal.reading-preserved
reading-preserved g c =
    let piece = c.read.new.piece in
    let count = c.in-Ok.count in
    let within = c.in-Ok.ensures.count in
    let whole = piece ++ drop c.min-room.result c.reading.piece in
    let bytes : take count piece ≡ take count whole = grind
    (arith, common_steps, take-append-le, within) in
    let same : length (take count whole) ≡ count = grind (arith, common_steps, within, bytes) in
    let lost : Lost (take count whole) (g.S.Source.left c.reading.input)
    (g.S.Source.left c.read.new.self) =
    subst (λ (bytes : List ℕ). Lost bytes (g.S.Source.left c.reading.input)
    (g.S.Source.left c.read.new.self)) bytes c.in-Ok.ensures.bytes in
    record {
      so_far = subst (λ (n : ℕ). HasTakenBytes (g.S.Source.left c.args.input.now)
          (g.S.Source.left c.read.new.self) (c.reading.taken + n) c.take_piece.new.waiting
          c.take_piece.new.judging) same
          (taken-more _ _ _ c.reading.taken c.reading.waiting c.take_piece.new.waiting
          (take count whole) c.reading.judging c.take_piece.new.judging
          c.reading.invariant.so_far lost
          (on_ok-holds _ c.take_piece.result (sym c.is_err.ensures.value ∙ c.if-is_err.false)
          c.take_piece.ensures));
      few = grind (
        arith,
        common_steps,
        within,
        c.read.auto.piece,
        c.min-room.ensures,
        c.reading-test.true,
      );
      later = grind (arith, c.reading.invariant.later, c.in-Ok.ensures.cause.later);
    }
