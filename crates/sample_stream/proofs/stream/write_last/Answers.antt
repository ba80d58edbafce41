use Rattle.std.proofs.Common.{◌≡◌, ◌++◌, refl, List, ℕ, Option, subst}
use Rattle.office_outside.specs.Told.{Gained, GainedPrefix}
use Rattle.sample_stream.specs.Batches.{batch_of, corrections}
use Rattle.sample_stream.specs.Stream.{last_requests, questions, samples}
use Rattle.sample_stream.specs.declared.batch.Batch.{Batch}
use Rattle.request_texts.proofs.Pieces.{both_behind, part_behind, part_of_first}
use Rattle.sample_stream.proofs.stream.write_last.Goals as goal

-- the requests behind the corrections
abbrev again : List ℕ
again = samples (batch_of 0) ++ questions

-- the first batch again, as the sink gained it
again_gained : (a b : Option (List ℕ)) (batch : Batch) → batch ≡ batch_of 0
    → Gained (samples batch) a b → Gained (samples (batch_of 0)) a b
again_gained a b batch is = subst (λ (x : Batch). Gained (samples x) a b) is

pub returns-in_err-write_samples-clause-part : goal.returns-in_err-write_samples-clause-part
returns-in_err-write_samples-clause-part g c =
    part_of_first last_requests (samples corrections) again refl _ _ c.from_residual.result
    c.in_err-write_samples.ensures.part

pub returns-in_err-write_samples-2-clause-part : goal.returns-in_err-write_samples-2-clause-part
returns-in_err-write_samples-2-clause-part g c =
    let r = c.from_residual-in_err-write_samples-2.result in
    part_behind last_requests (samples corrections) again refl _ _ _ r
    c.in_ok-write_samples.ensures.gained
    (part_of_first again (samples (batch_of 0)) questions refl _ _ r
    (subst
    (λ (b : Batch).
    GainedPrefix (samples b) (g.K.Sink.held c.write_samples.new.output)
    (g.K.Sink.held c.write_samples-2.new.output))
    c.batch_of.ensures c.in_err-write_samples-2.ensures.part))

pub returns-clause-gained : goal.returns-clause-gained
returns-clause-gained g c =
    let r = c.write_questions.result in
    both_behind last_requests (samples corrections) again refl _ _ _ r
    c.in_ok-write_samples.ensures.gained
    (both_behind again (samples (batch_of 0)) questions refl _ _ _ r
    (again_gained _ _ _ c.batch_of.ensures c.in_ok-write_samples-2.ensures.gained)
    c.write_questions.ensures.gained)

pub returns-clause-part : goal.returns-clause-part
returns-clause-part g c =
    let r = c.write_questions.result in
    part_behind last_requests (samples corrections) again refl _ _ _ r
    c.in_ok-write_samples.ensures.gained
    (part_behind again (samples (batch_of 0)) questions refl _ _ _ r
    (again_gained _ _ _ c.batch_of.ensures c.in_ok-write_samples-2.ensures.gained)
    c.write_questions.ensures.part)
