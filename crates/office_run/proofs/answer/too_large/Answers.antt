use Rattle.std.proofs.Common.{refl}
use Rattle.office_run.proofs.answer.too_large.Goals as goal

-- a text of documents that is too large has that fault
pub returns : goal.returns
returns c = λ bytes large.
    let refusal = c.too_large_text.result in
    (refusal, c.too_large_text.ensures bytes large, refl)
