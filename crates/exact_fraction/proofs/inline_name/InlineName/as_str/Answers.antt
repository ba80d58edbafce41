use Rattle.exact_fraction.proofs.WordOrder.{utf8-inline}
use Rattle.exact_fraction.proofs.inline_name.InlineName.as_str.Goals as goal

pub returns-in-Err : goal.returns-in-Err
returns-in-Err c = absurd (c.in-Err.ensures.cases.0
    (rw c.as_bytes-text.ensures.text (utf8-inline _ c.as_bytes-text.ensures.legal)))
