use Rattle.std.proofs.Common.{◌∙◌, ap, arith, length, take}
use Rattle.std.proofs.Math.Seq.{take-length}
use Rattle.std.proofs.lemmas.List.{take-append-le}
use Rattle.yaml_terms.proofs.short_text.ShortText.copy_of.Goals as goal

pub returns : goal.returns
returns c =
    let text = c.args.bytes.now in
    ap (take (length text)) c.write_front.ensures
    ∙ take-append-le (length text) text _ (omega arith) ∙ take-length text
