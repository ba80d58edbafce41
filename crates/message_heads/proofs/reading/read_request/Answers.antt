use Rattle.std.proofs.Common.{sym, subst}
use Rattle.message_heads.specs.Hearing.{Hears}
use Rattle.message_heads.proofs.FrontLemmas.{heard_alone}
use Rattle.message_heads.proofs.reading.read_request.Goals as goal

pub returns : goal.returns
returns c =
    subst (Hears c.args.bytes.now) (sym c.heard.ensures)
    (heard_alone c.args.bytes.now c.hear.result c.hear.ensures)
