use Rattle.std.proofs.Common.{◌∙◌}
use Rattle.zone_calendar.proofs.AgreementLemmas.{is_ok-utf8}
use Rattle.zone_calendar.proofs.read.is_text.Goals as goal

pub returns : goal.returns
returns c = c.is_ok.ensures.value
    ∙ is_ok-utf8 c.from_utf8.result c.args.bytes.now _ _ c.from_utf8.ensures.cases
