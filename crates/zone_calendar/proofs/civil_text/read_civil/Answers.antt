use Rattle.std.proofs.Common.{sym, ap}
use Rattle.zone_calendar.specs.CivilText.{parts_in}
use Rattle.zone_calendar.proofs.CivilLemmas.{text_of_parts, parts_in-civil, text_of}
use Rattle.zone_calendar.proofs.SameLemmas.{found}
use Rattle.zone_calendar.proofs.civil_text.read_civil.Goals as goal

pub returns-in_err-read_parts-clause-all : goal.returns-in_err-read_parts-clause-all
returns-in_err-read_parts-clause-all c = λ moment e.
    let read = c.in_err-read_parts.ensures in
    let back = parts_in-civil moment in
    let text = ap parts_in e in
    absurd (cc)

pub returns-clause-read : goal.returns-clause-read
returns-clause-read c = text_of c.moment_of.result c.args.text.now c.in_ok-read_parts.field-0
    (text_of_parts c.args.text.now c.in_ok-read_parts.field-0 (sym c.in_ok-read_parts.ensures))
    c.moment_of.ensures.some

pub returns-clause-all : goal.returns-clause-all
returns-clause-all c = λ moment e.
    let read = c.in_ok-read_parts.ensures in
    let back = parts_in-civil moment in
    let text = ap parts_in e in
    found c.moment_of.result c.in_ok-read_parts.field-0 moment c.moment_of.ensures.some
    c.moment_of.ensures.none (cc)
