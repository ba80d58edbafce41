use Rattle.std.proofs.Common.{◌∙◌, ap, sym}
use Rattle.std.specs.Prelude.{option_copied}
use Rattle.history_answers.proofs.StartLemmas.{no_zone}
use Rattle.history_answers.proofs.window_list.begun_by.Goals as goal

pub returns-in-None : goal.returns-in-None
returns-in-None c =
    no_zone c.args.zones.now.kept c.args.calendar.now c.args.step c.args.horizon c.args.from
    c.args.to c.none_begun.result.starts.items c.none_begun.result.next
    (sym c.is_utc.ensures ∙ c.if-is_utc.false)
    (sym c.zone_of.ensures ∙ ap option_copied c.in-None.is) c.none_begun.ensures.starts
    c.none_begun.ensures.next
