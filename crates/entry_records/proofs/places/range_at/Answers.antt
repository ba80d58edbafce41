use Rattle.std.proofs.Common.{◌∙◌, sym}
use Rattle.entry_records.specs.Kept.{records_in}
use Rattle.entry_records.proofs.KeptLemmas.{at_place, nothing_at}
use Rattle.entry_records.proofs.places.range_at.Goals as goal

pub returns-in-Some-clause-at : goal.returns-in-Some-clause-at
returns-in-Some-clause-at c =
    at_place c.args.bytes.now c.args.ends.now (records_in c.args.bytes.now) c.args.place
    c.in-Some.end
    c.start_at.result c.requires (sym c.end_at.ensures ∙ c.in-Some.is)
    (c.start_at.ensures (records_in c.args.bytes.now) c.requires.ends_are)

pub returns-in-None-clause-none : goal.returns-in-None-clause-none
returns-in-None-clause-none c e =
    nothing_at c.args.bytes.now c.args.ends.now (records_in c.args.bytes.now) c.args.place
    c.requires
    (sym c.end_at.ensures ∙ c.in-None.is)
