use Rattle.std.proofs.Common.{◌∙◌, ap, arith, length}
use Rattle.record_form.specs.Histories.{records_of}
use Rattle.entry_records.specs.Kept.{Entries}
use Rattle.entry_records.proofs.entry_records.EntryRecords.size.Goals as goal

pub returns-clause-value : goal.returns-clause-value
returns-clause-value c =
    c.len.ensures ∙ c.self.inside.bytes.ok.0 ∙ ap length c.self.invariant.records.spelled
    ∙ ap (λ (e : Entries). length (records_of e.history)) c.self.view_is

pub returns-clause-few : goal.returns-clause-few
returns-clause-few c =
    omega (arith, c.len.ensures, c.self.inside.bytes.ok.0, c.self.invariant.few)
