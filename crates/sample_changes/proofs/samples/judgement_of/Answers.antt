use Rattle.std.proofs.Common.{ap, sym, ◌∙◌}
use Rattle.sample_book.specs.Puts.{verdicts}
use Rattle.office_derived.specs.Tallies.{tally_of}
use Rattle.sample_changes.specs.Judging.{faultless_verdict, rows_fault}
use Rattle.sample_changes.proofs.Judged.{faultless_by, passed_by, refused_by}
use Rattle.sample_changes.proofs.samples.judgement_of.Goals as goal

pub returns-in-Some : goal.returns-in-Some
returns-in-Some c =
    let a = c.args in
    let d = a.derived.now in
    refused_by (rows_fault d.upgraded d.origin a.moment d.catalog d.book.rows d.accepted a.rows.now)
    c.in-Some.refusal (faultless_verdict (verdicts d.book.rows a.rows.now) d.entries)
    (sym c.in_ok-fault.ensures ∙ c.in-Some.is)

pub returns-in-None : goal.returns-in-None
returns-in-None c =
    let a = c.args in
    let d = a.derived.now in
    c.faultless_verdict.ensures
    ∙ faultless_by (verdicts d.book.rows a.rows.now) a.tally d.entries
    (c.requires.counted ∙ ap tally_of c.requires.judged)
    ∙ passed_by (rows_fault d.upgraded d.origin a.moment d.catalog d.book.rows d.accepted
    a.rows.now)
    (faultless_verdict (verdicts d.book.rows a.rows.now) d.entries)
    (sym c.in_ok-fault.ensures ∙ c.in-None.is)
