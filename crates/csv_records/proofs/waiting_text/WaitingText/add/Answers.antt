use Rattle.std.proofs.Common.{sym, subst}
use Rattle.csv_records.specs.Parts.{EndsWithRecord}
use Rattle.csv_records.specs.Places.{IsCut}
use Rattle.csv_records.specs.declared.places.Place.{Place}
use Rattle.csv_records.proofs.PartLemmas.{cut_ends_record}
use Rattle.csv_records.proofs.waiting_text.WaitingText.add.Goals as goal

pub returns-clause-ends : goal.returns-clause-ends
returns-clause-ends c = λ some.
    let waiting = c.self.inside.bytes.items in
    let piece = c.args.piece.now in
    let count = c.last_cut-count.result in
    let cut = c.last_cut-count.ensures.cut some in
    let from = subst (λ (p : Place). IsCut p piece count) c.self.invariant cut in
    subst EndsWithRecord (sym c.in_ok-extend_from_slice-2.ensures.items)
    (cut_ends_record waiting piece count some c.last_cut-count.ensures.within from)
