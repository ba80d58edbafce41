use Rattle.std.proofs.Common.{◌∙◌, ap, arith, get_or, sym}
use Rattle.csv_records.specs.Places.{ends_line, next_place}
use Rattle.csv_records.specs.declared.places.Place.{Place}
use Rattle.csv_records.proofs.PlaceLemmas.{cut_more, place_more}
use Rattle.csv_records.proofs.places.cut_by_places.Goals as goal
use Rattle.csv_records.proofs.places.cut_by_places.Goals.{then-ends_line, else-ends_line}

pub loop-at-preserved : goal.loop-at-preserved
loop-at-preserved c =
    let byte = get_or c.args.bytes.now c.loop-at.at 0 in
    record {
      place =
          c.next_place-place.ensures
          ∙ ap (λ (p : Place). next_place p byte) c.loop-at.invariant.place
          ∙ sym (place_more c.args.from c.args.bytes.now c.loop-at.at c.loop-at-test.true);
      within = elim c.if-ends_line.branch [
        | then-ends_line w ↦ rw w.cut-is (omega arith)
        | else-ends_line w ↦ rw w.cut-is (let few = c.loop-at.invariant.within in omega arith)
      ];
      cut = λ some. elim c.if-ends_line.branch [
        | then-ends_line w ↦
            let ends = sym c.ends_line.ensures ∙ w.if-ends_line.true in
            rw w.cut-is
            (cut_more c.args.from c.args.bytes.now c.loop-at.at c.loop-at-test.true
            (ap (λ (p : Place). ends_line p byte) (sym c.loop-at.invariant.place) ∙ ends))
        | else-ends_line w ↦ rw w.cut-is (c.loop-at.invariant.cut (rw w.cut-is at some))
      ];
    }
