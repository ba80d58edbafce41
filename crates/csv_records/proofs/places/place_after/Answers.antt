use Rattle.std.proofs.Common.{◌∙◌, ap, sym, get_or}
use Rattle.csv_records.specs.Places.{next_place}
use Rattle.csv_records.specs.declared.places.Place.{Place}
use Rattle.csv_records.proofs.PlaceLemmas.{place_more}
use Rattle.csv_records.proofs.places.place_after.Goals as goal

pub loop-at-preserved : goal.loop-at-preserved
loop-at-preserved c =
    c.next_place-place.ensures
    ∙ ap (λ (p : Place). next_place p (get_or c.args.bytes.now c.loop-at.at 0)) c.loop-at.invariant
    ∙ sym (place_more c.args.from c.args.bytes.now c.loop-at.at c.loop-at-test.true)
