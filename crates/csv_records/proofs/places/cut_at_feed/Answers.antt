use Rattle.std.proofs.Common.{arith}
use Rattle.csv_records.proofs.PlaceLemmas.{cut_at, plain_upto}
use Rattle.csv_records.proofs.places.cut_at_feed.Goals as goal

pub returns-in-Some-clause-cut : goal.returns-in-Some-clause-cut
returns-in-Some-clause-cut c = λ some.
    let found = c.in-Some.ensures in
    let within = found.0.high in
    let plain = c.requires.plain in
    cut_at c.args.from c.args.bytes.now c.in-Some.at (grind (arith, found.1))
    (plain_upto c.args.from c.args.bytes.now c.in-Some.at (omega arith) c.requires.open plain)
