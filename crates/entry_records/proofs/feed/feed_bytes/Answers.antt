use Rattle.std.proofs.Common.{arith, drop, length-drop}
use Rattle.entry_records.specs.Kept.{records_in}
use Rattle.entry_records.proofs.KeptLemmas.{kept_few, kept_records}
use Rattle.entry_records.proofs.FeedLemmas.{fed_few, feed_is}
use Rattle.entry_records.proofs.feed.feed_bytes.Goals as goal

pub overflow_cast-count : goal.overflow_cast-count
overflow_cast-count c =
    let rs = records_in c.args.bytes.now in
    omega (
      arith,
      c.fed_from-count.ensures,
      fed_few (drop c.args.from rs),
      length-drop c.args.from rs,
      kept_records c.args.bytes.now c.args.ends.now c.requires.kept,
      kept_few c.args.bytes.now c.args.ends.now c.requires.kept,
    )

pub put_records-requires-clause-there : goal.put_records-requires-clause-there
put_records-requires-clause-there c = omega (
  arith,
  c.fed_from-count.ensures,
  fed_few (drop c.args.from (records_in c.args.bytes.now)),
)

pub returns : goal.returns
returns c =
    feed_is c.put_records.new.out.items c.in_ok-out.out.items c.args.origin c.args.from
    c.fed_from-count.result.0 (drop c.args.from (records_in c.args.bytes.now))
    c.fed_from-count.ensures c.in_ok-out.ensures c.in_ok-put_records.ensures
