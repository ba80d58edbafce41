use Rattle.std.proofs.Common.{◌∙◌, ◌+◌, ◌++◌, [], ℕ, Vec, Global, ap, sym, arith}
use Rattle.std.proofs.Common.{drop, take, length-drop}
use Rattle.entry_records.specs.Feeds.{with_lengths}
use Rattle.entry_records.specs.Kept.{records_in}
use Rattle.entry_records.proofs.FeedLemmas.{all_left, all_put, one_put, past}
use Rattle.entry_records.proofs.feed.put_records.Goals as goal
use Rattle.entry_records.proofs.feed.put_records.Goals.{in-Some+in_ok-put_record, in_default}

pub loop-place-init : goal.loop-place-init
loop-place-init c =
    all_left (records_in c.args.bytes.now) c.args.from c.args.count c.args.out.now.items

pub loop-place-preserved : goal.loop-place-preserved
loop-place-preserved c =
    let rs = records_in c.args.bytes.now in
    let place = c.loop-place.place in
    elim c.match-record_at.branch [
      | in-Some+in_ok-put_record w ↦ one_put rs place (c.args.from + c.args.count)
          w.in-Some.piece.now c.loop-place.out.items c.match-record_at.out.items
          (c.args.out.now.items ++ with_lengths (take c.args.count (drop c.args.from rs)) [])
          (sym w.in-Some.ensures.at) c.loop-place-test.true
          (ap (λ (v : Vec ℕ Global). v.items) w.out-is ∙ w.in_ok-put_record.ensures)
          c.loop-place.invariant
      | in_default w ↦ absurd (omega (
        arith,
        past rs place (sym w.in_default.ensures.at),
        c.requires.there,
        length-drop c.args.from rs,
        c.loop-place-test.true,
        c.loop-place.auto.place,
      ))
    ]

pub returns : goal.returns
returns c =
    all_put (records_in c.args.bytes.now) c.loop-place.place (c.args.from + c.args.count)
    c.loop-place.out.items _ c.loop-place-test.false c.loop-place.invariant
