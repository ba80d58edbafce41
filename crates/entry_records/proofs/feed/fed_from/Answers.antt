use Rattle.std.proofs.Common.{◌+◌, List, ℕ, length, ap, sym, arith, drop, rules}
use Rattle.entry_records.specs.Kept.{records_in}
use Rattle.entry_records.specs.Feeds.{fed, room_behind}
use Rattle.entry_records.proofs.KeptLemmas.{kept_records}
use Rattle.entry_records.proofs.FeedLemmas.{all_counted, below, drop_none, first_counted}
use Rattle.entry_records.proofs.FeedLemmas.{no_room_for, none_more, nothing_is, one_counted}
use Rattle.entry_records.proofs.FeedLemmas.{there_is}
use Rattle.entry_records.proofs.feed.fed_from.Goals as goal

pub returns-in-None : goal.returns-in-None
returns-in-None c = let rs = records_in c.args.bytes.now in
    sym (ap (λ (all : List (List ℕ)). length (fed all))
    (drop_none rs c.args.from (nothing_is rs c.args.from (sym c.in-None.ensures))))

pub loop-next-init : goal.loop-next-init
loop-next-init c =
    let rs = records_in c.args.bytes.now in
    let there = there_is rs c.args.from c.in-Some.first (sym c.in-Some.ensures) in
    record {
      counted = first_counted rs c.args.from c.in-Some.first (sym c.in-Some.ensures);
      within = omega (
        arith,
        below rs c.args.from there.r there.is,
        kept_records c.args.bytes.now c.args.ends.now c.requires.kept,
      );
    }

pub returns-then-saturating_sub-next : goal.returns-then-saturating_sub-next
returns-then-saturating_sub-next c =
    all_counted c.loop-next.count _ _ c.loop-next.invariant.counted
    (no_room_for (room_behind c.loop-next.size) (records_in c.args.bytes.now)
    (c.args.from + c.loop-next.count) c.in-Some-taken_at.next (sym c.in-Some-taken_at.ensures)
    (search rules))

pub loop-next-smaller : goal.loop-next-smaller
loop-next-smaller c =
    let rs = records_in c.args.bytes.now in
    let i = c.args.from + c.loop-next.count in
    let there = there_is rs i c.in-Some-taken_at.next (sym c.in-Some-taken_at.ensures) in
    omega (
      arith,
      below rs i there.r there.is,
      kept_records c.args.bytes.now c.args.ends.now c.requires.kept,
    )

pub loop-next-preserved : goal.loop-next-preserved
loop-next-preserved c =
    let rs = records_in c.args.bytes.now in
    let i = c.args.from + c.loop-next.count in
    let next = c.in-Some-taken_at.next in
    let there = there_is rs i next (sym c.in-Some-taken_at.ensures) in
    record {
      counted = one_counted rs c.args.from c.loop-next.count c.loop-next.size next
          (length (fed (drop c.args.from rs))) (sym c.in-Some-taken_at.ensures) (search rules)
          c.loop-next.invariant.counted;
      within = omega (
        arith,
        below rs i there.r there.is,
        kept_records c.args.bytes.now c.args.ends.now c.requires.kept,
      );
    }

pub returns : goal.returns
returns c =
    let rs = records_in c.args.bytes.now in
    let i = c.args.from + c.loop-next.count in
    all_counted c.loop-next.count _ _ c.loop-next.invariant.counted
    (none_more (room_behind c.loop-next.size) rs i (nothing_is rs i (sym c.in_default.ensures)))
