use Rattle.std.proofs.Common.{◌≡◌, ◌+◌, ◌++◌, [], take, drop}
use Rattle.entry_records.specs.Feeds.{with_lengths}
use Rattle.entry_records.specs.Kept.{records_in}
use Rattle.entry_records.proofs.FeedLemmas.{with_left}
use Rattle.entry_records.proofs.feed.put_records.Given as goal

-- what is put, and what is left to put
abbrev pub invariant-loop-place : goal.invariant-loop-place
invariant-loop-place l =
    with_left l.out.items l.place (l.fn.from + l.fn.count) (records_in l.fn.bytes)
    ≡ l.fn.out.items
    ++ with_lengths (take l.fn.count (drop l.fn.from (records_in l.fn.bytes))) []
