use Rattle.std.proofs.Common.{◌∙◌, ap, map, drop, List, ℕ}
use Rattle.record_form.specs.Records.{record_of}
use Rattle.entry_records.specs.Feeds.{feed_of}
use Rattle.entry_records.specs.Kept.{Entries}
use Rattle.entry_records.proofs.FeedLemmas.{feed_of_history}
use Rattle.record_form.specs.Histories.{history_of}
use Rattle.entry_records.proofs.entry_records.EntryRecords.feed.Goals as goal

pub returns : goal.returns
returns c =
    c.from_vec.ensures ∙ feed_of_history c.in_ok-text.text.items c.args.origin c.args.from
    (history_of c.deref.result.now) c.in_ok-text.ensures
    ∙ ap (λ (bytes : List ℕ). feed_of c.args.origin c.args.from
    (map record_of (drop c.args.from (history_of bytes))))
    c.deref.ensures.value
    ∙ ap (λ (m : Entries). feed_of c.args.origin c.args.from
    (map record_of (drop c.args.from m.history)))
    c.self.view_is
