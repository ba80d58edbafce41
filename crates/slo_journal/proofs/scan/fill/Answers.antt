use Rattle.std.proofs.Common.{◌≡◌, ◌≤◌, ◌+◌, ◌-◌, length, take, drop, ap, rules, arith}
use Rattle.std.proofs.lemmas.List.{length-drop}
use Rattle.slo_journal.specs.Scanning.{seen_from}
use Rattle.slo_journal.proofs.Scanning.{record_seen}
use Rattle.slo_journal.proofs.scan.fill.Goals as goal
use Rattle.slo_limits.specs.declared.TheConstants.{MAX_JOURNAL_BYTES}

pub returns-clause-whole : goal.returns-clause-whole
returns-clause-whole g c same =
    let window = c.reach.new.window in
    let bytes = drop (c.args.at - window.start) window.bytes.items in
    let read : c.extend_from_slice.new.self.items ≡ take c.args.count (drop 5 bytes) =
    search rules in
    let long : length c.extend_from_slice.new.self.items ≡ c.args.count = search rules in
    let enough : 5 + c.args.count ≤ length bytes = search rules in
    let starts : window.start ≤ c.args.at = search rules in
    let within : window.start + length window.bytes.items ≤ MAX_JOURNAL_BYTES = search rules in (
      long,
      omega (
        arith,
        enough,
        starts,
        within,
        length-drop (c.args.at - window.start) window.bytes.items,
      ),
      (λ file told stands. record_seen c.args.count bytes (seen_from c.args.at file)
          c.extend_from_slice.new.self.items (c.in_ok-reach.ensures.seen file told stands) read),
    )
