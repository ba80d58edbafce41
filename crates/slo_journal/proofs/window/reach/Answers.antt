use Rattle.std.proofs.Common.{◌≤◌, ◌+◌, length, rules}
use Rattle.slo_journal.proofs.Pieces.{seen_before}
use Rattle.slo_journal.proofs.window.reach.Goals as goal

pub returns-then-end-window-clause-seen : goal.returns-then-end-window-clause-seen
returns-then-end-window-clause-seen g c file told stands =
    let before : c.args.window.now.start ≤ c.args.at = search rules in
    let covers : c.args.at + c.args.need ≤ c.args.window.now.start
    + length c.args.window.now.bytes.items = search rules in
    seen_before c.args.at c.args.need file c.args.window.now.start c.args.window.now.bytes.items
    before covers c.requires.within stands
