use Rattle.std.proofs.Common.{None}
use Rattle.std.specs.List.{Contains}
use Rattle.kept_sums.proofs.MakeLemmas.{still_there, there_made}
use Rattle.kept_lines.specs.Lines.{watches_of}
use Rattle.kept_lines.specs.declared.kept.WatchLine.{WatchLine}
use Rattle.kept_lines.proofs.plan.add_line.Goals as goal

pub returns-clause-there : goal.returns-clause-there
returns-clause-there c =
    there_made (λ (k : WatchLine). k.watch) (Contains (watches_of c.args.lines.now.kept))
    c.args.made.now.items c.push.new.self.items
    (record { watch = c.args.watch.now; line = c.in_ok-line.line; bound = None })
    c.in_ok-push.ensures.items

pub returns-clause-still : goal.returns-clause-still
returns-clause-still c =
    still_there (λ (k : WatchLine). k.watch) (Contains (watches_of c.args.lines.now.kept))
    c.args.made.now.items c.push.new.self.items
    (record { watch = c.args.watch.now; line = c.in_ok-line.line; bound = None })
    c.in_ok-push.ensures.items
