use Rattle.std.proofs.Common.{ap, ◌∙◌}
use Rattle.kept_sums.proofs.Loops.{keys_set}
use Rattle.kept_lines.specs.Lines.{LinesKept, watches_of}
use Rattle.kept_lines.specs.declared.kept.WatchLine.{WatchLine}
use Rattle.kept_lines.proofs.KnownLemmas.{know_bound, with_bound}
use Rattle.kept_lines.proofs.LineLemmas.{keeps_bound}
use Rattle.kept_lines.proofs.kept.KeptLines.remember.Goals as goal

pub returns-clause-lines : goal.returns-clause-lines
returns-clause-lines c = λ begin members s w keeps at watches.
    keeps_bound begin members s w c.args.self.now.kept c.self.inside.lines.items c.args.place
    c.index_mut.result.now c.args.binding.now (ap (λ (k : LinesKept). k.kept) c.self.view_is)
    c.index_mut.ensures.value keeps at watches

pub returns-clause-watches : goal.returns-clause-watches
returns-clause-watches c =
    let k = c.index_mut.result.now in
    keys_set (λ (k : WatchLine). k.watch) c.args.place c.self.inside.lines.items
    (with_bound k c.args.binding.now) k
    (ap (λ (x : WatchLine). x.watch) c.index_mut.ensures.value)
    ∙ ap (λ (k : LinesKept). watches_of k.kept) c.self.view_is

pub returns-clause-know : goal.returns-clause-know
returns-clause-know c =
    know_bound c.args.self.now.kept c.self.inside.lines.items c.args.place
    c.index_mut.result.now c.args.binding.now (ap (λ (k : LinesKept). k.kept) c.self.view_is)
    c.index_mut.ensures.value
