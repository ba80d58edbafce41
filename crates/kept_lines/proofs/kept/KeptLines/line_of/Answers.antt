use Rattle.std.proofs.Common.{◌≡◌, ◌∙◌, ap, slice_index_or, subst, sym}
use Rattle.line_forgetting.specs.Right.{IsRight}
use Rattle.kept_lines.specs.Known.{IsLineOf}
use Rattle.kept_lines.specs.Lines.{LinesKept}
use Rattle.kept_lines.specs.Sums.{samples_of}
use Rattle.kept_lines.specs.declared.kept.WatchLine.{WatchLine}
use Rattle.kept_lines.proofs.KnownLemmas.{line_at}
use Rattle.kept_lines.proofs.LineLemmas.{agrees_there, found}
use Rattle.kept_lines.proofs.kept.KeptLines.line_of.Goals as goal

-- the line at the place is right
seen : (c : goal.After-index) → IsRight c.args.derived.now.origin
    (samples_of c.args.derived.now.book) c.args.watch.now c.index.result.now.line
seen c =
    let d = c.args.derived.now in
    (found d.origin (samples_of d.book) c.args.watch.now c.args.self.now.kept
    c.self.inside.lines.items c.place.result c.index.result.now
    (ap (λ (k : LinesKept). k.kept) c.self.view_is) c.requires.lines.right c.place.ensures.there
    c.index.ensures).0

pub returns-clause-line : goal.returns-clause-line
returns-clause-line c =
    let kept = c.args.self.now.kept in
    let k = c.index.result.now in
    let here : k ≡ slice_index_or kept c.place.result k = c.index.ensures
    ∙ ap (λ (ks : LinesKept). slice_index_or ks.kept c.place.result k) c.self.view_is in
    subst (λ (x : WatchLine). IsLineOf kept c.args.watch.now x.line) (sym here)
    (line_at kept c.args.watch.now c.place.result k c.place.ensures.there c.place.ensures.first)

pub returns-clause-right : goal.returns-clause-right
returns-clause-right c = seen c

pub returns-clause-agrees : goal.returns-clause-agrees
returns-clause-agrees c = λ sums are.
    let d = c.args.derived.now in
    agrees_there d.origin (samples_of d.book) c.args.watch.now c.index.result.now.line sums (seen c)
    are
