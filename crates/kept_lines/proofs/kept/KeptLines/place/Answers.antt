use Rattle.std.proofs.Common.{ap, subst, sym, ◌∙◌}
use Rattle.std.specs.List.{Contains}
use Rattle.kept_lines.specs.Lines.{LinesKept, watches_of}
use Rattle.kept_lines.proofs.LineLemmas.{never_without}
use Rattle.kept_lines.proofs.kept.KeptLines.place.Goals as goal

pub unreachable-requires : goal.unreachable-requires
unreachable-requires c =
    let w = c.args.watch.now in
    let same = ap (λ (k : LinesKept). watches_of k.kept) (sym c.self.view_is)
    ∙ ap watches_of (sym c.deref.ensures.value) in
    never_without w c.deref.result.now (subst (λ ws. Contains ws w) same c.requires)
    (c.place_of.ensures.none c.in-None.is)
