use Rattle.std.proofs.Common.{Some, map, sym, ap, ◌∙◌}
use Rattle.yaml_terms.specs.Mark.{start, raw}
use Rattle.yaml_terms.specs.Block.{Block}
use Rattle.yaml_terms.specs.OpenNodes.{open_after, block, within}
use Rattle.yaml_subset.specs.OpenView.{child, open_of, last_view}
use Rattle.yaml_lines.specs.BlockView.{block_view}
use Rattle.yaml_subset.specs.declared.frame.Last.{Last}
use Rattle.yaml_subset.proofs.OpenViewLemmas.{raw_taken, raw_refused}
use Rattle.yaml_subset.proofs.open.OpenNodes.add_raw.Goals as goal

pub returns-in_ok-block-in-Block-clause-ok : goal.returns-in_ok-block-in-Block-clause-ok
returns-in_ok-block-in-Block-clause-ok c =
    let n = c.args.self in
    let l = c.args.line.now in
    ap (λ (k : Last). open_after (raw l) (within start (map (child start) n.documents.items)
    (open_of n.frames.items (last_view k)))) c.in-Block.is
    ∙ raw_taken (map (child start) n.documents.items) n.frames.items (block_view c.in-Block.block) l
    ∙ ap (λ (b : Block). Some (within start (map (child start) n.documents.items)
    (open_of n.frames.items (block b)))) (sym c.in_ok-block-in-Block.ensures)

pub returns-in-Nothing-clause-refused : goal.returns-in-Nothing-clause-refused
returns-in-Nothing-clause-refused c =
    let n = c.args.self in
    raw_refused (map (child start) n.documents.items) n.frames.items n.last c.args.line.now
    (λ b e. cc (c.in-Nothing.is))

pub returns-in-Inline-clause-refused : goal.returns-in-Inline-clause-refused
returns-in-Inline-clause-refused c =
    let n = c.args.self in
    raw_refused (map (child start) n.documents.items) n.frames.items n.last c.args.line.now
    (λ b e. cc (c.in-Inline.is))
