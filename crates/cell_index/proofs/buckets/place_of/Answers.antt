use Rattle.std.proofs.Common.{◌∙◌, sym}
use Rattle.cell_index.specs.Places.{bucket_of}
use Rattle.cell_index.proofs.BucketLemmas.{IsPassed, sought-at, sought-first, sought-on}
use Rattle.cell_index.proofs.buckets.place_of.Goals as goal

pub loop-next-init : goal.loop-next-init
loop-next-init c =
    let blocks = c.args.buckets.now.blocks in
    let key = c.args.key.now in
    sought-first c.args.keys.now blocks key c.last-next.result
    (c.last-next.ensures ∙ c.requires.ends (bucket_of blocks key))

pub returns-then-eq : goal.returns-then-eq
returns-then-eq c =
    sought-at c.args.keys.now c.args.buckets.now.blocks c.args.key.now c.loop-next.next
    c.loop-next-test.true (sym c.eq.ensures ∙ c.if-eq.true) c.loop-next.invariant

passed : (c : goal.After-row_known-1) → IsPassed c.args.keys.now c.args.buckets.now.blocks
    c.args.key.now c.loop-next.next c.index-next.result.now
passed c =
    let buckets = c.args.buckets.now in
    sought-on c.args.keys.now buckets.blocks buckets.lasts.items buckets.links.items c.args.key.now
    c.loop-next.next c.index-next.result.now c.loop-next-test.true
    (sym c.eq.ensures ∙ c.if-eq.false) c.index-next.ensures c.requires c.loop-next.invariant

pub loop-next-smaller : goal.loop-next-smaller
loop-next-smaller c = (passed c).fewer

pub loop-next-preserved : goal.loop-next-preserved
loop-next-preserved c = (passed c).sought
