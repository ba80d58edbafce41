use Rattle.std.proofs.Common.{◌≡◌, length, take}
use Rattle.cell_index.specs.Places.{AreIn, BlocksAreWhole}
use Rattle.cell_index.proofs.buckets.link_all.Given as goal

-- the keys so far are in their buckets
abbrev pub invariant-loop-place : goal.invariant-loop-place
invariant-loop-place l = record {
  shelved : AreIn (take l.place l.keys) l.buckets;
  whole : BlocksAreWhole l.buckets;
  blocks : l.buckets.blocks ≡ l.fn.buckets.blocks;
  links : length l.buckets.links.items ≡ length l.fn.buckets.links.items;
}
