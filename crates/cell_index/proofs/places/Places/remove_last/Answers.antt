use Rattle.std.proofs.Common.{◌≡◌, ◌<◌, ◌≤◌, ◌∙◌, ◌-◌, ◌++◌, ◌∷◌, [], suc, arith, length, sym}
use Rattle.std.proofs.Common.{subst, take, List}
use Rattle.std.proofs.lemmas.List.{length-take-le}
use Rattle.cell_index.specs.Places.{AreIn, ArePlaced}
use Rattle.cell_index.specs.declared.cells.Key.{Key}
use Rattle.cell_index.proofs.PlaceLemmas.{last_apart, placed-pop}
use Rattle.cell_index.proofs.places.Places.remove_last.Goals as goal

pub invariant_of-self : goal.invariant_of-self
invariant_of-self c =
    let keys = c.self.inside.keys.items in
    let key = c.index.result.now in
    let long : c.len-place.result ≡ length keys = c.len-place.ensures ∙ c.self.inside.keys.ok.0 in
    let some : 0 < length keys =
    subst (λ (ks : List Key). 0 < length ks) (sym c.self.view_is) c.requires in
    let next : length keys ≡ suc (c.len-place.result - 1) = omega (arith, long, some) in
    let apart : keys ≡ take (c.len-place.result - 1) keys ++ key ∷ [] =
    last_apart keys (c.len-place.result - 1) key next c.index.ensures in
    let few : c.len-place.result - 1 ≤ length keys = omega (arith, next) in
    let blocks : 0 < c.unlink.new.self.blocks = omega (
      arith,
      c.unlink.ensures.blocks,
      c.self.invariant.some some,
    ) in
    subst (λ (ks : List Key). ArePlaced ks c.unlink.new.self) (sym c.truncate.ensures.items)
    (placed-pop (take (c.len-place.result - 1) keys) key c.self.inside.buckets c.unlink.new.self
    (subst (λ (ks : List Key). ArePlaced ks c.self.inside.buckets) apart c.self.invariant)
    (c.unlink.ensures.shelved (take (c.len-place.result - 1) keys)
    (length-take-le (c.len-place.result - 1) keys few)
    (subst (λ (ks : List Key). AreIn ks c.self.inside.buckets) apart c.self.invariant.shelved))
    c.unlink.ensures.whole blocks)
