use Rattle.std.proofs.Common.{◌≡◌, ◌<◌, ◌∙◌, ◌++◌, ◌∷◌, [], false, ap, arith, length, sym, subst}
use Rattle.std.proofs.Common.{List}
use Rattle.std.specs.List.{list_any}
use Rattle.cell_index.specs.Keys.{key_eq}
use Rattle.cell_index.specs.Places.{AreIn, ArePlaced}
use Rattle.cell_index.specs.declared.cells.Key.{Key}
use Rattle.cell_index.proofs.PlaceLemmas.{placed-push}
use Rattle.cell_index.proofs.places.Places.add.Goals as goal

pub invariant_of-self-2 : goal.invariant_of-self-2
invariant_of-self-2 c =
    let keys = c.self.inside.keys.items in
    let key = c.args.key.now in
    let long : c.len-place.result ≡ length keys = c.len-place.ensures ∙ c.self.inside.keys.ok.0 in
    let same : c.deref.result.now ≡ keys = c.deref.ensures.value ∙ c.reserve.ensures.items in
    let few : length keys < 4294967295 = omega (arith, long, c.if-place-ge-MOST_KEYS.false) in
    let some : 0 < c.link.new.self.blocks = omega (
      arith,
      c.link.ensures.blocks,
      c.in_ok-make_buckets.ensures.some,
    ) in
    subst (λ (ks : List Key). ArePlaced ks c.link.new.self) (sym (c.push_reserved.ensures.items
    ∙ ap (λ (ks : List Key). ks ++ key ∷ []) c.reserve.ensures.items))
    (placed-push keys key c.self.inside.buckets c.link.new.self
    (subst (λ (ks : List Key). list_any (key_eq key) ks ≡ false) (sym c.self.view_is) c.requires)
    few c.self.invariant
    (c.link.ensures.shelved keys (sym long) (subst (λ (ks : List Key).
    AreIn ks c.make_buckets.new.buckets) same c.make_buckets.ensures.shelved))
    c.link.ensures.whole some)
