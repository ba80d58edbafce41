use Rattle.std.proofs.Common.{◌≡◌, ◌+◌, ◌-◌, arith, ap, ◌∙◌}
use Rattle.exact_fraction.specs.declared.leaf.Leaf.{Leaf}
use Rattle.slo_terms.specs.Sums.{leaves_over}
use Rattle.window_sums.specs.Slices.{leaf_at}
use Rattle.slo_terms.proofs.RangeLemmas.{leaves-part}
use Rattle.alert_line.proofs.WindowLemmas.{grown-num, grown-den}
use Rattle.alert_line.proofs.window.Window.grown.Goals as goal

pub overflow_add-result : goal.overflow_add-result
overflow_add-result c =
    let leaf = leaf_at c.args.sums.now in
    let first = c.args.self.now.first in
    let end = c.args.self.now.end in
    omega (
      arith,
      ap (λ (l : Leaf). l.num) c.requires.value,
      ap (λ (l : Leaf). l.num) (c.requires.leaf (omega arith)),
      grown-num leaf first end (omega arith),
      leaves-part leaf c.sound.ensures first (end + 1 - first),
      c.sound.ensures.few first (end + 1 - first),
    )

pub overflow_add-result-then-self : goal.overflow_add-result-then-self
overflow_add-result-then-self c =
    let leaf = leaf_at c.args.sums.now in
    let first = c.args.self.now.first in
    let end = c.args.self.now.end in
    omega (
      arith,
      ap (λ (l : Leaf). l.den) c.requires.value,
      ap (λ (l : Leaf). l.den) (c.requires.leaf (omega arith)),
      grown-den leaf first end (omega arith),
      c.sound.ensures.few first (end + 1 - first),
    )

pub returns-then-self : goal.returns-then-self
returns-then-self c =
    let leaf = leaf_at c.args.sums.now in
    let first = c.args.self.now.first in
    let end = c.args.self.now.end in
    let last : end + 1 ≡ c.args.to = omega arith in
    let num : c.args.self.now.sum.num + c.args.leaf.num
    ≡ (leaves_over leaf first (end + 1 - first)).num =
    omega (
      arith,
      ap (λ (l : Leaf). l.num) c.requires.value,
      ap (λ (l : Leaf). l.num) (c.requires.leaf (omega arith)),
      grown-num leaf first end (omega arith),
    ) in
    let den : c.args.self.now.sum.den + c.args.leaf.den
    ≡ (leaves_over leaf first (end + 1 - first)).den =
    omega (
      arith,
      ap (λ (l : Leaf). l.den) c.requires.value,
      ap (λ (l : Leaf). l.den) (c.requires.leaf (omega arith)),
      grown-den leaf first end (omega arith),
    ) in
    (λ i. record { num = num i; den = den i }) ∙ ap (λ n. leaves_over leaf first (n - first)) last
