use Rattle.std.proofs.Common.{◌≡◌, ◌+◌, ◌-◌, arith, ap, refl, ◌∙◌, sym}
use Rattle.exact_fraction.specs.declared.leaf.Leaf.{Leaf}
use Rattle.slo_terms.specs.Sums.{leaves_over}
use Rattle.window_sums.specs.Slices.{leaf_at}
use Rattle.alert_line.proofs.WindowLemmas.{shrunk-num, shrunk-den, leaves-none}
use Rattle.alert_line.proofs.window.Window.shrunk.Goals as goal

pub overflow_sub-result : goal.overflow_sub-result
overflow_sub-result g c =
    omega (
      arith,
      ap (λ (l : Leaf). l.num) c.requires.value,
      ap (λ (l : Leaf). l.num) c.slice-leaf.ensures.value,
      shrunk-num (leaf_at c.args.sums.now) c.args.self.now.first c.args.self.now.end (omega arith),
    )

pub overflow_sub-result-then-self : goal.overflow_sub-result-then-self
overflow_sub-result-then-self g c =
    omega (
      arith,
      ap (λ (l : Leaf). l.den) c.requires.value,
      ap (λ (l : Leaf). l.den) c.slice-leaf.ensures.value,
      shrunk-den (leaf_at c.args.sums.now) c.args.self.now.first c.args.self.now.end (omega arith),
    )

pub returns-then-self-clause-value : goal.returns-then-self-clause-value
returns-then-self-clause-value g c =
    let leaf = leaf_at c.args.sums.now in
    let first = c.args.self.now.first in
    let end = c.args.self.now.end in
    let next : first + 1 ≡ c.args.to = omega arith in
    let num : c.args.self.now.sum.num - c.slice-leaf.result.num
    ≡ (leaves_over leaf (first + 1) (end - (first + 1))).num =
    omega (
      arith,
      ap (λ (l : Leaf). l.num) c.requires.value,
      ap (λ (l : Leaf). l.num) c.slice-leaf.ensures.value,
      shrunk-num leaf first end (omega arith),
    ) in
    let den : c.args.self.now.sum.den - c.slice-leaf.result.den
    ≡ (leaves_over leaf (first + 1) (end - (first + 1))).den =
    omega (
      arith,
      ap (λ (l : Leaf). l.den) c.requires.value,
      ap (λ (l : Leaf). l.den) c.slice-leaf.ensures.value,
      shrunk-den leaf first end (omega arith),
    ) in
    (λ i. record { num = num i; den = den i }) ∙ ap (λ n. leaves_over leaf n (end - n)) next

pub returns-else-self-clause-value : goal.returns-else-self-clause-value
returns-else-self-clause-value g c =
    let leaf = leaf_at c.args.sums.now in
    let was : c.args.self.now.end - c.args.self.now.first ≡ 0 = omega arith in
    let is : c.args.self.now.end - c.args.to ≡ 0 = omega arith in
    c.requires.value ∙ ap (leaves_over leaf c.args.self.now.first) was
    ∙ leaves-none leaf c.args.self.now.first c.args.to 0 refl
    ∙ ap (leaves_over leaf c.args.to) (sym is)
