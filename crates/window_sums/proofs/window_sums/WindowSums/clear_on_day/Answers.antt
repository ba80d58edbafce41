use Rattle.std.proofs.Common.{◌≡◌, ◌⊎◌, inl, inr, ◌+◌, ◌-◌, ◌*◌, min, max, ◌/◌, ◌<◌, ◌≤◌, ◌==◌, ap}
use Rattle.std.proofs.Common.{nat_le, true, false, sym, subst, ◌∙◌, arith, if◌then◌else◌}
use Rattle.std.proofs.lemmas.Bool.Decides.{leb_tells}
use Rattle.window_sums.specs.Slices.{counts_of, counts_without}
use Rattle.window_sums.proofs.ClearFacts.{day_ends}
use Rattle.window_sums.proofs.window_sums.WindowSums.clear_on_day.Goals as goal

pub returns-clause-counts : goal.returns-clause-counts
returns-clause-counts c = λ k.
    let n = c.slices_a_day-slices.result in
    let sums = c.args.self.now in
    let day = c.args.day in
    let first = c.args.first in
    let end = c.args.end in
    let until = day * n + c.min.result in
    let at = c.loop-slice.slice in
    let begun : day * n < end =
    subst (λ m. day * m < end) (sym c.slices_a_day-slices.ensures.value) c.requires.day in
    let short : until ≡ day * n + min n (end - day * n) =
    ap (λ m. day * n + m) c.min.ensures in
    c.loop-slice.invariant.counts k
    ∙ day_ends (counts_of sums) n day first end until c.slices_a_day-slices.ensures.some begun short
    at c.loop-slice-test.false (tell (leb_tells at until)) k
    ∙ ap (λ m. if k / m == day then counts_without sums first end k else counts_of sums k)
    c.slices_a_day-slices.ensures.value
  where
    tell : ((nat_le c.loop-slice.slice (c.args.day * c.slices_a_day-slices.result + c.min.result)
        ≡ true) × (c.loop-slice.slice
        ≤ c.args.day * c.slices_a_day-slices.result + c.min.result))
        ⊎ ((nat_le c.loop-slice.slice (c.args.day * c.slices_a_day-slices.result + c.min.result)
        ≡ false) × (c.args.day * c.slices_a_day-slices.result + c.min.result < c.loop-slice.slice))
        → (c.loop-slice.slice ≤ c.args.day * c.slices_a_day-slices.result + c.min.result)
        ⊎ (c.loop-slice.slice ≤ max (c.args.day * c.slices_a_day-slices.result) c.args.first)
    tell (inl a) = inl a.1
    tell (inr b) = inr (omega (arith, b.1, c.loop-slice.invariant.within))
