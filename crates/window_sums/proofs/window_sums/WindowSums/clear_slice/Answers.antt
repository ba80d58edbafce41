use Rattle.std.proofs.Common.{◌≡◌, ◌≢◌, ◌*◌, ◌/◌, ◌≤◌, ap, sym, subst, ◌∙◌, arith}
use Rattle.slice_method.specs.declared.amount.Counts.{Counts}
use Rattle.window_sums.specs.Slices.{counts_of, no_counts, slice_of}
use Rattle.window_sums.proofs.ClearFacts.{cleared-events, cleared-leaves, cleared-part}
use Rattle.window_sums.proofs.ClearFacts.{counts-cleared, its_day_there, slice_back, some_counts}
use Rattle.window_sums.proofs.window_sums.WindowSums.clear_slice.Goals as goal

-- the minute is one of the slice
at : (c : goal.After-width) → slice_of c.args.self.now.method (c.args.slice * c.width.result)
    ≡ c.args.slice
at c = ap (λ w. c.args.slice * c.width.result / w) (sym c.width.ensures.value)
    ∙ slice_back c.width.result c.args.slice c.width.ensures.some

pub change-requires-clause-day : goal.change-requires-clause-day
change-requires-clause-day c =
    let sums = c.args.self.now in
    let some = some_counts c.counts_at-counts.result (sym c.eq.ensures ∙ c.if-eq.false) in
    its_day_there sums (c.args.slice * c.width.result) c.args.slice c.counted.ensures (at c)
    (subst (λ n. n ≢ no_counts) c.counts_at-counts.ensures some)

pub change-requires-clause-good : goal.change-requires-clause-good
change-requires-clause-good c =
    let same : c.counts_at-counts.result ≡ counts_of c.args.self.now
    (slice_of c.args.self.now.method (c.args.slice * c.width.result)) =
    c.counts_at-counts.ensures ∙ ap (counts_of c.args.self.now) (sym (at c)) in
    subst (λ (n : Counts). c.counts_at-counts.result.good ≤ n.good) same (omega arith)

pub change-requires-clause-total : goal.change-requires-clause-total
change-requires-clause-total c =
    let same : c.counts_at-counts.result ≡ counts_of c.args.self.now
    (slice_of c.args.self.now.method (c.args.slice * c.width.result)) =
    c.counts_at-counts.ensures ∙ ap (counts_of c.args.self.now) (sym (at c)) in
    subst (λ (n : Counts). c.counts_at-counts.result.total ≤ n.total) same (omega arith)

pub change-requires-clause-part : goal.change-requires-clause-part
change-requires-clause-part c =
    cleared-part c.args.self.now (c.args.slice * c.width.result) c.args.slice
    c.counts_at-counts.result (at c) c.counts_at-counts.ensures c.counted.ensures.sound
    (slice_of c.args.self.now.method (c.args.slice * c.width.result))

pub change-requires-clause-events : goal.change-requires-clause-events
change-requires-clause-events c =
    cleared-events c.args.self.now (c.args.slice * c.width.result) c.args.slice
    c.counts_at-counts.result (at c) c.counts_at-counts.ensures c.counted.ensures.sound

pub change-requires-clause-leaves : goal.change-requires-clause-leaves
change-requires-clause-leaves c =
    cleared-leaves c.args.self.now (c.args.slice * c.width.result) c.args.slice
    c.counts_at-counts.result (at c) c.counts_at-counts.ensures c.counted.ensures.sound

pub returns-clause-counts : goal.returns-clause-counts
returns-clause-counts c = λ other.
    c.change.ensures.counts other
    ∙ counts-cleared c.args.self.now (c.args.slice * c.width.result) c.args.slice
    c.counts_at-counts.result
    (ap (λ w. c.args.slice * c.width.result / w) (sym c.width.ensures.value)
    ∙ slice_back c.width.result c.args.slice c.width.ensures.some) c.counts_at-counts.ensures other
