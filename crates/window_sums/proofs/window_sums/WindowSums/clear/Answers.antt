use Rattle.std.proofs.Common.{◌≡◌, ◌*◌, ◌/◌, ◌<◌, ◌≤◌, ◌==◌, refl, ap, sym, subst, ◌∙◌}
use Rattle.std.proofs.Common.{if◌then◌else◌}
use Rattle.std.specs.Int.{div_ceil}
use Rattle.window_sums.specs.Slices.{counts_of, counts_without, is_whole, no_counts, slices_a_day}
use Rattle.window_sums.proofs.ClearFacts.{day_begun, day_more, days_begin, days_end, whole-is}
use Rattle.window_sums.proofs.ClearFacts.{without}
use Rattle.window_sums.proofs.window_sums.WindowSums.clear.Goals as goal

pub loop-day-init : goal.loop-day-init
loop-day-init c = record {
  method = refl;
  counts = days_begin (counts_of c.args.self.now) c.slices_a_day-slices.result
      c.div_ceil-first.result (c.args.to / c.width-width.result) c.slices_a_day-slices.ensures.some;
  days = λ d. refl;
}

pub clear_on_day-requires-clause-day : goal.clear_on_day-requires-clause-day
clear_on_day-requires-clause-day c =
    let end = c.args.to / c.width-width.result in
    let same : c.slices_a_day-slices.result ≡ slices_a_day c.loop-day.self.method =
    c.slices_a_day-slices.ensures.value
    ∙ ap slices_a_day (sym c.loop-day.invariant.method) in
    subst (λ n. c.loop-day.day * n < end) same
    (day_begun c.slices_a_day-slices.result end c.loop-day.day c.slices_a_day-slices.ensures.some
    (subst (λ n. c.loop-day.day < n) c.div_ceil-day-end.ensures c.loop-day-test.true))

pub loop-day-preserved : goal.loop-day-preserved
loop-day-preserved c =
    let sums = c.args.self.now in
    let mid = c.loop-day.self in
    let new = c.clear_on_day.new.self in
    let n = c.slices_a_day-slices.result in
    let first = c.div_ceil-first.result in
    let end = c.args.to / c.width-width.result in
    let day = c.loop-day.day in
    let same : slices_a_day mid.method ≡ n =
    ap slices_a_day c.loop-day.invariant.method ∙ sym c.slices_a_day-slices.ensures.value in
    record {
      method = c.clear_on_day.ensures.method ∙ c.loop-day.invariant.method;
      counts = day_more (counts_of sums) (counts_of mid) (counts_of new) n first end day
          c.loop-day.invariant.counts (λ k. c.clear_on_day.ensures.counts k
          ∙ ap (λ m. if k / m == day then counts_without mid first end k else counts_of mid k)
          same);
      days = λ d. c.clear_on_day.ensures.days d ∙ c.loop-day.invariant.days d;
    }

pub returns-clause-counts : goal.returns-clause-counts
returns-clause-counts c = λ k.
    let sums = c.args.self.now in
    let n = c.slices_a_day-slices.result in
    let w = c.width-width.result in
    let end = c.args.to / w in
    let all : div_ceil end n ≤ c.loop-day.day =
    subst (λ m. m ≤ c.loop-day.day) c.div_ceil-day-end.ensures c.loop-day-test.false in
    c.loop-day.invariant.counts k
    ∙ days_end (counts_of sums) n c.div_ceil-first.result end c.loop-day.day
    c.slices_a_day-slices.ensures.some all k
    ∙ ap (λ first. without (counts_of sums) first end k) c.div_ceil-first.ensures
    ∙ whole-is (counts_of sums) w c.args.from c.args.to c.width-width.ensures.some k
    ∙ ap (λ w. if is_whole w c.args.from c.args.to k then no_counts else counts_of sums k)
    c.width-width.ensures.value
