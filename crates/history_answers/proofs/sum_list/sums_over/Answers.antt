use Rattle.std.proofs.Common.{◌≡◌, ◌+◌, ◌*◌, ◌<◌, ◌-◌, ◌++◌, ◌∷◌, [], ◌∙◌, min, ap, sym, arith, map}
use Rattle.std.proofs.Common.{subst}
use Rattle.std.specs.List.{range_with_len}
use Rattle.std.proofs.lemmas.List.FromFn.{map-range_with_len_more}
use Rattle.office_history.specs.Stretches.{sum_of_stretch}
use Rattle.kept_lines.specs.Sums.{samples_of}
use Rattle.history_answers.proofs.SumLemmas.{begun_before, seen_sum}
use Rattle.history_answers.proofs.sum_list.sums_over.Goals as goal

pub sum_of_stretch-requires-clause-begun : goal.sum_of_stretch-requires-clause-begun
sum_of_stretch-requires-clause-begun c =
    let before = begun_before c.args.step (c.args.to - c.args.from) c.loop-k.k c.requires.some
    (subst (λ n. c.loop-k.k < n) c.div_ceil-k-end.ensures c.loop-k-test.true) in
    omega (arith, before)

pub loop-k-preserved : goal.loop-k-preserved
loop-k-preserved c =
    let s = samples_of c.args.derived.now.book in
    let m = c.args.measure.now in
    let k = c.loop-k.k in
    let begin = c.args.from + k * c.args.step in
    let sum : c.sum_of_stretch.result ≡ sum_of_stretch s m c.args.from c.args.to c.args.step k =
    c.sum_of_stretch.ensures
    ∙ seen_sum s m c.objective_sums-sums.result.now begin
    (min (begin + c.args.step) c.args.to) c.objective_sums-sums.ensures.sums in
    c.in_ok-push.ensures.items
    ∙ (λ i. c.loop-k.invariant i ++ sum i ∷ [])
    ∙ sym (map-range_with_len_more (sum_of_stretch s m c.args.from c.args.to c.args.step) 0 k k
    (omega arith))

pub returns : goal.returns
returns c =
    let f = sum_of_stretch (samples_of c.args.derived.now.book) c.args.measure.now c.args.from
    c.args.to c.args.step in
    let done : c.loop-k.k ≡ c.div_ceil-k-end.result = omega arith in
    c.loop-k.invariant
    ∙ ap (λ n. map f (range_with_len 0 n)) (done ∙ c.div_ceil-k-end.ensures)
