use Rattle.std.proofs.Common.{◌≡◌, ℕ, ◌∙◌, sym, ap, arith, map}
use Rattle.std.specs.List.{range_with_len}
use Rattle.std.proofs.lemmas.List.FromFn.{map-range_with_len_more}
use Rattle.std.proofs.lemmas.List.Sorted.{IsNonDecreasingBy-from_sort}
use Rattle.zone_calendar.specs.Starts.{start_at}
use Rattle.zone_calendar.proofs.StartLemmas.{are_starts}
use Rattle.zone_calendar.proofs.calendar.starts_from.Goals as goal

pub loop-k-preserved : goal.loop-k-preserved
loop-k-preserved c = record {
  made = c.in-Ok-push.ensures.items
      ∙ rw (c.loop-k.invariant.made, c.start.ensures) (sym (map-range_with_len_more (start_at
      c.args.zone.now c.args.first.now c.args.step) 0 c.loop-k.k c.loop-k.k (omega arith)));
  long = omega (arith, c.in-Ok-push.ensures.len);
}

pub returns-clause-ok : goal.returns-clause-ok
returns-clause-ok c =
    let start = start_at c.args.zone.now c.args.first.now c.args.step in
    let done : c.loop-k.k ≡ c.args.count = omega arith in
    let made : c.loop-k.list.items ≡ map start (range_with_len 0 c.args.count) =
    c.loop-k.invariant.made ∙ ap (λ (n : ℕ). map start (range_with_len 0 n)) done in
    are_starts c.args.zone.now c.args.first.now c.args.step c.args.horizon c.args.count _
    c.requires.step c.requires.horizon c.requires.below c.requires.end
    (rw (← made) c.sort_unstable.ensures.permutation)
    (IsNonDecreasingBy-from_sort (λ x. x) _ c.sort_unstable.ensures.sorted)
