use Rattle.std.proofs.Common.{◌≡◌, ◌<◌, ◌∙◌, ◌+◌, ◌-◌, ◌++◌, ℕ, [], ap, arith, drop, get_or, length}
use Rattle.std.proofs.Common.{length-set, refl, set, sym, take}
use Rattle.sample_book.specs.Reaches.{joined, joined_after}
use Rattle.sample_book.specs.declared.reaches.Reach.{Reach}
use Rattle.sample_book.proofs.ReachLemmas.{at_any, joined_all, joining, joining_first}
use Rattle.sample_book.proofs.reaches.join_all.Goals as goal

pub loop-place-init : goal.loop-place-init
loop-place-init c = record {
  all = refl;
  ends = joining_first c.args.reaches.now.items;
  room = refl;
}

pub loop-place-preserved : goal.loop-place-preserved
loop-place-preserved c =
    let xs = c.loop-place.reaches.items in
    let place = c.loop-place.place in
    let y = c.joined.result in
    let so = c.loop-place.invariant in
    let less : place < length xs =
    omega (
      arith,
      c.loop-place-test.true,
      c.len-place-end.ensures,
      so.all,
      c.args.reaches.now.ok.0,
    ) in
    let kept : length (set xs place y) ≡ length xs = simp length-set in
    let at : place + 1 - 1 ≡ place = omega arith in
    record {
      all = kept ∙ so.all;
      ends = λ d.
          let before : c.index.result.now ≡ get_or xs (place - 1) d = c.index.ensures
          ∙ at_any xs (place - 1) c.index.result.now d (omega (arith, less)) in
          let here : c.index-in-loop-place.result.now ≡ get_or xs place d =
          c.index-in-loop-place.ensures
          ∙ at_any xs place c.index-in-loop-place.result.now d less in
          ap (λ (n : ℕ). take (place + 1) (set xs place y)
          ++ joined_after (get_or (set xs place y) n d) (drop (place + 1) (set xs place y))) at
          ∙ joining xs place d y (omega arith) less (c.joined.ensures
          ∙ (λ i. joined (before i) (here i)))
          ∙ so.ends d;
      room = so.room;
    }

pub returns-clause-joined : goal.returns-clause-joined
returns-clause-joined c =
    let none : Reach = record { slo = []; from = 0; to = 0 } in
    sym (joined_all c.loop-place.reaches.items c.loop-place.place none
    (omega (
      arith,
      c.loop-place-test.false,
      c.len-place-end.ensures,
      c.loop-place.invariant.all,
      c.args.reaches.now.ok.0,
    )))
    ∙ c.loop-place.invariant.ends none
