use Rattle.std.proofs.Common.{◌∙◌, ◌+◌, arith, refl, sym}
use Rattle.std.proofs.lemmas.List.{length-set}
use Rattle.event_lines.proofs.NumberLemmas.{all_put, digit_more, number_put, part_begins}
use Rattle.event_lines.proofs.number.read_numbers.Goals as goal

pub loop-place-preserved-then-is_ascii_digit : goal.loop-place-preserved-then-is_ascii_digit
loop-place-preserved-then-is_ascii_digit c =
    let invariant = c.loop-place.invariant in
    record {
      read = invariant.read;
      part = digit_more c.args.text.now c.loop-place.begin c.loop-place.place c.loop-place.value
          c.with_digit-value.result invariant.part c.loop-place-test.true
          (sym c.is_ascii_digit.ensures.value ∙ c.if-is_ascii_digit.true)
          c.with_digit-value.ensures;
      few = invariant.few;
      four = invariant.four;
    }

pub loop-place-preserved : goal.loop-place-preserved
loop-place-preserved c =
    let invariant = c.loop-place.invariant in
    let count = c.loop-place.count in
    record {
      read = number_put c.args.text.now c.args.at.now c.loop-place.numbers count
          c.loop-place.begin c.loop-place.place c.loop-place.value _ invariant.read invariant.part
          (c.if-not-ends_number.ensures refl) refl c.loop-place-test.true
          (omega (arith, invariant.few, invariant.four))
          (omega (arith, invariant.few, c.if-count-eq4.false));
      part = part_begins c.args.text.now (c.loop-place.place + 1);
      few = omega (arith, invariant.few, c.if-count-eq4.false);
      four = length-set c.loop-place.numbers count c.loop-place.value ∙ invariant.four;
    }

pub returns-then-count-eq4 : goal.returns-then-count-eq4
returns-then-count-eq4 c =
    let invariant = c.loop-place.invariant in
    all_put c.args.text.now c.args.at.now c.loop-place.numbers c.loop-place.count
    c.loop-place.begin c.loop-place.place c.loop-place.value _
    (omega (arith, c.if-count-eq4.true)) invariant.read invariant.part
    (c.if-not-ends_number.ensures refl) refl c.loop-place-test.true invariant.four
