use Rattle.std.proofs.Common.{◌≡◌, not, Bool, true, false, refl, sym, ◌∙◌}
use Rattle.std.specs.Str.{bytes_eq}
use Rattle.burn_core.specs.Alert.{reach_of}
use Rattle.kept_sums.specs.Walks.{IsChanged}
use Rattle.line_forgetting.proofs.ChangedLemmas.{none-empty, none-of_another}
use Rattle.line_forgetting.proofs.EachLemmas.{each-ends}
use Rattle.line_forgetting.proofs.ForgetLemmas.{forgets-none}
use Rattle.line_forgetting.proofs.exclusion.forget_near_exclusion.Goals as goal

pub returns-then-ne : goal.returns-then-ne
returns-then-ne c =
    let m = c.args.measure.now in
    let value = c.args.value.now in
    let made = c.args.book.now.exclusions in
    let rows = c.args.book.now.rows in
    let other = turned (bytes_eq value.slo m.slo) (sym c.ne.ensures ∙ c.if-ne.true) in
    forgets-none (IsChanged m made value rows) c.args.width c.args.line.now
    (λ slice. none-of_another m made value rows slice other)
  where
    turned : (b : Bool) → not b ≡ true → b ≡ false
    turned true e = cc e
    turned false e = refl

pub returns-then-value : goal.returns-then-value
returns-then-value c =
    let m = c.args.measure.now in
    let value = c.args.value.now in
    let made = c.args.book.now.exclusions in
    let rows = c.args.book.now.rows in
    forgets-none (IsChanged m made value rows) c.args.width c.args.line.now
    (λ slice. none-empty m made value rows slice c.if-value.true)

pub touch_range-waiting-requires-clause-own : goal.touch_range-waiting-requires-clause-own
touch_range-waiting-requires-clause-own c =
    turned (bytes_eq c.args.value.now.slo c.args.measure.now.slo) (sym c.ne.ensures ∙ c.if-ne.false)
  where
    turned : (b : Bool) → not b ≡ false → b ≡ true
    turned true e = refl
    turned false e = cc e

pub returns : goal.returns
returns c =
    each-ends (IsChanged c.args.measure.now c.args.book.now.exclusions c.args.value.now
    c.args.book.now.rows) c.args.width (reach_of c.args.rule.now) c.touch_range-waiting.result
    c.args.line.now c.touch_range-waiting.new.line c.forget_waiting.new.line
    c.touch_range-waiting.ensures c.forget_waiting.ensures
