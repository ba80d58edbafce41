use Rattle.std.proofs.Common.{◌/◌, ◌≤◌, arith, refl}
use Rattle.std.proofs.Math.Nat.{div-mul-le_self}
use Rattle.sample_book.specs.declared.Row.{Row}
use Rattle.burn_core.specs.Alert.{reach_of}
use Rattle.kept_sums.proofs.ListLemmas.{all_at}
use Rattle.line_forgetting.specs.Touched.{IsCut, LAST_MINUTE}
use Rattle.line_forgetting.proofs.EachLemmas.{each-none, each-one}
use Rattle.line_forgetting.proofs.exclusion.touch_cut.Goals as goal

pub returns-then-to-from : goal.returns-then-to-from
returns-then-to-from c =
    each-none (IsCut c.args.measure.now c.args.book.now.exclusions c.args.value.now
    c.args.book.now.rows c.args.width c.args.from c.args.to) c.args.width (reach_of c.args.rule.now)
    c.args.waiting c.args.line.now
    (λ slice is. omega (arith, is.some.is.from, is.some.is.to, c.if-to-from.true)) c.requires.run

pub touch-requires-clause-early : goal.touch-requires-clause-early
touch-requires-clause-early c =
    let is = c.has_changed.ensures.some c.if-has_changed.true in
    let row : is.row.minute ≤ LAST_MINUTE =
    all_at (λ (row : Row). row.minute ≤ LAST_MINUTE) c.args.book.now.rows is.place is.row is.here
    c.requires.early in
    omega (arith, row, is.is.from, div-mul-le_self c.args.from c.args.width)

pub returns-then-has_changed : goal.returns-then-has_changed
returns-then-has_changed c =
    each-one (IsCut c.args.measure.now c.args.book.now.exclusions c.args.value.now
    c.args.book.now.rows c.args.width c.args.from c.args.to) c.args.width (reach_of c.args.rule.now)
    (c.args.from / c.args.width) c.args.waiting c.touch.result c.args.line.now c.touch.new.line
    (λ slice is. is.is)
    (record { some = c.has_changed.ensures.some c.if-has_changed.true; is = refl })
    c.touch.ensures.run c.touch.ensures.has c.touch.ensures.own c.touch.ensures.all
    c.touch.ensures.only

pub returns : goal.returns
returns c =
    each-none (IsCut c.args.measure.now c.args.book.now.exclusions c.args.value.now
    c.args.book.now.rows c.args.width c.args.from c.args.to) c.args.width (reach_of c.args.rule.now)
    c.args.waiting c.args.line.now
    (λ slice is. c.has_changed.ensures.none c.if-has_changed.false is.some) c.requires.run
