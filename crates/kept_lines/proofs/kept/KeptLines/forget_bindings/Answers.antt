use Rattle.std.proofs.Common.{◌≡◌, ◌<◌, ◌∙◌, None, ap, arith, length, refl, slice_index_or}
use Rattle.std.proofs.Common.{subst, sym}
use Rattle.std.specs.List.{AllByRecursion}
use Rattle.kept_sums.proofs.Loops.{all_units, half_end, half_step, keys_set, written_back}
use Rattle.kept_lines.specs.Lines.{LinesKept, lines_of, watches_of}
use Rattle.kept_lines.specs.declared.kept.WatchLine.{WatchLine}
use Rattle.kept_lines.proofs.kept.KeptLines.forget_bindings.Goals as goal

pub loop-kept-init : goal.loop-kept-init
loop-kept-init c = record {
  bound = all_units c.deref_mut-kept-items.result.now;
  watches = refl;
  lines = refl;
}

pub loop-kept-preserved : goal.loop-kept-preserved
loop-kept-preserved c =
    let items = c.loop-kept.kept-items in
    let at = c.loop-kept.kept-index in
    let k = slice_index_or items at c.kept-item.result in
    let less : at < length items =
    omega (arith, c.loop-kept-test.true, c.loop-kept.auto.kept-items) in
    let next : WatchLine = record { watch = k.watch; line = k.line; bound = None } in
    record {
      bound = half_step (λ (k : WatchLine). Unit {0}) (λ (k : WatchLine). k.bound ≡ None) at items
          next less c.loop-kept.invariant.bound refl;
      watches = keys_set (λ (k : WatchLine). k.watch) at items next c.kept-item.result refl
          ∙ c.loop-kept.invariant.watches;
      lines = keys_set (λ (k : WatchLine). k.line) at items next c.kept-item.result refl
          ∙ c.loop-kept.invariant.lines;
    }

pub returns-clause-bound : goal.returns-clause-bound
returns-clause-bound c =
    let items = c.loop-kept.kept-items in
    let value = c.deref_mut-kept-items.ensures.value in
    let back = written_back items c.self.inside.lines.items c.self.inside.lines.len
    (c.loop-kept.auto.kept-items ∙ ap length value)
    (ap length (sym value) ∙ c.deref_mut-kept-items.ensures.len) in
    subst (AllByRecursion (λ (k : WatchLine). k.bound ≡ None)) (sym back)
    (half_end (λ (k : WatchLine). Unit {0}) (λ (k : WatchLine). k.bound ≡ None)
    c.loop-kept.kept-index items
    (omega (arith, c.loop-kept-test.false, c.loop-kept.auto.kept-items))
    c.loop-kept.invariant.bound)

pub returns-clause-watches : goal.returns-clause-watches
returns-clause-watches c =
    let items = c.loop-kept.kept-items in
    let value = c.deref_mut-kept-items.ensures.value in
    let back = written_back items c.self.inside.lines.items c.self.inside.lines.len
    (c.loop-kept.auto.kept-items ∙ ap length value)
    (ap length (sym value) ∙ c.deref_mut-kept-items.ensures.len) in
    let same = ap (λ (k : LinesKept). k.kept) (sym c.self.view_is) ∙ sym value in
    ap watches_of back ∙ c.loop-kept.invariant.watches ∙ ap watches_of (sym same)

pub returns-clause-lines : goal.returns-clause-lines
returns-clause-lines c =
    let items = c.loop-kept.kept-items in
    let value = c.deref_mut-kept-items.ensures.value in
    let back = written_back items c.self.inside.lines.items c.self.inside.lines.len
    (c.loop-kept.auto.kept-items ∙ ap length value)
    (ap length (sym value) ∙ c.deref_mut-kept-items.ensures.len) in
    let same = ap (λ (k : LinesKept). k.kept) (sym c.self.view_is) ∙ sym value in
    ap lines_of back ∙ c.loop-kept.invariant.lines ∙ ap lines_of (sym same)
