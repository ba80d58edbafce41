use Rattle.std.proofs.Common.{◌<◌, ℕ, ap, subst, sym, ◌∙◌, arith, length, refl, slice_index_or}
use Rattle.line_forgetting.specs.Right.{IsRight}
use Rattle.office_history.specs.Counts.{Samples}
use Rattle.kept_sums.proofs.Loops.{half_end, half_get, half_step, keys_set, written_back}
use Rattle.kept_lines.specs.Changes.{IsMovedBy, samples_with}
use Rattle.kept_lines.specs.Lines.{AreRight, LinesKept, bounds_of, watches_of}
use Rattle.kept_lines.specs.Sums.{samples_of}
use Rattle.kept_lines.specs.declared.kept.WatchLine.{WatchLine}
use Rattle.kept_lines.proofs.ForgetLemmas.{all_early, forget_back, forget_end, forget_step}
use Rattle.kept_lines.proofs.ForgetLemmas.{keeps_over}
use Rattle.kept_lines.proofs.kept.KeptLines.forget_rows.Goals as goal

abbrev IsRightOver : ℕ → Samples → WatchLine → Type 0
IsRightOver begin s k = IsRight begin s k.watch k.line

pub forget_moved-told-requires-clause-rule : goal.forget_moved-told-requires-clause-rule
forget_moved-told-requires-clause-rule c =
    (half_get (IsRightOver c.args.derived.now.origin (samples_of c.args.derived.now.book))
    (IsRightOver c.args.derived.now.origin
    (samples_with c.args.derived.now.book c.args.rows.now))
    c.loop-kept.kept-index c.loop-kept.kept-items c.kept-item.result
    (omega (arith, c.loop-kept-test.true, c.loop-kept.auto.kept-items))
    c.loop-kept.invariant.right).rule

pub forget_moved-told-requires-clause-early : goal.forget_moved-told-requires-clause-early
forget_moved-told-requires-clause-early c =
    all_early c.args.derived.now.origin c.args.rows.now
    (omega (arith, c.requires.sound.origin)) c.requires.placed

pub loop-kept-init : goal.loop-kept-init
loop-kept-init c =
    let same = ap (λ (k : LinesKept). k.kept) (sym c.self.view_is)
    ∙ sym c.deref_mut-kept-items.ensures.value in
    record {
      right = subst
          (AreRight c.args.derived.now.origin (samples_of c.args.derived.now.book)) same
          c.requires.lines.right;
      forget = refl;
      watches = refl;
      bounds = refl;
      told = tt;
    }

pub loop-kept-preserved : goal.loop-kept-preserved
loop-kept-preserved c =
    let begin = c.args.derived.now.origin in
    let before = samples_of c.args.derived.now.book in
    let after = samples_with c.args.derived.now.book c.args.rows.now in
    let items = c.loop-kept.kept-items in
    let at = c.loop-kept.kept-index in
    let less : at < length items =
    omega (arith, c.loop-kept-test.true, c.loop-kept.auto.kept-items) in
    let next : WatchLine = record {
      watch = (slice_index_or items at c.kept-item.result).watch;
      line = c.forget_moved-told.new.line;
      bound = (slice_index_or items at c.kept-item.result).bound;
    } in
    record {
      right = half_step (IsRightOver begin before) (IsRightOver begin after) at items next less
          c.loop-kept.invariant.right
          (c.forget_moved-told.ensures.right begin
          (half_get (IsRightOver begin before) (IsRightOver begin after) at items
          c.kept-item.result less c.loop-kept.invariant.right));
      forget = forget_step (IsMovedBy c.args.rows.now c.args.verdicts.now) at
          c.deref_mut-kept-items.result.now items c.kept-item.result c.forget_moved-told.new.line
          less c.loop-kept.invariant.forget c.forget_moved-told.ensures.forgets;
      watches = keys_set (λ (k : WatchLine). k.watch) at items next c.kept-item.result refl
          ∙ c.loop-kept.invariant.watches;
      bounds = keys_set (λ (k : WatchLine). k.bound) at items next c.kept-item.result refl
          ∙ c.loop-kept.invariant.bounds;
      told = c.forget_moved-told.ensures.told;
    }

pub returns-clause-lines : goal.returns-clause-lines
returns-clause-lines c =
    let begin = c.args.derived.now.origin in
    let before = samples_of c.args.derived.now.book in
    let after = samples_with c.args.derived.now.book c.args.rows.now in
    let items = c.loop-kept.kept-items in
    let value = c.deref_mut-kept-items.ensures.value in
    let back = written_back items c.self.inside.lines.items c.self.inside.lines.len
    (c.loop-kept.auto.kept-items ∙ ap length value)
    (ap length (sym value) ∙ c.deref_mut-kept-items.ensures.len) in
    let same = ap (λ (k : LinesKept). k.kept) (sym c.self.view_is) ∙ sym value in
    keeps_over begin c.args.derived.now.catalog before after c.args.self.now.kept _
    (ap watches_of back ∙ c.loop-kept.invariant.watches ∙ ap watches_of (sym same))
    (ap bounds_of back ∙ c.loop-kept.invariant.bounds ∙ ap bounds_of (sym same))
    (subst (AreRight begin after) (sym back)
    (half_end (IsRightOver begin before) (IsRightOver begin after) c.loop-kept.kept-index items
    (omega (arith, c.loop-kept-test.false, c.loop-kept.auto.kept-items))
    c.loop-kept.invariant.right))
    c.requires.lines

pub returns-clause-forget : goal.returns-clause-forget
returns-clause-forget c =
    let touched = IsMovedBy c.args.rows.now c.args.verdicts.now in
    let items = c.loop-kept.kept-items in
    let value = c.deref_mut-kept-items.ensures.value in
    let same = ap (λ (k : LinesKept). k.kept) (sym c.self.view_is) ∙ sym value in
    forget_back touched c.deref_mut-kept-items.result.now c.args.self.now.kept items _ same
    (written_back items c.self.inside.lines.items c.self.inside.lines.len
    (c.loop-kept.auto.kept-items ∙ ap length value)
    (ap length (sym value) ∙ c.deref_mut-kept-items.ensures.len))
    (forget_end touched c.loop-kept.kept-index c.deref_mut-kept-items.result.now items
    (omega (arith, c.loop-kept-test.false, c.loop-kept.auto.kept-items))
    c.loop-kept.invariant.forget)
