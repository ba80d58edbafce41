use Rattle.std.proofs.Common.{◌<◌, ℕ, not, ap, subst, sym, ◌∙◌, arith, length, refl, slice_index_or}
use Rattle.std.proofs.lemmas.List.Elements.{recursion_from_All}
use Rattle.line_forgetting.specs.Right.{IsRight}
use Rattle.kept_sums.specs.Sums.{SumsAreKept}
use Rattle.office_history.specs.Counts.{Samples}
use Rattle.office_history.specs.declared.Measure.{Measure}
use Rattle.kept_sums.specs.Objectives.{IsObjective}
use Rattle.kept_sums.proofs.Loops.{all_get, all_set, half_end, half_get, half_step, keys_set}
use Rattle.kept_sums.proofs.Loops.{written_back}
use Rattle.office_derived.specs.Derived.{IsPlaced, RowIsRead}
use Rattle.office_derived.proofs.FormLemmas.{all_fit}
use Rattle.kept_lines.specs.Changes.{IsChangedBy, samples_on}
use Rattle.kept_lines.specs.Lines.{AreRight, AreWatched, LinesKept, bounds_of, watches_of}
use Rattle.kept_lines.specs.Watches.{IsWatched}
use Rattle.kept_lines.specs.declared.kept.WatchLine.{WatchLine}
use Rattle.kept_lines.proofs.ForgetLemmas.{all_early, forget_back, forget_end, forget_step}
use Rattle.kept_lines.proofs.ForgetLemmas.{keeps_over}
use Rattle.kept_lines.proofs.LineLemmas.{objective_watched}
use Rattle.kept_lines.proofs.kept.KeptLines.forget_exclusion.Goals as goal

abbrev IsRightOver : ℕ → Samples → WatchLine → Type 0
IsRightOver begin s k = IsRight begin s k.watch k.line

-- the line at hand is right over the samples that were
here : (c : goal.After-forget_changed-arg-in-loop-kept-1) →
    IsRightOver c.args.derived.now.origin
    (samples_on c.args.derived.now.book c.args.value.now (not c.args.taken))
    (slice_index_or c.loop-kept.kept-items c.loop-kept.kept-index c.kept-item.result)
here c =
    let s = samples_on c.args.derived.now.book c.args.value.now in
    half_get (IsRightOver c.args.derived.now.origin (s (not c.args.taken)))
    (IsRightOver c.args.derived.now.origin (s c.args.taken))
    c.loop-kept.kept-index c.loop-kept.kept-items c.kept-item.result
    (omega (arith, c.loop-kept-test.true, c.loop-kept.auto.kept-items))
    c.loop-kept.invariant.right

pub objective_sums-sums-requires-clause-objective :
    goal.objective_sums-sums-requires-clause-objective
objective_sums-sums-requires-clause-objective c =
    let members = c.args.derived.now.catalog in
    let k = slice_index_or c.loop-kept.kept-items c.loop-kept.kept-index c.kept-item.result in
    subst (IsObjective members) (sym c.measure.ensures.value)
    (objective_watched members k.watch
    (all_get (λ (k : WatchLine). IsWatched members k.watch) c.loop-kept.kept-index
    c.loop-kept.kept-items c.kept-item.result
    (omega (arith, c.loop-kept-test.true, c.loop-kept.auto.kept-items))
    c.loop-kept.invariant.watched))

pub forget_changed-requires-clause-kept : goal.forget_changed-requires-clause-kept
forget_changed-requires-clause-kept c =
    let d = c.args.derived.now in
    let sums = c.objective_sums-sums.result.now in
    subst (λ (m : Measure). SumsAreKept m d.book.exclusions d.book.rows sums)
    c.measure.ensures.value
    c.objective_sums-sums.ensures.kept

pub forget_changed-requires-clause-rule : goal.forget_changed-requires-clause-rule
forget_changed-requires-clause-rule c = (here c).rule

pub forget_changed-requires-clause-early : goal.forget_changed-requires-clause-early
forget_changed-requires-clause-early c =
    let d = c.args.derived.now in
    all_early d.origin d.book.rows (omega (arith, c.requires.sound.origin))
    (recursion_from_All (IsPlaced d.origin) d.book.rows c.requires.sound.placed)

pub forget_changed-requires-clause-forms : goal.forget_changed-requires-clause-forms
forget_changed-requires-clause-forms c =
    let d = c.args.derived.now in
    let k = slice_index_or c.loop-kept.kept-items c.loop-kept.kept-index c.kept-item.result in
    all_fit d.catalog k.watch.measure d.book.rows
    (objective_watched d.catalog k.watch
    (all_get (λ (k : WatchLine). IsWatched d.catalog k.watch) c.loop-kept.kept-index
    c.loop-kept.kept-items c.kept-item.result
    (omega (arith, c.loop-kept-test.true, c.loop-kept.auto.kept-items))
    c.loop-kept.invariant.watched))
    (recursion_from_All (RowIsRead d.catalog) d.book.rows c.requires.sound.read)

pub loop-kept-init : goal.loop-kept-init
loop-kept-init c =
    let d = c.args.derived.now in
    let same = ap (λ (k : LinesKept). k.kept) (sym c.self.view_is)
    ∙ sym c.deref_mut-kept-items.ensures.value in
    record {
      right = subst
          (AreRight d.origin (samples_on d.book c.args.value.now (not c.args.taken))) same
          c.requires.lines.right;
      watched = subst (AreWatched d.catalog) same c.requires.lines.only;
      forget = refl;
      watches = refl;
      bounds = refl;
    }

pub loop-kept-preserved : goal.loop-kept-preserved
loop-kept-preserved c =
    let d = c.args.derived.now in
    let before = samples_on d.book c.args.value.now (not c.args.taken) in
    let after = samples_on d.book c.args.value.now c.args.taken in
    let items = c.loop-kept.kept-items in
    let at = c.loop-kept.kept-index in
    let less : at < length items =
    omega (arith, c.loop-kept-test.true, c.loop-kept.auto.kept-items) in
    let next : WatchLine = record {
      watch = (slice_index_or items at c.kept-item.result).watch;
      line = c.forget_changed.new.line;
      bound = (slice_index_or items at c.kept-item.result).bound;
    } in
    record {
      right = half_step (IsRightOver d.origin before) (IsRightOver d.origin after) at items next
          less c.loop-kept.invariant.right
          (c.forget_changed.ensures.right d.origin c.args.taken
          (half_get (IsRightOver d.origin before) (IsRightOver d.origin after) at items
          c.kept-item.result less c.loop-kept.invariant.right));
      watched = all_set (λ (k : WatchLine). IsWatched d.catalog k.watch) at items next
          c.loop-kept.invariant.watched
          (all_get (λ (k : WatchLine). IsWatched d.catalog k.watch) at items
          c.kept-item.result less c.loop-kept.invariant.watched);
      forget = forget_step (IsChangedBy c.args.derived.now.book c.args.value.now) at
          c.deref_mut-kept-items.result.now items c.kept-item.result c.forget_changed.new.line less
          c.loop-kept.invariant.forget c.forget_changed.ensures.forgets;
      watches = keys_set (λ (k : WatchLine). k.watch) at items next c.kept-item.result refl
          ∙ c.loop-kept.invariant.watches;
      bounds = keys_set (λ (k : WatchLine). k.bound) at items next c.kept-item.result refl
          ∙ c.loop-kept.invariant.bounds;
    }

pub returns-clause-lines : goal.returns-clause-lines
returns-clause-lines c =
    let d = c.args.derived.now in
    let before = samples_on d.book c.args.value.now (not c.args.taken) in
    let after = samples_on d.book c.args.value.now c.args.taken in
    let items = c.loop-kept.kept-items in
    let value = c.deref_mut-kept-items.ensures.value in
    let back = written_back items c.self.inside.lines.items c.self.inside.lines.len
    (c.loop-kept.auto.kept-items ∙ ap length value)
    (ap length (sym value) ∙ c.deref_mut-kept-items.ensures.len) in
    let same = ap (λ (k : LinesKept). k.kept) (sym c.self.view_is) ∙ sym value in
    keeps_over d.origin d.catalog before after c.args.self.now.kept _
    (ap watches_of back ∙ c.loop-kept.invariant.watches ∙ ap watches_of (sym same))
    (ap bounds_of back ∙ c.loop-kept.invariant.bounds ∙ ap bounds_of (sym same))
    (subst (AreRight d.origin after) (sym back)
    (half_end (IsRightOver d.origin before) (IsRightOver d.origin after)
    c.loop-kept.kept-index items
    (omega (arith, c.loop-kept-test.false, c.loop-kept.auto.kept-items))
    c.loop-kept.invariant.right))
    c.requires.lines

pub returns-clause-forget : goal.returns-clause-forget
returns-clause-forget c =
    let touched = IsChangedBy c.args.derived.now.book c.args.value.now in
    let items = c.loop-kept.kept-items in
    let value = c.deref_mut-kept-items.ensures.value in
    let same = ap (λ (k : LinesKept). k.kept) (sym c.self.view_is) ∙ sym value in
    forget_back touched c.deref_mut-kept-items.result.now c.args.self.now.kept items _ same
    (written_back items c.self.inside.lines.items c.self.inside.lines.len
    (c.loop-kept.auto.kept-items ∙ ap length value)
    (ap length (sym value) ∙ c.deref_mut-kept-items.ensures.len))
    (forget_end touched c.loop-kept.kept-index c.deref_mut-kept-items.result.now items
    (omega (arith, c.loop-kept-test.false, c.loop-kept.auto.kept-items))
    c.loop-kept.invariant.forget)
