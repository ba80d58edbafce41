use Rattle.std.proofs.Common.{rules, ◌≡◌, ◌++◌, List, if◌then◌else◌, ap, subst, sym, ◌∙◌}
use Rattle.std.specs.Prelude.{is_ok}
use Rattle.std.specs.List.{Contains}
use Rattle.line_forgetting.specs.Right.{IsRight}
use Rattle.kept_sums.proofs.KeyLemmas.{all_append}
use Rattle.kept_sums.proofs.TakeLemmas.{one_of_both, retained_each, retained_there, retained_wanted}
use Rattle.kept_lines.specs.Known.{IsLineOf}
use Rattle.kept_lines.specs.Lines.{AreRight, LinesKept, watches_of}
use Rattle.kept_lines.specs.declared.kept.WatchLine.{WatchLine}
use Rattle.kept_lines.proofs.KnownLemmas.{line_among}
use Rattle.kept_lines.proofs.TakeLemmas.{line_still, retained_line, taken, watch_of_line}
use Rattle.kept_lines.proofs.kept.KeptLines.take.Goals as goal

-- both lists stand together before those that aren't wanted go
together : (c : goal.After-drop-wanted) →
    c.append.new.self.items ≡ c.args.self.now.kept ++ c.args.plan.made.items
together c =
    let old = c.self.inside.lines.items in
    let brought = c.args.plan.made.items in
    c.append.ensures.items
    ∙ ap (λ r. if is_ok r then old ++ brought else old) c.unwrap.ensures
    ∙ ap (λ (k : LinesKept). k.kept ++ brought) c.self.view_is

pub returns-clause-lines : goal.returns-clause-lines
returns-clause-lines c = λ begin before after s keeps is.
    let old = c.args.self.now.kept in
    let made = c.args.plan.made.items in
    let filtered = c.retain.ensures.filtered in
    taken begin before after s c.args.plan old c.retain.new.self.items
    c.forget_bindings.new.self.kept keeps is
    (λ there brought. retained_each _ _ (λ (k : WatchLine). IsRight begin s k.watch k.line) _
    c.retain.new.self.items filtered
    (subst (AreRight begin s) (sym (together c))
    (all_append (λ (k : WatchLine). IsRight begin s k.watch k.line) old made there brought)))
    (retained_wanted watch_of_line _ c.args.plan.wanted.items _ (λ x b g k. search rules) _
    c.retain.new.self.items filtered)
    (λ w want at. retained_there watch_of_line _ c.args.plan.wanted.items _
    (λ x b g k. search rules) _ c.retain.new.self.items filtered w want
    (subst (λ (ks : List WatchLine). Contains (watches_of ks) w) (sym (together c))
    (one_of_both watch_of_line old made w at)))
    c.forget_bindings.ensures.watches c.forget_bindings.ensures.lines
    c.forget_bindings.ensures.bound

pub returns-clause-stay : goal.returns-clause-stay
returns-clause-stay c = λ w before after was is.
    let old = c.args.self.now.kept in
    let made = c.args.plan.made.items in
    retained_line _ c.args.plan.wanted.items _ (λ x b g k. search rules) _
    c.retain.new.self.items c.retain.ensures.filtered w before after
    (subst (λ (ks : List WatchLine). IsLineOf ks w before) (sym (together c))
    (line_among old made w before was))
    (line_still c.retain.new.self.items c.forget_bindings.new.self.kept w after
    c.forget_bindings.ensures.watches c.forget_bindings.ensures.lines is)
