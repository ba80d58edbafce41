use Rattle.std.proofs.Common.{◌||◌, List, not, subst, sym, ap, ◌∙◌}
use Rattle.std.specs.List.{list_any}
use Rattle.std.specs.Str.{bytes_eq}
use Rattle.yaml_subset.specs.KeysView.{AreKeysOf}
use Rattle.yaml_terms.specs.declared.ScalarText.{ScalarText}
use Rattle.yaml_terms.specs.declared.Node.{Node}
use Rattle.yaml_subset.specs.declared.entries.OpenEntries.{OpenEntries}
use Rattle.yaml_subset.proofs.KeyLemmas.{keys-more}
use Rattle.yaml_terms.proofs.Failures.{no_ok}
use Rattle.yaml_subset.proofs.entries.OpenEntries.next.Goals as goal

pub invariant_of-result : goal.invariant_of-result
invariant_of-result c =
    subst (λ (es : List (ScalarText × Node)). AreKeysOf es c.args.key c.with_key.new.keys)
    (sym c.in_ok-push.ensures.items)
    (keys-more c.self.inside.pairs.items c.self.inside.keys c.with_key.new.keys
    c.self.inside.key c.args.key c.args.value c.self.invariant c.in_ok-new.ensures.keys)

pub returns-then-not-new-clause-new : goal.returns-then-not-new-clause-new
returns-then-not-new-clause-new c = sym c.if-not-new.true ∙ c.in_ok-new.ensures.new
    ∙ ap not (c.self.invariant c.args.key
    ∙ ap (λ (e : OpenEntries). list_any (λ (p : ScalarText × Node). bytes_eq c.args.key p.0) e.0
    || bytes_eq c.args.key e.1) c.self.view_is)

pub returns-clause-new : goal.returns-clause-new
returns-clause-new c = sym c.if-not-new.false ∙ c.in_ok-new.ensures.new
    ∙ ap not (c.self.invariant c.args.key
    ∙ ap (λ (e : OpenEntries). list_any (λ (p : ScalarText × Node). bytes_eq c.args.key p.0) e.0
    || bytes_eq c.args.key e.1) c.self.view_is)

pub returns-in_err-new-clause-new : goal.returns-in_err-new-clause-new
returns-in_err-new-clause-new c = no_ok _ _ c.from_residual.result c.from_residual.ensures.1

pub returns-in_err-new-clause-more : goal.returns-in_err-new-clause-more
returns-in_err-new-clause-more c = no_ok _ _ c.from_residual.result c.from_residual.ensures.1

pub returns-in_err-push-clause-new : goal.returns-in_err-push-clause-new
returns-in_err-push-clause-new c =
    no_ok _ _ c.from_residual-in_err-push.result c.from_residual-in_err-push.ensures.1

pub returns-in_err-push-clause-more : goal.returns-in_err-push-clause-more
returns-in_err-push-clause-more c =
    no_ok _ _ c.from_residual-in_err-push.result c.from_residual-in_err-push.ensures.1
