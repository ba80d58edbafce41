use Rattle.std.proofs.Common.{List, subst, sym}
use Rattle.yaml_terms.specs.declared.ScalarText.{ScalarText}
use Rattle.yaml_terms.specs.declared.Node.{Node}
use Rattle.yaml_subset.specs.KeysView.{AreKeysOf}
use Rattle.yaml_subset.proofs.KeyLemmas.{keys-first}
use Rattle.yaml_subset.proofs.entries.OpenEntries.new.Goals as goal

pub invariant_of-result : goal.invariant_of-result
invariant_of-result c =
    subst (λ (es : List (ScalarText × Node)). AreKeysOf es c.args.key c.with_key.new.keys)
    (sym c.new.ensures.items)
    (keys-first c.new-keys.result c.with_key.new.keys c.args.key c.new-keys.ensures.empty
    c.in-Ok.ensures.keys)
