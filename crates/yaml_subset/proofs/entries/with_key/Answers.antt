use Rattle.std.proofs.Common.{◌≡◌, ℕ, not, ap, ◌∙◌}
use Rattle.std.specs.BTreeSet.{contains_by, insert_key}
use Rattle.yaml_terms.specs.declared.ScalarText.{ScalarText}
use Rattle.yaml_terms.proofs.Failures.{no_ok, no_on}
use Rattle.yaml_subset.specs.KeysView.{in_order, number_of, numbered}
use Rattle.yaml_subset.proofs.entries.with_key.Goals as goal
use Rattle.yaml_subset.proofs.entries.with_key.Goals.{In_ok-copy}

pub returns-in_err-copy-clause-new : goal.returns-in_err-copy-clause-new
returns-in_err-copy-clause-new c = no_ok _ _ c.from_residual.result c.from_residual.ensures.1

pub returns-in_err-copy-clause-keys : goal.returns-in_err-copy-clause-keys
returns-in_err-copy-clause-keys c = no_on _ _ c.from_residual.result c.from_residual.ensures.1

-- what is put into the set
same : (c : In_ok-copy) → (c.number_of-number.result, c.in_ok-copy.copy) ≡ numbered c.args.key.now
same c =
    let number : c.number_of-number.result ≡ number_of c.args.key.now =
    c.number_of-number.ensures ∙ ap number_of c.as_bytes-bytes.ensures in
    let text : c.in_ok-copy.copy ≡ c.args.key.now =
    c.in_ok-copy.ensures ∙ c.as_bytes-bytes.ensures in
    (λ i. (number i, text i))

pub returns-clause-new : goal.returns-clause-new
returns-clause-new c =
    let at = (goal.at.returns-clause-new c).In_ok-copy in
    c.in_ok-new.ensures.added
    ∙ ap (λ (k : ℕ × ScalarText). not (contains_by (in_order k) c.args.keys.now)) (same at)

pub returns-clause-keys : goal.returns-clause-keys
returns-clause-keys c =
    let at = (goal.at.returns-clause-keys c).In_ok-copy in
    c.in_ok-new.ensures.keys
    ∙ ap (λ (k : ℕ × ScalarText). insert_key in_order c.args.keys.now.keys k) (same at)

pub returns-in_err-new-clause-new : goal.returns-in_err-new-clause-new
returns-in_err-new-clause-new c =
    no_ok _ _ c.from_residual-in_err-new.result c.from_residual-in_err-new.ensures.1

pub returns-in_err-new-clause-keys : goal.returns-in_err-new-clause-keys
returns-in_err-new-clause-keys c =
    no_on _ _ c.from_residual-in_err-new.result c.from_residual-in_err-new.ensures.1
