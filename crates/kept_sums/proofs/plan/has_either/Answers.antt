use Rattle.std.proofs.Common.{List, inl, inr, subst}
use Rattle.std.specs.List.{Contains}
use Rattle.kept_sums.specs.Objectives.{key_by, keys_by}
use Rattle.kept_sums.specs.declared.kept.ObjectiveSums.{ObjectiveSums}
use Rattle.kept_sums.proofs.plan.has_either.Goals as goal

pub returns-then-kept : goal.returns-then-kept
returns-then-kept c = λ yes. inl (c.has_key-kept.ensures.0 c.if-kept.true)

pub returns : goal.returns
returns c = λ yes.
    inr (subst (λ (made : List ObjectiveSums).
    Contains (keys_by c.args.pool made) (key_by c.args.pool c.args.measure.now))
    c.deref.ensures.value (c.has_key.ensures.0 yes))
