use Rattle.std.proofs.Common.{◌≡◌, Bool, subst, sym}
use Rattle.std.specs.Bool.{Decides}
use Rattle.kept_sums.specs.Objectives.{key_by}
use Rattle.kept_sums.proofs.same.has_same_key.Goals as goal

pub returns-then-pool : goal.returns-then-pool
returns-then-pool c =
    subst (λ (pool : Bool). Decides c.is_pooled_as.result
    (key_by pool c.args.a.now ≡ key_by pool c.args.b.now)) (sym c.if-pool.true)
    c.is_pooled_as.ensures

pub returns : goal.returns
returns c =
    subst (λ (pool : Bool). Decides c.is_counted_as.result
    (key_by pool c.args.a.now ≡ key_by pool c.args.b.now)) (sym c.if-pool.false)
    c.is_counted_as.ensures
