use Rattle.std.proofs.Common.{◌⊎◌, List, false, subst, sym}
use Rattle.std.specs.List.{AllByRecursion, Contains}
use Rattle.kept_sums.specs.Objectives.{AreKept, HasSums, IsLike, IsPooledFor, KeptObjectives}
use Rattle.kept_sums.specs.Objectives.{counted, keys_by}
use Rattle.kept_sums.specs.declared.kept.ObjectiveSums.{ObjectiveSums}
use Rattle.kept_sums.proofs.SharedLemmas.{pooled-again}
use Rattle.kept_sums.proofs.kept.KeptSums.pool_again.Goals as goal

pub returns-clause-own : goal.returns-clause-own
returns-clause-own c = λ made rows kept.
    c.give_up.ensures.sums made rows
    (subst (λ (k : KeptObjectives). AreKept made rows k.own) (sym c.self.view_is) kept)

pub returns-clause-own_only : goal.returns-clause-own_only
returns-clause-own_only c = λ members only.
    c.give_up.ensures.only members
    (subst (λ (k : KeptObjectives). AllByRecursion (λ (o : ObjectiveSums).
    IsLike members false o.measure) k.own) (sym c.self.view_is) only)

pub returns-clause-all : goal.returns-clause-all
returns-clause-all c = λ m has.
    pooled-again c.args.book.now.exclusions c.self.inside.own.items c.give_up.new.own.items
    c.self.inside.pooled.items c.args.slo
    (c.has_exclusions-excluded.ensures c.if-excluded.false)
    (λ other at. subst (λ (pool : List ObjectiveSums). Contains
    (keys_by false c.give_up.new.own.items) (counted other) ⊎ IsPooledFor pool c.args.slo other)
    c.deref.ensures.value (c.give_up.ensures.there other at)) m
    (subst (λ (k : KeptObjectives). HasSums c.args.book.now.exclusions k.own k.pooled m)
    (sym c.self.view_is) has)
