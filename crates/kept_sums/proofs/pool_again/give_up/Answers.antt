use Rattle.std.proofs.Common.{◌≡◌, ◌⊎◌, ℕ, List, false, inl, inr, rules, subst}
use Rattle.office_history.specs.declared.Measure.{Measure}
use Rattle.kept_sums.specs.Objectives.{IsLike, IsPooledFor, counted, key_by}
use Rattle.kept_sums.specs.Sums.{SumsAreKept}
use Rattle.kept_sums.specs.declared.kept.ObjectiveSums.{ObjectiveSums}
use Rattle.kept_sums.proofs.TakeLemmas.{retained_each, retained_or_gone}
use Rattle.kept_sums.proofs.pool_again.give_up.Goals as goal

-- pooled sums are an objective's whatever its target
for_key : (kept : List ObjectiveSums) (slo : List ℕ) (m : Measure) → IsPooledFor kept slo m
    → IsPooledFor kept slo (counted m)
for_key kept slo m for = record { named = for.named; there = for.there }

of_key : {There : Type 0} (kept : List ObjectiveSums) (slo : List ℕ) (m : Measure)
    → There ⊎ IsPooledFor kept slo (counted m) → There ⊎ IsPooledFor kept slo m
of_key kept slo m (inl still) = inl still
of_key kept slo m (inr for) = inr (record { named = for.named; there = for.there })

pub returns-clause-sums : goal.returns-clause-sums
returns-clause-sums c = λ made rows old.
    retained_each _ _ (λ (k : ObjectiveSums). SumsAreKept k.measure made rows k.sums) _
    c.retain.new.self.items c.retain.ensures.filtered old

pub returns-clause-only : goal.returns-clause-only
returns-clause-only c = λ members old.
    retained_each _ _ (λ (k : ObjectiveSums). IsLike members false k.measure) _
    c.retain.new.self.items c.retain.ensures.filtered old

pub returns-clause-there : goal.returns-clause-there
returns-clause-there c = λ m at.
    let pool = c.args.pooled.now in
    let slo = c.args.slo in
    of_key pool slo m
    (retained_or_gone (λ (k : ObjectiveSums). key_by false k.measure) _ (IsPooledFor pool slo) _
    (λ x b g k. (
      λ gone. for_key pool slo x.measure
          (subst (λ (y : ObjectiveSums). b ≡ false → IsPooledFor pool slo y.measure) k.shows
          (search rules) gone),
      search rules,
    )) _ c.retain.new.self.items c.retain.ensures.filtered (counted m) at)
