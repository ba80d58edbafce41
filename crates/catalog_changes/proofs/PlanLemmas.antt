-- The sums that are kept once a plan was taken.
use Rattle.std.proofs.Common.{◌≡◌, ◌⊎◌, ◌∙◌, ◌<◌, inl, inr, ℕ, Bool, true, false, zero, suc, arith}
use Rattle.std.proofs.Common.{List, [], ◌∷◌, length, map, slice_index_or}
use Rattle.std.specs.List.{AllByRecursion, Contains}
use Rattle.sample_book.specs.declared.Exclusion.{Exclusion}
use Rattle.sample_book.specs.declared.Row.{Row}
use Rattle.object_terms.specs.declared.Object.{Object}
use Rattle.kept_sums.specs.declared.ListPlan.{ListPlan}
use Rattle.kept_sums.specs.declared.ObjectiveSums.{ObjectiveSums}
use Rattle.kept_sums.specs.declared.SumsPlan.{SumsPlan}
use Rattle.kept_sums.specs.Objectives.{AreKept, HasNoExclusions, HasSums, IsLike, IsObjective}
use Rattle.kept_sums.specs.Objectives.{KeepsSums, KeptObjectives, counted, key_by, keys_by}
use Rattle.kept_sums.specs.Plans.{IsPlan, wanted_keys}
use Rattle.office_history.specs.declared.Measure.{Measure}

-- what counts as an objective that is wanted counts as one of the catalog's
like_at : (after : List Object) (pool : Bool) (wanted : List Measure) (m : Measure) (n : ℕ) →
    AllByRecursion (IsLike after pool) wanted → n < length (map (key_by pool) wanted) →
    slice_index_or (map (key_by pool) wanted) n (key_by pool m) ≡ key_by pool m →
    IsLike after pool m
like_at after pool [] m n only less e = absurd (omega (arith, less))
like_at after pool (x ∷ xs) m zero only less e =
    record { other = only.0.other; is = only.0.is; alike = only.0.alike ∙ e }
like_at after pool (x ∷ xs) m (suc n) only less e =
    like_at after pool xs m n only.1 (omega (arith, less)) e

wanted_only : (after : List Object) (pool : Bool) (plan : ListPlan) (kept : List ObjectiveSums) →
    AllByRecursion (IsLike after pool) plan.wanted.items →
    AllByRecursion (λ (k : ObjectiveSums). Contains (wanted_keys pool plan)
    (key_by pool k.measure)) kept →
    AllByRecursion (λ (k : ObjectiveSums). IsLike after pool k.measure) kept
wanted_only after pool plan [] only are = tt
wanted_only after pool plan (k ∷ ks) only are = (
  like_at after pool plan.wanted.items k.measure are.0.0 only are.0.1 are.0.2,
  wanted_only after pool plan ks only are.1,
)

-- what is kept once a plan was taken
pub record IsTaken (plan : SumsPlan) (made : List (Exclusion × Bool)) (rows : List Row)
    (old new : KeptObjectives) : Type 0 where
  pub own : AreKept made rows old.own → AreKept made rows plan.own.made.items →
      AreKept made rows new.own
  pub pooled : AreKept [] rows old.pooled → AreKept [] rows plan.pooled.made.items →
      AreKept [] rows new.pooled
  pub own_wanted : AllByRecursion (λ (k : ObjectiveSums). Contains (wanted_keys false plan.own)
      (key_by false k.measure)) new.own
  pub pooled_wanted : AllByRecursion (λ (k : ObjectiveSums).
      Contains (wanted_keys true plan.pooled) (key_by true k.measure)) new.pooled
  pub own_there : (key : Measure) → Contains (wanted_keys false plan.own) key →
      Contains (keys_by false new.own) key
  pub pooled_there : (key : Measure) → Contains (wanted_keys true plan.pooled) key →
      Contains (keys_by true new.pooled) key

-- is the sums of just the objectives of the catalog that comes
pub plan_taken : (before after : List Object) (made : List (Exclusion × Bool)) (rows : List Row)
    (plan : SumsPlan) (old new : KeptObjectives) → KeepsSums before made rows old →
    IsPlan after made rows plan → IsTaken plan made rows old new → KeepsSums after made rows new
plan_taken before after made rows plan old new keeps is taken = record {
  own = taken.own keeps.own is.own;
  pooled = taken.pooled keeps.pooled is.pooled;
  own_only = wanted_only after false plan.own new.own is.own_only taken.own_wanted;
  pooled_only = wanted_only after true plan.pooled new.pooled is.pooled_only taken.pooled_wanted;
  all = λ m of. there m of;
}
  where
    there : (m : Measure) → IsObjective after m → HasSums made new.own new.pooled m
    there m of = by (is.all m of)
      where
        by : Contains (wanted_keys false plan.own) (counted m)
            ⊎ (Contains (wanted_keys true plan.pooled) (key_by true m) × HasNoExclusions made m.slo)
            → HasSums made new.own new.pooled m
        by (inl has) = inl (taken.own_there (key_by false m) has)
        by (inr has) = inr (taken.pooled_there (key_by true m) has.0, has.1)
