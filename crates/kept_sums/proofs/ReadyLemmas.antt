-- Room for a plan.
use Rattle.std.proofs.Common.{◌≡◌, ℕ, ◌≤◌, [], Bool, Err, List, Ok, OnOk, Result, false, length}
use Rattle.std.proofs.Common.{subst, sym, true}
use Rattle.std.specs.List.{AllByRecursion}
use Rattle.sample_book.specs.declared.Exclusion.{Exclusion}
use Rattle.sample_book.specs.declared.Row.{Row}
use Rattle.object_terms.specs.declared.Object.{Object}
use Rattle.kept_sums.specs.Objectives.{AreKept, HasSums, IsLike, KeepsSums, KeptObjectives}
use Rattle.kept_sums.specs.Plans.{IsReady, IsThere}
use Rattle.kept_sums.specs.declared.kept.ObjectiveSums.{ObjectiveSums}
use Rattle.kept_sums.specs.declared.plan.SumsPlan.{SumsPlan}

-- what a plan wants is there still where room was made for it
pub ready_for : {A E : Type 0} (old new : KeptObjectives) (plan : SumsPlan) (r : Result A E)
    (own_count pooled_count : ℕ) → new.own ≡ old.own → new.pooled ≡ old.pooled →
    IsThere false old.own plan.own → IsThere true old.pooled plan.pooled →
    own_count ≡ length plan.own.made.items → pooled_count ≡ length plan.pooled.made.items →
    OnOk r (own_count ≤ new.own_spare) → OnOk r (pooled_count ≤ new.pooled_spare) →
    OnOk r (IsReady new plan)
ready_for old new plan (Ok x) n p own pool here pooled_here counted pooled_counted room
    pooled_room = record {
      own = subst (λ (kept : List ObjectiveSums). IsThere false kept plan.own) (sym own) here;
      pooled = subst (λ (kept : List ObjectiveSums). IsThere true kept plan.pooled) (sym pool)
          pooled_here;
      own_room = subst (λ (k : ℕ). k ≤ new.own_spare) counted room;
      pooled_room = subst (λ (k : ℕ). k ≤ new.pooled_spare) pooled_counted pooled_room;
    }
ready_for old new plan (Err e) n p own pool here pooled_here counted pooled_counted room
    pooled_room = tt

-- what is kept is the sums of the objectives still where both lists are what they were
pub same_keeps : (members : List Object) (made : List (Exclusion × Bool)) (rows : List Row)
    (old new : KeptObjectives) → new.own ≡ old.own → new.pooled ≡ old.pooled →
    KeepsSums members made rows old → KeepsSums members made rows new
same_keeps members made rows old new own pool keeps = record {
  own = subst (AreKept made rows) (sym own) keeps.own;
  pooled = subst (AreKept [] rows) (sym pool) keeps.pooled;
  own_only = subst (AllByRecursion (λ (k : ObjectiveSums). IsLike members false k.measure))
      (sym own) keeps.own_only;
  pooled_only = subst (AllByRecursion (λ (k : ObjectiveSums). IsLike members true k.measure))
      (sym pool) keeps.pooled_only;
  all = λ m of.
      subst (λ (ks : List ObjectiveSums). HasSums made ks new.pooled m) (sym own)
      (subst (λ (ks : List ObjectiveSums). HasSums made old.own ks m) (sym pool) (keeps.all m of));
}
