-- What a plan wants, objective by objective.
use Rattle.std.proofs.Common.{◌≡◌, ◌⊎◌, ◌∙◌, ◌++◌, ◌∷◌, [], Bool, List, ap, false, inl, inr}
use Rattle.std.proofs.Common.{map, refl, subst, sym, true}
use Rattle.std.specs.List.{AllByRecursion, Contains}
use Rattle.std.proofs.lemmas.List.{map-append}
use Rattle.std.proofs.lemmas.List.Elements.{Contains-append_left, Contains-push}
use Rattle.sample_book.specs.declared.Exclusion.{Exclusion}
use Rattle.object_terms.specs.declared.Object.{Object}
use Rattle.office_history.specs.declared.Measure.{Measure}
use Rattle.kept_sums.specs.Objectives.{HasNoExclusions, IsLike, IsObjective, counted, key_by}
use Rattle.kept_sums.specs.Objectives.{pooled}
use Rattle.kept_sums.specs.Plans.{wanted_keys}
use Rattle.kept_sums.specs.declared.ListPlan.{ListPlan}
use Rattle.kept_sums.proofs.ListLemmas.{all_push}

-- one more that is wanted, and those before it still are
module _ (pool : Bool) (old new : List Measure) (m : Measure) (e : new ≡ old ++ m ∷ []) where
  keys : map (key_by pool) new ≡ map (key_by pool) old ++ key_by pool m ∷ []
  keys = ap (map (key_by pool)) e ∙ map-append (key_by pool) old (m ∷ [])

  pub wanted_still : (key : Measure) → Contains (map (key_by pool) old) key →
      Contains (map (key_by pool) new) key
  wanted_still key has =
      subst (λ (ks : List Measure). Contains ks key) (sym keys)
      (Contains-append_left (map (key_by pool) old) (key_by pool m ∷ []) key has)

  pub wanted_here : Contains (map (key_by pool) new) (key_by pool m)
  wanted_here =
      subst (λ (ks : List Measure). Contains ks (key_by pool m)) (sym keys)
      (Contains-push (map (key_by pool) old) (key_by pool m))

  pub wanted_like : (members : List Object) → IsLike members pool m →
      AllByRecursion (IsLike members pool) old → AllByRecursion (IsLike members pool) new
  wanted_like members like all =
      subst (AllByRecursion (IsLike members pool)) (sym e)
      (all_push (IsLike members pool) old m all like)

-- an objective is like itself
pub like_itself : (members : List Object) (pool : Bool) (m : Measure) → IsObjective members m →
    IsLike members pool m
like_itself members pool m is = record { other = m; is = is; alike = refl }

-- what is wanted for an objective still is where more is wanted of either kind
pub own_still : (made : List (Exclusion × Bool)) (old new pool : ListPlan) (m : Measure) →
    ((key : Measure) → Contains (wanted_keys false old) key →
    Contains (wanted_keys false new) key) →
    Contains (wanted_keys false old) (counted m)
    ⊎ (Contains (wanted_keys true pool) (pooled m) × HasNoExclusions made m.slo) →
    Contains (wanted_keys false new) (counted m)
    ⊎ (Contains (wanted_keys true pool) (pooled m) × HasNoExclusions made m.slo)
own_still made old new pool m still (inl has) = inl (still (counted m) has)
own_still made old new pool m still (inr has) = inr has

pub pooled_still : (made : List (Exclusion × Bool)) (own old new : ListPlan) (m : Measure) →
    ((key : Measure) → Contains (wanted_keys true old) key →
    Contains (wanted_keys true new) key) →
    Contains (wanted_keys false own) (counted m)
    ⊎ (Contains (wanted_keys true old) (pooled m) × HasNoExclusions made m.slo) →
    Contains (wanted_keys false own) (counted m)
    ⊎ (Contains (wanted_keys true new) (pooled m) × HasNoExclusions made m.slo)
pooled_still made own old new m still (inl has) = inl has
pooled_still made own old new m still (inr has) = inr (still (pooled m) has.0, has.1)
