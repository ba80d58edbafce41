-- What is made for each key that is wanted, unless it stands elsewhere already.
use Rattle.std.proofs.Common.{◌≡◌, ◌⊎◌, ◌∙◌, inl, inr, ℕ, ◌+◌, ◌<◌, All, List, [], ◌∷◌, ◌++◌, ap}
use Rattle.std.proofs.Common.{length, map, sym, subst, take}
use Rattle.std.specs.List.{Contains}
use Rattle.std.proofs.Math.ListN.{get_or}
use Rattle.std.proofs.Math.Seq.{take-length}
use Rattle.std.proofs.lemmas.List.{map-append}
use Rattle.std.proofs.lemmas.List.Elements.{All-more, All-weaker, Contains-append_left}
use Rattle.std.proofs.lemmas.List.Elements.{Contains-push}

module _ {X K : Type 0} (key : X → K) (There : K → Type 0) (made more : List X) (x : X)
    (e : more ≡ made ++ x ∷ []) where
  all : map key more ≡ map key made ++ key x ∷ []
  all = ap (map key) e ∙ map-append key made (x ∷ [])

  -- an item that was made is there under its key
  pub there_made : Contains (map key more) (key x) ⊎ There (key x)
  there_made =
      inl (subst (λ (ks : List K). Contains ks (key x)) (sym all)
      (Contains-push (map key made) (key x)))

  -- and what was there still is
  pub still_there : (k : K) → Contains (map key made) k ⊎ There k →
      Contains (map key more) k ⊎ There k
  still_there k (inl has) =
      inl (subst (λ (ks : List K). Contains ks k) (sym all)
      (Contains-append_left (map key made) (key x ∷ []) k has))
  still_there k (inr is) = inr is

-- one key more has what those before it have, and they still have it
pub so_far_next : {K : Type 0} (Had Has : K → Type 0) (wanted : List K) (at : ℕ) (k : K) →
    at < length wanted → k ≡ get_or wanted at k → ((x : K) → Had x → Has x) →
    All Had (take at wanted) → Has k → All Has (take (at + 1) wanted)
so_far_next Had Has wanted at k less is still so_far has =
    All-more Has wanted at k less (All-weaker Had Has still (take at wanted) so_far)
    (subst Has is has)

-- and those so far are all at the end
pub so_far_all : {K : Type 0} (Has : K → Type 0) (wanted : List K) (at : ℕ) →
    at ≡ length wanted → All Has (take at wanted) → All Has wanted
so_far_all Has wanted at end so_far =
    subst (All Has) (ap (λ n. take n wanted) end ∙ take-length wanted) so_far
