-- Looking for the place of a kind and name among sorted objects, half by half.
use Rattle.std.proofs.Common.{slice_set, Result, Ok, Err, ◌++◌, ◌+◌, ◌-◌, ◌≤◌, ◌/◌, add-one, ◌≡◌, ℕ}
use Rattle.std.proofs.Common.{zero, suc, ◌<◌, Bool, true, false, cond, List, [], ◌∷◌, length, take}
use Rattle.std.proofs.Common.{drop, get_or, Some, None, refl, sym, ap, ◌∙◌, subst, arith, Ordering}
use Rattle.std.proofs.Common.{Less, Equal, Greater, is_eq}
use Rattle.std.specs.List.{AllByRecursion}
use Rattle.std.specs.Prelude.{MatchResult}
use Rattle.std.specs.Ordering.{match_ordering, ordering_reverse}
use Rattle.std.specs.Cmp.{IsTotalOrder}
use Rattle.std.proofs.lemmas.Cmp.{on_total, then_total, nat_list_cmp_total, alike_right}
use Rattle.object_terms.specs.declared.kind.Kind.{Kind}
use Rattle.object_terms.specs.declared.object.Object.{Object}
use Rattle.catalog_terms.specs.Keys.{is_key, key_cmp, object_cmp, member_of, ComesBefore, IsSorted}
use Rattle.catalog_terms.specs.Catalog.{with_member}
use Rattle.slo_catalog.specs.Places.{to, StandsAt, BelongsAt}
use Rattle.slo_catalog.proofs.KeyLemmas.{kind_order, object_order, same_as, after, before}

abbrev Key : Type 0
Key = Kind × List ℕ

abbrev pair_cmp : Key → Key → Ordering
pair_cmp x y = key_cmp x.0 x.1 y.0 y.1

key_order : IsTotalOrder pair_cmp
key_order = then_total (on_total (λ (x : Key). x.0) kind_order)
    (on_total (λ (x : Key). x.1) nat_list_cmp_total)

abbrev key : Object → Key
key o = (o.kind, o.name)

module _ (kind : Kind) (name : List ℕ) where
  less_other : (o : Object) → to kind name o ≡ Less → is_key kind name o ≡ false
  less_other o h = same_as o kind name ∙ ap is_eq h

  greater_other : (o : Object) → to kind name o ≡ Greater → is_key kind name o ≡ false
  greater_other o h = same_as o kind name ∙ ap is_eq h

  equal_that : (o : Object) → to kind name o ≡ Equal → is_key kind name o ≡ true
  equal_that o h = same_as o kind name ∙ ap is_eq h

  -- what comes before an object that comes before them, or is of them, comes before them
  before_less : (o p : Object) → ComesBefore o p → to kind name p ≡ Less → to kind name o ≡ Less
  before_less o p h k = key_order.trans (key o) (key p) (kind, name) h k

  before_equal : (o p : Object) → ComesBefore o p → to kind name p ≡ Equal → to kind name o ≡ Less
  before_equal o p h k = sym (alike_right key_order (key p) (kind, name) (key o) k) ∙ h

  after_greater : (o p : Object) → ComesBefore o p → to kind name o ≡ Greater
      → to kind name p ≡ Greater
  after_greater o p h k =
      let first : pair_cmp (kind, name) (key o) ≡ Less = key_order.antisymm (kind, name) (key o)
      ∙ ap ordering_reverse k in
      key_order.antisymm (key p) (kind, name)
      ∙ ap ordering_reverse (key_order.trans (kind, name) (key o) (key p) first h)

  at : (P : Object → Type 0) (os : List Object) (i : ℕ) (d : Object) → AllByRecursion P os
      → i < length os → P (get_or os i d)
  at P [] i d all h = absurd (omega arith)
  at P (o ∷ os) zero d all h = all.0
  at P (o ∷ os) (suc i) d all h = at P os i d all.1 (omega arith)

  -- those ahead of an object that comes before them come before them, and so does it
  pub less_up_to : (os : List Object) (i : ℕ) (d : Object)
      → IsSorted os → i < length os → to kind name (get_or os i d) ≡ Less
      → AllByRecursion (λ o. to kind name o ≡ Less) (take (suc i) os)
  less_up_to [] i d s h k = absurd (omega arith)
  less_up_to (o ∷ os) zero d s h k = (k, tt)
  less_up_to (o ∷ os) (suc i) d s h k = (
    before_less o (get_or os i d) (at (ComesBefore o) os i d s.0 (omega arith)) k,
    less_up_to os i d s.1 (omega arith) k,
  )

  -- those ahead of the one that is of them come before them
  pub less_ahead : (os : List Object) (i : ℕ) (d : Object)
      → IsSorted os → i < length os → to kind name (get_or os i d) ≡ Equal
      → AllByRecursion (λ o. to kind name o ≡ Less) (take i os)
  less_ahead [] i d s h k = absurd (omega arith)
  less_ahead (o ∷ os) zero d s h k = tt
  less_ahead (o ∷ os) (suc i) d s h k = (
    before_equal o (get_or os i d) (at (ComesBefore o) os i d s.0 (omega arith)) k,
    less_ahead os i d s.1 (omega arith) k,
  )

  all_after : (o : Object) (os : List Object) → to kind name o ≡ Greater
      → AllByRecursion (ComesBefore o) os → AllByRecursion (λ p. to kind name p ≡ Greater) os
  all_after o [] h all = tt
  all_after o (p ∷ ps) h all = (after_greater o p all.0 h, all_after o ps h all.1)

  -- an object that comes behind them and those behind it come behind them
  pub greater_from : (os : List Object) (i : ℕ) (d : Object)
      → IsSorted os → i < length os → to kind name (get_or os i d) ≡ Greater
      → AllByRecursion (λ o. to kind name o ≡ Greater) (drop i os)
  greater_from [] i d s h k = absurd (omega arith)
  greater_from (o ∷ os) zero d s h k = (k, all_after o os k s.0)
  greater_from (o ∷ os) (suc i) d s h k = greater_from os i d s.1 (omega arith) k

  step : (o : Object) (os : List Object) (b : Bool) → is_key kind name o ≡ b
      → member_of (o ∷ os) kind name ≡ cond b (Some o) (member_of os kind name)
  step o os b h = ap (λ c. cond c (Some o) (member_of os kind name)) h

  none_behind : (os : List Object) → AllByRecursion (λ o. to kind name o ≡ Greater) os
      → member_of os kind name ≡ None
  none_behind [] h = refl
  none_behind (o ∷ os) h = step o os false (greater_other o h.0) ∙ none_behind os h.1

  -- none is found where each comes before them or behind them
  pub none_found : (os : List Object) (i : ℕ)
      → AllByRecursion (λ o. to kind name o ≡ Less) (take i os)
      → AllByRecursion (λ o. to kind name o ≡ Greater) (drop i os) → member_of os kind name ≡ None
  none_found os zero a b = none_behind os b
  none_found [] (suc i) a b = refl
  none_found (o ∷ os) (suc i) a b = step o os false (less_other o a.0) ∙ none_found os i a.1 b

  -- the one of them is found
  pub one_found : (os : List Object) (i : ℕ) (d : Object)
      → i < length os → AllByRecursion (λ o. to kind name o ≡ Less) (take i os)
      → to kind name (get_or os i d) ≡ Equal → member_of os kind name ≡ Some (get_or os i d)
  one_found [] i d h a k = absurd (omega arith)
  one_found (o ∷ os) zero d h a k = step o os true (equal_that o k)
  one_found (o ∷ os) (suc i) d h a k = step o os false (less_other o a.0)
      ∙ one_found os i d (omega arith) a.1 k

-- an object that is put in front of those behind it
pub put_here : (o : Object) (os : List Object) (i : ℕ)
    → AllByRecursion (λ p. to o.kind o.name p ≡ Less) (take i os)
    → AllByRecursion (λ p. to o.kind o.name p ≡ Greater) (drop i os) → i ≤ length os
    → with_member o os ≡ take i os ++ o ∷ drop i os
put_here o [] zero a b h = refl
put_here o [] (suc i) a b h = absurd (omega arith)
put_here o (p ∷ ps) zero a b h =
    ap (λ r. match_ordering r (o ∷ p ∷ ps) (o ∷ ps) (p ∷ with_member o ps)) (after p o b.0)
put_here o (p ∷ ps) (suc i) a b h =
    ap (λ r. match_ordering r (o ∷ p ∷ ps) (o ∷ ps) (p ∷ with_member o ps)) (before o p a.0)
    ∙ ap (λ qs. p ∷ qs) (put_here o ps i a.1 b (omega arith))

same_turned : (o p : Object) → object_cmp p o ≡ Equal → object_cmp o p ≡ Equal
same_turned o p h = object_order.antisymm o p ∙ ap ordering_reverse h

-- an object that is put in the place of the one of its kind and name
pub put_there_again : (o : Object) (os : List Object) (i : ℕ) (d : Object)
    → i < length os → AllByRecursion (λ p. to o.kind o.name p ≡ Less) (take i os)
    → to o.kind o.name (get_or os i d) ≡ Equal → with_member o os ≡ slice_set os i o
put_there_again o [] i d h a k = absurd (omega arith)
put_there_again o (p ∷ ps) zero d h a k =
    ap (λ r. match_ordering r (o ∷ p ∷ ps) (o ∷ ps) (p ∷ with_member o ps)) (same_turned o p k)
put_there_again o (p ∷ ps) (suc i) d h a k =
    ap (λ r. match_ordering r (o ∷ p ∷ ps) (o ∷ ps) (p ∷ with_member o ps)) (before o p a.0)
    ∙ ap (λ qs. p ∷ qs) (put_there_again o ps i d (omega arith) a.1 k)

at_any : (e d : Object) (xs : List Object) (i : ℕ) → i < length xs → get_or xs i e ≡ get_or xs i d
at_any e d [] i h = absurd (omega arith)
at_any e d (x ∷ xs) zero h = refl
at_any e d (x ∷ xs) (suc i) h = at_any e d xs i (omega arith)

-- what an object in the middle tells of those ahead of it, of itself, and of those behind it
pub ahead_of_middle : (kind : Kind) (name : List ℕ) (os : List Object) (i : ℕ) (o d : Object)
    → IsSorted os → i < length os → o ≡ get_or os i d → to kind name o ≡ Less
    → AllByRecursion (λ p. to kind name p ≡ Less) (take (i + 1) os)
ahead_of_middle kind name os i o d s h same k =
    subst (λ n. AllByRecursion (λ p. to kind name p ≡ Less) (take n os)) (sym (add-one i))
    (less_up_to kind name os i d s h (ap (to kind name) (sym same) ∙ k))

pub here_in_middle : (kind : Kind) (name : List ℕ) (os : List Object) (i : ℕ) (o d : Object)
    → IsSorted os → i < length os → o ≡ get_or os i d → to kind name o ≡ Equal
    → StandsAt kind name os i
here_in_middle kind name os i o d s h same k =
    let there : to kind name (get_or os i d) ≡ Equal = ap (to kind name) (sym same) ∙ k in
    record {
      within = h;
      ahead = less_ahead kind name os i d s h there;
      here = λ e. ap (to kind name) (at_any e d os i h) ∙ there;
    }

pub behind_middle : (kind : Kind) (name : List ℕ) (os : List Object) (i : ℕ) (o d : Object)
    → IsSorted os → i < length os → o ≡ get_or os i d → to kind name o ≡ Greater
    → AllByRecursion (λ p. to kind name p ≡ Greater) (drop i os)
behind_middle kind name os i o d s h same k =
    greater_from kind name os i d s h (ap (to kind name) (sym same) ∙ k)

pub middle_below : (low high : ℕ) → low < high → low + (high - low) / 2 < high
middle_below low high h = omega arith

-- what an answer says of its place
pub place_there : (kind : Kind) (name : List ℕ) (os : List Object) (r : Result ℕ ℕ) (i : ℕ)
    → MatchResult r (StandsAt kind name os) (BelongsAt kind name os) → r ≡ Ok i
    → StandsAt kind name os i
place_there kind name os r i h e =
    subst (λ x. MatchResult x (StandsAt kind name os) (BelongsAt kind name os)) e h

pub place_free : (kind : Kind) (name : List ℕ) (os : List Object) (r : Result ℕ ℕ) (i : ℕ)
    → MatchResult r (StandsAt kind name os) (BelongsAt kind name os) → r ≡ Err i
    → BelongsAt kind name os i
place_free kind name os r i h e =
    subst (λ x. MatchResult x (StandsAt kind name os) (BelongsAt kind name os)) e h

pub found_at : (kind : Kind) (name : List ℕ) (os : List Object) (i : ℕ) (o d : Object)
    → StandsAt kind name os i → o ≡ get_or os i d → Some o ≡ member_of os kind name
found_at kind name os i o d at same = ap Some same
    ∙ sym (one_found kind name os i d at.within at.ahead (at.here d))

pub none_at : (kind : Kind) (name : List ℕ) (os : List Object) (i : ℕ) → BelongsAt kind name os i
    → None ≡ member_of os kind name
none_at kind name os i at = sym (none_found kind name os i at.ahead at.behind)

pub put_over : (o : Object) (os : List Object) (i : ℕ) → StandsAt o.kind o.name os i
    → with_member o os ≡ slice_set os i o
put_over o os i at = put_there_again o os i o at.within at.ahead (at.here o)

pub put_between : (o : Object) (os : List Object) (i : ℕ) → BelongsAt o.kind o.name os i
    → with_member o os ≡ take i os ++ o ∷ drop i os
put_between o os i at = put_here o os i at.ahead at.behind at.within

-- the same where the object was looked for by a reference to it, in a slice of them
pub put_over_as : (o p : Object) (os xs : List Object) (r : Result ℕ ℕ) (i : ℕ) → p ≡ o
    → xs ≡ os → MatchResult r (StandsAt p.kind p.name xs) (BelongsAt p.kind p.name xs) → r ≡ Ok i
    → with_member o os ≡ slice_set os i o
put_over_as o p os xs r i e f h g =
    put_over o os i (subst (λ x. StandsAt x.kind x.name os i) e
    (subst (λ ys. StandsAt p.kind p.name ys i) f (place_there p.kind p.name xs r i h g)))

pub put_between_as : (o p : Object) (os xs : List Object) (r : Result ℕ ℕ) (i : ℕ) → p ≡ o
    → xs ≡ os → MatchResult r (StandsAt p.kind p.name xs) (BelongsAt p.kind p.name xs) → r ≡ Err i
    → with_member o os ≡ take i os ++ o ∷ drop i os
put_between_as o p os xs r i e f h g =
    put_between o os i (subst (λ x. BelongsAt x.kind x.name os i) e
    (subst (λ ys. BelongsAt p.kind p.name ys i) f (place_free p.kind p.name xs r i h g)))
