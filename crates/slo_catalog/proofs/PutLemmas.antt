-- What stands in a list after an object is put in its place, and after one is taken out.
use Rattle.std.proofs.Common.{◌≡◌, ℕ, Bool, true, false, not, cond, ◌⊎◌, inl, inr, List, [], ◌∷◌}
use Rattle.std.proofs.Common.{filter, refl, sym, ap, ◌∙◌, subst, true≢false, Ordering, Less, Equal}
use Rattle.std.proofs.Common.{Greater}
use Rattle.std.specs.List.{AllByRecursion}
use Rattle.std.specs.Ordering.{match_ordering}
use Rattle.object_terms.specs.declared.kind.Kind.{Kind}
use Rattle.object_terms.specs.declared.object.Object.{Object}
use Rattle.catalog_terms.specs.Keys.{is_key, object_cmp, ComesBefore, IsSorted}
use Rattle.catalog_terms.specs.Catalog.{with_member, without}
use Rattle.slo_catalog.proofs.KeyLemmas.{object_order, less_apart, greater_apart, equal_same, after}
use Rattle.slo_catalog.proofs.AmongLemmas.{Among, all_weaker, all_among}

put_before : (p o : Object) (os : List Object) → ComesBefore p o → AllByRecursion (ComesBefore p) os
    → AllByRecursion (ComesBefore p) (with_member o os)
put_before p o [] h all = (h, tt)
put_before p o (q ∷ qs) h all = by (object_cmp o q) (put_before p o qs h all.1)
  where
    by : (r : Ordering) → AllByRecursion (ComesBefore p) (with_member o qs)
        → AllByRecursion (ComesBefore p)
        (match_ordering r (o ∷ q ∷ qs) (o ∷ qs) (q ∷ with_member o qs))
    by Less more = (h, all)
    by Equal more = (h, all.1)
    by Greater more = (all.0, more)

pub put_sorted : (o : Object) (os : List Object) → IsSorted os → IsSorted (with_member o os)
put_sorted o [] s = (tt, tt)
put_sorted o (p ∷ ps) s = by (object_cmp o p) refl (put_sorted o ps s.1)
  where
    by : (r : Ordering) → object_cmp o p ≡ r → IsSorted (with_member o ps)
        → IsSorted (match_ordering r (o ∷ p ∷ ps) (o ∷ ps) (p ∷ with_member o ps))
    by Less e more = (
      (
        e,
        all_weaker (ComesBefore p) (ComesBefore o)
            (λ q h. object_order.trans o p q e h) ps s.0,
      ),
      s,
    )
    by Equal e more = (
      all_weaker (ComesBefore p) (ComesBefore o) (λ q h. object_order.congr o p q e ∙ h) ps s.0,
      s.1,
    )
    by Greater e more = (put_before p o ps (after o p e) s.0, more)

-- what is put, and what was there of another kind or name
pub in_put : (o q : Object) (os : List Object) → IsSorted os → Among (with_member o os) q
    → (o ≡ q) ⊎ (Among os q × (is_key q.kind q.name o ≡ false))
in_put o q [] s (inl h) = inl h
in_put o q [] s (inr h) = absurd h
in_put o q (p ∷ ps) s h = by (object_cmp o p) refl (in_put o q ps s.1) h
  where
    Goal : Type 0
    Goal = (o ≡ q) ⊎ (Among (p ∷ ps) q × (is_key q.kind q.name o ≡ false))

    later : ComesBefore o p → Among (p ∷ ps) q → object_cmp o q ≡ Less
    later e (inl same) = subst (λ x. object_cmp o x ≡ Less) same e
    later e (inr k) = object_order.trans o p q e (all_among (ComesBefore p) ps q s.0 k)

    more : (o ≡ q) ⊎ (Among ps q × (is_key q.kind q.name o ≡ false)) → Goal
    more (inl same) = inl same
    more (inr k) = inr (inr k.0, k.1)

    by : (r : Ordering) → object_cmp o p ≡ r
        → (Among (with_member o ps) q → (o ≡ q) ⊎ (Among ps q × (is_key q.kind q.name o ≡ false)))
        → Among (match_ordering r (o ∷ p ∷ ps) (o ∷ ps) (p ∷ with_member o ps)) q → Goal
    by Less e again (inl same) = inl same
    by Less e again (inr k) = inr (k, less_apart o q (later e k))
    by Equal e again (inl same) = inl same
    by Equal e again (inr k) = inr (
      inr k,
      less_apart o q (object_order.congr o p q e ∙ all_among (ComesBefore p) ps q s.0 k),
    )
    by Greater e again (inl same) =
        inr (inl same, greater_apart o q (subst (λ x. object_cmp o x ≡ Greater) same e))
    by Greater e again (inr k) = more (again k)

pub put_there : (o : Object) (os : List Object) → Among (with_member o os) o
put_there o [] = inl refl
put_there o (p ∷ ps) = by (object_cmp o p) (put_there o ps)
  where
    by : (r : Ordering) → Among (with_member o ps) o
        → Among (match_ordering r (o ∷ p ∷ ps) (o ∷ ps) (p ∷ with_member o ps)) o
    by Less more = inl refl
    by Equal more = inl refl
    by Greater more = inr more

pub put_keeps : (o q : Object) (os : List Object) → Among os q → is_key q.kind q.name o ≡ false
    → Among (with_member o os) q
put_keeps o q [] h apart = absurd h
put_keeps o q (p ∷ ps) h apart = by (object_cmp o p) refl (λ k. put_keeps o q ps k apart) h
  where
    by : (r : Ordering) → object_cmp o p ≡ r → (Among ps q → Among (with_member o ps) q)
        → Among (p ∷ ps) q
        → Among (match_ordering r (o ∷ p ∷ ps) (o ∷ ps) (p ∷ with_member o ps)) q
    by Less e again k = inr k
    by Equal e again (inl same) = absurd
        (true≢false (sym (equal_same o q (subst (λ x. object_cmp o x ≡ Equal) same e)) ∙ apart))
    by Equal e again (inr k) = inr k
    by Greater e again (inl same) = inl same
    by Greater e again (inr k) = inr (again k)

-- what is kept of a list
module _ (test : Object → Bool) where
  filter_all : (P : Object → Type 0) (os : List Object) → AllByRecursion P os
      → AllByRecursion P (filter test os)
  filter_all P [] h = tt
  filter_all P (o ∷ os) h = by (test o) (filter_all P os h.1)
    where
      by : (b : Bool) → AllByRecursion P (filter test os)
          → AllByRecursion P (cond b (o ∷ filter test os) (filter test os))
      by true more = (h.0, more)
      by false more = more

  filter_sorted : (os : List Object) → IsSorted os → IsSorted (filter test os)
  filter_sorted [] s = tt
  filter_sorted (o ∷ os) s = by (test o) (filter_sorted os s.1)
    where
      by : (b : Bool) → IsSorted (filter test os)
          → IsSorted (cond b (o ∷ filter test os) (filter test os))
      by true more = (filter_all (ComesBefore o) os s.0, more)
      by false more = more

  in_filter : (q : Object) (os : List Object) → Among (filter test os) q
      → Among os q × (test q ≡ true)
  in_filter q [] h = absurd h
  in_filter q (o ∷ os) h = by (test o) refl (in_filter q os) h
    where
      by : (b : Bool) → test o ≡ b → (Among (filter test os) q → Among os q × (test q ≡ true))
          → Among (cond b (o ∷ filter test os) (filter test os)) q
          → Among (o ∷ os) q × (test q ≡ true)
      by true e again (inl same) = (inl same, subst (λ x. test x ≡ true) same e)
      by true e again (inr k) = let a = again k in (inr a.0, a.1)
      by false e again k = let a = again k in (inr a.0, a.1)

  filter_keeps : (q : Object) (os : List Object) → Among os q → test q ≡ true
      → Among (filter test os) q
  filter_keeps q [] h t = absurd h
  filter_keeps q (o ∷ os) h t = by (test o) refl (filter_keeps q os) h
    where
      by : (b : Bool) → test o ≡ b → (Among os q → test q ≡ true → Among (filter test os) q)
          → Among (o ∷ os) q → Among (cond b (o ∷ filter test os) (filter test os)) q
      by true e again (inl same) = inl same
      by true e again (inr k) = inr (again k t)
      by false e again (inl same) = absurd (true≢false (sym t ∙ (sym (ap test same) ∙ e)))
      by false e again (inr k) = again k t

pub without_sorted : (kind : Kind) (name : List ℕ) (os : List Object) → IsSorted os
    → IsSorted (without kind name os)
without_sorted kind name = filter_sorted (λ o. not (is_key kind name o))

pub in_without : (kind : Kind) (name : List ℕ) (q : Object) (os : List Object)
    → Among (without kind name os) q → Among os q × (not (is_key kind name q) ≡ true)
in_without kind name = in_filter (λ o. not (is_key kind name o))

pub without_keeps : (kind : Kind) (name : List ℕ) (q : Object) (os : List Object) → Among os q
    → not (is_key kind name q) ≡ true → Among (without kind name os) q
without_keeps kind name = filter_keeps (λ o. not (is_key kind name o))
