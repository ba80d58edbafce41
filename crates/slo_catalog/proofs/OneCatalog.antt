-- Sorted lists with the same elements are equal.
use Rattle.std.proofs.Common.{◌≡◌, inl, inr, List, [], ◌∷◌, refl, sym, ap, ◌∙◌, subst, is_lt}
use Rattle.std.proofs.Common.{true≢false, ap₂}
use Rattle.object_terms.specs.declared.object.Object.{Object}
use Rattle.catalog_terms.specs.Keys.{ComesBefore, IsSorted}
use Rattle.catalog_terms.specs.Catalog.{Change, IsCatalog}
use Rattle.slo_catalog.proofs.KeyLemmas.{before}
use Rattle.slo_catalog.proofs.AmongLemmas.{Among, among_of, contains_of, all_among}

-- no object comes before another and after it
clash : (o p : Object) → ComesBefore o p → ComesBefore p o → ⊥
clash o p h k = true≢false (ap is_lt (sym h ∙ before o p k))

abbrev Within : List Object → List Object → Type 0
Within os ps = (q : Object) → Among os q → Among ps q

heads : (o p : Object) (os ps : List Object) → IsSorted (o ∷ os) → IsSorted (p ∷ ps)
    → Among (p ∷ ps) o → Among (o ∷ os) p → o ≡ p
heads o p os ps s t (inl h) k = sym h
heads o p os ps s t (inr h) (inl k) = k
heads o p os ps s t (inr h) (inr k) =
    absurd (clash o p (all_among (ComesBefore o) os p s.0 k) (all_among (ComesBefore p) ps o t.0 h))

tails : (o p : Object) (os ps : List Object) → o ≡ p → IsSorted (o ∷ os) → Within (o ∷ os) (p ∷ ps)
    → Within os ps
tails o p os ps same s within q h = by (within q (inr h))
  where
    by : Among (p ∷ ps) q → Among ps q
    by (inr k) = k
    by (inl k) =
        let itself : ComesBefore o o = subst (λ x. ComesBefore o x) (sym k ∙ sym same)
        (all_among (ComesBefore o) os q s.0 h) in
        absurd (clash o o itself itself)

same_lists : (os ps : List Object) → IsSorted os → IsSorted ps → Within os ps
    → Within ps os → os ≡ ps
same_lists [] [] s t f g = refl
same_lists [] (p ∷ ps) s t f g = absurd (g p (inl refl))
same_lists (o ∷ os) [] s t f g = absurd (f o (inl refl))
same_lists (o ∷ os) (p ∷ ps) s t f g =
    let same : o ≡ p = heads o p os ps s t (f o (inl refl)) (g p (inl refl)) in
    ap₂ (λ x xs. x ∷ xs) same
    (same_lists os ps s.1 t.1 (tails o p os ps same s f) (tails p o ps os (sym same) t g))

pub one_catalog : (changes : List Change) (os ps : List Object) → IsCatalog changes os
    → IsCatalog changes ps → os ≡ ps
one_catalog changes os ps c d = same_lists os ps c.sorted d.sorted (from os ps c d) (from ps os d c)
  where
    from : (os ps : List Object) → IsCatalog changes os → IsCatalog changes ps → Within os ps
    from os ps c d q h = among_of ps q ((d.members q).1 ((c.members q).0 (contains_of os q h)))
