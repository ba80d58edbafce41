-- Members without some of them.
use Rattle.std.proofs.Common.{◌≡◌, ℕ, Bool, true, false, not, cond, ◌⊎◌}
use Rattle.std.proofs.Common.{inl, inr, List, [], ◌∷◌, filter, refl, sym, ap, ap₂, ◌∙◌, subst}
use Rattle.std.proofs.Common.{true≢false, is_eq, Greater, Some, None}
use Rattle.std.specs.List.{AllByRecursion}
use Rattle.std.specs.Ordering.{match_ordering}
use Rattle.object_terms.specs.declared.Kind.{Kind}
use Rattle.object_terms.specs.declared.Object.{Object}
use Rattle.catalog_terms.specs.Keys.{is_kind, is_key, object_cmp, member_of, ComesBefore, IsSorted}
use Rattle.catalog_terms.specs.Catalog.{with_member, without}
use Rattle.slo_catalog.specs.Whole.{HaveOps}
use Rattle.catalog_terms.specs.Limits.{first_limit}
use Rattle.slo_catalog.proofs.KeyLemmas.{less_apart, key_itself, before}
use Rattle.slo_catalog.proofs.KeyLemmas.{key_parts, same_key, kind_equality}
use Rattle.slo_catalog.proofs.WholeLemmas.{kept_apart, ops_without, limits_without}

-- x is an element of xs
abbrev pub Among : {X : Type 0} → List X → X → Type 0
Among [] x = ⊥
Among (y ∷ ys) x = (y ≡ x) ⊎ Among ys x

pub all_among : {X : Type 0} (P : X → Type 0) (xs : List X) (x : X) → AllByRecursion P xs
    → Among xs x → P x
all_among P [] x all h = absurd h
all_among P (y ∷ ys) x all (inl same) = subst P same all.0
all_among P (y ∷ ys) x all (inr h) = all_among P ys x all.1 h

pub all_of : {X : Type 0} (P : X → Type 0) (xs : List X) → ((x : X) → Among xs x → P x)
    → AllByRecursion P xs
all_of P [] f = tt
all_of P (x ∷ xs) f = (f x (inl refl), all_of P xs (λ y h. f y (inr h)))

pub all_weaker : {X : Type 0} (P Q : X → Type 0) → ((x : X) → P x → Q x) → (xs : List X)
    → AllByRecursion P xs → AllByRecursion Q xs
all_weaker P Q f [] h = tt
all_weaker P Q f (x ∷ xs) h = (f x h.0, all_weaker P Q f xs h.1)

-- what is kept of a list
module _ {X : Type 0} (test : X → Bool) where
  pub filter_all : (P : X → Type 0) (os : List X) → AllByRecursion P os
      → AllByRecursion P (filter test os)
  filter_all P [] h = tt
  filter_all P (o ∷ os) h = by (test o) (filter_all P os h.1)
    where
      by : (b : Bool) → AllByRecursion P (filter test os)
          → AllByRecursion P (cond b (o ∷ filter test os) (filter test os))
      by true more = (h.0, more)
      by false more = more

  pub in_filter : (q : X) (os : List X) → Among (filter test os) q
      → Among os q × (test q ≡ true)
  in_filter q [] h = absurd h
  in_filter q (o ∷ os) h = by (test o) refl (in_filter q os) h
    where
      by : (b : Bool) → test o ≡ b → (Among (filter test os) q → Among os q × (test q ≡ true))
          → Among (cond b (o ∷ filter test os) (filter test os)) q
          → Among (o ∷ os) q × (test q ≡ true)
      by true e again (inl same) = (inl same, subst (λ x. test x ≡ true) same e)
      by true e again (inr k) = let a = again k in (inr a.0, a.1)
      by false e again k = let a = again k in (inr a.0, a.1)

  pub filter_keeps : (q : X) (os : List X) → Among os q → test q ≡ true
      → Among (filter test os) q
  filter_keeps q [] h t = absurd h
  filter_keeps q (o ∷ os) h t = by (test o) refl (filter_keeps q os) h
    where
      by : (b : Bool) → test o ≡ b → (Among os q → test q ≡ true → Among (filter test os) q)
          → Among (o ∷ os) q → Among (cond b (o ∷ filter test os) (filter test os)) q
      by true e again (inl same) = inl same
      by true e again (inr k) = inr (again k t)
      by false e again (inl same) = absurd (true≢false (sym t ∙ (sym (ap test same) ∙ e)))
      by false e again (inr k) = again k t

pub filter_sorted : (test : Object → Bool) (os : List Object) → IsSorted os
    → IsSorted (filter test os)
filter_sorted test [] s = tt
filter_sorted test (o ∷ os) s = by (test o) (filter_sorted test os s.1)
  where
    by : (b : Bool) → IsSorted (filter test os)
        → IsSorted (cond b (o ∷ filter test os) (filter test os))
    by true more = (filter_all test (ComesBefore o) os s.0, more)
    by false more = more

-- ONE OBJECT OUT AND IN AGAIN

-- where all others come behind an object, taking it out leaves them
none_out : (o : Object) (os : List Object) → AllByRecursion (ComesBefore o) os
    → without o.kind o.name os ≡ os
none_out o [] h = refl
none_out o (p ∷ ps) h = by (is_key o.kind o.name p) (same_key p o ∙ ap is_eq (before p o h.0))
    (none_out o ps h.1)
  where
    by : (b : Bool) → b ≡ false → without o.kind o.name ps ≡ ps
        → cond (not b) (p ∷ without o.kind o.name ps) (without o.kind o.name ps) ≡ p ∷ ps
    by true e again = cc e
    by false e again = ap (λ qs. p ∷ qs) again

-- an object goes in front of others that come behind it
in_front : (o : Object) (os : List Object) → AllByRecursion (ComesBefore o) os
    → with_member o os ≡ o ∷ os
in_front o [] h = refl
in_front o (p ∷ ps) h = ap (λ r. match_ordering r (o ∷ p ∷ ps) (o ∷ ps) (p ∷ with_member o ps)) h.0

-- a member that is taken out and put again leaves all as it was
pub out_and_in : (o : Object) (os : List Object) → IsSorted os → Among os o
    → with_member o (without o.kind o.name os) ≡ os
out_and_in o [] s h = absurd h
out_and_in o (p ∷ ps) s (inl same) =
    subst (λ (q : Object). with_member q (without q.kind q.name (p ∷ ps)) ≡ p ∷ ps) same
    (ap (λ b. with_member p (cond (not b) (p ∷ without p.kind p.name ps)
    (without p.kind p.name ps))) (key_itself p)
    ∙ ap (with_member p) (none_out p ps s.0) ∙ in_front p ps s.0)
out_and_in o (p ∷ ps) s (inr h) =
    let after : object_cmp o p ≡ Greater = before o p (all_among (ComesBefore p) ps o s.0 h) in
    ap (λ b. with_member o (cond (not b) (p ∷ without o.kind o.name ps)
    (without o.kind o.name ps)))
    (less_apart p o (all_among (ComesBefore p) ps o s.0 h))
    ∙ ap (λ r. match_ordering r (o ∷ p ∷ without o.kind o.name ps) (o ∷ without o.kind o.name ps)
    (p ∷ with_member o (without o.kind o.name ps))) after
    ∙ ap (λ qs. p ∷ qs) (out_and_in o ps s.1 h)

-- it isn't found when it is out
pub none_of_key : (os : List Object) (kind : Kind) (name : List ℕ)
    → member_of (without kind name os) kind name ≡ None
none_of_key [] kind name = refl
none_of_key (o ∷ os) kind name = by (is_key kind name o) refl (none_of_key os kind name)
  where
    by : (b : Bool) → is_key kind name o ≡ b → member_of (without kind name os) kind name ≡ None
        → member_of (cond (not b) (o ∷ without kind name os) (without kind name os)) kind name
        ≡ None
    by true e again = again
    by false e again = ap (λ c. cond c (Some o) (member_of (without kind name os) kind name)) e
        ∙ again

-- MANY OUT

-- the members but for these
abbrev pub but : List Object → List Object → List Object
but [] os = os
but (x ∷ xs) os = without x.kind x.name (but xs os)

pub but_sorted : (xs os : List Object) → IsSorted os → IsSorted (but xs os)
but_sorted [] os s = s
but_sorted (x ∷ xs) os s =
    filter_sorted (λ o. not (is_key x.kind x.name o)) (but xs os) (but_sorted xs os s)

pub but_all : (P : Object → Type 0) (xs os : List Object) → AllByRecursion P os
    → AllByRecursion P (but xs os)
but_all P [] os h = h
but_all P (x ∷ xs) os h =
    filter_all (λ o. not (is_key x.kind x.name o)) P (but xs os) (but_all P xs os h)

pub but_limits : (xs os : List Object) → first_limit os ≡ None → first_limit (but xs os) ≡ None
but_limits [] os h = h
but_limits (x ∷ xs) os h = limits_without (but xs os) x.kind x.name (but_limits xs os h)

pub but_ops : (xs os : List Object) → HaveOps os → HaveOps (but xs os)
but_ops [] os h = h
but_ops (x ∷ xs) os h = ops_without (but xs os) x.kind x.name (but_ops xs os h)

pub in_but : (q : Object) (xs os : List Object) → Among os q
    → AllByRecursion (λ x. is_key x.kind x.name q ≡ false) xs → Among (but xs os) q
in_but q [] os h apart = h
in_but q (x ∷ xs) os h apart = filter_keeps (λ o. not (is_key x.kind x.name o)) q (but xs os)
    (in_but q xs os h apart.1) (ap not apart.0)

none_but : (q : Object) (xs os : List Object) → Among (but xs os) q → Among os q
    × AllByRecursion (λ x. is_key x.kind x.name q ≡ false) xs
none_but q [] os h = (h, tt)
none_but q (x ∷ xs) os h =
    let k = in_filter (λ o. not (is_key x.kind x.name o)) q (but xs os) h in
    let more = none_but q xs os k.0 in
    (more.0, (by (is_key x.kind x.name q) k.1, more.1))
  where
    by : (b : Bool) → not b ≡ true → b ≡ false
    by true e = sym e
    by false e = refl

no_elements : {X : Type 0} (xs : List X) → ((x : X) → Among xs x → ⊥) → xs ≡ []
no_elements [] h = refl
no_elements (x ∷ xs) h = absurd (h x (inl refl))

-- where each of the members is among these, none is left
pub all_out : (xs os : List Object) → ((q : Object) → Among os q → Among xs q) → but xs os ≡ []
all_out xs os h = no_elements (but xs os) (λ q k.
    let n = none_but q xs os k in
    true≢false (sym (key_itself q)
    ∙ all_among (λ x. is_key x.kind x.name q ≡ false) xs q n.1 (h q n.0)))

-- of a kind of which none is out, each is found as before
pub found_but : (kind : Kind) (name : List ℕ) (xs os : List Object)
    → AllByRecursion (λ x. is_kind kind x.kind ≡ false) xs
    → member_of (but xs os) kind name ≡ member_of os kind name
found_but kind name [] os h = refl
found_but kind name (x ∷ xs) os h =
    kept_apart (but xs os) x.kind x.name kind name (λ o k. by o (is_key kind name o) refl k)
    ∙ found_but kind name xs os h.1
  where
    by : (o : Object) (b : Bool) → is_key kind name o ≡ b → is_key x.kind x.name o ≡ true
        → b ≡ false
    by o false e k = refl
    by o true e k = absurd (true≢false (sym (ap₂ is_kind (sym (key_parts kind name o e).0
        ∙ (key_parts x.kind x.name o k).0) refl ∙ kind_equality.refl x.kind) ∙ h.0))
