-- What keeps references resolved.
use Rattle.std.proofs.Common.{◌≡◌, ℕ, Bool, true, false, not, ◌&&◌, ◌||◌, cond, is_some, ◌⊎◌, inl}
use Rattle.std.proofs.Common.{inr, List, [], ◌∷◌, Option, Some, None, refl, sym, ap, ap₂, ◌∙◌}
use Rattle.std.proofs.Common.{true≢false, bytes_eq, find}
use Rattle.std.specs.List.{AllByRecursion, list_any}
use Rattle.std.specs.Option.{option_or}
use Rattle.object_terms.specs.declared.kind.Kind.{Kind}
use Rattle.object_terms.specs.declared.object.Object.{Object}
use Rattle.catalog_terms.specs.declared.reference.Reference.{Reference}
use Rattle.catalog_terms.specs.Keys.{is_kind, is_key, member_of, IsSorted}
use Rattle.catalog_terms.specs.Catalog.{with_member, with_members, without}
use Rattle.catalog_terms.specs.References.{references, is_built_in_policy, is_resolved}
use Rattle.catalog_terms.specs.References.{unresolved_of, first_unresolved, is_to, refers_to}
use Rattle.catalog_terms.specs.References.{first_referrer, IsResolvedIn, IsLegal}
use Rattle.slo_catalog.proofs.KeyLemmas.{key_parts, key_itself}
use Rattle.slo_catalog.proofs.AmongLemmas.{Among, all_weaker, all_among}
use Rattle.slo_catalog.proofs.PutLemmas.{put_sorted, in_put, put_there, put_keeps, in_without}
use Rattle.slo_catalog.proofs.PutLemmas.{without_keeps}

-- tests
either : (b : Bool) → (b ≡ true) ⊎ (b ≡ false)
either true = inl refl
either false = inr refl

-- objects of one kind and name have the same keys
same_keys : (kind : Kind) (name : List ℕ) (o p : Object) → is_key kind name o ≡ true
    → is_key o.kind o.name p ≡ true → is_key kind name p ≡ true
same_keys kind name o p h k =
    let parts = key_parts kind name o h in
    ap₂ (λ l n. is_key l n p) (sym parts.0) (sym parts.1) ∙ k

-- an object of that kind and name stands among them
abbrev IsThere : List Object → Kind → List ℕ → Type 0
IsThere os kind name = (o : Object) × (Among os o × (is_key kind name o ≡ true))

pub there_found : (os : List Object) (kind : Kind) (name : List ℕ)
    → is_some (member_of os kind name) ≡ true → IsThere os kind name
there_found [] kind name h = absurd (true≢false (sym h))
there_found (o ∷ os) kind name h = by (is_key kind name o) refl (there_found os kind name) h
  where
    by : (b : Bool) → is_key kind name o ≡ b
        → (is_some (member_of os kind name) ≡ true → IsThere os kind name)
        → is_some (cond b (Some o) (member_of os kind name)) ≡ true → IsThere (o ∷ os) kind name
    by true e again h = (o, (inl refl, e))
    by false e again h = let t = again h in (t.0, (inr t.1.0, t.1.1))

found_there : (os : List Object) (kind : Kind) (name : List ℕ) (q : Object) → Among os q
    → is_key kind name q ≡ true → is_some (member_of os kind name) ≡ true
found_there [] kind name q h k = absurd h
found_there (o ∷ os) kind name q h k =
    by (is_key kind name o) refl (λ h. found_there os kind name q h k) h
  where
    by : (b : Bool) → is_key kind name o ≡ b
        → (Among os q → is_some (member_of os kind name) ≡ true)
        → Among (o ∷ os) q → is_some (cond b (Some o) (member_of os kind name)) ≡ true
    by true e again h = refl
    by false e again (inl same) = absurd (true≢false (sym (ap (is_key kind name) same ∙ k) ∙ e))
    by false e again (inr h) = again h

-- for each of the old objects there is a new one of its kind and name
abbrev Covers : List Object → List Object → Type 0
Covers old new = (o : Object) → Among old o → IsThere new o.kind o.name

put_covers : (o : Object) (os : List Object) → Covers os (with_member o os)
put_covers o os q h = by (either (is_key q.kind q.name o))
  where
    by : (is_key q.kind q.name o ≡ true) ⊎ (is_key q.kind q.name o ≡ false)
        → IsThere (with_member o os) q.kind q.name
    by (inl e) = (o, (put_there o os, e))
    by (inr e) = (q, (put_keeps o q os h e, key_itself q))

covers_both : (old between new : List Object) → Covers old between → Covers between new
    → Covers old new
covers_both old between new f g o h =
    let p = f o h in
    let q = g p.0 p.1.0 in
    (q.0, (q.1.0, same_keys o.kind o.name p.0 q.0 p.1.1 q.1.1))

put_all_covers : (objects os : List Object) → Covers os (with_members objects os)
put_all_covers [] os q h = (q, (h, key_itself q))
put_all_covers (o ∷ rest) os q h = covers_both os (with_member o os)
    (with_members rest (with_member o os))
    (put_covers o os) (put_all_covers rest (with_member o os)) q h

in_put_all : (objects os : List Object) (q : Object) → IsSorted os
    → Among (with_members objects os) q
    → Among objects q ⊎ Among os q
in_put_all [] os q s h = inr h
in_put_all (o ∷ rest) os q s h = by (in_put_all rest (with_member o os) q (put_sorted o os s) h)
  where
    earlier : (o ≡ q) ⊎ (Among os q × (is_key q.kind q.name o ≡ false))
        → Among (o ∷ rest) q ⊎ Among os q
    earlier (inl same) = inl (inl same)
    earlier (inr k) = inr k.0

    by : Among rest q ⊎ Among (with_member o os) q → Among (o ∷ rest) q ⊎ Among os q
    by (inl k) = inl (inr k)
    by (inr k) = earlier (in_put o q os s k)

-- a reference is resolved by a member or by a built-in policy
or_parts : (a b : Bool) → (a || b) ≡ true → (a ≡ true) ⊎ (b ≡ true)
or_parts true b h = inl refl
or_parts false b h = inr h

or_left : (a b : Bool) → a ≡ true → (a || b) ≡ true
or_left a b h = ap (λ a. a || b) h

or_right : (a b : Bool) → b ≡ true → (a || b) ≡ true
or_right true b h = refl
or_right false b h = h

resolved_still : (old new : List Object) → Covers old new → (r : Reference)
    → is_resolved old r ≡ true → is_resolved new r ≡ true
resolved_still old new covers r h = by (or_parts _ _ h)
  where
    by : (is_some (member_of old r.kind r.name) ≡ true) ⊎ (is_built_in_policy r ≡ true)
        → is_resolved new r ≡ true
    by (inr k) = or_right _ _ k
    by (inl k) =
        let o = there_found old r.kind r.name k in
        let p = covers o.0 o.1.0 in
        or_left _ _ (found_there new r.kind r.name p.0 p.1.0
        (same_keys r.kind r.name o.0 p.0 o.1.1 p.1.1))

-- where nothing is found, each is resolved
pub or_none : {X : Type 0} (a b : Option X) → option_or a b ≡ None → (a ≡ None) × (b ≡ None)
or_none None b h = (refl, h)
or_none (Some x) b h = absurd (true≢false (ap is_some h))

none_unresolved : (members : List Object) (rs : List Reference)
    → find (λ r. not (is_resolved members r)) rs ≡ None
    → AllByRecursion (λ r. is_resolved members r ≡ true) rs
none_unresolved members [] h = tt
none_unresolved members (r ∷ rs) h = by (is_resolved members r) refl (none_unresolved members rs) h
  where
    by : (b : Bool) → is_resolved members r ≡ b → (find (λ r. not (is_resolved members r)) rs ≡ None
        → AllByRecursion (λ r. is_resolved members r ≡ true) rs) →
        cond (not b) (Some r) (find (λ r. not (is_resolved members r)) rs) ≡ None →
        AllByRecursion (λ r. is_resolved members r ≡ true) (r ∷ rs)
    by true e again h = (e, again h)
    by false e again h = absurd (true≢false (ap is_some h))

pub all_resolved : (members os : List Object) → first_unresolved members os ≡ None
    → AllByRecursion (IsResolvedIn members) os
all_resolved members [] h = tt
all_resolved members (o ∷ os) h =
    let n = or_none (unresolved_of members o) (first_unresolved members os) h in
    (none_unresolved members (references o) n.0, all_resolved members os n.1)

all_of : {X : Type 0} (P : X → Type 0) (xs : List X) → ((x : X) → Among xs x → P x)
    → AllByRecursion P xs
all_of P [] f = tt
all_of P (x ∷ xs) f = (f x (inl refl), all_of P xs (λ y h. f y (inr h)))

all_with : {X : Type 0} (P Q R : X → Type 0) → ((x : X) → P x → Q x → R x) → (xs : List X)
    → AllByRecursion P xs → AllByRecursion Q xs → AllByRecursion R xs
all_with P Q R f [] h k = tt
all_with P Q R f (x ∷ xs) h k = (f x h.0 k.0, all_with P Q R f xs h.1 k.1)

-- Objects whose references are all resolved, put into a legal catalog, give a legal one.
pub legal_defined : (objects os : List Object) → IsSorted os → IsLegal os
    → first_unresolved (with_members objects os) objects ≡ None → IsLegal (with_members objects os)
legal_defined objects os s legal h = all_of (IsResolvedIn (with_members objects os))
    (with_members objects os)
    (λ q k. by q (in_put_all objects os q s k))
  where
    by : (q : Object) → Among objects q ⊎ Among os q → IsResolvedIn (with_members objects os) q
    by q (inl k) = all_among (IsResolvedIn (with_members objects os)) objects q
        (all_resolved (with_members objects os) objects h) k
    by q (inr k) =
        all_weaker (λ r. is_resolved os r ≡ true)
        (λ r. is_resolved (with_members objects os) r ≡ true)
        (resolved_still os (with_members objects os) (put_all_covers objects os)) (references q)
        (all_among (IsResolvedIn os) os q legal k)

-- where nobody refers to it
none_found : (test : Object → Bool) (os : List Object) → find test os ≡ None
    → AllByRecursion (λ o. test o ≡ false) os
none_found test [] h = tt
none_found test (o ∷ os) h = by (test o) refl (none_found test os) h
  where
    by : (b : Bool) → test o ≡ b → (find test os ≡ None → AllByRecursion (λ o. test o ≡ false) os)
        → cond b (Some o) (find test os) ≡ None → AllByRecursion (λ o. test o ≡ false) (o ∷ os)
    by true e again h = absurd (true≢false (ap is_some h))
    by false e again h = (e, again h)

none_passes : (test : Reference → Bool) (rs : List Reference) → list_any test rs ≡ false
    → AllByRecursion (λ r. test r ≡ false) rs
none_passes test [] h = tt
none_passes test (r ∷ rs) h = by (test r) refl (none_passes test rs) h
  where
    by : (b : Bool) → test r ≡ b
        → (list_any test rs ≡ false → AllByRecursion (λ r. test r ≡ false) rs)
        → (b || list_any test rs) ≡ false → AllByRecursion (λ r. test r ≡ false) (r ∷ rs)
    by true e again h = absurd (true≢false h)
    by false e again h = (e, again h)

resolved_without : (kind : Kind) (name : List ℕ) (os : List Object) (r : Reference)
    → is_resolved os r ≡ true → is_to kind name r ≡ false
    → is_resolved (without kind name os) r ≡ true
resolved_without kind name os r h apart = by (or_parts _ _ h)
  where
    other : (o : IsThere os r.kind r.name)
        → (is_key kind name o.0 ≡ true) ⊎ (is_key kind name o.0 ≡ false)
        → is_some (member_of (without kind name os) r.kind r.name) ≡ true
    other o (inl e) =
        let parts = key_parts r.kind r.name o.0 o.1.1 in
        absurd (true≢false (sym (ap₂ (λ l n. is_kind l kind && bytes_eq n name) (sym parts.0)
        (sym parts.1) ∙ e) ∙ apart))
    other o (inr e) = found_there (without kind name os) r.kind r.name o.0
        (without_keeps kind name o.0 os o.1.0 (ap not e)) o.1.1

    by : (is_some (member_of os r.kind r.name) ≡ true) ⊎ (is_built_in_policy r ≡ true)
        → is_resolved (without kind name os) r ≡ true
    by (inr k) = or_right _ _ k
    by (inl k) = let o = there_found os r.kind r.name k in
        or_left _ _ (other o (either (is_key kind name o.0)))

-- A legal catalog stays one without an object to which no member refers.
pub legal_removed : (kind : Kind) (name : List ℕ) (os : List Object) → IsLegal os
    → first_referrer os kind name ≡ None → IsLegal (without kind name os)
legal_removed kind name os legal h = all_of (IsResolvedIn (without kind name os))
    (without kind name os) (λ q k. by q (in_without kind name q os k).0)
  where
    by : (q : Object) → Among os q → IsResolvedIn (without kind name os) q
    by q k =
        all_with (λ r. is_resolved os r ≡ true) (λ r. is_to kind name r ≡ false)
        (λ r. is_resolved (without kind name os) r ≡ true)
        (resolved_without kind name os) (references q) (all_among (IsResolvedIn os) os q legal k)
        (none_passes (is_to kind name) (references q) (all_among
        (λ o. refers_to kind name o ≡ false) os q (none_found (refers_to kind name) os h) k))
