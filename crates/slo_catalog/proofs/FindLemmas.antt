-- Looking for an object among those that were put in their places.
use Rattle.std.proofs.Common.{length, ◌≡◌, ℕ, Bool, true, false, ◌&&◌, cond, List, [], ◌∷◌, Option}
use Rattle.std.proofs.Common.{Some, None, IfSome, All, refl, sym, ap, ap₂, ◌∙◌, true≢false, subst}
use Rattle.std.proofs.Common.{Ordering, Less, Equal, Greater, is_eq, bytes_eq, Bor}
use Rattle.std.specs.Ordering.{match_ordering}
use Rattle.std.specs.Prelude.{◌+◌, unwrap_or}
use Rattle.std.proofs.lemmas.List.Elements.{recursion_from_All}
use Rattle.std.specs.List.{AllByRecursion}
use Rattle.std.specs.Option.{option_copied}
use Rattle.slo_catalog.proofs.KeyLemmas.{key_parts, same_key, equal_same}
use Rattle.object_terms.specs.declared.kind.Kind.{Kind}
use Rattle.object_terms.specs.declared.object.Object.{Object}
use Rattle.catalog_terms.specs.Keys.{is_kind, is_key, object_cmp, member_of}
use Rattle.catalog_terms.specs.Catalog.{with_member}
use Rattle.std.proofs.lemmas.Slice.Eq.{bytes_eq-Decides}
use Rattle.yaml_terms.specs.Spelling.{writing}
use Rattle.object_terms.specs.Document.{written}
use Rattle.catalog_terms.specs.Limits.{weight}
use Rattle.slo_limits.specs.declared.TheConstants.{MAX_CATALOG_BYTES}
use Rattle.yaml_terms.specs.Room.{up_to}
use Rattle.catalog_terms.specs.Define.{is_same}

-- objects of one kind and name answer each question about kind and name alike
alike : (o p : Object) (kind : Kind) (name : List ℕ) → object_cmp o p ≡ Equal
    → is_key kind name o ≡ is_key kind name p
alike o p kind name e = let parts = key_parts p.kind p.name o (equal_same o p e) in
    ap₂ (λ k n. is_kind k kind && bytes_eq n name) parts.0 parts.1

swap : {A : Type 0} (a b : Bool) (x y z : A) → (a ≡ true → b ≡ true → x ≡ y)
    → cond b y (cond a x z) ≡ cond a x (cond b y z)
swap true true x y z h = sym (h refl refl)
swap true false x y z h = refl
swap false true x y z h = refl
swap false false x y z h = refl

once : {A : Type 0} (a b : Bool) (x y z : A) → a ≡ b → cond a x z ≡ cond a x (cond b y z)
once true b x y z h = refl
once false b x y z h = ap (λ c. cond c y z) h

-- objects of one kind and name are of each other's
pub both_keys : (o p : Object) (kind : Kind) (name : List ℕ) → is_key kind name o ≡ true
    → is_key kind name p ≡ true → is_eq (object_cmp o p) ≡ true
both_keys o p kind name h k = let parts = key_parts kind name p k in
    sym (same_key o p) ∙ ap₂ (λ l n. is_key l n o) parts.0 parts.1 ∙ h

-- the object that was put is found under its own kind and name, and the others as before
pub find_put : (o : Object) (os : List Object) (kind : Kind) (name : List ℕ)
    → member_of (with_member o os) kind name
    ≡ cond (is_key kind name o) (Some o) (member_of os kind name)
find_put o [] kind name = refl
find_put o (p ∷ ps) kind name = by (object_cmp o p) refl (find_put o ps kind name)
  where
    by : (r : Ordering) → object_cmp o p ≡ r
        → member_of (with_member o ps) kind name
        ≡ cond (is_key kind name o) (Some o) (member_of ps kind name)
        → member_of (match_ordering r (o ∷ p ∷ ps) (o ∷ ps) (p ∷ with_member o ps)) kind name
        ≡ cond (is_key kind name o) (Some o) (member_of (p ∷ ps) kind name)
    by Less e again = refl
    by Equal e again = once (is_key kind name o) (is_key kind name p) (Some o) (Some p)
        (member_of ps kind name) (alike o p kind name e)
    by Greater e again =
        ap (λ r. cond (is_key kind name p) (Some p) r) again
        ∙ swap (is_key kind name o) (is_key kind name p) (Some o) (Some p) (member_of ps kind name)
        (λ h k. absurd (true≢false (sym (both_keys o p kind name h k) ∙ ap is_eq e)))

find_true_by : (P : Object → Type 0) (os : List Object) (kind : Kind) (name : List ℕ)
    → AllByRecursion P os → IfSome (member_of os kind name) P
find_true_by P [] kind name h = tt
find_true_by P (o ∷ os) kind name h = by (is_key kind name o) (find_true_by P os kind name h.1)
  where
    by : (b : Bool) → IfSome (member_of os kind name) P
        → IfSome (cond b (Some o) (member_of os kind name)) P
    by true more = h.0
    by false more = more

-- what is true of all of them is true of the one that is found
pub find_true : (P : Object → Type 0) (os : List Object) (kind : Kind) (name : List ℕ) → All P os
    → IfSome (member_of os kind name) P
find_true P os kind name h = find_true_by P os kind name (recursion_from_All P os h)

seen : (P : Object → Type 0) (r : Option (Bor Object)) → IfSome (option_copied r) P
    → IfSome r (λ o. P o.now)
seen P None h = tt
seen P (Some o) h = h

-- and so of the reference to it
pub find_seen : (P : Object → Type 0) (os : List Object) (kind : Kind)
    (name : List ℕ) (r : Option (Bor Object)) → option_copied r ≡ member_of os kind name → All P os
    → IfSome r (λ o. P o.now)
find_seen P os kind name r h all =
    seen P r (subst (λ o. IfSome o P) (sym h) (find_true P os kind name all))

apart : (xs ys : List ℕ) → (length xs ≡ length ys → ⊥) → bytes_eq xs ys ≡ false
apart xs ys h = by (bytes_eq xs ys) refl
  where
    by : (b : Bool) → bytes_eq xs ys ≡ b → b ≡ false
    by false e = refl
    by true e = absurd (h (ap length ((bytes_eq-Decides xs ys).0 e)))

-- objects that weigh otherwise are written differently
pub other_weight : (o p : Object) → (weight o ≡ weight p → ⊥) → is_same o p ≡ false
other_weight o p h = apart (writing 0 (written o)) (writing 0 (written p))
    (λ e. h (ap (λ n. unwrap_or (up_to MAX_CATALOG_BYTES n) (MAX_CATALOG_BYTES + 1)) e))
