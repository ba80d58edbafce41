-- What a definition and a removal keep of a catalog's members.
use Rattle.std.proofs.Common.{◌≡◌, ℕ, Bool, true, false, not, ◌&&◌, ◌||◌, cond, List, [], ◌∷◌}
use Rattle.std.proofs.Common.{refl, sym, ap, ap₂, ◌∙◌, subst, true≢false, Option, Some, None}
use Rattle.std.proofs.Common.{Result}
use Rattle.std.proofs.Common.{Ok, Err, find, is_some, bytes_eq, Ordering, Less, Equal, Greater}
use Rattle.std.specs.List.{AllByRecursion, list_any}
use Rattle.std.specs.Option.{option_or}
use Rattle.std.specs.Ordering.{match_ordering}
use Rattle.object_terms.specs.declared.Kind.{Kind}
use Rattle.object_terms.specs.declared.Object.{Object}
use Rattle.catalog_terms.specs.declared.CatalogFault.{CatalogFault}
use Rattle.catalog_terms.specs.Keys.{is_kind, is_key, member_of, object_cmp, ComesBefore, IsSorted}
use Rattle.catalog_terms.specs.Catalog.{with_member, with_members, without}
use Rattle.catalog_terms.specs.References.{references, is_resolved, is_built_in_policy, is_to}
use Rattle.catalog_terms.specs.References.{refers_to, first_referrer, first_unresolved}
use Rattle.catalog_terms.specs.References.{unresolved_of}
use Rattle.catalog_terms.specs.References.{first_given, IsLegal, IsResolvedIn}
use Rattle.catalog_terms.specs.Remove.{remaining_members, unless_used, where_found}
use Rattle.catalog_terms.specs.NeedsOp.{first_needing_op}
use Rattle.catalog_terms.specs.Limits.{first_limit}
use Rattle.slo_catalog.specs.Whole.{IsJoined, CatalogIsWhole}
use Rattle.slo_catalog.proofs.KeyLemmas.{object_order, after, key_parts}
use Rattle.slo_catalog.proofs.FindLemmas.{find_put}
use Rattle.slo_catalog.proofs.WholeLemmas.{kept_apart, ops_of_none, ops_without, limits_without}
use Rattle.record_form.specs.declared.Refusal.{Refusal}
use Rattle.record_form.specs.declared.Refusal.TheVariants as refusals
use Rattle.office_history.specs.Readings.{first_read_anew}
use Rattle.office_history.specs.Starts.{one_begins_too_often, begins_too_often}
use Rattle.office_history.specs.Definitions.{Known, unless, unless_many_starts, limit_name}
use Rattle.office_history.specs.Definitions.{within_limits, judged_by, has_samples, defined_over}
use Rattle.office_history.specs.KnownZones.{first_unknown_zone}
use Rattle.catalog_terms.specs.Define as catalog
use Rattle.export_laws.proofs.Parts.{all_weaker, filter_all}
use Rattle.export_laws.proofs.Objects.{all_with}

-- WHAT IS PUT

pub all_put : (P : Object → Type 0) (o : Object) (os : List Object) → P o → AllByRecursion P os
    → AllByRecursion P (with_member o os)
all_put P o [] h k = (h, tt)
all_put P o (p ∷ ps) h k = by (object_cmp o p) (all_put P o ps h k.1)
  where
    by : (r : Ordering) → AllByRecursion P (with_member o ps)
        → AllByRecursion P (match_ordering r (o ∷ p ∷ ps) (o ∷ ps) (p ∷ with_member o ps))
    by Less more = (h, k)
    by Equal more = (h, k.1)
    by Greater more = (k.0, more)

pub all_put_all : (P : Object → Type 0) (objects os : List Object) → AllByRecursion P objects
    → AllByRecursion P os → AllByRecursion P (with_members objects os)
all_put_all P [] os h k = k
all_put_all P (o ∷ rest) os h k = all_put_all P rest (with_member o os) h.1 (all_put P o os h.0 k)

put_sorted : (o : Object) (os : List Object) → IsSorted os → IsSorted (with_member o os)
put_sorted o [] s = (tt, tt)
put_sorted o (p ∷ ps) s = by (object_cmp o p) refl (put_sorted o ps s.1)
  where
    by : (r : Ordering) → object_cmp o p ≡ r → IsSorted (with_member o ps)
        → IsSorted (match_ordering r (o ∷ p ∷ ps) (o ∷ ps) (p ∷ with_member o ps))
    by Less e more = (
      (
        e,
        all_weaker (ComesBefore p) (ComesBefore o)
            (λ q h. object_order.trans o p q e h) ps s.0,
      ),
      s,
    )
    by Equal e more = (
      all_weaker (ComesBefore p) (ComesBefore o) (λ q h. object_order.congr o p q e ∙ h) ps s.0,
      s.1,
    )
    by Greater e more = (all_put (ComesBefore p) o ps (after o p e) s.0, more)

pub put_all_sorted : (objects os : List Object) → IsSorted os → IsSorted (with_members objects os)
put_all_sorted [] os s = s
put_all_sorted (o ∷ rest) os s = put_all_sorted rest (with_member o os) (put_sorted o os s)

-- what is found is found still
found_put : (o : Object) (os : List Object) (kind : Kind) (name : List ℕ)
    → is_some (member_of os kind name) ≡ true
    → is_some (member_of (with_member o os) kind name) ≡ true
found_put o os kind name h =
    ap is_some (find_put o os kind name) ∙ by (is_key kind name o)
  where
    by : (b : Bool) → is_some (cond b (Some o) (member_of os kind name)) ≡ true
    by true = refl
    by false = h

found_put_all : (objects os : List Object) (kind : Kind) (name : List ℕ)
    → is_some (member_of os kind name) ≡ true
    → is_some (member_of (with_members objects os) kind name) ≡ true
found_put_all [] os kind name h = h
found_put_all (o ∷ rest) os kind name h =
    found_put_all rest (with_member o os) kind name (found_put o os kind name h)

or_true : (a b c : Bool) → (a ≡ true → c ≡ true) → (a || b) ≡ true → (c || b) ≡ true
or_true true b c f h = ap (λ d. d || b) (f refl)
or_true false true true f h = refl
or_true false true false f h = refl
or_true false false c f h = absurd (true≢false (sym h))

-- NOTHING WAS FOUND

pub or_none : {X : Type 0} (a b : Option X) → option_or a b ≡ None → (a ≡ None) × (b ≡ None)
or_none None b h = (refl, h)
or_none (Some x) b h = cc h

each_none : {X : Type 0} (test : X → Bool) (xs : List X) → find test xs ≡ None
    → AllByRecursion (λ x. test x ≡ false) xs
each_none test [] h = tt
each_none test (x ∷ xs) h = by (test x) refl h (each_none test xs)
  where
    by : (b : Bool) → test x ≡ b → cond b (Some x) (find test xs) ≡ None
        → (find test xs ≡ None → AllByRecursion (λ y. test y ≡ false) xs)
        → AllByRecursion (λ y. test y ≡ false) (x ∷ xs)
    by true e h again = cc h
    by false e h again = (e, again h)

none_of_any : {X : Type 0} (test : X → Bool) (xs : List X) → list_any test xs ≡ false
    → AllByRecursion (λ x. test x ≡ false) xs
none_of_any test [] h = tt
none_of_any test (x ∷ xs) h = by (test x) refl h (none_of_any test xs)
  where
    by : (b : Bool) → test x ≡ b → (b || list_any test xs) ≡ false
        → (list_any test xs ≡ false → AllByRecursion (λ y. test y ≡ false) xs)
        → AllByRecursion (λ y. test y ≡ false) (x ∷ xs)
    by true e h again = cc h
    by false e h again = (e, again h)

each_given : {A B : Type 0} (f : A → Option B) (xs : List A) → first_given f xs ≡ None
    → AllByRecursion (λ x. f x ≡ None) xs
each_given f [] h = tt
each_given f (x ∷ xs) h = let n = or_none (f x) (first_given f xs) h in
    (n.0, each_given f xs n.1)

not_true : (b : Bool) → not b ≡ false → b ≡ true
not_true true h = refl
not_true false h = sym h

-- LEGAL MEMBERS

-- objects whose references are resolved, put into a legal catalog
pub legal_put : (objects os : List Object) → IsLegal os
    → first_unresolved (with_members objects os) objects ≡ None → IsLegal (with_members objects os)
legal_put objects os legal h =
    let new = with_members objects os in
    all_put_all (IsResolvedIn new) objects os
    (all_weaker (λ o. unresolved_of new o ≡ None) (IsResolvedIn new)
    (λ o n. all_weaker (λ r. not (is_resolved new r) ≡ false) (λ r. is_resolved new r ≡ true)
    (λ r e. not_true (is_resolved new r) e) (references o)
    (each_none (λ r. not (is_resolved new r)) (references o) n))
    objects (each_given (unresolved_of new) objects h))
    (all_weaker (IsResolvedIn os) (IsResolvedIn new)
    (λ o k. all_weaker (λ r. is_resolved os r ≡ true) (λ r. is_resolved new r ≡ true)
    (λ r e. or_true (is_some (member_of os r.kind r.name)) (is_built_in_policy r)
    (is_some (member_of new r.kind r.name)) (found_put_all objects os r.kind r.name) e)
    (references o) k) os legal)

-- a legal catalog without an object to which none refers
pub legal_without : (kind : Kind) (name : List ℕ) (os : List Object) → IsLegal os
    → first_referrer os kind name ≡ None → IsLegal (without kind name os)
legal_without kind name os legal h =
    let left = without kind name os in
    filter_all (λ o. not (is_key kind name o)) (IsResolvedIn left) os
    (all_with (IsResolvedIn os) (λ o. refers_to kind name o ≡ false) (IsResolvedIn left)
    (λ o k n. all_with (λ r. is_resolved os r ≡ true) (λ r. is_to kind name r ≡ false)
    (λ r. is_resolved left r ≡ true)
    (λ r e other. ap (λ f. is_some f || is_built_in_policy r)
    (kept_apart os kind name r.kind r.name (λ p at. apart p r.kind r.name at other
    (is_key r.kind r.name p) refl)) ∙ e)
    (references o) k (none_of_any (is_to kind name) (references o) n))
    os legal (each_none (refers_to kind name) os h))
  where
    apart : (p : Object) (k : Kind) (n : List ℕ) → is_key kind name p ≡ true
        → is_kind k kind && bytes_eq n name ≡ false → (b : Bool) → is_key k n p ≡ b → b ≡ false
    apart p k n at other false e = refl
    apart p k n at other true e = let parts = key_parts k n p e in
        absurd (true≢false (sym at ∙ ap₂ (λ l m. is_kind l kind && bytes_eq m name) parts.0 parts.1
        ∙ other))

-- WHAT IS DEFINED

-- what is known of objects that are defined
pub record AreDefined (known : Known) (objects members : List Object) : Type 0 where
  pub members_are : members ≡ with_members objects known.members
  pub unreserved : AllByRecursion (λ o. catalog.is_reserved o ≡ false) objects
  pub resolved : first_unresolved (with_members objects known.members) objects ≡ None
  pub ops : first_needing_op (with_members objects known.members) objects ≡ None
  pub zones : first_unknown_zone known.zones objects ≡ None
  pub within : first_limit members ≡ None
  pub starts : AllByRecursion (λ o. begins_too_often known.horizon o ≡ false) members

nothing_found : {A : Type 0} (refusal : A → Refusal)
    (found : Option A) (rest : Result (List Object) Refusal) (members : List Object) →
    unless refusal found rest ≡ Ok members →
    (found ≡ None) × (rest ≡ Ok members)
nothing_found refusal None rest members e = (refl, e)
nothing_found refusal (Some x) rest members e = cc e

no_fault : {A : Type 0} (fault : A → CatalogFault)
    (found : Option A) (rest : Result (List Object) CatalogFault) (members : List Object)
    → catalog.unless fault found rest ≡ Ok members → (found ≡ None) × (rest ≡ Ok members)
no_fault fault None rest members e = (refl, e)
no_fault fault (Some x) rest members e = cc e

few_starts : (b : Bool) (rest : Result (List Object) Refusal) (members : List Object)
    → unless_many_starts b rest ≡ Ok members → (b ≡ false) × (rest ≡ Ok members)
few_starts true rest members e = cc e
few_starts false rest members e = (refl, e)

pub defined_objects : (known : Known) (objects members : List Object)
    → defined_over known objects ≡ Ok members → AreDefined known objects members
defined_objects known objects members e = by (catalog.proposed_members known.members objects) refl e
  where
    by : (r : Result (List Object) CatalogFault)
        → catalog.proposed_members known.members objects ≡ r
        → judged_by known objects r ≡ Ok members → AreDefined known objects members
    by (Err fault) f g = cc g
    by (Ok new) f g =
        let whole : List Object = with_members objects known.members in
        let a = no_fault catalog.reserved_fault (catalog.first_reserved objects)
        (catalog.unless catalog.duplicate_fault (catalog.first_duplicate objects)
        (catalog.joined_members whole objects)) new f in
        let b = no_fault catalog.duplicate_fault (catalog.first_duplicate objects)
        (catalog.joined_members whole objects) new a.1 in
        let c = no_fault catalog.unresolved_fault (first_unresolved whole objects)
        (catalog.unless catalog.needs_op_fault (first_needing_op whole objects) (Ok whole)) new b.1
        in
        let d = no_fault catalog.needs_op_fault (first_needing_op whole objects) (Ok whole) new c.1
        in
        let rest = unless has_samples (first_read_anew known.members known.rows objects)
        (within_limits known.horizon new) in
        let zones = nothing_found refusals.UnknownZone (first_unknown_zone known.zones objects)
        rest members g in
        let samples = nothing_found has_samples (first_read_anew known.members known.rows objects)
        (within_limits known.horizon new) members zones.1 in
        let limits = nothing_found (λ limit. refusals.Limit (limit_name limit))
        (first_limit new) (unless_many_starts (one_begins_too_often known.horizon new) (Ok new))
        members samples.1 in
        let seldom = few_starts (one_begins_too_often known.horizon new) (Ok new) members limits.1
        in
        let same : new ≡ members = cc seldom.1 in
        let put : whole ≡ new = cc d.1 in
        record {
          members_are = sym same ∙ sym put;
          unreserved = each_none catalog.is_reserved objects a.0;
          resolved = c.0;
          ops = d.0;
          zones = zones.0;
          within = subst (λ ms. first_limit ms ≡ None) same limits.0;
          starts = subst (AllByRecursion (λ o. begins_too_often known.horizon o ≡ false)) same
              (none_of_any (begins_too_often known.horizon) new seldom.0);
        }

-- so the members are whole
pub whole_defined : (known : Known) (objects members : List Object)
    → AreDefined known objects members → IsLegal known.members → CatalogIsWhole members
whole_defined known objects members d legal = record {
  joined = subst (λ ms. IsJoined ms) (sym d.members_are) (record {
    legal = legal_put objects known.members legal d.resolved;
    ops = ops_of_none (with_members objects known.members) objects d.ops;
  });
  within = d.within;
}

pub whole_without : (kind : Kind) (name : List ℕ) (os : List Object) → CatalogIsWhole os
    → first_referrer os kind name ≡ None → CatalogIsWhole (without kind name os)
whole_without kind name os w h = record {
  joined = record {
    legal = legal_without kind name os w.joined.legal h;
    ops = ops_without os kind name w.joined.ops;
  };
  within = limits_without os kind name w.within;
}

-- to what is removed none refers
pub none_refers : (os left : List Object) (kind : Kind) (name : List ℕ)
    → remaining_members os kind name ≡ Ok left → first_referrer os kind name ≡ None
none_refers os left kind name e = by (member_of os kind name) (first_referrer os kind name) refl e
  where
    by : (f u : Option Object) → first_referrer os kind name ≡ u
        → where_found f (unless_used u (without kind name os)) ≡ Ok left
        → first_referrer os kind name ≡ None
    by None u g h = cc h
    by (Some o) (Some user) g h = cc h
    by (Some o) None g h = g
