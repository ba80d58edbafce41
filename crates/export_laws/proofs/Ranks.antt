-- A reference leads to a kind that stands earlier in the order of export.
use Rattle.std.proofs.Common.{◌≡◌, ℕ, ◌<◌, ◌≤◌, Bool, true, false, ◌&&◌, cond, ◌⊎◌}
use Rattle.std.proofs.Common.{inl, inr, List, [], ◌∷◌, ◌++◌, refl, sym, ap, ◌∙◌}
use Rattle.std.proofs.Common.{subst, arith, bytes_eq}
use Rattle.std.specs.List.{AllByRecursion}
use Rattle.object_terms.specs.declared.Kind.{Kind}
use Rattle.object_terms.specs.declared.Kind.TheVariants as kinds
use Rattle.object_terms.specs.declared.Object.{Object}
use Rattle.object_terms.specs.declared.Body.{Body}
use Rattle.object_terms.specs.declared.Body.TheVariants as bodies
use Rattle.object_laws.specs.Kinds.{kind_of}
use Rattle.catalog_terms.specs.Keys.{is_kind, is_key, ComesBefore, IsSorted}
use Rattle.catalog_terms.specs.References.{references, references_to, references_in, names_in}
use Rattle.catalog_terms.specs.References.{data_sources, sources_of}
use Rattle.slo_catalog.proofs.KeyLemmas.{less_apart, kind_equality}
use Rattle.export_terms.specs.Moves.{export_kinds, of_kind, in_order}
use Rattle.export_terms.proofs.ZoneLemmas.{all_joined}
use Rattle.export_laws.proofs.Parts.{Among, all_among, all_of, in_filter}
use Rattle.export_laws.proofs.Parts.{filter_keeps}

-- where a kind stands in the order of export
abbrev pub rank : Kind → ℕ
rank kinds.DataSource = 0
rank kinds.Service = 1
rank kinds.Sli = 2
rank kinds.AlertNotificationTarget = 3
rank kinds.AlertCondition = 4
rank kinds.AlertPolicy = 5
rank kinds.Slo = 6

-- references to a kind that stands earlier
to_earlier : (o : Object) (kind : Kind) → rank kind < rank o.kind → (names : List (List ℕ))
    → AllByRecursion (λ r. rank r.kind < rank o.kind) (references_to o kind names)
to_earlier o kind h [] = tt
to_earlier o kind h (n ∷ ns) = (h, to_earlier o kind h ns)

-- each reference of an object whose body is of its kind leads to a kind that stands earlier
pub references_are_earlier : (o : Object) → kind_of o.body ≡ o.kind
    → AllByRecursion (λ r. rank r.kind < rank o.kind) (references o)
references_are_earlier o h = by o.body h
  where
    earlier : (n : ℕ) (kind : Kind) → kind ≡ o.kind → n < rank kind → n < rank o.kind
    earlier n kind e l = subst (λ k. n < rank k) e l

    by : (b : Body) → kind_of b ≡ o.kind
        → AllByRecursion (λ r. rank r.kind < rank o.kind) (references_in (references_to o) b)
    by (bodies.Sli sli) e = to_earlier o kinds.DataSource (earlier 0 kinds.Sli e (omega arith))
        (data_sources (sources_of sli.metric))
    by (bodies.Slo slo) e = all_joined (λ r. rank r.kind < rank o.kind)
        (references_to o kinds.Service (slo.service ∷ []))
        (references_to o kinds.Sli (slo.indicator ∷ [])
        ++ references_to o kinds.AlertPolicy (names_in slo.alert_policies))
        (to_earlier o kinds.Service (earlier 1 kinds.Slo e (omega arith)) (slo.service ∷ []))
        (all_joined (λ r. rank r.kind < rank o.kind)
        (references_to o kinds.Sli (slo.indicator ∷ []))
        (references_to o kinds.AlertPolicy (names_in slo.alert_policies))
        (to_earlier o kinds.Sli (earlier 2 kinds.Slo e (omega arith)) (slo.indicator ∷ []))
        (to_earlier o kinds.AlertPolicy (earlier 5 kinds.Slo e (omega arith))
        (names_in slo.alert_policies)))
    by (bodies.AlertPolicy policy) e = all_joined (λ r. rank r.kind < rank o.kind)
        (references_to o kinds.AlertCondition (names_in policy.conditions))
        (references_to o kinds.AlertNotificationTarget (names_in policy.notification_targets))
        (to_earlier o kinds.AlertCondition (earlier 4 kinds.AlertPolicy e (omega arith))
        (names_in policy.conditions))
        (to_earlier o kinds.AlertNotificationTarget (earlier 3 kinds.AlertPolicy e (omega arith))
        (names_in policy.notification_targets))
    by (bodies.DataSource source) e = tt
    by (bodies.Service service) e = tt
    by (bodies.AlertCondition condition) e = tt
    by (bodies.AlertNotificationTarget target) e = tt

pub same_kind : (k l : Kind) → is_kind k l ≡ true → k ≡ l
same_kind kinds.DataSource kinds.DataSource h = refl
same_kind kinds.Service kinds.Service h = refl
same_kind kinds.Sli kinds.Sli h = refl
same_kind kinds.Slo kinds.Slo h = refl
same_kind kinds.AlertPolicy kinds.AlertPolicy h = refl
same_kind kinds.AlertCondition kinds.AlertCondition h = refl
same_kind kinds.AlertNotificationTarget kinds.AlertNotificationTarget h = refl
same_kind _ _ h = cc h

-- a kind of a lower rank is another
pub other_kinds : (k l : Kind) → rank k < rank l → is_kind k l ≡ false
other_kinds k l h = by (is_kind k l) refl
  where
    by : (b : Bool) → is_kind k l ≡ b → b ≡ false
    by false e = refl
    by true e = absurd (omega (arith, h, ap rank (same_kind k l e)))

-- THE ORDER

-- the first stands ahead of the second, and is of another kind or name
pub record StandsAhead (o q : Object) : Type 0 where
  pub rank_is : rank o.kind ≤ rank q.kind
  pub apart : is_key q.kind q.name o ≡ false

-- each stands ahead of all behind it
abbrev pub InOrder : List Object → Type 0
InOrder [] = Unit {0}
InOrder (o ∷ os) = AllByRecursion (StandsAhead o) os × InOrder os

joined_order : (xs ys : List Object) → InOrder xs → InOrder ys
    → AllByRecursion (λ o. AllByRecursion (StandsAhead o) ys) xs → InOrder (xs ++ ys)
joined_order [] ys h k ahead = k
joined_order (x ∷ xs) ys h k ahead =
    (all_joined (StandsAhead x) xs ys h.0 ahead.0, joined_order xs ys h.1 k ahead.1)

-- no two of these kinds, and each of a lower rank than those behind it
abbrev KindsRise : List Kind → Type 0
KindsRise [] = Unit {0}
KindsRise (k ∷ ks) = AllByRecursion (λ l. rank k < rank l) ks × KindsRise ks

of_one_kind : (os : List Object) (kind : Kind) → IsSorted os → InOrder (of_kind os kind)
of_one_kind [] kind s = tt
of_one_kind (o ∷ os) kind s = by (is_kind o.kind kind) refl (of_one_kind os kind s.1)
  where
    ahead : o.kind ≡ kind → (q : Object) → Among (of_kind os kind) q → StandsAhead o q
    ahead e q h =
        let k = in_filter (λ (p : Object). is_kind p.kind kind) q os h in
        let same : q.kind ≡ kind = same_kind q.kind kind k.1 in
        record {
          rank_is = omega (arith, ap rank (e ∙ sym same));
          apart = less_apart o q (all_among (ComesBefore o) os q s.0 k.0);
        }

    by : (b : Bool) → is_kind o.kind kind ≡ b → InOrder (of_kind os kind)
        → InOrder (cond b (o ∷ of_kind os kind) (of_kind os kind))
    by true e more = (
      all_of (StandsAhead o) (of_kind os kind) (ahead (same_kind o.kind kind e)),
      more,
    )
    by false e more = more

pub either : {X : Type 0} (xs ys : List X) (q : X) → Among (xs ++ ys) q → Among xs q ⊎ Among ys q
either [] ys q h = inr h
either (x ∷ xs) ys q (inl same) = inl (inl same)
either (x ∷ xs) ys q (inr h) = into (either xs ys q h)
  where
    into : Among xs q ⊎ Among ys q → Among (x ∷ xs) q ⊎ Among ys q
    into (inl a) = inl (inr a)
    into (inr b) = inr b

-- what stands in the order is a member, of one of the kinds
among_order : (os : List Object) (ks : List Kind) (q : Object) → Among (in_order os ks) q
    → Among os q × Among ks q.kind
among_order os [] q h = absurd h
among_order os (k ∷ ks) q h =
    by (either (of_kind os k) (in_order os ks) q h) (λ b. among_order os ks q b)
  where
    by : Among (of_kind os k) q ⊎ Among (in_order os ks) q
        → (Among (in_order os ks) q → Among os q × Among ks q.kind)
        → Among os q × Among (k ∷ ks) q.kind
    by (inl a) again = let f = in_filter (λ (p : Object). is_kind p.kind k) q os a in
        (f.0, inl (sym (same_kind q.kind k f.1)))
    by (inr b) again = let m = again b in (m.0, inr m.1)

pub order_members : (os : List Object) (ks : List Kind) → AllByRecursion (Among os) (in_order os ks)
order_members os ks = all_of (Among os) (in_order os ks) (λ q h. (among_order os ks q h).0)

-- each member of one of the kinds stands in the order
into_order : (os : List Object) (ks : List Kind) (q : Object) → Among os q → Among ks q.kind
    → Among (in_order os ks) q
into_order os [] q h k = absurd k
into_order os (l ∷ ks) q h (inl same) = left (of_kind os l) (in_order os ks)
    (filter_keeps (λ (p : Object). is_kind p.kind l) q os h
    (subst (λ m. is_kind q.kind m ≡ true) (sym same) (kind_equality.refl q.kind)))
  where
    left : (xs ys : List Object) → Among xs q → Among (xs ++ ys) q
    left [] ys h = absurd h
    left (x ∷ xs) ys (inl e) = inl e
    left (x ∷ xs) ys (inr h) = inr (left xs ys h)
into_order os (l ∷ ks) q h (inr more) =
    right (of_kind os l) (in_order os ks) (into_order os ks q h more)
  where
    right : (xs ys : List Object) → Among ys q → Among (xs ++ ys) q
    right [] ys h = h
    right (x ∷ xs) ys h = inr (right xs ys h)

in_order_by : (os : List Object) (ks : List Kind) → IsSorted os → KindsRise ks
    → InOrder (in_order os ks)
in_order_by os [] s rise = tt
in_order_by os (k ∷ ks) s rise = joined_order (of_kind os k) (in_order os ks)
    (of_one_kind os k s) (in_order_by os ks s rise.1)
    (all_of (λ o. AllByRecursion (StandsAhead o) (in_order os ks)) (of_kind os k)
    (λ o h. all_of (StandsAhead o) (in_order os ks) (λ q g. ahead o q h g)))
  where
    ahead : (o q : Object) → Among (of_kind os k) o → Among (in_order os ks) q → StandsAhead o q
    ahead o q h g =
        let e = same_kind o.kind k (in_filter (λ (p : Object). is_kind p.kind k) o os h).1 in
        let less = all_among (λ l. rank k < rank l) ks q.kind rise.0 (among_order os ks q g).1 in
        let below : rank o.kind < rank q.kind = subst (λ m. rank m < rank q.kind) (sym e) less in
        record {
          rank_is = omega (arith, below);
          apart = ap (λ b. b && bytes_eq o.name q.name) (other_kinds o.kind q.kind below);
        }

kinds_rise : KindsRise export_kinds
kinds_rise = (
  (omega arith, (omega arith, (omega arith, (omega arith, (omega arith, (omega arith, tt)))))),
  (
    (omega arith, (omega arith, (omega arith, (omega arith, (omega arith, tt))))),
    (
      (omega arith, (omega arith, (omega arith, (omega arith, tt)))),
      (
        (omega arith, (omega arith, (omega arith, tt))),
        (
          (omega arith, (omega arith, tt)),
          (
            (omega arith, tt),
            (
              tt,
              tt,
            ),
          ),
        ),
      ),
    ),
  ),
)

each_kind : (k : Kind) → Among export_kinds k
each_kind kinds.DataSource = inl refl
each_kind kinds.Service = inr (inl refl)
each_kind kinds.Sli = inr (inr (inl refl))
each_kind kinds.AlertNotificationTarget = inr (inr (inr (inl refl)))
each_kind kinds.AlertCondition = inr (inr (inr (inr (inl refl))))
each_kind kinds.AlertPolicy = inr (inr (inr (inr (inr (inl refl)))))
each_kind kinds.Slo = inr (inr (inr (inr (inr (inr (inl refl))))))

pub order_is : (os : List Object) → IsSorted os → InOrder (in_order os export_kinds)
order_is os s = in_order_by os export_kinds s kinds_rise

pub order_has : (os : List Object) (q : Object) → Among os q → Among (in_order os export_kinds) q
order_has os q h = into_order os export_kinds q h (each_kind q.kind)
