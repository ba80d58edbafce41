-- What one more change makes of a catalog.
use Rattle.std.proofs.Common.{◌≡◌, ℕ, Bool, true, false, not, ◌⊎◌, inl, inr, List, [], ◌∷◌, ◌++◌}
use Rattle.std.proofs.Common.{map, refl, sym, ap, subst, append_assoc, append-nil, true≢false}
use Rattle.std.specs.List.{AllByRecursion, Contains}
use Rattle.object_terms.specs.declared.kind.Kind.{Kind}
use Rattle.object_terms.specs.declared.object.Object.{Object}
use Rattle.catalog_terms.specs.Keys.{is_key}
use Rattle.catalog_terms.specs.Catalog.{Change, Defined, Removed, is_about, IsMember, IsCatalog}
use Rattle.catalog_terms.specs.Catalog.{with_member, with_members, without}
use Rattle.slo_catalog.proofs.AmongLemmas.{Among, among_of, contains_of}
use Rattle.slo_catalog.proofs.PutLemmas.{put_sorted, in_put, put_there, put_keeps, without_sorted}
use Rattle.slo_catalog.proofs.PutLemmas.{in_without, without_keeps}

abbrev NoneAbout : Object → List Change → Type 0
NoneAbout o es = AllByRecursion (λ e. is_about o.kind o.name e ≡ false) es

-- some change defines the object, and none behind it is about it
abbrev Lasts : Object → List Change → Type 0
Lasts o [] = ⊥
Lasts o (e ∷ es) = ((e ≡ Defined o) × NoneAbout o es) ⊎ Lasts o es

lasts_at : (o : Object) (before later : List Change) → NoneAbout o later
    → Lasts o (before ++ Defined o ∷ later)
lasts_at o [] later h = inl (refl, h)
lasts_at o (e ∷ before) later h = inr (lasts_at o before later h)

lasts_of : (o : Object) (es : List Change) → IsMember es o → Lasts o es
lasts_of o es m = subst (λ es. Lasts o es) (sym m.defined) (lasts_at o m.before m.later m.last)

lasting_member : (o : Object) (es : List Change) → Lasts o es → IsMember es o
lasting_member o [] h = absurd h
lasting_member o (e ∷ es) (inl h) = record {
  before = [];
  later = es;
  defined = ap (λ d. d ∷ es) h.0;
  last = h.1;
}
lasting_member o (e ∷ es) (inr h) =
    let m = lasting_member o es h in
    record {
      before = e ∷ m.before;
      later = m.later;
      defined = ap (λ ds. e ∷ ds) m.defined;
      last = m.last;
    }

none_push : (o : Object) (es : List Change) (e : Change) → NoneAbout o es
    → is_about o.kind o.name e ≡ false → NoneAbout o (es ++ e ∷ [])
none_push o [] e h k = (k, tt)
none_push o (d ∷ es) e h k = (h.0, none_push o es e h.1 k)

none_pop : (o : Object) (es : List Change) (e : Change) → NoneAbout o (es ++ e ∷ [])
    → NoneAbout o es × (is_about o.kind o.name e ≡ false)
none_pop o [] e h = (tt, h.0)
none_pop o (d ∷ es) e h = let n = none_pop o es e h.1 in ((h.0, n.0), n.1)

abbrev Pushed : Object → List Change → Change → Type 0
Pushed o es e = (e ≡ Defined o) ⊎ (Lasts o es × (is_about o.kind o.name e ≡ false))

lasts_pop : (o : Object) (es : List Change) (e : Change) → Lasts o (es ++ e ∷ []) → Pushed o es e
lasts_pop o [] e (inl h) = inl h.0
lasts_pop o [] e (inr h) = absurd h
lasts_pop o (d ∷ es) e (inl h) = let n = none_pop o es e h.1 in inr (inl (h.0, n.0), n.1)
lasts_pop o (d ∷ es) e (inr h) = by (lasts_pop o es e h)
  where
    by : Pushed o es e → Pushed o (d ∷ es) e
    by (inl k) = inl k
    by (inr k) = inr (inr k.0, k.1)

lasts_now : (o : Object) (es : List Change) → Lasts o (es ++ Defined o ∷ [])
lasts_now o es = lasts_at o es [] tt

lasts_still : (o : Object) (es : List Change) (e : Change) → Lasts o es
    → is_about o.kind o.name e ≡ false → Lasts o (es ++ e ∷ [])
lasts_still o [] e h k = absurd h
lasts_still o (d ∷ es) e (inl h) k = inl (h.0, none_push o es e h.1 k)
lasts_still o (d ∷ es) e (inr h) k = inr (lasts_still o es e h k)

abbrev defined_of : Change → Object → Object
defined_of (Defined o) p = o
defined_of (Removed k n) p = p

pub defined_kept : (es : List Change) (os : List Object) (o : Object) → IsCatalog es os
    → IsCatalog (es ++ Defined o ∷ []) (with_member o os)
defined_kept es os o c = record { sorted = put_sorted o os c.sorted; members = λ q. (to q, from q) }
  where
    to : (q : Object) → Contains (with_member o os) q → IsMember (es ++ Defined o ∷ []) q
    to q h = by (in_put o q os c.sorted (among_of (with_member o os) q h))
      where
        by : (o ≡ q) ⊎ (Among os q × (is_key q.kind q.name o ≡ false))
            → IsMember (es ++ Defined o ∷ []) q
        by (inl same) = subst (λ q. IsMember (es ++ Defined o ∷ []) q) same
            (lasting_member o (es ++ Defined o ∷ []) (lasts_now o es))
        by (inr k) = lasting_member q (es ++ Defined o ∷ []) (lasts_still q es (Defined o)
            (lasts_of q es ((c.members q).0 (contains_of os q k.0))) k.1)

    from : (q : Object) → IsMember (es ++ Defined o ∷ []) q → Contains (with_member o os) q
    from q m = contains_of (with_member o os) q
        (by (lasts_pop q es (Defined o) (lasts_of q (es ++ Defined o ∷ []) m)))
      where
        by : Pushed q es (Defined o) → Among (with_member o os) q
        by (inl same) =
            subst (λ q. Among (with_member o os) q) (ap (λ e. defined_of e o) same) (put_there o os)
        by (inr k) = put_keeps o q os
            (among_of os q ((c.members q).1 (lasting_member q es k.0))) k.1

abbrev is_removal : Change → Bool
is_removal (Defined o) = false
is_removal (Removed k n) = true

not_true : (b : Bool) → not b ≡ true → b ≡ false
not_true true h = sym h
not_true false h = refl

pub removed_kept : (es : List Change) (os : List Object) (kind : Kind) (name : List ℕ)
    → IsCatalog es os → IsCatalog (es ++ Removed kind name ∷ []) (without kind name os)
removed_kept es os kind name c = record {
  sorted = without_sorted kind name os c.sorted;
  members = λ q. (to q, from q);
}
  where
    to : (q : Object) → Contains (without kind name os) q
        → IsMember (es ++ Removed kind name ∷ []) q
    to q h =
        let k = in_without kind name q os (among_of (without kind name os) q h) in
        lasting_member q (es ++ Removed kind name ∷ []) (lasts_still q es (Removed kind name)
        (lasts_of q es ((c.members q).0 (contains_of os q k.0))) (not_true _ k.1))

    from : (q : Object) → IsMember (es ++ Removed kind name ∷ []) q
        → Contains (without kind name os) q
    from q m = contains_of (without kind name os) q
        (by (lasts_pop q es (Removed kind name) (lasts_of q (es ++ Removed kind name ∷ []) m)))
      where
        by : Pushed q es (Removed kind name) → Among (without kind name os) q
        by (inl same) = absurd (true≢false (ap is_removal same))
        by (inr k) = without_keeps kind name q os
            (among_of os q ((c.members q).1 (lasting_member q es k.0))) (ap not k.1)

pub all_defined : (objects os : List Object) (es : List Change) → IsCatalog es os
    → IsCatalog (es ++ map Defined objects) (with_members objects os)
all_defined [] os es c = subst (λ es. IsCatalog es os) (sym (append-nil es)) c
all_defined (o ∷ rest) os es c =
    subst (λ es. IsCatalog es (with_members rest (with_member o os)))
    (append_assoc es (Defined o ∷ []) (map Defined rest))
    (all_defined rest (with_member o os) (es ++ Defined o ∷ []) (defined_kept es os o c))

pub no_changes : IsCatalog [] []
no_changes = record {
  sorted = tt;
  members = λ o. (λ h. absurd (among_of [] o h), λ m. absurd (lasts_of o [] m));
}
