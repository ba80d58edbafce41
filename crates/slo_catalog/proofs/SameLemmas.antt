-- A definition of what is there.
use Rattle.std.proofs.Common.{◌≡◌, ℕ, Bool, true, false, ◌&&◌, cond, inl, inr, List, [], ◌∷◌}
use Rattle.std.proofs.Common.{Option, Some, None, All, Ok, refl, sym, ap, ◌∙◌, subst, true≢false}
use Rattle.std.proofs.Common.{Equal}
use Rattle.std.specs.List.{AllByRecursion}
use Rattle.std.specs.Ordering.{match_ordering}
use Rattle.std.proofs.lemmas.Slice.Eq.{bytes_eq-Decides}
use Rattle.std.proofs.lemmas.Cmp.{tied_itself}
use Rattle.std.proofs.lemmas.List.Elements.{recursion_from_All}
use Rattle.yaml_terms.specs.Tree.{Tree}
use Rattle.yaml_terms.specs.Spelling.{writing}
use Rattle.yaml_terms.specs.SpellingFits.{IsWritable}
use Rattle.object_terms.specs.declared.kind.Kind.{Kind}
use Rattle.object_terms.specs.declared.object.Object.{Object}
use Rattle.object_terms.specs.Document.{IsOfDocument, objects_of, written}
use Rattle.catalog_terms.specs.Keys.{is_key, object_cmp, member_of, ComesBefore, IsSorted}
use Rattle.catalog_terms.specs.Catalog.{with_member, with_members}
use Rattle.catalog_terms.specs.Define.{is_same, is_alike, is_unchanged}
use Rattle.slo_catalog.proofs.KeyLemmas.{object_order, before}
use Rattle.slo_catalog.proofs.AmongLemmas.{Among, among_of, all_among}

-- objects of two documents with one text are one object
abbrev pub OneText : Type 0
OneText = (t u : Tree) (os ps : List Object) → IsWritable t → IsWritable u → objects_of t ≡ Ok os
    → objects_of u ≡ Ok ps
    → AllByRecursion (λ o. AllByRecursion
    (λ p. writing 0 (written o) ≡ writing 0 (written p) → o ≡ p) ps) os

one_text : OneText → (o p : Object) → IsOfDocument o → IsOfDocument p → is_same o p ≡ true → o ≡ p
one_text law o p a b h =
    all_among (λ q. writing 0 (written o) ≡ writing 0 (written q) → o ≡ q) b.objects p
    (all_among (λ r. AllByRecursion (λ q. writing 0 (written r) ≡ writing 0 (written q) → r ≡ q)
    b.objects) a.objects o
    (law a.node b.node a.objects b.objects a.can_be_written b.can_be_written a.are_read b.are_read)
    (among_of a.objects o a.is_among))
    (among_of b.objects p b.is_among)
    ((bytes_eq-Decides (writing 0 (written o)) (writing 0 (written p))).0 h)

-- what stands there is put where it stands
put_member : (p : Object) (os : List Object) → IsSorted os → Among os p → with_member p os ≡ os
put_member p [] s h = absurd h
put_member p (q ∷ qs) s (inl same) =
    ap (λ r. match_ordering r (p ∷ q ∷ qs) (p ∷ qs) (q ∷ with_member p qs))
    (subst (λ x. object_cmp p x ≡ Equal) (sym same) (tied_itself object_order p))
    ∙ ap (λ x. x ∷ qs) (sym same)
put_member p (q ∷ qs) s (inr h) =
    ap (λ r. match_ordering r (p ∷ q ∷ qs) (p ∷ qs) (q ∷ with_member p qs))
    (before p q (all_among (ComesBefore q) qs p s.0 h))
    ∙ ap (λ xs. q ∷ xs) (put_member p qs s.1 h)

found_among : (os : List Object) (kind : Kind) (name : List ℕ) (p : Object)
    → member_of os kind name ≡ Some p → Among os p
found_among [] kind name p h = absurd (cc)
found_among (o ∷ os) kind name p h = by (is_key kind name o) (found_among os kind name p) h
  where
    by : (b : Bool) → (member_of os kind name ≡ Some p → Among os p)
        → cond b (Some o) (member_of os kind name) ≡ Some p → Among (o ∷ os) p
    by true again h = inl (cc)
    by false again h = inr (again h)

left : (a b : Bool) → a && b ≡ true → a ≡ true
left true b h = refl
left false b h = h

right : (a b : Bool) → a && b ≡ true → b ≡ true
right true b h = h
right false b h = absurd (true≢false (sym h))

put_alike : OneText → (o : Object) (os : List Object) → IsSorted os → AllByRecursion IsOfDocument os
    → IsOfDocument o → (found : Option Object) → member_of os o.kind o.name ≡ found
    → is_alike found o ≡ true → with_member o os ≡ os
put_alike law o os s all a None e h = absurd (true≢false (sym h))
put_alike law o os s all a (Some p) e h =
    let there : Among os p = found_among os o.kind o.name p e in
    let same : p ≡ o = one_text law p o (all_among IsOfDocument os p all there) a h in
    put_member o os s (subst (Among os) same there)

each_alike : OneText → (objects os : List Object) → IsSorted os → AllByRecursion IsOfDocument os
    → AllByRecursion IsOfDocument objects → is_unchanged os objects ≡ true
    → with_members objects os ≡ os
each_alike law [] os s all h e = refl
each_alike law (o ∷ rest) os s all h e =
    ap (with_members rest) (put_alike law o os s all h.0 (member_of os o.kind o.name) refl
    (left (is_alike (member_of os o.kind o.name) o) (is_unchanged os rest) e))
    ∙ each_alike law rest os s all h.1
    (right (is_alike (member_of os o.kind o.name) o) (is_unchanged os rest) e)

pub unchanged : OneText → (os objects : List Object) → IsSorted os → All IsOfDocument os
    → All IsOfDocument objects → is_unchanged os objects ≡ true → with_members objects os ≡ os
unchanged law os objects s all h e = each_alike law objects os s
    (recursion_from_All IsOfDocument os all) (recursion_from_All IsOfDocument objects h) e
