-- The first object that is another than an earlier one of its kind and name is another than the
-- first one of them, and than the one of them that stands among members.
use Rattle.std.proofs.Common.{◌≡◌, ℕ, ◌<◌, ◌≤◌, ◌+◌, Bool, true, false, not, ◌&&◌, ◌||◌, cond, ◌⊎◌}
use Rattle.std.proofs.Common.{inl, inr, List, length, drop, get_or, [], ◌∷◌, ◌++◌, Option, Some}
use Rattle.std.proofs.Common.{None, is_some, is_eq, refl, sym, ap, ap₂, ◌∙◌, subst, true≢false}
use Rattle.std.proofs.Common.{append_assoc}
use Rattle.std.proofs.lemmas.List.{drop_all, drop_more}
use Rattle.std.specs.List.{AllByRecursion, list_any}
use Rattle.std.proofs.lemmas.Cmp.{nat_list_eq_equiv, tied_itself}
use Rattle.yaml_terms.specs.Spelling.{writing}
use Rattle.object_terms.specs.declared.kind.Kind.{Kind}
use Rattle.object_terms.specs.declared.object.Object.{Object}
use Rattle.object_terms.specs.Document.{written}
use Rattle.catalog_terms.specs.Keys.{is_key, member_of}
use Rattle.catalog_terms.specs.Catalog.{with_member}
use Rattle.catalog_terms.specs.Define.{is_same, is_other_than, first_other, first_duplicate}
use Rattle.catalog_terms.specs.Define.{differs, first_differing}
use Rattle.slo_catalog.proofs.AmongLemmas.{Among, all_among}
use Rattle.slo_catalog.proofs.KeyLemmas.{object_order, same_key}
use Rattle.slo_catalog.proofs.FindLemmas.{both_keys, find_put}

same_itself : (o : Object) → is_same o o ≡ true
same_itself o = nat_list_eq_equiv.refl (writing 0 (written o))

same_as_same : (p q o : Object) → is_same p q ≡ true → is_same p o ≡ is_same q o
same_as_same p q o h = nat_list_eq_equiv.congr (writing 0 (written p)) (writing 0 (written q))
    (writing 0 (written o)) h

same_back : (p q : Object) → is_same p q ≡ true → is_same q p ≡ true
same_back p q h = nat_list_eq_equiv.symm (writing 0 (written q)) (writing 0 (written p)) ∙ h

key_itself : (o : Object) → is_key o.kind o.name o ≡ true
key_itself o = same_key o o ∙ ap is_eq (tied_itself object_order o)

-- objects of one kind and name are all alike
abbrev Agree : List Object → Type 0
Agree os = (kind : Kind) (name : List ℕ) (p q : Object) → Among os p → Among os q
    → is_key kind name p ≡ true → is_key kind name q ≡ true → is_same p q ≡ true

-- among members there is none of that kind and name, and none was earlier
abbrev NoneFound : List Object → List Object → Kind → List ℕ → Type 0
NoneFound members earlier kind name = (member_of members kind name ≡ None)
    × AllByRecursion (λ p. is_key kind name p ≡ false) earlier

-- among members there is an earlier one of that kind and name
abbrev OneFound : List Object → List Object → Kind → List ℕ → Type 0
OneFound members earlier kind name = (p : Object) × (member_of members kind name ≡ Some p)
    × Among earlier p × (is_key kind name p ≡ true)

abbrev Found : List Object → List Object → Kind → List ℕ → Type 0
Found members earlier kind name =
    NoneFound members earlier kind name ⊎ OneFound members earlier kind name

found : (os : List Object) (kind : Kind) (name : List ℕ) → Found os os kind name
found [] kind name = inl (refl, tt)
found (o ∷ os) kind name = by (is_key kind name o) refl (found os kind name)
  where
    by : (b : Bool) → is_key kind name o ≡ b → Found os os kind name
        → Found (o ∷ os) (o ∷ os) kind name
    by true e more = inr (o, ap (λ b. cond b (Some o) (member_of os kind name)) e, inl refl, e)
    by false e (inl n) = inl (ap (λ b. cond b (Some o) (member_of os kind name)) e ∙ n.0, (e, n.1))
    by false e (inr f) =
        inr (f.0, ap (λ b. cond b (Some o) (member_of os kind name)) e ∙ f.1, inr f.2, f.3)

find_rest : (kind : Kind) (name : List ℕ) (xs ys : List Object)
    → AllByRecursion (λ p. is_key kind name p ≡ false) xs
    → member_of (xs ++ ys) kind name ≡ member_of ys kind name
find_rest kind name [] ys h = refl
find_rest kind name (x ∷ xs) ys h = ap (λ b. cond b (Some x) (member_of (xs ++ ys) kind name)) h.0
    ∙ find_rest kind name xs ys h.1

find_front : (kind : Kind) (name : List ℕ) (xs ys : List Object) (p : Object)
    → member_of xs kind name ≡ Some p → member_of (xs ++ ys) kind name ≡ Some p
find_front kind name [] ys p h = absurd (true≢false (sym (ap is_some h)))
find_front kind name (x ∷ xs) ys p h = by (is_key kind name x) (find_front kind name xs ys p) h
  where
    by : (b : Bool) → (member_of xs kind name ≡ Some p → member_of (xs ++ ys) kind name ≡ Some p)
        → cond b (Some x) (member_of xs kind name) ≡ Some p
        → cond b (Some x) (member_of (xs ++ ys) kind name) ≡ Some p
    by true again k = k
    by false again k = again k

any_none : (test : Object → Bool) (xs : List Object) → ((q : Object) → Among xs q → test q ≡ false)
    → list_any test xs ≡ false
any_none test [] h = refl
any_none test (x ∷ xs) h =
    ap₂ (λ a b. a || b) (h x (inl refl)) (any_none test xs (λ q k. h q (inr k)))

or_true : (a b : Bool) → b ≡ true → a || b ≡ true
or_true true b h = refl
or_true false b h = h

any_one : (test : Object → Bool) (xs : List Object) (p : Object) → Among xs p → test p ≡ true
    → list_any test xs ≡ true
any_one test [] p k h = absurd k
any_one test (x ∷ xs) p (inl same) h =
    ap (λ a. a || list_any test xs) (subst (λ y. test y ≡ true) (sym same) h)
any_one test (x ∷ xs) p (inr k) h = or_true (test x) (list_any test xs) (any_one test xs p k h)

and_false : (a b : Bool) → a ≡ false → a && b ≡ false
and_false true b h = absurd (true≢false h)
and_false false b h = refl

one_test : (a b c : Bool) → (a ≡ true → b ≡ c) → c ≡ false → a && b ≡ false
one_test true b c h k = h refl ∙ k
one_test false b c h k = refl

abbrev test : Object → Object → Bool
test o p = is_key o.kind o.name p && not (is_same p o)

-- an object differs from none where none was of its kind and name
none_differs : (o : Object) (xs : List Object)
    → AllByRecursion (λ p. is_key o.kind o.name p ≡ false) xs → differs xs o ≡ false
none_differs o xs h =
    any_none (test o) xs (λ q k. and_false (is_key o.kind o.name q) (not (is_same q o))
    (all_among (λ p. is_key o.kind o.name p ≡ false) xs q h k))

-- where earlier ones of its kind and name are alike, it differs from one where it does from another
one_differs : (earlier : List Object) (o p : Object) → Agree earlier → Among earlier p
    → is_key o.kind o.name p ≡ true → not (is_same p o) ≡ differs earlier o
one_differs earlier o p agree k h = by (not (is_same p o)) refl
  where
    by : (b : Bool) → not (is_same p o) ≡ b → b ≡ differs earlier o
    by true e = sym (any_one (test o) earlier p k (ap₂ (λ a b. a && b) h e))
    by false e = sym (any_none (test o) earlier
        (λ q l. one_test (is_key o.kind o.name q) (not (is_same q o)) (not (is_same p o))
        (λ i. ap not (same_as_same q p o (agree o.kind o.name q p l k i h))) e))

-- an object is another than the first of its kind and name where it is another than an earlier one
other_now : (earlier os : List Object) (o : Object) → Agree earlier
    → is_other_than (member_of (earlier ++ o ∷ os) o.kind o.name) o ≡ differs earlier o
other_now earlier os o agree = by (found earlier o.kind o.name)
  where
    by : Found earlier earlier o.kind o.name
        → is_other_than (member_of (earlier ++ o ∷ os) o.kind o.name) o ≡ differs earlier o
    by (inl n) =
        ap (λ f. is_other_than f o) (find_rest o.kind o.name earlier (o ∷ os) n.1
        ∙ ap (λ b. cond b (Some o) (member_of os o.kind o.name)) (key_itself o))
        ∙ (ap not (same_itself o) ∙ sym (none_differs o earlier n.1))
    by (inr f) =
        ap (λ g. is_other_than g o) (find_front o.kind o.name earlier (o ∷ os) f.0 f.1)
        ∙ one_differs earlier o f.0 agree f.2 f.3

either : (earlier : List Object) (o p : Object) → Among (earlier ++ o ∷ []) p
    → Among earlier p ⊎ (o ≡ p)
either [] o p (inl same) = inr same
either [] o p (inr h) = absurd h
either (x ∷ xs) o p (inl same) = inl (inl same)
either (x ∷ xs) o p (inr h) = by (either xs o p h)
  where
    by : Among xs p ⊎ (o ≡ p) → Among (x ∷ xs) p ⊎ (o ≡ p)
    by (inl k) = inl (inr k)
    by (inr k) = inr k

or_left : (a b : Bool) → a || b ≡ false → a ≡ false
or_left true b h = h
or_left false b h = refl

or_right : (a b : Bool) → a || b ≡ false → b ≡ false
or_right true b h = absurd (true≢false h)
or_right false b h = h

off : (test : Object → Bool) (xs : List Object) → list_any test xs ≡ false → (p : Object)
    → Among xs p → test p ≡ false
off test [] h p k = absurd k
off test (x ∷ xs) h p (inl same) =
    subst (λ y. test y ≡ false) same (or_left (test x) (list_any test xs) h)
off test (x ∷ xs) h p (inr k) = off test xs (or_right (test x) (list_any test xs) h) p k

still : (a b : Bool) → a ≡ true → a && not b ≡ false → b ≡ true
still true true h k = refl
still true false h k = absurd (true≢false k)
still false b h k = absurd (true≢false (sym h))

agree_more : (earlier : List Object) (o : Object) → Agree earlier → differs earlier o ≡ false
    → Agree (earlier ++ o ∷ [])
agree_more earlier o agree h kind name p q k l i j =
    by (either earlier o p k) (either earlier o q l)
  where
    alike : (p : Object) → Among earlier p → is_key kind name p ≡ true → is_key kind name o ≡ true
        → is_same p o ≡ true
    alike p k i j = still (is_key o.kind o.name p) (is_same p o)
        (same_key p o ∙ both_keys p o kind name i j) (off (test o) earlier h p k)

    by : Among earlier p ⊎ (o ≡ p) → Among earlier q ⊎ (o ≡ q) → is_same p q ≡ true
    by (inl a) (inl b) = agree kind name p q a b i j
    by (inl a) (inr b) = subst (λ x. is_same p x ≡ true) b
        (alike p a i (subst (λ x. is_key kind name x ≡ true) (sym b) j))
    by (inr a) (inl b) = subst (λ x. is_same x q ≡ true) a
        (same_back q o (alike q b j (subst (λ x. is_key kind name x ≡ true) (sym a) i)))
    by (inr a) (inr b) =
        subst (λ x. is_same x q ≡ true) a (subst (λ x. is_same o x ≡ true) b (same_itself o))

found_first : (earlier os : List Object) → Agree earlier
    → first_other (earlier ++ os) os ≡ first_differing earlier os
found_first earlier [] agree = refl
found_first earlier (o ∷ os) agree =
    by (differs earlier o) (other_now earlier os o agree)
    refl (λ h. ap (λ all. first_other all os) (sym (append_assoc earlier (o ∷ []) os))
    ∙ found_first (earlier ++ o ∷ []) os (agree_more earlier o agree h))
  where
    by : (b : Bool) → is_other_than (member_of (earlier ++ o ∷ os) o.kind o.name) o ≡ b
        → differs earlier o ≡ b
        → (differs earlier o ≡ false
        → first_other (earlier ++ o ∷ os) os ≡ first_differing (earlier ++ o ∷ []) os)
        → first_other (earlier ++ o ∷ os) (o ∷ os)
        ≡ cond b (Some o) (first_differing (earlier ++ o ∷ []) os)
    by true e f again = ap (λ b. cond b (Some o) (first_other (earlier ++ o ∷ os) os)) e
    by false e f again = ap (λ b. cond b (Some o) (first_other (earlier ++ o ∷ os) os)) e ∙ again f

pub first_is_named : (objects : List Object) → first_duplicate objects ≡ first_differing [] objects
first_is_named objects = found_first [] objects (λ kind name p q k l i j. absurd k)

-- AMONG MEMBERS

-- members hold one of the earlier ones of each kind and name
abbrev Holds : List Object → List Object → Type 0
Holds members earlier = (kind : Kind) (name : List ℕ) → Found members earlier kind name

last_among : (xs : List Object) (o : Object) → Among (xs ++ o ∷ []) o
last_among [] o = inl refl
last_among (x ∷ xs) o = inr (last_among xs o)

among_front : (xs ys : List Object) (p : Object) → Among xs p → Among (xs ++ ys) p
among_front [] ys p h = absurd h
among_front (x ∷ xs) ys p (inl same) = inl same
among_front (x ∷ xs) ys p (inr h) = inr (among_front xs ys p h)

all_more : (P : Object → Type 0) (xs : List Object) (o : Object) → AllByRecursion P xs → P o
    → AllByRecursion P (xs ++ o ∷ [])
all_more P [] o h k = (k, tt)
all_more P (x ∷ xs) o h k = (h.0, all_more P xs o h.1 k)

holds_more : (members earlier : List Object) (o : Object) → Holds members earlier
    → Holds (with_member o members) (earlier ++ o ∷ [])
holds_more members earlier o holds kind name = by (is_key kind name o) refl (holds kind name)
  where
    put_found : (b : Bool) → is_key kind name o ≡ b
        → member_of (with_member o members) kind name
        ≡ cond b (Some o) (member_of members kind name)
    put_found b e = find_put o members kind name
        ∙ ap (λ b. cond b (Some o) (member_of members kind name)) e

    by : (b : Bool) → is_key kind name o ≡ b → Found members earlier kind name
        → Found (with_member o members) (earlier ++ o ∷ []) kind name
    by true e h = inr (o, put_found true e, last_among earlier o, e)
    by false e (inl n) = inl (
      put_found false e ∙ n.0,
      all_more (λ p. is_key kind name p ≡ false) earlier o n.1 e,
    )
    by false e (inr f) =
        inr (f.0, put_found false e ∙ f.1, among_front earlier (o ∷ []) f.0 f.2, f.3)

other_by : (members earlier : List Object) (o : Object) → Agree earlier
    → Found members earlier o.kind o.name
    → is_other_than (member_of members o.kind o.name) o ≡ differs earlier o
other_by members earlier o agree (inl n) =
    ap (λ f. is_other_than f o) n.0 ∙ sym (none_differs o earlier n.1)
other_by members earlier o agree (inr f) =
    ap (λ g. is_other_than g o) f.1 ∙ one_differs earlier o f.0 agree f.2 f.3

-- the first object that is another than the one of its kind and name among members, to which each
-- is put that isn't
abbrev pub first_against : List Object → List Object → Option Object
first_against members [] = None
first_against members (o ∷ os) = cond (is_other_than (member_of members o.kind o.name) o) (Some o)
    (first_against (with_member o members) os)

found_against : (members earlier os : List Object) → Agree earlier → Holds members earlier
    → first_against members os ≡ first_differing earlier os
found_against members earlier [] agree holds = refl
found_against members earlier (o ∷ os) agree holds =
    by (differs earlier o) (other_by members earlier o agree (holds o.kind o.name))
    refl (λ h. found_against (with_member o members) (earlier ++ o ∷ []) os
    (agree_more earlier o agree h)
    (holds_more members earlier o holds))
  where
    by : (b : Bool) → is_other_than (member_of members o.kind o.name) o ≡ b
        → differs earlier o ≡ b
        → (differs earlier o ≡ false
        → first_against (with_member o members) os ≡ first_differing (earlier ++ o ∷ []) os)
        → first_against members (o ∷ os)
        ≡ cond b (Some o) (first_differing (earlier ++ o ∷ []) os)
    by true e f again = ap (λ b. cond b (Some o) (first_against (with_member o members) os)) e
    by false e f again = ap (λ b. cond b (Some o) (first_against (with_member o members) os)) e
        ∙ again f

first_by_earlier : (objects : List Object) → first_against [] objects ≡ first_duplicate objects
first_by_earlier objects =
    found_against [] [] objects (λ kind name p q k l i j. absurd k) (λ kind name. inl (refl, tt))
    ∙ sym (first_is_named objects)

-- the object at a place is the first duplicate where those ahead of it are none and it is another
-- than the one of its kind and name among them
pub stops_at : (members objects : List Object) (i : ℕ) (o : Object) → i < length objects
    → o ≡ get_or objects i o → is_other_than (member_of members o.kind o.name) o ≡ true
    → first_against members (drop i objects) ≡ first_against [] objects
    → Some o ≡ first_duplicate objects
stops_at members objects i o below is other so_far =
    sym (ap (first_against members)
    (drop_more objects i o below ∙ ap (λ x. x ∷ drop (i + 1) objects) (sym is))
    ∙ ap (λ b. cond b (Some o) (first_against (with_member o members) (drop (i + 1) objects)))
    other)
    ∙ so_far ∙ first_by_earlier objects

-- there is none where none was found up to the end
pub ends_at : (members objects : List Object) (i : ℕ) → length objects ≤ i
    → first_against members (drop i objects) ≡ first_against [] objects
    → None ≡ first_duplicate objects
ends_at members objects i end so_far =
    sym (ap (first_against members) (drop_all i objects end)) ∙ so_far ∙ first_by_earlier objects
