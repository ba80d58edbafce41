-- Fields of maps that are put together of parts: which keys stand in them, and what is found there.
use Rattle.std.proofs.Common.{◌≡◌, ℕ, Bool, true, false, List, [], ◌∷◌, ◌++◌, Some, None, cond}
use Rattle.std.proofs.Common.{refl, sym, ap, ◌∙◌, subst}
use Rattle.std.specs.Prelude.{◌&&◌, ◌||◌, not}
use Rattle.std.specs.Str.{bytes_eq}
use Rattle.std.proofs.lemmas.Bool.{false≢true, true≢false}
use Rattle.std.proofs.lemmas.Slice.Eq.{bytes_eq-Decides}
use Rattle.std.proofs.lemmas.Option.{none-some}
use Rattle.yaml_terms.specs.Tree.{Tree, Entries, no_entries, entry}
use Rattle.object_terms.specs.Form.{Key, gives, is_among, is_null, field_of, closed, refused, shown}
use Rattle.object_terms.specs.declared.fault.Rule.TheVariants.{UnknownField}

-- TESTS

pub bytes_same : (a b : List ℕ) → bytes_eq a b ≡ true → a ≡ b
bytes_same a b e = (bytes_eq-Decides a b).0 e

pub bytes_self : (a : List ℕ) → bytes_eq a a ≡ true
bytes_self a = (bytes_eq-Decides a a).1 refl

pub and_both : (x y : Bool) → x ≡ true → y ≡ true → (x && y) ≡ true
and_both true y e f = f
and_both false y e f = absurd (false≢true e)

pub and_left : (x y : Bool) → (x && y) ≡ true → x ≡ true
and_left true y e = refl
and_left false y e = e

pub and_right : (x y : Bool) → (x && y) ≡ true → y ≡ true
and_right true y e = e
and_right false y e = absurd (false≢true e)

pub or_right : (x y : Bool) → y ≡ true → (x || y) ≡ true
or_right true y e = refl
or_right false y e = e

pub or_left : (x y : Bool) → x ≡ true → (x || y) ≡ true
or_left true y e = refl
or_left false y e = absurd (false≢true e)

pub or_either : {P : Type 0} (x y : Bool) → (x || y) ≡ true → (x ≡ true → P) → (y ≡ true → P) → P
or_either true y e f g = f refl
or_either false y e f g = g e

pub not_false : (x : Bool) → not x ≡ true → x ≡ false
not_false true e = absurd (false≢true e)
not_false false e = refl

pub not_if : (x : Bool) → (x ≡ true → ⊥) → not x ≡ true
not_if true h = absurd (h refl)
not_if false h = refl

pub false_if : (x : Bool) → (x ≡ true → ⊥) → x ≡ false
false_if true h = absurd (h refl)
false_if false h = refl

-- KEYS

pub among-front : (ks js : List Key) (k : Key) → is_among ks k ≡ true → is_among (ks ++ js) k ≡ true
among-front [] js k e = absurd (false≢true e)
among-front (j ∷ ks) js k e = or_either (bytes_eq j k) (is_among ks k) e
    (λ f. or_left (bytes_eq j k) (is_among (ks ++ js) k) f)
    (λ f. or_right (bytes_eq j k) (is_among (ks ++ js) k) (among-front ks js k f))

pub among-back : (ks js : List Key) (k : Key) → is_among js k ≡ true → is_among (ks ++ js) k ≡ true
among-back [] js k e = e
among-back (j ∷ ks) js k e = or_right (bytes_eq j k) (is_among (ks ++ js) k) (among-back ks js k e)

-- no key of the first list is in the second
abbrev pub apart : List Key → List Key → Bool
apart [] js = true
apart (k ∷ ks) js = not (is_among js k) && apart ks js

pub apart_among : (ks js : List Key) (k : Key) → apart ks js ≡ true → is_among ks k ≡ true
    → is_among js k ≡ false
apart_among [] js k e f = absurd (false≢true f)
apart_among (j ∷ ks) js k e f = or_either (bytes_eq j k) (is_among ks k) f
    (λ g. subst (λ i. is_among js i ≡ false) (bytes_same j k g)
    (not_false (is_among js j) (and_left (not (is_among js j)) (apart ks js) e)))
    (λ g. apart_among ks js k (and_right (not (is_among js j)) (apart ks js) e) g)

-- PARTS OF MAPS

-- one map's entries, and then another's
abbrev pub joined : Entries → Entries → Entries
joined no_entries fs = fs
joined (entry k t es) fs = entry k t (joined es fs)

pub joined-none : (es : Entries) → joined es no_entries ≡ es
joined-none no_entries = refl
joined-none (entry k t es) = ap (entry k t) (joined-none es)

pub joined-joined : (a b c : Entries) → joined (joined a b) c ≡ joined a (joined b c)
joined-joined no_entries b c = refl
joined-joined (entry k t es) b c = ap (entry k t) (joined-joined es b c)

-- no entry has that key
abbrev pub lacks : Key → Entries → Bool
lacks key no_entries = true
lacks key (entry k t es) = not (bytes_eq k key) && lacks key es

abbrev pub lacks_all : List Key → Entries → Bool
lacks_all [] es = true
lacks_all (k ∷ ks) es = lacks k es && lacks_all ks es

-- each entry's key is among these
abbrev pub within : List Key → Entries → Bool
within known no_entries = true
within known (entry k t es) = is_among known k && within known es

pub within-front : (ks js : List Key) (es : Entries) → within ks es ≡ true
    → within (ks ++ js) es ≡ true
within-front ks js no_entries e = refl
within-front ks js (entry k t es) e = and_both (is_among (ks ++ js) k) (within (ks ++ js) es)
    (among-front ks js k (and_left (is_among ks k) (within ks es) e))
    (within-front ks js es (and_right (is_among ks k) (within ks es) e))

pub within-back : (ks js : List Key) (es : Entries) → within js es ≡ true
    → within (ks ++ js) es ≡ true
within-back ks js no_entries e = refl
within-back ks js (entry k t es) e = and_both (is_among (ks ++ js) k) (within (ks ++ js) es)
    (among-back ks js k (and_left (is_among js k) (within js es) e))
    (within-back ks js es (and_right (is_among js k) (within js es) e))

pub within-joined : (ks : List Key) (a b : Entries) → within ks a ≡ true → within ks b ≡ true
    → within ks (joined a b) ≡ true
within-joined ks no_entries b e f = f
within-joined ks (entry k t es) b e f = and_both (is_among ks k) (within ks (joined es b))
    (and_left (is_among ks k) (within ks es) e)
    (within-joined ks es b (and_right (is_among ks k) (within ks es) e) f)

pub lacks-joined : (key : Key) (a b : Entries) → lacks key a ≡ true → lacks key b ≡ true
    → lacks key (joined a b) ≡ true
lacks-joined key no_entries b e f = f
lacks-joined key (entry k t es) b e f = and_both (not (bytes_eq k key)) (lacks key (joined es b))
    (and_left (not (bytes_eq k key)) (lacks key es) e)
    (lacks-joined key es b (and_right (not (bytes_eq k key)) (lacks key es) e) f)

pub lacks-within : (key : Key) (ks : List Key) (es : Entries) → within ks es ≡ true
    → is_among ks key ≡ false → lacks key es ≡ true
lacks-within key ks no_entries w n = refl
lacks-within key ks (entry k t es) w n = and_both (not (bytes_eq k key)) (lacks key es)
    (not_if (bytes_eq k key) (λ e. false≢true (sym n ∙ subst (λ j. is_among ks j ≡ true)
    (bytes_same k key e) (and_left (is_among ks k) (within ks es) w))))
    (lacks-within key ks es (and_right (is_among ks k) (within ks es) w) n)

pub lacks_all_from : (ks : List Key) (es : Entries)
    → ((k : Key) → is_among ks k ≡ true → lacks k es ≡ true) → lacks_all ks es ≡ true
lacks_all_from [] es h = refl
lacks_all_from (k ∷ ks) es h = and_both (lacks k es) (lacks_all ks es)
    (h k (or_left (bytes_eq k k) (is_among ks k) (bytes_self k)))
    (lacks_all_from ks es (λ j e. h j (or_right (bytes_eq k j) (is_among ks j) e)))

pub lacks_all-within : (ks js : List Key) (es : Entries) → apart ks js ≡ true → within js es ≡ true
    → lacks_all ks es ≡ true
lacks_all-within ks js es a w =
    lacks_all_from ks es (λ k e. lacks-within k js es w (apart_among ks js k a e))

-- WHAT IS FOUND

pub nothing_found : (key : Key) (es : Entries) → lacks key es ≡ true → field_of key es ≡ None
nothing_found key no_entries e = refl
nothing_found key (entry k t es) e = by
    (bytes_eq k key) (not_false (bytes_eq k key) (and_left (not (bytes_eq k key)) (lacks key es) e))
    (nothing_found key es (and_right (not (bytes_eq k key)) (lacks key es) e))
  where
    by : (b : Bool) → b ≡ false → field_of key es ≡ None
        → cond (b && not (is_null t)) (Some t) (field_of key es) ≡ None
    by true f h = absurd (true≢false f)
    by false f h = h

pub found : (key : Key) (t : Tree) (front tail : Entries) → lacks key front ≡ true
    → is_null t ≡ false → field_of key (joined front (entry key t tail)) ≡ Some t
found key t no_entries tail e n = by (bytes_eq key key) (is_null t) (bytes_self key) n
  where
    by : (b c : Bool) → b ≡ true → c ≡ false
        → cond (b && not c) (Some t) (field_of key tail) ≡ Some t
    by true true f g = absurd (true≢false g)
    by true false f g = refl
    by false c f g = absurd (false≢true f)
found key t (entry k u es) tail e n = by
    (bytes_eq k key) (not_false (bytes_eq k key) (and_left (not (bytes_eq k key)) (lacks key es) e))
    (found key t es tail (and_right (not (bytes_eq k key)) (lacks key es) e) n)
  where
    by : (b : Bool) → b ≡ false → field_of key (joined es (entry key t tail)) ≡ Some t → cond
        (b && not (is_null u)) (Some u) (field_of key (joined es (entry key t tail))) ≡ Some t
    by true f h = absurd (true≢false f)
    by false f h = h

-- a field that is found isn't null
pub field_shown : (key : Key) (es : Entries) (t : Tree) → field_of key es ≡ Some t
    → is_null t ≡ false
field_shown key no_entries t e = absurd (none-some t e)
field_shown key (entry k u es) t e =
    by (bytes_eq k key) (is_null u) refl e (λ g. field_shown key es t g)
  where
    by : (b c : Bool) → is_null u ≡ c → cond (b && not c) (Some u) (field_of key es) ≡ Some t
        → (field_of key es ≡ Some t → is_null t ≡ false) → is_null t ≡ false
    by true true f g h = h g
    by true false f g h = cc
    by false c f g h = h g

pub closed_known : (known : List Key) (es : Entries) → within known es ≡ true
    → closed known es ≡ gives tt
closed_known known no_entries e = refl
closed_known known (entry k t es) e =
    by (is_among known k) (is_null t) (and_left (is_among known k) (within known es) e)
    (closed_known known es (and_right (is_among known k) (within known es) e))
  where
    by : (b c : Bool) → b ≡ true → closed known es ≡ gives tt
        → cond (b || c) (closed known es) (refused (shown k) UnknownField) ≡ gives tt
    by true c f h = h
    by false c f h = absurd (false≢true f)
