-- Links from each cell to the one before it of its group.
use Rattle.std.proofs.Common.{◌≡◌, ℕ, zero, suc, ◌+◌, ◌-◌, ◌/◌, ◌≤◌, ◌&&◌, Bool, true}
use Rattle.std.proofs.Common.{false, cond, nat_eq, refl, ap, sym, ◌∙◌, arith, List, [], ◌∷◌}
use Rattle.std.proofs.Common.{◌++◌, length, map, take, slice_get, Option, Some}
use Rattle.std.proofs.Common.{append_assoc}
use Rattle.std.specs.Str.{bytes_eq}
use Rattle.std.specs.Cmp.{IsEquivalence}
use Rattle.std.specs.Cmp.Lexicographic.{nat_list_eq_equiv}
use Rattle.std.proofs.lemmas.Slice.Eq.{bytes_eq-Decides}
use Rattle.std.proofs.lemmas.Bool.Decides.{nat_tests}
use Rattle.std.proofs.lemmas.List.{append-nil, length-map}
use Rattle.cell_index.specs.Chains.{AreLinked, HasRoomFor}
use Rattle.cell_index.specs.Chains.{IsReadyFor, day_group, group_eq, last, later}
use Rattle.cell_index.specs.Cells.{is_cell_on}
use Rattle.cell_index.specs.Chains.{link_of, links_after, sli_group}
use Rattle.cell_index.specs.Cells.{is_cell_of}
use Rattle.cell_index.proofs.ListLemmas.{eq-itself}
use Rattle.cell_index.specs.declared.chains.Chains.{Chains}
use Rattle.cell_index.specs.declared.chains.Group.{Group}
use Rattle.cell_index.specs.declared.cell.Cell.{Cell}
use Rattle.cell_index.specs.declared.cell_index.CellIndex.{CellIndex}

-- an item more
pub last-push : {A : Type 0} (p : A → Bool) (xs : List A) (x : A)
    → last p (xs ++ x ∷ []) ≡ cond (p x) (suc (length xs)) (last p xs)
last-push p [] x = refl
last-push p (y ∷ ys) x = by (p x) (last-push p ys x)
  where
    by : (b : Bool) → last p (ys ++ x ∷ []) ≡ cond b (suc (length ys)) (last p ys) →
        later (last p (ys ++ x ∷ [])) (p y)
        ≡ cond b (suc (suc (length ys))) (later (last p ys) (p y))
    by true e = ap (λ n. later n (p y)) e
    by false e = ap (λ n. later n (p y)) e

pub last-within : {A : Type 0} (p : A → Bool) (xs : List A) → last p xs ≤ length xs
last-within p [] = omega arith
last-within p (x ∷ xs) = by (last p xs) (p x) (last-within p xs)
  where
    by : (n : ℕ) (b : Bool) → n ≤ length xs → later n b ≤ suc (length xs)
    by zero true h = omega arith
    by zero false h = omega arith
    by (suc n) b h = omega (arith, h)

-- the items behind the last one don't matter
pub last-take : {A : Type 0} (p : A → Bool) (xs : List A) (n : ℕ) → last p xs ≤ n
    → last p (take n xs) ≡ last p xs
last-take p [] zero h = refl
last-take p [] (suc n) h = refl
last-take p (x ∷ xs) zero h = by (last p xs) (p x) h
  where
    by : (m : ℕ) (b : Bool) → later m b ≤ 0 → 0 ≡ later m b
    by zero true h = absurd (omega (arith, h))
    by zero false h = refl
    by (suc m) b h = absurd (omega (arith, h))
last-take p (x ∷ xs) (suc n) h = ap (λ m. later m (p x)) (last-take p xs n (by (last p xs) (p x) h))
  where
    by : (m : ℕ) (b : Bool) → later m b ≤ suc n → m ≤ n
    by zero b h = omega arith
    by (suc m) b h = omega (arith, h)

-- the last item passes the test
pub last-passes : {A : Type 0} (p : A → Bool) (xs : List A) (n : ℕ) (x : A) → last p xs ≡ suc n
    → slice_get xs n ≡ Some x → p x ≡ true
last-passes p [] n x e g = cc e
last-passes p (y ∷ ys) n x e g = by (last p ys) (p y) refl refl n e g (last-passes p ys)
  where
    by : (m : ℕ) (b : Bool) → last p ys ≡ m → p y ≡ b → (n : ℕ) → later m b ≡ suc n →
        slice_get (y ∷ ys) n ≡ Some x →
        ((k : ℕ) (x : _) → last p ys ≡ suc k → slice_get ys k ≡ Some x → p x ≡ true) → p x ≡ true
    by zero true l h zero e g go = let same : y ≡ x = cc g in ap p (sym same) ∙ h
    by zero true l h (suc n) e g go = absurd (omega (arith, e))
    by zero false l h n e g go = absurd (omega (arith, e))
    by (suc m) b l h zero e g go = absurd (omega (arith, e))
    by (suc m) b l h (suc k) e g go = let same : suc m ≡ suc k = omega (arith, e) in
        go k x (l ∙ same) g

-- and none behind it does
pub last-behind : {A : Type 0} (p : A → Bool) (xs : List A) (n : ℕ) (x : A) → last p xs ≤ n
    → slice_get xs n ≡ Some x → p x ≡ false
last-behind p [] n x h g = cc g
last-behind p (y ∷ ys) n x h g = by (last p ys) (p y) refl refl n h g (last-behind p ys)
  where
    by : (m : ℕ) (b : Bool) → last p ys ≡ m → p y ≡ b → (n : ℕ) → later m b ≤ n →
        slice_get (y ∷ ys) n ≡ Some x →
        ((k : ℕ) (x : _) → last p ys ≤ k → slice_get ys k ≡ Some x → p x ≡ false) → p x ≡ false
    by zero true l e zero h g go = absurd (omega (arith, h))
    by zero false l e zero h g go = let same : y ≡ x = cc g in ap p (sym same) ∙ e
    by (suc m) b l e zero h g go = absurd (omega (arith, h))
    by zero b l e (suc k) h g go = go k x (omega (arith, l)) g
    by (suc m) b l e (suc k) h g go = go k x (omega (arith, l, h)) g

-- a test of what an item becomes
pub last-map : {A B : Type 0} (f : A → B) (p : B → Bool) (q : A → Bool) → ((x : A) → p (f x) ≡ q x)
    → (xs : List A) → last p (map f xs) ≡ last q xs
last-map f p q same [] = refl
last-map f p q same (x ∷ xs) = ap (λ n. later n (p (f x))) (last-map f p q same xs)
    ∙ ap (later (last q xs)) (same x)

pub links-push : (before groups : List Group) (group : Group) →
    links_after before (groups ++ group ∷ []) ≡ links_after before groups
    ++ last (group_eq group) (before ++ groups) ∷ []
links-push before [] group =
    ap (λ groups. last (group_eq group) groups ∷ []) (sym (append-nil before))
links-push before (g ∷ gs) group =
    ap (λ links. last (group_eq g) before ∷ links) (links-push (before ++ g ∷ []) gs group)
    ∙ ap (λ groups. last (group_eq g) before ∷ links_after (before ++ g ∷ []) gs
    ++ last (group_eq group) groups ∷ []) (append_assoc before (g ∷ []) gs)

pub links-at : (before groups : List Group) (place : ℕ) (group : Group) →
    slice_get groups place ≡ Some group →
    slice_get (links_after before groups) place
    ≡ Some (last (group_eq group) (before ++ take place groups))
links-at before [] place group e = cc e
links-at before (g ∷ gs) zero group e =
    let same : g ≡ group = cc e in
    (λ i. Some (last (group_eq (same i)) (sym (append-nil before) i)))
links-at before (g ∷ gs) (suc place) group e =
    links-at (before ++ g ∷ []) gs place group e
    ∙ ap (λ groups. Some (last (group_eq group) groups))
    (append_assoc before (g ∷ []) (take place gs))

pub length-links : (before groups : List Group) → length (links_after before groups) ≡ length groups
length-links before [] = refl
length-links before (g ∷ gs) = ap suc (length-links (before ++ g ∷ []) gs)

eq-symm : (m n : ℕ) → nat_eq m n ≡ nat_eq n m
eq-symm m n = grind (arith, nat_tests)

pub group_eq-symm : (a b : Group) → group_eq a b ≡ group_eq b a
group_eq-symm a b = rw (nat_list_eq_equiv.symm a.name b.name, eq-symm a.day b.day) refl

-- equal groups are one
pub group_same : (a b : Group) → group_eq a b ≡ true → a ≡ b
group_same a b e = by (bytes_eq a.name b.name) (nat_eq a.day b.day) refl refl e
  where
    by : (m n : Bool) → bytes_eq a.name b.name ≡ m → nat_eq a.day b.day ≡ n
        → (m && n) ≡ true → a ≡ b
    by true true m n e =
        let name = (bytes_eq-Decides a.name b.name).0 m in
        let day : a.day ≡ b.day = grind (arith, nat_tests, n) in
        λ i. record { name = name i; day = day i }
    by true false m n e = cc e
    by false true m n e = cc e
    by false false m n e = cc e

pub group_laws : IsEquivalence group_eq
group_laws = record {
  refl = λ x. rw (nat_list_eq_equiv.refl x.name, eq-itself x.day) refl;
  symm = group_eq-symm;
  congr = λ x y z h. ap (λ (g : Group). group_eq g z) (group_same x y h);
}

-- a group's test of a cell
pub day-test : (sli : List ℕ) (day : ℕ) (cell : Cell)
    → group_eq (record { name = sli; day = day }) (day_group cell) ≡ is_cell_on sli day cell
day-test sli day cell =
    rw (nat_list_eq_equiv.symm sli cell.sli, eq-symm day (cell.minute / 1440)) refl

pub sli-test : (sli : List ℕ) (cell : Cell)
    → group_eq (record { name = sli; day = 0 }) (sli_group cell) ≡ is_cell_of sli cell
sli-test sli cell = rw (nat_list_eq_equiv.symm sli cell.sli) (by (bytes_eq cell.sli sli))
  where
    by : (b : Bool) → (b && true) ≡ b
    by true = refl
    by false = refl

pub slice_get-map : {A B : Type 0} (f : A → B) (xs : List A) (n : ℕ) (x : A)
    → slice_get xs n ≡ Some x → slice_get (map f xs) n ≡ Some (f x)
slice_get-map f [] n x e = cc e
slice_get-map f (y ∷ ys) zero x e = let same : y ≡ x = cc e in ap (λ z. Some (f z)) same
slice_get-map f (y ∷ ys) (suc n) x e = slice_get-map f ys n x e

pub some_same : {A : Type 0} {a b : A} → Some a ≡ Some b → a ≡ b
some_same e = cc e

pub lasts-push : (groups : List Group) (group g : Group) (place : ℕ) (old new : Option ℕ) →
    place ≡ length groups → link_of old ≡ last (group_eq g) groups →
    new ≡ cond (group_eq group g) (Some (place + 1)) old →
    link_of new ≡ last (group_eq g) (groups ++ group ∷ [])
lasts-push groups group g place old new whole known is =
    ap link_of is ∙ by (group_eq group g) (group_eq g group) (group_eq-symm group g)
    ∙ sym (last-push (group_eq g) groups group)
  where
    by : (a b : Bool) → a ≡ b → link_of (cond a (Some (place + 1)) old)
        ≡ cond b (suc (length groups)) (last (group_eq g) groups)
    by true true e = omega (arith, whole)
    by true false e = cc e
    by false true e = cc e
    by false false e = known

pub linked-length : (cells : List Cell) (f : Cell → Group) (chains : Chains)
    → AreLinked (map f cells) chains → length chains.links.items ≡ length cells
linked-length cells f chains linked = ap length linked.links ∙ length-links [] (map f cells)
    ∙ length-map cells f

pub room_fewer : (count fewer : ℕ) (chains : Chains) → fewer ≤ count → HasRoomFor count chains
    → HasRoomFor fewer chains
room_fewer count fewer chains h room = record {
  links = omega (arith, h, room.links);
  lasts = omega (arith, h, room.lasts);
}

pub ready_fewer : (count fewer : ℕ) (index : CellIndex) → fewer ≤ count → IsReadyFor count index
    → IsReadyFor fewer index
ready_fewer count fewer index h ready =
    record {
      days = room_fewer count fewer index.days h ready.days;
      slis = room_fewer count fewer index.slis h ready.slis;
      extents = omega (arith, h, ready.extents);
    }

pub length-few : {A : Type 0} (n : ℕ) (xs : List A) → length (take n xs) ≤ n
length-few zero xs = omega arith
length-few (suc n) [] = omega arith
length-few (suc n) (x ∷ xs) = let rest = length-few n xs in omega arith
