-- Fronts of a history, and what a feed holds of it.
use Rattle.std.proofs.Common.{◌≡◌, ℕ, zero, suc, ◌+◌, ◌-◌, ◌<◌, ◌≤◌, Bool, true, false, cond}
use Rattle.std.proofs.Common.{nat_lt}
use Rattle.std.proofs.Common.{List, [], ◌∷◌, ◌++◌, length, refl, sym, ap, ◌∙◌, subst, arith, drop}
use Rattle.std.proofs.Common.{take}
use Rattle.std.proofs.Common.{Some, map}
use Rattle.std.specs.Prelude.{slice_get}
use Rattle.std.specs.List.{AllByRecursion}
use Rattle.std.proofs.lemmas.List.{take-append-drop, drop-append-le}
use Rattle.record_form.specs.declared.Entry.{Entry}
use Rattle.record_form.specs.Records.{record_of}
use Rattle.entry_records.specs.Feeds.{fed, room_behind, that_fit}

-- the entry at a position
pub at_drop : {A : Type 0} (xs : List A) (p : ℕ) (x : A) (rest : List A) → drop p xs ≡ x ∷ rest
    → slice_get xs p ≡ Some x
at_drop [] zero x rest e = absurd cc
at_drop [] (suc p) x rest e = absurd cc
at_drop (y ∷ ys) zero x rest e = cc e
at_drop (y ∷ ys) (suc p) x rest e = at_drop ys p x rest e

pub below_drop : {A : Type 0} (xs : List A) (p : ℕ) (x : A) (rest : List A) → drop p xs ≡ x ∷ rest
    → p < length xs
below_drop [] zero x rest e = absurd cc
below_drop [] (suc p) x rest e = absurd cc
below_drop (y ∷ ys) zero x rest e = omega arith
below_drop (y ∷ ys) (suc p) x rest e = omega (arith, below_drop ys p x rest e)

pub next_drop : {A : Type 0} (xs : List A) (p : ℕ) (x : A) (rest : List A) → drop p xs ≡ x ∷ rest
    → drop (suc p) xs ≡ rest
next_drop [] zero x rest e = absurd cc
next_drop [] (suc p) x rest e = absurd cc
next_drop (y ∷ ys) zero x rest e = cc e
next_drop (y ∷ ys) (suc p) x rest e = next_drop ys p x rest e

pub next_take : {A : Type 0} (xs : List A) (p : ℕ) (x : A) (rest : List A) → drop p xs ≡ x ∷ rest
    → take p xs ++ x ∷ [] ≡ take (suc p) xs
next_take [] zero x rest e = absurd cc
next_take [] (suc p) x rest e = absurd cc
next_take {A = A} (y ∷ ys) zero x rest e = same e
  where
    same : y ∷ ys ≡ x ∷ rest → x ∷ [] ≡ y ∷ []
    same e = cc e
next_take {A = A} (y ∷ ys) (suc p) x rest e =
    ap (λ (zs : List A). y ∷ zs) (next_take ys p x rest e)

-- a front has what the whole has
pub in_front : {A : Type 0} (xs : List A) (n p : ℕ) (x : A) → slice_get (take n xs) p ≡ Some x
    → (slice_get xs p ≡ Some x) × (p < n)
in_front [] zero p x e = absurd cc
in_front [] (suc n) p x e = absurd cc
in_front (y ∷ ys) zero p x e = absurd cc
in_front (y ∷ ys) (suc n) zero x e = (e, omega arith)
in_front (y ∷ ys) (suc n) (suc p) x e =
    let more = in_front ys n p x e in (more.0, omega (arith, more.1))

pub take_length : {A : Type 0} (xs : List A) (n : ℕ) → n ≤ length xs → length (take n xs) ≡ n
take_length [] zero le = refl
take_length [] (suc n) le = absurd (omega (arith, le))
take_length (x ∷ xs) zero le = refl
take_length (x ∷ xs) (suc n) le = ap suc (take_length xs n (omega (arith, le)))

pub all_at : {A : Type 0} (P : A → Type 0) (xs : List A) (p : ℕ) (x : A) → AllByRecursion P xs
    → slice_get xs p ≡ Some x → P x
all_at P [] p x all e = absurd cc
all_at P (y ∷ ys) zero x all e = subst P (same e) all.0
  where
    same : Some y ≡ Some x → y ≡ x
    same e = cc e
all_at P (y ∷ ys) (suc p) x all e = all_at P ys p x all.1 e

-- what is fed is a front
pub record IsFront (records : List (List ℕ)) (es : List Entry) : Type 0 where
  pub front : List Entry
  pub behind : List Entry
  pub is : es ≡ front ++ behind
  pub records_are : records ≡ map record_of front

one_front : (e : Entry) (es : List Entry) (records : List (List ℕ)) → IsFront records es
    → IsFront (record_of e ∷ records) (e ∷ es)
one_front e es records f = record {
  front = e ∷ f.front;
  behind = f.behind;
  is = ap (λ (xs : List Entry). e ∷ xs) f.is;
  records_are = ap (λ (rs : List (List ℕ)). record_of e ∷ rs) f.records_are;
}

no_front : (es : List Entry) → IsFront [] es
no_front es = record { front = []; behind = es; is = refl; records_are = refl }

if_fits : (b : Bool) (e : Entry) (es : List Entry) (records : List (List ℕ)) → IsFront records es
    → IsFront (cond b [] (record_of e ∷ records)) (e ∷ es)
if_fits true e es records f = no_front (e ∷ es)
if_fits false e es records f = one_front e es records f

fitting : (room : ℕ) (es : List Entry) → IsFront (that_fit room (map record_of es)) es
fitting room [] = no_front []
fitting room (e ∷ es) = if_fits (nat_lt room (4 + length (record_of e))) e es
    (that_fit (room - (4 + length (record_of e))) (map record_of es))
    (fitting (room - (4 + length (record_of e))) es)

pub fed_front : (es : List Entry) → IsFront (fed (map record_of es)) es
fed_front [] = no_front []
fed_front (e ∷ es) = one_front e es
    (that_fit (room_behind (4 + length (record_of e))) (map record_of es))
    (fitting (room_behind (4 + length (record_of e))) es)

-- what is asked of a front stands in the whole
pub dropped : (g : List Entry) (from reached : ℕ) → from ≤ reached → reached ≤ length g
    → drop from g ≡ drop from (take reached g) ++ drop reached g
dropped g from reached le most =
    sym (ap (λ (es : List Entry). drop from es) (take-append-drop reached g))
    ∙ drop-append-le from (take reached g) (drop reached g)
    (omega (arith, le, take_length g reached most))
