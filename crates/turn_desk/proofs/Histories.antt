-- Histories that begin others, and positions in them.
use Rattle.std.proofs.Common.{◌≡◌, ◌⊎◌, inl, inr, ⊎_elim, ℕ, zero, suc, ◌≤◌, Bool, true, false}
use Rattle.std.proofs.Common.{List, [], ◌∷◌, ◌++◌, length, nat_lt, refl, sym, ap, ◌∙◌, subst, arith}
use Rattle.std.proofs.Common.{length-append, append_assoc}
use Rattle.std.specs.Prelude.{All, if◌then◌else◌}
use Rattle.std.proofs.lemmas.List.{append-nil}
use Rattle.std.proofs.lemmas.Bool.Decides.{nat_tests}
use Rattle.turn_desk.specs.Histories.{Extends, Comparable, Has, Distinct}
use Rattle.turn_desk.specs.Passes.{longer_history}
use Rattle.turn_desk.specs.Views.{shorter_history}

pub extends_same : {X : Type 0} (xs : List X) → Extends xs xs
extends_same xs = ([], sym (append-nil xs))

pub extends_trans : {X : Type 0} (xs ys zs : List X) → Extends xs ys → Extends ys zs → Extends xs zs
extends_trans {X} xs ys zs a b =
    (a.0 ++ b.0, b.1 ∙ ap (λ (l : List X). l ++ b.0) a.1 ∙ append_assoc xs a.0 b.0)

pub extends-length : {X : Type 0} (xs ys : List X) → Extends xs ys → length xs ≤ length ys
extends-length xs ys a = omega (arith, ap length a.1, length-append xs a.0)

extends_back : {X : Type 0} (xs ys : List X) → Extends xs ys → length ys ≤ length xs → Extends ys xs
extends_back xs ys (([], is)) few = ([], sym (append-nil xs) ∙ sym is ∙ sym (append-nil ys))
extends_back xs ys ((m ∷ more, is)) few =
    absurd (omega (arith, ap length is, length-append xs (m ∷ more), few))

-- two that a third begins with
pub comparable : {X : Type 0} (xs ys zs : List X) → Extends xs zs → Extends ys zs → Comparable xs ys
comparable [] ys zs a b = inl (ys, refl)
comparable (x ∷ xs) [] zs a b = inr (x ∷ xs, refl)
comparable (x ∷ xs) (y ∷ ys) [] a b = absurd (cc)
comparable {X} (x ∷ xs) (y ∷ ys) (z ∷ zs) a b =
    let heads : x ≡ y = ap (head_or x) (sym a.1 ∙ b.1) in
    let left : Extends xs zs = (a.0, ap tail_of a.1) in
    let right : Extends ys zs = (b.0, ap tail_of b.1) in
    ⊎_elim (λ (e : Extends xs ys). inl (e.0, λ i. sym heads i ∷ e.1 i))
    (λ (e : Extends ys xs). inr (e.0, λ i. heads i ∷ e.1 i)) (comparable xs ys zs left right)
  where
    head_or : X → List X → X
    head_or d [] = d
    head_or d (h ∷ t) = h

    tail_of : List X → List X
    tail_of [] = []
    tail_of (h ∷ t) = t

-- the longer of two, as a choice
longer_is : (F : List (List ℕ) → Type 0) (b : Bool) (a c : List (List ℕ))
    → nat_lt (length a) (length c) ≡ b → (b ≡ true → F c) → (b ≡ false → F a)
    → F (longer_history a c)
longer_is F true a c e x y = subst F (sym (ap (λ t. if t then c else a) e)) (x refl)
longer_is F false a c e x y = subst F (sym (ap (λ t. if t then c else a) e)) (y refl)

shorter_is : (F : List (List ℕ) → Type 0) (b : Bool) (a c : List (List ℕ))
    → nat_lt (length a) (length c) ≡ b → F a → F c → F (shorter_history a c)
shorter_is F true a c e x y = subst F (sym (ap (λ t. if t then a else c) e)) x
shorter_is F false a c e x y = subst F (sym (ap (λ t. if t then a else c) e)) y

pub longer_extended : (a c history : List (List ℕ)) → Extends a history → Extends c history
    → Extends (longer_history a c) history
longer_extended a c history x y =
    longer_is (λ l. Extends l history) (nat_lt (length a) (length c)) a c refl (λ _. y) (λ _. x)

pub shorter_extended : (a c history : List (List ℕ)) → Extends a history → Extends c history
    → Extends (shorter_history a c) history
shorter_extended a c history x y =
    shorter_is (λ l. Extends l history) (nat_lt (length a) (length c)) a c refl x y

pub longer_left : (a c : List (List ℕ)) → length a ≤ length (longer_history a c)
longer_left a c = longer_is (λ l. length a ≤ length l) (nat_lt (length a) (length c)) a c refl
    (λ (e : nat_lt (length a) (length c) ≡ true). grind (arith, nat_tests)) (λ _. omega arith)

pub longer_right : (a c : List (List ℕ)) → length c ≤ length (longer_history a c)
longer_right a c = longer_is (λ l. length c ≤ length l) (nat_lt (length a) (length c)) a c refl
    (λ _. omega arith) (λ (e : nat_lt (length a) (length c) ≡ false). grind (arith, nat_tests))

pub longer_from_left : (a c : List (List ℕ)) → Comparable a c → Extends a (longer_history a c)
longer_from_left a c both = longer_is (Extends a) (nat_lt (length a) (length c)) a c refl
    (λ (e : nat_lt (length a) (length c) ≡ true). ⊎_elim (λ x. x) (λ (y : Extends c a).
    absurd (let le = extends-length c a y in grind (arith, nat_tests))) both)
    (λ _. extends_same a)

pub longer_from_right : (a c : List (List ℕ)) → Comparable a c → Extends c (longer_history a c)
longer_from_right a c both = longer_is (Extends c) (nat_lt (length a) (length c)) a c refl
    (λ _. extends_same c)
    (λ (e : nat_lt (length a) (length c) ≡ false).
    ⊎_elim (λ (x : Extends a c). extends_back a c x (grind (arith, nat_tests))) (λ y. y) both)

pub has_append : (xs ys : List ℕ) (p : ℕ) → Has (xs ++ ys) p → Has xs p ⊎ Has ys p
has_append [] ys p h = inr h
has_append (x ∷ xs) ys p (inl e) = inl (inl e)
has_append (x ∷ xs) ys p (inr h) = ⊎_elim (λ a. inl (inr a)) (λ b. inr b) (has_append xs ys p h)

pub distinct_append : (xs ys : List ℕ) → Distinct xs → Distinct ys
    → ((p : ℕ) → Has xs p → Has ys p → ⊥) → Distinct (xs ++ ys)
distinct_append [] ys a b apart = b
distinct_append (x ∷ xs) ys a b apart = (
  (λ h. ⊎_elim a.0 (apart x (inl refl)) (has_append xs ys x h)),
  distinct_append xs ys a.1 b (λ p here. apart p (inr here)),
)

-- a fact of each position, as one of all of them
pub all_positions : (F : ℕ → Type 0) (xs : List ℕ) → ((p : ℕ) → Has xs p → F p) → All F xs
all_positions F [] h k d lt = absurd (omega (arith, lt))
all_positions F (x ∷ xs) h zero d lt = h x (inl refl)
all_positions F (x ∷ xs) h (suc k) d lt =
    all_positions F xs (λ p here. h p (inr here)) k d (omega (arith, lt))
