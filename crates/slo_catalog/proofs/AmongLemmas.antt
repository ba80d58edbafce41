-- Elements of lists.
use Rattle.std.proofs.Common.{◌≡◌, zero, suc, ◌⊎◌, inl, inr, List, [], ◌∷◌, subst, arith, Contains}
use Rattle.std.specs.List.{AllByRecursion}

-- x is an element of xs
abbrev pub Among : {X : Type 0} → List X → X → Type 0
Among [] x = ⊥
Among (y ∷ ys) x = (y ≡ x) ⊎ Among ys x

pub among_of : {X : Type 0} (xs : List X) (x : X) → Contains xs x → Among xs x
among_of [] x (k, below, same) = absurd (omega arith)
among_of (y ∷ ys) x (zero, below, same) = inl same
among_of (y ∷ ys) x (suc k, below, same) = inr (among_of ys x (k, omega arith, same))

pub contains_of : {X : Type 0} (xs : List X) (x : X) → Among xs x → Contains xs x
contains_of [] x h = absurd h
contains_of (y ∷ ys) x (inl same) = (zero, omega arith, same)
contains_of (y ∷ ys) x (inr h) = let c = contains_of ys x h in (suc c.0, omega arith, c.2)

pub all_weaker : {X : Type 0} (P Q : X → Type 0) → ((x : X) → P x → Q x) → (xs : List X)
    → AllByRecursion P xs → AllByRecursion Q xs
all_weaker P Q f [] h = tt
all_weaker P Q f (x ∷ xs) h = (f x h.0, all_weaker P Q f xs h.1)

pub all_among : {X : Type 0} (P : X → Type 0) (xs : List X) (x : X) → AllByRecursion P xs
    → Among xs x → P x
all_among P [] x all h = absurd h
all_among P (y ∷ ys) x all (inl same) = subst P same all.0
all_among P (y ∷ ys) x all (inr h) = all_among P ys x all.1 h
