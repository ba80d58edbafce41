-- Lists side by side, and lists that grow and shrink.
use Rattle.std.proofs.Common.{◌≡◌, ◌<◌, ℕ, suc, ◌+◌, List, [], ◌∷◌, ◌++◌, length, refl}
use Rattle.std.proofs.Common.{sym, ap, ◌∙◌, arith, append_assoc, map}
use Rattle.std.specs.Prelude.{drop, slice_index_or, take}
use Rattle.std.proofs.Math.Seq.{take-append_seam}
use Rattle.std.proofs.lemmas.List.{map-append}

-- two lists side by side
abbrev pub Pairs : {X Y : Type 0} → (X → Y → Type 0) → List X → List Y → Type 0
Pairs F [] [] = Unit {0}
Pairs F [] (y ∷ ys) = ⊥
Pairs F (x ∷ xs) [] = ⊥
Pairs F (x ∷ xs) (y ∷ ys) = F x y × Pairs F xs ys

pub pairs_of : {X : Type 0} (F : X → X → Type 0) (xs ys : List X) → length ys ≡ length xs
    → ((k : ℕ) (d : X) → k < length xs → F (slice_index_or xs k d) (slice_index_or ys k d))
    → Pairs F xs ys
pairs_of F [] [] same f = tt
pairs_of F [] (y ∷ ys) same f = absurd (omega (arith, same))
pairs_of F (x ∷ xs) [] same f = absurd (omega (arith, same))
pairs_of F (x ∷ xs) (y ∷ ys) same f = (
  f 0 x (omega arith),
  pairs_of F xs ys (omega (arith, same)) (λ k d lt. f (suc k) d (omega (arith, lt))),
)

-- the first was removed
pub first_and_rest : {X : Type 0} (xs rest : List X) (x : X) → 0 < length xs
    → x ≡ slice_index_or xs 0 x → rest ≡ take 0 xs ++ drop 1 xs → xs ≡ x ∷ rest
first_and_rest [] rest x some is left = absurd (omega (arith, some))
first_and_rest {X} (y ∷ ys) rest x some is left =
    ap (λ (z : X). z ∷ ys) (sym is) ∙ ap (λ (l : List X). x ∷ l) (sym left)

-- one more behind those that were made
pub mapped_more : {X Y : Type 0} (f : X → Y) (xs now : List X) (x : X) (ys : List Y) (y : Y)
    → now ≡ xs ++ x ∷ [] → f x ≡ y → map f xs ≡ ys → map f now ≡ ys ++ y ∷ []
mapped_more {X} {Y} f xs now x ys y one is made =
    ap (map f) one ∙ map-append f xs (x ∷ []) ∙ ap (λ (l : List Y). l ++ f x ∷ []) made
    ∙ ap (λ (z : Y). ys ++ z ∷ []) is

-- one was made of the first of those that wait
pub made_of_first : {X Y : Type 0} (f : X → Y) (xs now : List X) (x : X) (ys left all : List Y)
    (y : Y) → now ≡ xs ++ x ∷ [] → f x ≡ y → ys ≡ y ∷ left → map f xs ++ ys ≡ all
    → map f now ++ left ≡ all
made_of_first {X} {Y} f xs now x ys left all y one is waits made =
    ap (λ (l : List Y). l ++ left) (mapped_more f xs now x (map f xs) y one is refl)
    ∙ append_assoc (map f xs) (y ∷ []) left
    ∙ ap (λ (l : List Y). map f xs ++ l) (sym waits) ∙ made

pub nothing_left : {X : Type 0} (l : List X) → length l ≡ 0 → l ≡ []
nothing_left [] none = refl
nothing_left (x ∷ xs) none = absurd (omega (arith, none))

-- a whole list that was written back
pub written : {X : Type 0} (n : ℕ) (xs ys : List X) → n ≡ length xs → take n (xs ++ ys) ≡ xs
written n xs ys is = ap (λ k. take k (xs ++ ys)) is ∙ take-append_seam xs ys

pub mapped_behind : {X Y : Type 0} (f : X → Y) (ys now : List Y) (xs : List X) (x : X)
    → now ≡ ys ++ f x ∷ [] → ys ≡ map f xs → now ≡ map f (xs ++ x ∷ [])
mapped_behind {X} {Y} f ys now xs x one is =
    one ∙ ap (λ (l : List Y). l ++ f x ∷ []) is ∙ sym (map-append f xs (x ∷ []))
