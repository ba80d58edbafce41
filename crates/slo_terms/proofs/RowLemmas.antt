-- Current rows, when a row comes whose cell is new.
use Rattle.std.proofs.Common.{◌≡◌, ℕ, List, [], ◌∷◌, ◌++◌, Bool, true, false, refl, ap, ◌∙◌, arith}
use Rattle.std.proofs.Common.{map, fold, filter, not, nat_lt, cond, ◌||◌}
use Rattle.std.proofs.lemmas.List.Elements.{filter-append}
use Rattle.std.proofs.lemmas.Bool.Decides.{nat_tests}
use Rattle.std.proofs.lemmas.List.{append-nil, map-append}
use Rattle.std.specs.List.{list_any}
use Rattle.slo_terms.specs.Rows.{newer, newest, first_of_each, current}

or_left : (a b : Bool) → (a || b) ≡ false → a ≡ false
or_left true b h = cc h
or_left false b h = refl

or_right : (a b : Bool) → (a || b) ≡ false → b ≡ false
or_right true b h = cc h
or_right false b h = h

-- what no element passes, no kept element passes
none-filter : {A : Type 0} (p q : A → Bool) (xs : List A) → list_any p xs ≡ false
    → list_any p (filter q xs) ≡ false
none-filter p q [] h = refl
none-filter p q (x ∷ xs) h = by (q x) (none-filter p q xs (or_right (p x) (list_any p xs) h))
  where
    by : (b : Bool) → list_any p (filter q xs) ≡ false
        → list_any p (cond b (x ∷ filter q xs) (filter q xs)) ≡ false
    by true rest = rw (or_left (p x) (list_any p xs) h) rest
    by false rest = rest

filter-none : {A : Type 0} (p : A → Bool) (xs : List A) → list_any p xs ≡ false → filter p xs ≡ []
filter-none p [] h = refl
filter-none p (x ∷ xs) h =
    rw (or_left (p x) (list_any p xs) h) (filter-none p xs (or_right (p x) (list_any p xs) h))

-- a new cell comes after those that are there
first_of_each-push : {A : Type 0} (same : A → A → Bool) (rows : List A) (x : A) →
    list_any (λ kept. same kept x) rows ≡ false →
    first_of_each same (rows ++ x ∷ []) ≡ first_of_each same rows ++ x ∷ []
first_of_each-push same [] x h = refl
first_of_each-push same (r ∷ rs) x h =
    ap (λ xs. r ∷ filter (λ later. not (same r later)) xs)
    (first_of_each-push same rs x (or_right (same r x) (list_any (λ kept. same kept x) rs) h))
    ∙ ap (λ xs. r ∷ xs) (filter-append (λ later. not (same r later))
    (first_of_each same rs) (x ∷ [])
    ∙ ap (λ (b : Bool). filter (λ later. not (same r later)) (first_of_each same rs)
    ++ cond (not b) (x ∷ []) []) (or_left (same r x) (list_any (λ kept. same kept x) rs) h))

none_among_first : {A : Type 0} (same : A → A → Bool) (rows : List A) (x : A) →
    list_any (λ kept. same kept x) rows ≡ false →
    list_any (λ kept. same kept x) (first_of_each same rows) ≡ false
none_among_first same [] x h = refl
none_among_first same (r ∷ rs) x h =
    rw (or_left (same r x) (list_any (λ kept. same kept x) rs) h)
    (none-filter (λ kept. same kept x) (λ later. not (same r later)) (first_of_each same rs)
    (none_among_first same rs x (or_right (same r x) (list_any (λ kept. same kept x) rs) h)))

-- a row of another cell changes no cell's newest row
newest-other : {A : Type 0} (same : A → A → Bool) (rev : A → ℕ) (rows : List A) (x r : A) →
    same r x ≡ false →
    newest same rev (rows ++ x ∷ []) r ≡ newest same rev rows r
newest-other same rev rows x r h =
    ap (fold (newer rev) r) (filter-append (same r) rows (x ∷ [])
    ∙ ap (λ (b : Bool). filter (same r) rows ++ cond b (x ∷ []) []) h
    ∙ append-nil (filter (same r) rows))

newest-others : {A : Type 0} (same : A → A → Bool) (rev : A → ℕ) (rows : List A) (x : A)
    (some : List A) →
    list_any (λ kept. same kept x) some ≡ false →
    map (newest same rev (rows ++ x ∷ [])) some ≡ map (newest same rev rows) some
newest-others same rev rows x [] h = refl
newest-others same rev rows x (r ∷ rs) h =
    ap (λ y. y ∷ map (newest same rev (rows ++ x ∷ [])) rs)
    (newest-other same rev rows x r (or_left (same r x) (list_any (λ kept. same kept x) rs) h))
    ∙ ap (λ ys. newest same rev rows r ∷ ys) (newest-others same rev rows x rs
    (or_right (same r x) (list_any (λ kept. same kept x) rs) h))

-- whether two rows are of one cell doesn't depend on their order
turned : {A : Type 0} (same : A → A → Bool) (x : A) → ((a b : A) → same a b ≡ same b a) →
    (ys : List A) →
    list_any (λ kept. same kept x) ys ≡ false → list_any (same x) ys ≡ false
turned same x swap [] n = refl
turned same x swap (y ∷ ys) n =
    rw (swap x y, or_left (same y x) (list_any (λ kept. same kept x) ys) n)
    (turned same x swap ys (or_right (same y x) (list_any (λ kept. same kept x) ys) n))

-- the rows of a cell that no row has, once its first row has come
own-rows : {A : Type 0} (same : A → A → Bool) (rows : List A) (x : A) →
    ((a b : A) → same a b ≡ same b a) → same x x ≡ true →
    list_any (λ kept. same kept x) rows ≡ false → filter (same x) (rows ++ x ∷ []) ≡ x ∷ []
own-rows same rows x swap self h =
    filter-append (same x) rows (x ∷ [])
    ∙ ap (λ ys. ys ++ filter (same x) (x ∷ []))
    (filter-none (same x) rows (turned same x swap rows h))
    ∙ ap (λ (b : Bool). cond b (x ∷ []) []) self

not_newer : (n : ℕ) → nat_lt n n ≡ false
not_newer n = grind (arith, nat_tests)

newest-own : {A : Type 0} (same : A → A → Bool) (rev : A → ℕ) (rows : List A) (x : A) →
    ((a b : A) → same a b ≡ same b a) → same x x ≡ true →
    list_any (λ kept. same kept x) rows ≡ false → newest same rev (rows ++ x ∷ []) x ≡ x
newest-own same rev rows x swap self h =
    ap (fold (newer rev) x) (own-rows same rows x swap self h)
    ∙ ap (λ (b : Bool). cond b x x) (not_newer (rev x))

-- A row whose cell no row has comes last among the current rows, and the others stay.
pub current-new : {A : Type 0} (same : A → A → Bool) (rev : A → ℕ) (rows : List A) (x : A) →
    ((a b : A) → same a b ≡ same b a) → same x x ≡ true →
    list_any (λ kept. same kept x) rows ≡ false →
    current same rev (rows ++ x ∷ []) ≡ current same rev rows ++ x ∷ []
current-new same rev rows x swap self h =
    ap (map (newest same rev (rows ++ x ∷ []))) (first_of_each-push same rows x h)
    ∙ map-append (newest same rev (rows ++ x ∷ [])) (first_of_each same rows) (x ∷ [])
    ∙ ap (λ ys. ys ++ newest same rev (rows ++ x ∷ []) x ∷ [])
    (newest-others same rev rows x (first_of_each same rows) (none_among_first same rows x h))
    ∙ ap (λ y. map (newest same rev rows) (first_of_each same rows) ++ y ∷ [])
    (newest-own same rev rows x swap self h)
