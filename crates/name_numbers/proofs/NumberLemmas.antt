-- Names keep their numbers while names are added.
use Rattle.std.proofs.Common.{◌≡◌, ◌≢◌, ℕ, zero, suc, ◌+◌, ◌<◌, List, [], ◌∷◌, ◌++◌, length, Bool}
use Rattle.std.proofs.Common.{true, false, cond, nat_eq, Option, Some, None, refl, ap}
use Rattle.std.proofs.Common.{sym, ◌∙◌, arith, get_or, option_map, slice_get}
use Rattle.std.specs.Cmp.Lexicographic.{nat_list_eq_equiv}
use Rattle.std.specs.List.{AllByRecursion, IsDistinct, position}
use Rattle.std.specs.Str.{bytes_eq}
use Rattle.std.proofs.lemmas.Bool.Decides.{nat_tests}
use Rattle.std.proofs.lemmas.List.Quantifiers.{position-Some}
use Rattle.std.proofs.lemmas.Option.{get_or_from_slice_get, slice_get_within}
use Rattle.std.proofs.lemmas.Slice.Eq.{bytes_eq-Decides}
use Rattle.name_numbers.specs.Names.{IsNumber, name_at, named_with}
use Rattle.name_numbers.proofs.FirstPlaces.{first, position-first, none-first, fails_at}

-- a name that is another than all in a list is another than the one at a place
apart_at : (name : List ℕ) (names : List (List ℕ)) (n : ℕ)
    → AllByRecursion (λ other. bytes_eq name other ≡ false) names → n < length names
    → bytes_eq name (name_at names n) ≡ false
apart_at name [] n all lt = absurd (omega arith)
apart_at name (x ∷ xs) zero all lt = all.0
apart_at name (x ∷ xs) (suc n) all lt = apart_at name xs n all.1 (omega arith)

eq-suc : (m n : ℕ) → nat_eq (suc m) (suc n) ≡ nat_eq m n
eq-suc m n = grind (arith, nat_tests)

eq-zero : (n : ℕ) → nat_eq 0 (suc n) ≡ false
eq-zero n = grind (arith, nat_tests)

eq-above : (n : ℕ) → nat_eq (suc n) 0 ≡ false
eq-above n = grind (arith, nat_tests)

-- of names that stand once each the number tells which name it is
pub same_number : (names : List (List ℕ)) (name : List ℕ) (i j : ℕ)
    → IsDistinct bytes_eq names → first (bytes_eq name) names ≡ Some i → j < length names
    → nat_eq i j ≡ bytes_eq name (name_at names j)
unfolding IsDistinct
same_number [] name i j apart here lt = cc here
same_number (x ∷ xs) name i j apart here lt =
    by (bytes_eq name x) j refl here lt (λ k j. same_number xs name k j apart.1)
  where
    later : (o : Option ℕ) (j : ℕ) → first (bytes_eq name) xs ≡ o → option_map suc o ≡ Some i →
        j < length xs →
        ((k : ℕ) → first (bytes_eq name) xs ≡ Some k
        → nat_eq k j ≡ bytes_eq name (name_at xs j)) →
        nat_eq i (suc j) ≡ bytes_eq name (name_at xs j)
    later None j o e lt go = cc e
    later (Some k) j o e lt go = let s : suc k ≡ i = cc e in
        ap (λ n. nat_eq n (suc j)) (sym s) ∙ eq-suc k j ∙ go k o

    none_before : (o : Option ℕ) → option_map suc o ≡ Some i → nat_eq i zero ≡ false
    none_before None e = cc e
    none_before (Some k) e = let s : suc k ≡ i = cc e in
        ap (λ n. nat_eq n zero) (sym s) ∙ eq-above k

    by : (b : Bool) (j : ℕ) → bytes_eq name x ≡ b →
        cond b (Some 0) (option_map suc (first (bytes_eq name) xs)) ≡ Some i → j < length (x ∷ xs) →
        ((k j : ℕ) → first (bytes_eq name) xs ≡ Some k
        → j < length xs → nat_eq k j ≡ bytes_eq name (name_at xs j)) →
        nat_eq i j ≡ bytes_eq name (name_at (x ∷ xs) j)
    by true zero b e lt go = let z : 0 ≡ i = cc e in ap (λ n. nat_eq n zero) (sym z) ∙ sym b
    by true (suc j) b e lt go =
        let z : 0 ≡ i = cc e in
        ap (λ n. nat_eq n (suc j)) (sym z) ∙ eq-zero j ∙ sym
        (nat_list_eq_equiv.congr name x (name_at xs j) b ∙ apart_at x xs j apart.0 (omega arith))
    by false zero b e lt go = none_before (first (bytes_eq name) xs) e ∙ sym b
    by false (suc j) b e lt go = let below : j < length xs = omega arith in
        later (first (bytes_eq name) xs) j refl e below (λ k h. go k j h below)

-- a name that stands at a place has that number
pub position_at : (names : List (List ℕ)) (name : List ℕ) (i : ℕ) → IsDistinct bytes_eq names
    → slice_get names i ≡ Some name → position (bytes_eq name) names ≡ Some i
position_at names name i apart there =
    let within = slice_get_within names i name there in
    let at : name_at names i ≡ name = get_or_from_slice_get names i name [] there in
    let same : bytes_eq name (name_at names i) ≡ true = rw at (nat_list_eq_equiv.refl name) in
    position-first (bytes_eq name) names ∙ by (first (bytes_eq name) names) refl within same
  where
    by : (o : Option ℕ) → first (bytes_eq name) names ≡ o → i < length names
        → bytes_eq name (name_at names i) ≡ true → o ≡ Some i
    by None e within same =
        (let no = fails_at (bytes_eq name) names i [] (none-first (bytes_eq name) names e) within in
        cc (no, same))
    by (Some k) e within same = (let eq = same_number names name k i apart e within ∙ same in
        let k_is : k ≡ i = grind (arith, nat_tests, eq) in ap (λ (n : ℕ). Some n) k_is)

-- the first that is there
abbrev either : Option ℕ → Option ℕ → Option ℕ
either None other = other
either (Some x) other = Some x

suc_there : (o : Option ℕ) (b : Bool) (l : ℕ)
    → option_map suc (either o (cond b (Some l) None))
    ≡ either (option_map suc o) (cond b (Some (suc l)) None)
suc_there (Some x) b l = refl
suc_there None true l = refl
suc_there None false l = refl

first-push : (p : List ℕ → Bool) (names : List (List ℕ)) (name : List ℕ)
    → first p (names ++ name ∷ [])
    ≡ either (first p names) (cond (p name) (Some (length names)) None)
first-push p [] name = refl
first-push p (x ∷ xs) name = by (p x) (first-push p xs name)
  where
    by : (b : Bool) → first p (xs ++ name ∷ [])
        ≡ either (first p xs) (cond (p name) (Some (length xs)) None)
        → cond b (Some 0) (option_map suc (first p (xs ++ name ∷ [])))
        ≡ either (cond b (Some 0) (option_map suc (first p xs)))
        (cond (p name) (Some (suc (length xs))) None)
    by true go = refl
    by false go = ap (option_map suc) go ∙ suc_there (first p xs) (p name) (length xs)

either-none : (o : Option ℕ) → either o None ≡ o
either-none None = refl
either-none (Some x) = refl

position-push : (s : List ℕ) (names : List (List ℕ)) (name : List ℕ) (b : Bool)
    → bytes_eq s name ≡ b → position (bytes_eq s) (names ++ name ∷ [])
    ≡ either (position (bytes_eq s) names) (cond b (Some (length names)) None)
position-push s names name b e = position-first (bytes_eq s) (names ++ name ∷ [])
    ∙ first-push (bytes_eq s) names name
    ∙ ap (λ o. either o (cond (bytes_eq s name) (Some (length names)) None))
    (sym (position-first (bytes_eq s) names))
    ∙ ap (λ t. either (position (bytes_eq s) names) (cond t (Some (length names)) None)) e

-- a name has its number among the names with it
pub position-own : (names : List (List ℕ)) (name : List ℕ) (n : ℕ) (o : Option ℕ)
    → position (bytes_eq name) names ≡ o → IsNumber o (length names) n
    → position (bytes_eq name) (named_with o names name) ≡ Some n
position-own names name n None e h =
    position-push name names name true ((bytes_eq-Decides name name).1 refl)
    ∙ ap (λ o. either o (Some (length names))) e ∙ ap Some (sym h)
position-own names name n (Some k) e h = e ∙ ap Some (sym h)

-- and each other name has the one that it had
pub position-other : (names : List (List ℕ)) (name s : List ℕ) (o : Option ℕ)
    → bytes_eq s name ≡ false
    → position (bytes_eq s) (named_with o names name) ≡ position (bytes_eq s) names
position-other names name s None e =
    position-push s names name false e ∙ either-none (position (bytes_eq s) names)
position-other names name s (Some k) e = refl

-- two names have two numbers
pub apart-numbers : (names : List (List ℕ)) (name s : List ℕ) (n k : ℕ) (o : Option ℕ) → s ≢ name
    → position (bytes_eq name) names ≡ o → IsNumber o (length names) n
    → position (bytes_eq s) names ≡ Some k → k ≢ n
apart-numbers names name s n k None far e h p same =
    let a : k < length names = (position-Some (bytes_eq s) names k [] p).0 in absurd (omega arith)
apart-numbers names name s n k (Some q) far e h p same =
    let a : bytes_eq s (get_or names k []) ≡ true =
    (position-Some (bytes_eq s) names k [] p).1 in
    let b : bytes_eq name (get_or names q []) ≡ true =
    (position-Some (bytes_eq name) names q [] e).1 in
    far ((bytes_eq-Decides s (get_or names k [])).0 a ∙ ap (λ i. name_at names i) (same ∙ h)
    ∙ sym ((bytes_eq-Decides name (get_or names q [])).0 b))
