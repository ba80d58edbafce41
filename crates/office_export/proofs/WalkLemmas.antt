-- Walks over lists, place by place.
use Rattle.std.proofs.Common.{◌≡◌, ◌∙◌, ℕ, zero, suc, ◌+◌, ◌-◌, ◌≤◌, ◌<◌, Bool, true}
use Rattle.std.proofs.Common.{false, cond, List, [], ◌∷◌, ◌++◌, refl, sym, ap, length, take}
use Rattle.std.proofs.Common.{drop}
use Rattle.std.proofs.Common.{arith, Option, Some, None, append_assoc, append-nil, get_or, min}
use Rattle.std.proofs.Common.{nat_le}
use Rattle.std.proofs.Common.{take_all}
use Rattle.std.specs.Prelude.{slice_get}
use Rattle.std.specs.List.{flat_map}
use Rattle.std.proofs.lemmas.Bool.Decides.{nat_tests}
use Rattle.std.proofs.lemmas.List.{length-drop}
use Rattle.sample_book.specs.declared.Exclusion.{Exclusion}
use Rattle.sample_book.specs.declared.Row.{Row}
use Rattle.office_derived.proofs.Lists.{all_past, from_index}
use Rattle.object_terms.specs.declared.Kind.{Kind}
use Rattle.object_terms.specs.declared.Object.{Object}
use Rattle.catalog_terms.specs.Keys.{is_kind}
use Rattle.export_terms.specs.Texts.{row_line}
use Rattle.office_export.specs.Lines.{line_if}
use Rattle.office_export.specs.Steps.{exclusion_step, exclusion_steps, row_steps, step_if}
use Rattle.office_export.specs.Steps.{steps_of_kind}
use Rattle.office_export.specs.declared.step.Step.{Step}
use Rattle.office_export.specs.declared.step.Step.TheVariants as steps

-- from a place on, a list is what stands there and what is behind it
pub from_place : {A : Type 0} (place : ℕ) (xs : List A) (x : A) → slice_get xs place ≡ Some x
    → drop place xs ≡ x ∷ drop (place + 1) xs
from_place zero [] x h = cc h
from_place zero (y ∷ xs) x h = ap (λ z. z ∷ xs) (same y x h)
  where
    same : {A : Type 0} (a b : A) → Some a ≡ Some b → a ≡ b
    same a b e = cc e
from_place (suc n) [] x h = cc h
from_place (suc n) (y ∷ xs) x h =
    let e : suc n + 1 ≡ suc (n + 1) = omega arith in
    from_place n xs x h ∙ ap (λ k. x ∷ drop k (y ∷ xs)) (sym e)

-- behind the last place there is nothing
pub past_place : {A : Type 0} (place : ℕ) (xs : List A) → slice_get xs place ≡ None
    → drop place xs ≡ []
past_place zero [] h = refl
past_place zero (y ∷ xs) h = cc h
past_place (suc n) [] h = refl
past_place (suc n) (y ∷ xs) h = past_place n xs h

-- so far, the next, and the rest
pub next_of : {A : Type 0} (before next rest all : List A) → before ++ (next ++ rest) ≡ all
    → (before ++ next) ++ rest ≡ all
next_of before next rest all h = append_assoc before next rest ∙ h

pub at_end : {A : Type 0} (before all : List A) → before ++ [] ≡ all → before ≡ all
at_end before all h = sym (append-nil before) ∙ h

-- the steps of a kind, from a place on
pub steps_from : (kind : Kind) (place : ℕ) (members : List Object) (o d : Object)
    → place < length members → o ≡ get_or members place d
    → steps_of_kind kind place (drop place members)
    ≡ cond (is_kind o.kind kind) (steps.Object place ∷ []) []
    ++ steps_of_kind kind (place + 1) (drop (place + 1) members)
steps_from kind place members o d below there =
    ap (steps_of_kind kind place) (from_index place members o d below there)
    ∙ by (is_kind o.kind kind)
  where
    rest : List Step
    rest = steps_of_kind kind (place + 1) (drop (place + 1) members)

    by : (b : Bool) → cond b (steps.Object place ∷ rest) rest
        ≡ cond b (steps.Object place ∷ []) [] ++ rest
    by true = refl
    by false = refl

-- fuel that is enough for the rows is as good as any other
pub row_fuel : (n m first left : ℕ) → left ≤ n → left ≤ m
    → row_steps n first left ≡ row_steps m first left
row_fuel zero zero first left h k = refl
row_fuel zero (suc m) first zero h k = refl
row_fuel zero (suc m) first (suc left) h k = absurd (omega (arith, h))
row_fuel (suc n) zero first zero h k = refl
row_fuel (suc n) zero first (suc left) h k = absurd (omega (arith, k))
row_fuel (suc n) (suc m) first zero h k = refl
row_fuel (suc n) (suc m) first (suc left) h k =
    ap (λ ss. steps.Rows first ∷ ss)
    (row_fuel n m (first + 1000) (suc left - 1000) (omega (arith, h)) (omega (arith, k)))

-- one step of rows, and then the rest
pub row_next : (count first : ℕ) → first < count
    → row_steps (count - first) first (count - first)
    ≡ steps.Rows first ∷ row_steps (count - (first + 1000)) (first + 1000) (count - (first + 1000))
row_next count first h =
    let n : ℕ = count - first - 1 in
    let is : count - first ≡ suc n = omega (arith, h) in
    let left : suc n - 1000 ≡ count - (first + 1000) = omega arith in
    (λ i. row_steps (is i) first (is i))
    ∙ ap (λ ss. steps.Rows first ∷ ss)
    (ap (row_steps n (first + 1000)) left
    ∙ row_fuel n (count - (first + 1000)) (first + 1000) (count - (first + 1000)) (omega arith)
    (omega arith))

pub no_rows : (count first : ℕ) → count ≤ first → row_steps (count - first) first (count - first)
    ≡ []
no_rows count first h = let none : count - first ≡ 0 = omega (arith, h) in
    λ i. row_steps (none i) first (none i)

-- the last of them
pub row_last : (count first : ℕ) → first < count → count - first ≤ 1000
    → row_steps (count - first) first (count - first) ≡ steps.Rows first ∷ []
row_last count first h few =
    row_next count first h
    ∙ ap (λ ss. steps.Rows first ∷ ss) (no_rows count (first + 1000) (omega (arith, h, few)))

-- LINES OF ROWS

none_taken : (n : ℕ) (rows : List Row) → rows ≡ [] → take n rows ≡ []
none_taken zero rows e = refl
none_taken (suc n) [] e = refl
none_taken (suc n) (row ∷ rows) e = cc e

-- so many items, or as many as there are
pub taken_few : {A : Type 0} (n m : ℕ) (xs : List A) → m ≡ min (length xs) n
    → take m xs ≡ take n xs
taken_few n m xs e = by (nat_le (length xs) n) refl
  where
    by : (b : Bool) → nat_le (length xs) n ≡ b → take m xs ≡ take n xs
    by true h = let short : length xs ≤ n = grind (arith, nat_tests, h) in
        let is : length xs ≤ m = grind (arith, nat_tests, h, e) in
        take_all m xs is ∙ sym (take_all n xs short)
    by false h = let is : m ≡ n = grind (arith, nat_tests, h, e) in ap (λ k. take k xs) is

-- the line of the row at a place, and those behind it
pub line_next : (end place : ℕ) (rows : List Row) (row : Row) → place < end
    → slice_get rows place ≡ Some row
    → flat_map row_line (take (end - place) (drop place rows))
    ≡ row_line row ++ flat_map row_line (take (end - (place + 1)) (drop (place + 1) rows))
line_next end place rows row below there =
    let n : ℕ = end - (place + 1) in
    let is : end - place ≡ suc n = omega (arith, below) in
    (λ i. flat_map row_line (take (is i) (from_place place rows row there i)))

-- behind the last row there is no line
pub line_past : (end place : ℕ) (rows : List Row) → slice_get rows place ≡ None
    → flat_map row_line (take (end - place) (drop place rows))
    ≡ flat_map row_line (take (end - (place + 1)) (drop (place + 1) rows))
line_past end place rows none =
    let here = past_place place rows none in
    let there : drop (place + 1) rows ≡ [] = further place rows here in
    ap (flat_map row_line) (none_taken (end - place) (drop place rows) here
    ∙ sym (none_taken (end - (place + 1)) (drop (place + 1) rows) there))
  where
    next : (n : ℕ) → suc n + 1 ≡ suc (n + 1)
    next n = omega arith

    one : (n : ℕ) (rows : List Row) → drop n rows ≡ [] → drop (suc n) rows ≡ []
    one n [] e = refl
    one zero (y ∷ ys) e = cc e
    one (suc n) (y ∷ ys) e = one n ys e

    further : (n : ℕ) (rows : List Row) → drop n rows ≡ [] → drop (n + 1) rows ≡ []
    further n rows e = let f : n + 1 ≡ suc n = omega arith in ap (λ k. drop k rows) f ∙ one n rows e

-- the line at a place that was written, and those behind it
pub lines_on : (end place : ℕ) (rows : List Row) (old a b : List ℕ) → place < end
    → b ≡ a ++ line_if (slice_get rows place)
    → a ++ flat_map row_line (take (end - place) (drop place rows)) ≡ old
    → b ++ flat_map row_line (take (end - (place + 1)) (drop (place + 1) rows)) ≡ old
lines_on end place rows old a b below is h = by (slice_get rows place) refl is
  where
    rest : List ℕ
    rest = flat_map row_line (take (end - (place + 1)) (drop (place + 1) rows))

    by : (o : Option Row) → slice_get rows place ≡ o → b ≡ a ++ line_if o → b ++ rest ≡ old
    by None there e = ap (λ (l : List ℕ). l ++ rest) (e ∙ append-nil a)
        ∙ ap (λ (l : List ℕ). a ++ l) (sym (line_past end place rows there)) ∙ h
    by (Some row) there e = ap (λ (l : List ℕ). l ++ rest) e ∙ append_assoc a (row_line row) rest
        ∙ ap (λ (l : List ℕ). a ++ l) (sym (line_next end place rows row below there)) ∙ h

-- all lines were written
pub lines_end : (first count place : ℕ) (rows : List Row) (old a : List ℕ)
    → first + count ≤ place → count ≡ min (length rows - first) 1000
    → a ++ flat_map row_line (take (first + count - place) (drop place rows))
    ≡ old ++ flat_map row_line (take count (drop first rows))
    → a ≡ old ++ flat_map row_line (take 1000 (drop first rows))
lines_end first count place rows old a past few h =
    let none : first + count - place ≡ 0 = omega (arith, past) in
    let left : count ≡ min (length (drop first rows)) 1000 =
    few ∙ ap (λ n. min n 1000) (sym (length-drop first rows)) in
    sym (append-nil a)
    ∙ ap (λ n. a ++ flat_map row_line (take n (drop place rows))) (sym none)
    ∙ h ∙ ap (λ (rs : List Row). old ++ flat_map row_line rs)
    (taken_few 1000 count (drop first rows) left)

-- STEPS

-- the step of an exclusion that was listed, and those behind it
pub exclusions_on : (members : List Object) (place : ℕ) (made : List (Exclusion × Bool))
    (old a b : List Step) → b ≡ a ++ step_if members place (slice_get made place)
    → a ++ exclusion_steps members place (drop place made) ≡ old
    → b ++ exclusion_steps members (place + 1) (drop (place + 1) made) ≡ old
exclusions_on members place made old a b is h = by (slice_get made place) refl is
  where
    rest : List Step
    rest = exclusion_steps members (place + 1) (drop (place + 1) made)

    one : (n : ℕ) (ks : List (Exclusion × Bool)) → drop n ks ≡ [] → drop (suc n) ks ≡ []
    one n [] e = refl
    one zero (y ∷ ys) e = cc e
    one (suc n) (y ∷ ys) e = one n ys e

    further : drop place made ≡ [] → drop (place + 1) made ≡ []
    further e = let f : place + 1 ≡ suc place = omega arith in
        ap (λ k. drop k made) f ∙ one place made e

    by : (o : Option (Exclusion × Bool)) → slice_get made place ≡ o
        → b ≡ a ++ step_if members place o → b ++ rest ≡ old
    by None there e =
        let none = past_place place made there in
        (λ i. e i ++ exclusion_steps members (place + 1) (further none i))
        ∙ append-nil (a ++ []) ∙ sym (ap (λ ks. a ++ exclusion_steps members place ks) none) ∙ h
    by (Some k) there e = ap (λ (l : List Step). l ++ rest) e
        ∙ append_assoc a (exclusion_step members place k) rest
        ∙ sym (ap (λ ks. a ++ exclusion_steps members place ks) (from_place place made k there)) ∙ h

-- the step of rows that was listed, and those behind it
pub rows_on : (count first : ℕ) (old a b : List Step) → 1000 < count - first
    → b ≡ a ++ steps.Rows first ∷ []
    → a ++ row_steps (count - first) first (count - first) ≡ old
    → b ++ row_steps (count - (first + 1000)) (first + 1000) (count - (first + 1000)) ≡ old
rows_on count first old a b many is h =
    let rest : List Step =
    row_steps (count - (first + 1000)) (first + 1000) (count - (first + 1000)) in
    ap (λ (l : List Step). l ++ rest) is ∙ append_assoc a (steps.Rows first ∷ []) rest
    ∙ ap (λ (l : List Step). a ++ l) (sym (row_next count first (omega (arith, many)))) ∙ h

-- the items from a place on, or from the end where the place is past it
dropped_few : {A : Type 0} (f m : ℕ) (xs : List A) → m ≡ min f (length xs) → drop m xs ≡ drop f xs
dropped_few f m xs e = by (nat_le f (length xs)) refl
  where
    by : (b : Bool) → nat_le f (length xs) ≡ b → drop m xs ≡ drop f xs
    by true h = let is : m ≡ f = grind (arith, nat_tests, h, e) in ap (λ k. drop k xs) is
    by false h = let past : length xs ≤ f = grind (arith, nat_tests, h) in
        let end : length xs ≤ m = grind (arith, nat_tests, h, e) in
        all_past m xs end ∙ sym (all_past f xs past)

-- so many items from a place on
pub cut : {A : Type 0} (n f m k : ℕ) (xs : List A) → m ≡ min f (length xs)
    → k ≡ min (length (drop m xs)) n → take k (drop m xs) ≡ take n (drop f xs)
cut n f m k xs e g = taken_few n k (drop m xs) g ∙ ap (take n) (dropped_few f m xs e)

-- the same of a slice that ends where the list does
pub cut_twice : {A : Type 0} (n f m k : ℕ) (xs : List A) → m ≡ min f (length xs)
    → k ≡ min (length (take (length xs - m) (drop m xs))) n
    → take k (take (length xs - m) (drop m xs)) ≡ take n (drop f xs)
cut_twice n f m k xs e g =
    let all : take (length xs - m) (drop m xs) ≡ drop m xs =
    take_all (length xs - m) (drop m xs) (omega (arith, length-drop m xs)) in
    ap (take k) all ∙ cut n f m k xs e (g ∙ ap (λ ys. min (length ys) n) all)
