-- Reading and writing values one after the other, as a loop does.
use Rattle.std.proofs.Common.{◌≡◌, ℕ, suc, ◌-◌, ◌+◌, ◌≤◌, ◌<◌, List, [], ◌∷◌, ◌++◌, length, take}
use Rattle.std.proofs.Common.{get_or, Option, Some, None, refl, sym, ap, subst, ◌∙◌, append_assoc}
use Rattle.std.proofs.Common.{arith}
use Rattle.std.proofs.lemmas.List.{append-nil, take_more, take_all}
use Rattle.std.specs.List.{AllByRecursion}
use Rattle.record_form.specs.declared.cursor.Unread.{Unread}
use Rattle.record_form.specs.declared.cursor.Unread.TheVariants.{NoRecord, NoMemory}
use Rattle.std.specs.Int.{w16}
use Rattle.sample_book.specs.declared.row.Row.{Row}
use Rattle.record_form.specs.Form.{Form, and_then, number, spelling_of_each, reading_of_each}
use Rattle.record_form.specs.Records.{row, rows}
use Rattle.record_form.specs.Reading.{Fails, reading_behind}
use Rattle.record_form.proofs.FormLemmas.{some_is}

-- what was read before, and what is still read
abbrev pub with_front : {A : Type 0} → List A → Option (List A × List ℕ) → Option (List A × List ℕ)
with_front front read = and_then read (λ x. Some (front ++ x.0, x.1))

regroup : {A : Type 0} (front : List A) (x : A) (read : Option (List A × List ℕ))
    → with_front front (and_then read (λ xs. Some (x ∷ xs.0, xs.1)))
    ≡ with_front (front ++ x ∷ []) read
regroup {A = A} front x (Some xs) =
    ap (λ (all : List A). Some (all, xs.1)) (sym (append_assoc front (x ∷ []) xs.0))
regroup front x None = refl

pub goes_on : {A : Type 0} (form : Form A) (front : List A) (count i : ℕ) (bytes : List ℕ)
    (more : List A) (after : List ℕ) (total : Option (List A × List ℕ)) → i < count →
    reading_behind form front bytes ≡ Some (more, after) →
    with_front front (reading_of_each form (count - i) bytes) ≡ total →
    with_front more (reading_of_each form (count - (i + 1)) after) ≡ total
goes_on {A = A} form front count i bytes more after total lt e so_far =
    let k : count - i ≡ suc (count - (i + 1)) = omega arith in
    sym (by (form.read bytes) e)
    ∙ subst (λ (n : ℕ). with_front front (reading_of_each form n bytes) ≡ total) k so_far
  where
    by : (o : Option (A × List ℕ)) →
        and_then {B = List A × List ℕ} o (λ x. Some (front ++ x.0 ∷ [], x.1)) ≡ Some (more, after) →
        with_front front (and_then {B = List A × List ℕ} o (λ x. and_then {B = List A
        × List ℕ} (reading_of_each form (count - (i + 1)) x.1) (λ xs. Some (x.0 ∷ xs.0, xs.1))))
        ≡ with_front more (reading_of_each form (count - (i + 1)) after)
    by (Some x) e =
        regroup front x.0 (reading_of_each form (count - (i + 1)) x.1)
        ∙ ap (λ (p : List A × List ℕ). with_front p.0 (reading_of_each form (count - (i + 1)) p.1))
        (some_is (front ++ x.0 ∷ [], x.1) (more, after) e)
    by None e = absurd cc

pub ends : {A : Type 0} (e : Unread) (form : Form A) (front : List A) (count i : ℕ) (bytes : List ℕ)
    (total : Option (List A × List ℕ)) → i < count →
    Fails e (reading_behind form front bytes) →
    with_front front (reading_of_each form (count - i) bytes) ≡ total → Fails e total
ends NoMemory form front count i bytes total lt h so_far = tt
ends {A = A} NoRecord form front count i bytes total lt h so_far =
    let k : count - i ≡ suc (count - (i + 1)) = omega arith in
    sym (subst (λ (n : ℕ). with_front front (reading_of_each form n bytes) ≡ total) k so_far)
    ∙ by (form.read bytes) h
  where
    by : (o : Option (A × List ℕ)) →
        and_then {B = List A × List ℕ} o (λ x. Some (front ++ x.0 ∷ [], x.1)) ≡ None →
        with_front front (and_then {B = List A × List ℕ} o (λ x. and_then {B = List A × List ℕ}
        (reading_of_each form (count - (i + 1)) x.1) (λ xs. Some (x.0 ∷ xs.0, xs.1)))) ≡ None
    by (Some x) e = absurd cc
    by None e = refl

pub is_done : {A : Type 0} (form : Form A)
    (front : List A) (count i : ℕ) (bytes : List ℕ) (total : Option (List A × List ℕ)) → count ≤ i
    → with_front front (reading_of_each form (count - i) bytes) ≡ total
    → total ≡ Some (front, bytes)
is_done {A = A} form front count i bytes total le so_far =
    let k : count - i ≡ 0 = omega arith in
    let one : with_front front (reading_of_each form (count - i) bytes) ≡ Some (front, bytes) =
    rw k (ap (λ (all : List A). Some (all, bytes)) (append-nil front)) in
    sym so_far ∙ one

pub each_push : {A : Type 0} (form : Form A)
    → ((x : A) (a b : List ℕ) → form.write x (a ++ b) ≡ form.write x a ++ b) → (xs : List A) (x : A)
    → spelling_of_each form (xs ++ x ∷ []) [] ≡ spelling_of_each form xs [] ++ form.write x []
each_push form front [] x = refl
each_push form front (y ∷ ys) x = ap (form.write y) (each_push form front ys x)
    ∙ front y (spelling_of_each form ys []) (form.write x [])

pub fits_push : {A : Type 0} (Fits : A → Type 0) (xs : List A) (x : A) → AllByRecursion Fits xs
    → Fits x → AllByRecursion Fits (xs ++ x ∷ [])
fits_push Fits [] x h f = (f, tt)
fits_push Fits (y ∷ ys) x h f = (h.0, fits_push Fits ys x h.1 f)

-- one value more is written
pub wrote_one : {A : Type 0} (form : Form A) →
    ((x : A) (a b : List ℕ) → form.write x (a ++ b) ≡ form.write x a ++ b) →
    (old : List ℕ) (all : List A) (i : ℕ) (x : A) (out more : List ℕ) → i < length all →
    x ≡ get_or all i x →
    out ≡ old ++ spelling_of_each form (take i all) [] → more ≡ out ++ form.write x [] →
    more ≡ old ++ spelling_of_each form (take (i + 1) all) []
wrote_one {A = A} form front old all i x out more lt is so e =
    e ∙ ap (λ (bytes : List ℕ). bytes ++ form.write x []) so
    ∙ append_assoc old (spelling_of_each form (take i all) []) (form.write x [])
    ∙ ap (λ (bytes : List ℕ). old ++ bytes)
    (sym (each_push form front (take i all) x) ∙ ap (λ (xs : List A). spelling_of_each form xs [])
    (ap (λ (y : A). take i all ++ y ∷ []) is ∙ sym (take_more all i x lt)))

pub fits_one : {A : Type 0} (Fits : A → Type 0) (all : List A) (i : ℕ) (x : A)
    → i < length all → x ≡ get_or all i x → AllByRecursion Fits (take i all) → Fits x
    → AllByRecursion Fits (take (i + 1) all)
fits_one {A = A} Fits all i x lt is so f =
    subst (AllByRecursion Fits) (ap (λ (y : A). take i all ++ y ∷ []) is
    ∙ sym (take_more all i x lt)) (fits_push Fits (take i all) x so f)

-- the rows of a batch are written
pub rows_written : (old out : List ℕ) (all : List Row) (i : ℕ) → length all ≤ i
    → out ≡ (old ++ (number w16).write (length all) []) ++ spelling_of_each row (take i all) []
    → out ≡ old ++ rows.write all []
unfolding rows
rows_written old out all i le e =
    e
    ∙ ap (λ (rs : List Row). (old ++ (number w16).write (length all) [])
    ++ spelling_of_each row rs []) (take_all i all le)
    ∙ append_assoc old ((number w16).write (length all) []) (spelling_of_each row all [])
