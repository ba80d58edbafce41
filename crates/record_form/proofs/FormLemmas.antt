-- Each form that is made of exact forms is exact: a value is read back whatever follows it, and
-- what is read is spelled so.
use Rattle.std.proofs.Common.{◌≡◌, ℕ, zero, suc, ◌+◌, ◌^◌, ◌<◌, ◌≤◌, Bool, true, false, cond, ltb}
use Rattle.std.proofs.Common.{nat_lt, nat_eq, ◌⊎◌, List, [], ◌∷◌, ◌++◌, length, get_or, take, drop}
use Rattle.std.proofs.Common.{Option, Some, None, refl, sym, ap, subst, ◌∙◌, append_assoc, arith}
use Rattle.std.proofs.Common.{inl, inr}
use Rattle.std.specs.Prelude.{IsTrue}
use Rattle.std.specs.List.{AllByRecursion}
use Rattle.std.specs.Int.{Width, w16, w32, w64, byte_len, from_be_bytes, to_be_bytes}
use Rattle.std.proofs.lemmas.Bool.{cases_lt, ltb-false, le-ltb, eqb-true}
use Rattle.std.proofs.lemmas.List.{take_at, drop_at, take-append-drop, length-append, length-take}
use Rattle.std.proofs.lemmas.List.{get_or-drop, get_or-take, get_or_past}
use Rattle.std.proofs.lemmas.Nat.{be_bytes_2, be_bytes_4, be_bytes_8, from_be_bytes-to_be_bytes_2}
use Rattle.std.proofs.lemmas.Nat.{from_be_bytes-to_be_bytes_4, from_be_bytes-to_be_bytes_8}
use Rattle.record_form.specs.Form.{Form, and_then, byte, first_byte, number, first_bytes, text}
use Rattle.record_form.specs.Form.{passing, ◌then◌, form_by_parts, form_of_list, reading_as}
use Rattle.record_form.specs.Form.{reading_of_each, spelling_of_each}

abbrev pub IsBytes : List ℕ → Type 0
IsBytes bytes = (i : ℕ) → get_or bytes i 0 < 256

IsBytes-drop : (n : ℕ) (bytes : List ℕ) → IsBytes bytes → IsBytes (drop n bytes)
IsBytes-drop n bytes h i = rw get_or-drop (h (n + i))

IsBytes-take : (n : ℕ) (bytes : List ℕ) → IsBytes bytes → IsBytes (take n bytes)
IsBytes-take n bytes h i =
    elim (cases_lt i n) [
      | inl lt ↦ rw (get_or-take n bytes i 0 lt) (h i)
      | inr le ↦ rw (get_or_past (take n bytes) i 0 (omega (arith, length-take n bytes)))
          (omega arith)
    ]

pub IsBytes-rest : (b : ℕ) (bytes : List ℕ) → IsBytes (b ∷ bytes) → IsBytes bytes
IsBytes-rest b bytes h i = h (suc i)

-- ---- what a step that read something read

abbrev something : {A : Type 0} → A → Option A
something x = Some x

pub some_is : {A : Type 0} (x y : A) → something x ≡ something y → x ≡ y
some_is x y e = cc

pub and_then_some : {A B : Type 0} (o : Option A) (f : A → Option B) (y : B) → and_then o f ≡ Some y
    → (x : A) × (o ≡ Some x) × (f x ≡ Some y)
and_then_some (Some x) f y e = (x, refl, e)
and_then_some None f y e = absurd cc

pub where_true : {A : Type 0} (b : Bool) (x y : A) → cond b (Some x) None ≡ Some y
    → (b ≡ true) × (x ≡ y)
where_true true x y e = (refl, cc)
where_true false x y e = absurd cc

pub where_false : {A : Type 0} (b : Bool) (x y : A) → cond b None (Some x) ≡ Some y
    → (b ≡ false) × (x ≡ y)
where_false true x y e = absurd cc
where_false false x y e = (refl, cc)

-- the value stands in front of the rest
pub record Stands {A : Type 0} (form : Form A) (Fits : A → Type 0) (bytes : List ℕ)
    (found : A × List ℕ) : Type 0 where
  pub spelled : bytes ≡ form.write found.0 found.1
  pub fits : Fits found.0
  pub rest : IsBytes found.1

pub record IsExact {A : Type 0} (form : Form A) (Fits : A → Type 0) : Type 0 where
  pub again : (x : A) (rest : List ℕ) → Fits x → form.read (form.write x rest) ≡ Some (x, rest)
  pub only : (bytes : List ℕ) (found : A × List ℕ) → IsBytes bytes → form.read bytes ≡ Some found
      → Stands form Fits bytes found
  pub front : (x : A) (a b : List ℕ) → form.write x (a ++ b) ≡ form.write x a ++ b

-- ---- numbers

pub record IsWide (w : Width) (limit : ℕ) : Type 0 where
  pub len : (n : ℕ) → length (to_be_bytes w n) ≡ byte_len w
  pub back : (bytes : List ℕ) → length bytes ≡ byte_len w → IsBytes bytes
      → to_be_bytes w (from_be_bytes w bytes) ≡ bytes
  pub again : (n : ℕ) → n < limit → from_be_bytes w (to_be_bytes w n) ≡ n
  pub below : (bytes : List ℕ) → IsBytes bytes → from_be_bytes w bytes < limit

wide16 : IsWide w16 (2 ^ 16)
wide16 = record {
  len = λ n. refl;
  back = λ bytes len fits. be_bytes_2 bytes _ len fits refl;
  again = λ n lt. from_be_bytes-to_be_bytes_2 n lt;
  below = λ bytes fits. omega (arith, fits 0, fits 1);
}

wide32 : IsWide w32 (2 ^ 32)
wide32 = record {
  len = λ n. refl;
  back = λ bytes len fits. be_bytes_4 bytes _ len fits refl;
  again = λ n lt. from_be_bytes-to_be_bytes_4 n lt;
  below = λ bytes fits. omega (arith, fits 0, fits 1, fits 2, fits 3);
}

wide64 : IsWide w64 (2 ^ 64)
wide64 = record {
  len = λ n. refl;
  back = λ bytes len fits. be_bytes_8 bytes _ len fits refl;
  again = λ n lt. from_be_bytes-to_be_bytes_8 n lt;
  below = λ bytes fits. omega (
    arith,
    fits 0,
    fits 1,
    fits 2,
    fits 3,
    fits 4,
    fits 5,
    fits 6,
    fits 7,
  );
}

number_only : (w : Width) (limit : ℕ) → IsWide w limit
    → (bytes : List ℕ) (found : ℕ × List ℕ) → IsBytes bytes → (number w).read bytes ≡ Some found
    → Stands (number w) (λ n. n < limit) bytes found
number_only w limit wide bytes found fits e =
    let g = where_false (nat_lt (length bytes) (byte_len w))
    (from_be_bytes w (take (byte_len w) bytes), drop (byte_len w) bytes) found e in
    subst (λ (p : ℕ × List ℕ). Stands (number w) (λ n. n < limit) bytes p) g.1
    (whole (ltb-false _ _ g.0))
  where
    whole : byte_len w ≤ length bytes
        → Stands (number w) (λ n. n < limit) bytes (
          from_be_bytes w (take (byte_len w) bytes),
          drop (byte_len w) bytes,
        )
    whole long =
        let front : to_be_bytes w (from_be_bytes w (take (byte_len w) bytes))
        ≡ take (byte_len w) bytes =
        wide.back (take (byte_len w) bytes) (omega (arith, length-take (byte_len w) bytes))
        (IsBytes-take (byte_len w) bytes fits) in
        record {
          spelled = rw front (sym (take-append-drop (byte_len w) bytes));
          fits = wide.below (take (byte_len w) bytes) (IsBytes-take (byte_len w) bytes fits);
          rest = IsBytes-drop (byte_len w) bytes fits;
        }

number_again : (w : Width) (limit : ℕ) → IsWide w limit → (n : ℕ) (rest : List ℕ) → n < limit
    → (number w).read (to_be_bytes w n ++ rest) ≡ Some (n, rest)
number_again w limit wide n rest lt =
    let len = wide.len n in
    let long : ltb (length (to_be_bytes w n ++ rest)) (byte_len w) ≡ false =
    le-ltb _ _ (omega (arith, length-append (to_be_bytes w n) rest)) in
    rw (
      long,
      take_at (to_be_bytes w n) rest (byte_len w) len,
      drop_at (to_be_bytes w n) rest (byte_len w) len,
      wide.again n lt,
    ) refl

number_exact : (w : Width) (limit : ℕ) → IsWide w limit → IsExact (number w) (λ n. n < limit)
number_exact w limit wide = record {
  again = number_again w limit wide;
  only = number_only w limit wide;
  front = λ n a b. sym (append_assoc (to_be_bytes w n) a b);
}

pub exact16 : IsExact (number w16) (λ n. n < 2 ^ 16)
exact16 = number_exact w16 (2 ^ 16) wide16

pub exact32 : IsExact (number w32) (λ n. n < 2 ^ 32)
exact32 = number_exact w32 (2 ^ 32) wide32

pub exact64 : IsExact (number w64) (λ n. n < 2 ^ 64)
exact64 = number_exact w64 (2 ^ 64) wide64

byte_only : (bytes : List ℕ) (found : ℕ × List ℕ) → IsBytes bytes → first_byte bytes ≡ Some found
    → Stands byte (λ n. n < 256) bytes found
byte_only [] found fits e = absurd cc
byte_only (n ∷ bytes) found fits e =
    subst (Stands byte (λ n. n < 256) (n ∷ bytes)) (some_is (n, bytes) found e)
    (record { spelled = refl; fits = fits 0; rest = IsBytes-rest n bytes fits })

pub byte_exact : IsExact byte (λ n. n < 256)
byte_exact = record { again = λ n rest lt. refl; only = byte_only; front = λ n a b. refl }

-- ---- forms of forms

pub passing_exact : {A : Type 0} (passes : A → Bool) (form : Form A) (Fits : A → Type 0)
    → IsExact form Fits → IsExact (passing passes form) (λ x. Fits x × IsTrue (passes x))
passing_exact {A = A} passes form Fits exact = record {
  again = λ x rest h. rw (exact.again x rest h.0, h.1) refl;
  only = only;
  front = exact.front;
}
  where
    only : (bytes : List ℕ) (found : A × List ℕ) → IsBytes bytes → (passing passes form).read bytes
        ≡ Some found → Stands (passing passes form) (λ x. Fits x × IsTrue (passes x)) bytes found
    only bytes found fits e =
        let x = and_then_some (form.read bytes) (λ x. cond (passes x.0) (Some x) None) found e in
        let kept = where_true (passes x.0.0) x.0 found x.2 in
        let stands = exact.only bytes x.0 fits x.1 in
        subst (Stands (passing passes form) (λ x. Fits x × IsTrue (passes x)) bytes) kept.1
        (record { spelled = stands.spelled; fits = (stands.fits, kept.0); rest = stands.rest })

-- the same form of values that are told otherwise
pub told_exact : {A : Type 0} (form : Form A) (Fits Others : A → Type 0) → IsExact form Fits
    → ((x : A) → Fits x → Others x) → ((x : A) → Others x → Fits x) → IsExact form Others
told_exact {A = A} form Fits Others exact to from = record {
  again = λ x rest h. exact.again x rest (from x h);
  only = only;
  front = exact.front;
}
  where
    only : (bytes : List ℕ) (found : A × List ℕ) → IsBytes bytes → form.read bytes ≡ Some found
        → Stands form Others bytes found
    only bytes found fits e =
        let stands = exact.only bytes found fits e in
        record { spelled = stands.spelled; fits = to found.0 stands.fits; rest = stands.rest }

pub then_exact : {A B : Type 0} (one : Form A) (other : Form B)
    (Fits : A → Type 0) (Follows : B → Type 0) → IsExact one Fits → IsExact other Follows
    → IsExact (one then other) (λ p. Fits p.0 × Follows p.1)
then_exact {A = A} {B = B} one other Fits Follows first second = record {
  again = λ p rest h. rw (
    first.again p.0 (other.write p.1 rest) h.0,
    second.again p.1 rest h.1,
  ) refl;
  only = only;
  front = λ p a b. ap (one.write p.0) (second.front p.1 a b)
      ∙ first.front p.0 (other.write p.1 a) b;
}
  where
    only : (bytes : List ℕ) (found : (A × B) × List ℕ) → IsBytes bytes → (one then other).read bytes
        ≡ Some found → Stands (one then other) (λ p. Fits p.0 × Follows p.1) bytes found
    only bytes found fits e =
        let x = and_then_some (one.read bytes)
        (λ x. and_then (other.read x.1) (λ y. Some ((x.0, y.0), y.1))) found e in
        let y = and_then_some (other.read x.0.1) (λ y. Some ((x.0.0, y.0), y.1)) found x.2 in
        let front = first.only bytes x.0 fits x.1 in
        let behind = second.only x.0.1 y.0 front.rest y.1 in
        subst (Stands (one then other) (λ p. Fits p.0 × Follows p.1) bytes)
        (some_is ((x.0.0, y.0.0), y.0.1) found y.2)
        (record {
          spelled = front.spelled ∙ ap (one.write x.0.0) behind.spelled;
          fits = (front.fits, behind.fits);
          rest = behind.rest;
        })

-- what was read as another value
pub read_as_some : {A B : Type 0} (make : A → B) (form : Form A) (Fits : A → Type 0) →
    IsExact form Fits → (bytes : List ℕ) (found : B × List ℕ) → IsBytes bytes →
    reading_as make form bytes ≡ Some found →
    (x : A) × (found.0 ≡ make x) × Stands form Fits bytes (x, found.1)
read_as_some {B = B} make form Fits exact bytes found fits e =
    let x = and_then_some (form.read bytes) (λ x. Some (make x.0, x.1)) found e in
    let is = some_is (make x.0.0, x.0.1) found x.2 in (
      x.0.0,
      sym (ap (λ (p : B × List ℕ). p.0) is),
      subst (λ (rest : List ℕ). Stands form Fits bytes (x.0.0, rest))
          (ap (λ (p : B × List ℕ). p.1) is) (exact.only bytes x.0 fits x.1),
    )

pub made_exact : {A B : Type 0} (make : A → B) (parts : B → A) (form : Form A) (Fits : A → Type 0) →
    ((x : A) → parts (make x) ≡ x) → ((y : B) → make (parts y) ≡ y) → IsExact form Fits →
    IsExact (form_by_parts make parts form) (λ y. Fits (parts y))
made_exact {A = A} {B = B} make parts form Fits parted remade exact = record {
  again = λ y rest h. rw (exact.again (parts y) rest h) (ap (λ (z : B). Some (z, rest)) (remade y));
  only = only;
  front = λ y a b. exact.front (parts y) a b;
}
  where
    only : (bytes : List ℕ) (found : B × List ℕ) → IsBytes bytes → reading_as make form bytes
        ≡ Some found → Stands (form_by_parts make parts form) (λ y. Fits (parts y)) bytes found
    only bytes found fits e =
        let x = read_as_some make form Fits exact bytes found fits e in
        let is : x.0 ≡ parts found.0 = sym (ap parts x.1 ∙ parted x.0) in
        record {
          spelled = x.2.spelled ∙ ap (λ (z : A). form.write z found.1) is;
          fits = subst Fits is x.2.fits;
          rest = x.2.rest;
        }

-- ---- texts and lists

pub text_exact : (count : Form ℕ) (Fits : ℕ → Type 0) → IsExact count Fits
    → IsExact (text count) (λ bytes. Fits (length bytes))
text_exact count Fits exact = record { again = again; only = only; front = front }
  where
    again : (bytes rest : List ℕ) → Fits (length bytes)
        → (text count).read ((text count).write bytes rest) ≡ Some (bytes, rest)
    again bytes rest h =
        let long : ltb (length (bytes ++ rest)) (length bytes) ≡ false =
        le-ltb _ _ (omega (arith, length-append bytes rest)) in
        rw (
          exact.again (length bytes) (bytes ++ rest) h,
          long,
          take_at bytes rest (length bytes) refl,
          drop_at bytes rest (length bytes) refl,
        ) refl

    only : (bytes : List ℕ) (found : List ℕ × List ℕ) → IsBytes bytes → (text count).read bytes
        ≡ Some found → Stands (text count) (λ inside. Fits (length inside)) bytes found
    only bytes found fits e =
        let n = and_then_some (count.read bytes) (λ n. first_bytes n.0 n.1) found e in
        let g = where_false (nat_lt (length n.0.1) n.0.0) (
          take n.0.0 n.0.1,
          drop n.0.0 n.0.1,
        ) found n.2 in
        let counted = exact.only bytes n.0 fits n.1 in
        let len : length (take n.0.0 n.0.1) ≡ n.0.0 = omega (
          arith,
          length-take n.0.0 n.0.1,
          ltb-false _ _ g.0,
        ) in
        subst (Stands (text count) (λ inside. Fits (length inside)) bytes) g.1
        (record {
          spelled = counted.spelled ∙ ap (count.write n.0.0) (sym (take-append-drop n.0.0 n.0.1))
              ∙ ap (λ (k : ℕ). count.write k (take n.0.0 n.0.1 ++ drop n.0.0 n.0.1)) (sym len);
          fits = subst Fits (sym len) counted.fits;
          rest = IsBytes-drop n.0.0 n.0.1 counted.rest;
        })

    front : (bytes a b : List ℕ) → count.write (length bytes) (bytes ++ (a ++ b))
        ≡ count.write (length bytes) (bytes ++ a) ++ b
    front bytes a b = ap (count.write (length bytes)) (sym (append_assoc bytes a b))
        ∙ exact.front (length bytes) (bytes ++ a) b

pub each_front : {A : Type 0} (form : Form A)
    → ((x : A) (a b : List ℕ) → form.write x (a ++ b) ≡ form.write x a ++ b)
    → (xs : List A) (a b : List ℕ)
    → spelling_of_each form xs (a ++ b) ≡ spelling_of_each form xs a ++ b
each_front form front [] a b = refl
each_front form front (x ∷ xs) a b = ap (form.write x) (each_front form front xs a b)
    ∙ front x (spelling_of_each form xs a) b

each_again : {A : Type 0} (form : Form A) (Fits : A → Type 0) → IsExact form Fits
    → (xs : List A) (rest : List ℕ) → AllByRecursion Fits xs
    → reading_of_each form (length xs) (spelling_of_each form xs rest) ≡ Some (xs, rest)
each_again form Fits exact [] rest h = refl
each_again form Fits exact (x ∷ xs) rest h = rw (
  exact.again x (spelling_of_each form xs rest) h.0,
  each_again form Fits exact xs rest h.1,
) refl

pub record AreEach {A : Type 0} (form : Form A) (Fits : A → Type 0) (count : ℕ) (bytes : List ℕ)
    (found : List A × List ℕ) : Type 0 where
  pub many : length found.0 ≡ count
  pub spelled : bytes ≡ spelling_of_each form found.0 found.1
  pub fits : AllByRecursion Fits found.0
  pub rest : IsBytes found.1

each_only : {A : Type 0} (form : Form A) (Fits : A → Type 0) → IsExact form Fits
    → (count : ℕ) (bytes : List ℕ) (found : List A × List ℕ) → IsBytes bytes
    → reading_of_each form count bytes ≡ Some found → AreEach form Fits count bytes found
each_only form Fits exact zero bytes found fits e =
    subst (AreEach form Fits zero bytes) (some_is ([], bytes) found e)
    (record { many = refl; spelled = refl; fits = tt; rest = fits })
each_only form Fits exact (suc n) bytes found fits e =
    let x = and_then_some (form.read bytes)
    (λ x. and_then (reading_of_each form n x.1) (λ xs. Some (x.0 ∷ xs.0, xs.1))) found e in
    let xs = and_then_some (reading_of_each form n x.0.1) (λ xs. Some (x.0.0 ∷ xs.0, xs.1)) found
    x.2 in
    let first = exact.only bytes x.0 fits x.1 in
    let others = each_only form Fits exact n x.0.1 xs.0 first.rest xs.1 in
    subst (AreEach form Fits (suc n) bytes) (some_is (x.0.0 ∷ xs.0.0, xs.0.1) found xs.2)
    (record {
      many = ap suc others.many;
      spelled = first.spelled ∙ ap (form.write x.0.0) others.spelled;
      fits = (first.fits, others.fits);
      rest = others.rest;
    })

pub counted_exact : {A : Type 0} (count : Form ℕ)
    (Few : ℕ → Type 0) (form : Form A) (Fits : A → Type 0) → IsExact count Few → IsExact form Fits
    → IsExact (form_of_list count form) (λ xs. Few (length xs) × AllByRecursion Fits xs)
counted_exact {A = A} count Few form Fits many exact = record {
  again = λ xs rest h. rw (many.again (length xs) (spelling_of_each form xs rest) h.0)
      (each_again form Fits exact xs rest h.1);
  only = only;
  front = λ xs a b. ap (count.write (length xs)) (each_front form exact.front xs a b)
      ∙ many.front (length xs) (spelling_of_each form xs a) b;
}
  where
    only : (bytes : List ℕ) (found : List A × List ℕ)
        → IsBytes bytes → (form_of_list count form).read bytes ≡ Some found
        → Stands (form_of_list count form) (λ xs. Few (length xs) × AllByRecursion Fits xs)
        bytes found
    only bytes found fits e =
        let n = and_then_some (count.read bytes) (λ n. reading_of_each form n.0 n.1) found e in
        let number = many.only bytes n.0 fits n.1 in
        let each = each_only form Fits exact n.0.0 n.0.1 found number.rest n.2 in
        record {
          spelled = number.spelled ∙ ap (count.write n.0.0) each.spelled
              ∙ ap (λ (k : ℕ). count.write k (spelling_of_each form found.0 found.1))
              (sym each.many);
          fits = (subst Few (sym each.many) number.fits, each.fits);
          rest = each.rest;
        }

-- ---- values of several forms, each behind a number of its own

pub arm : {A : Type 0} (k n : ℕ) (this others : Option A) (y : A)
    → cond (nat_eq k n) this others ≡ Some y → ((k ≡ n) × (this ≡ Some y)) ⊎ (others ≡ Some y)
arm k n this others y e = pick (nat_eq k n) (eqb-true k n) e
  where
    pick : (b : Bool) → (b ≡ true → k ≡ n) → cond b this others ≡ Some y
        → ((k ≡ n) × (this ≡ Some y)) ⊎ (others ≡ Some y)
    pick true is e = inl (is refl, e)
    pick false is e = inr e

pub tagged : {A B : Type 0} (whole : Form B) (Fits : B → Type 0) (n : ℕ) (make : A → B)
    (form : Form A) (FitsPart : A → Type 0) → IsExact form FitsPart →
    ((x : A) (rest : List ℕ) → whole.write (make x) rest ≡ n ∷ form.write x rest) →
    ((x : A) → FitsPart x → Fits (make x)) →
    (k : ℕ) (bytes : List ℕ) (found : B × List ℕ) → IsBytes (k ∷ bytes) →
    (k ≡ n) × (reading_as make form bytes ≡ Some found) → Stands whole Fits (k ∷ bytes) found
tagged {B = B} whole Fits n make form FitsPart exact wrote fit k bytes found fits h =
    let x = read_as_some make form FitsPart exact bytes found (IsBytes-rest k bytes fits) h.1 in
    record {
      spelled = ap (λ (rest : List ℕ). k ∷ rest) x.2.spelled
          ∙ ap (λ (m : ℕ). m ∷ form.write x.0 found.1) h.0 ∙ sym (wrote x.0 found.1)
          ∙ ap (λ (y : B). whole.write y found.1) (sym x.1);
      fits = subst Fits (sym x.1) (fit x.0 x.2.fits);
      rest = x.2.rest;
    }
