use Rattle.std.proofs.Common.{◌≡◌, ℕ, suc, ◌+◌, ◌-◌, ◌*◌, ◌^◌, ◌<◌, ◌≤◌, Bool, true, false, ◌||◌}
use Rattle.std.proofs.Common.{not, cond, IsTrue, nat_lt, nat_le, ◌==◌, List, [], ◌∷◌, ◌++◌, length}
use Rattle.std.proofs.Common.{take, drop, get_or, length-append, nat_cmp, Result, Ok, Err, refl}
use Rattle.std.proofs.Common.{sym, ap, ◌∙◌, subst, arith}
use Rattle.std.proofs.Math.Nat.{mul-le-mul_left, pow-le-pow_right}
use Rattle.std.proofs.Math.Seq.{drop-cons, take-add, take-append-add, take-append_seam}
use Rattle.std.proofs.Math.Seq.{drop-append_seam}
use Rattle.std.proofs.lemmas.Bool.Decides.{nat_tests}
use Rattle.std.proofs.lemmas.List.{get_or-take, nil_from_length, take_all, append-nil}
use Rattle.std.proofs.lemmas.List.{take-append-drop, append_assoc, get_or-append-add}
use Rattle.std.proofs.lemmas.List.Folds.{length-prefix_len, list_all-append}
use Rattle.std.proofs.lemmas.List.Sums.{list_all-from_AllPass, prefix_len-le-length}
use Rattle.std.proofs.lemmas.List.Sums.{prefix_len_passes, prefix_len_stops}
use Rattle.std.proofs.lemmas.Cmp.{ranked}
use Rattle.std.specs.Ordering.{MatchOrdering}
use Rattle.std.specs.declared.cmp.Ordering.{Ordering}
use Rattle.std.specs.declared.cmp.Ordering.TheVariants.{Less, Equal, Greater}
use Rattle.std.specs.Char.{is_ascii_digit}
use Rattle.std.specs.List.{list_all}
use Rattle.slo_limits.specs.declared.TheConstants.{MAX_DECIMAL}
use Rattle.exact_fraction.proofs.BoolFacts.{both-true, true-both, same, below, above, positive}
use Rattle.exact_fraction.proofs.BoolFacts.{shorter}
use Rattle.exact_fraction.specs.Digits.{is_number}
use Rattle.exact_fraction.specs.Decimal.{AnswersDecimal, BeginsDecimal, IsDecimal, IsShortDecimal}
use Rattle.exact_fraction.specs.Decimal.{StopsAt, billionths_of, with_point}
use Rattle.exact_fraction.specs.DecimalCuts.{after_point, decimal_by_cuts, leading_digits, worth_of}
use Rattle.exact_fraction.specs.declared.decimal.DecimalFault.{DecimalFault}
use Rattle.exact_fraction.specs.declared.decimal.DecimalFault.TheVariants.{Empty, BadByte}
use Rattle.exact_fraction.specs.declared.decimal.DecimalFault.TheVariants.{TooManyDecimals}
use Rattle.exact_fraction.specs.declared.decimal.DecimalFault.TheVariants.{TooLarge}

pub billionths-fit : (w d k : ℕ) → w ≤ 2 ^ 64 → d ≤ 2 ^ 64 → k ≤ 9
    → w * 1000000000 + d * 10 ^ k < 2 ^ 128
billionths-fit w d k hw hd hk =
    let small : 10 ^ k ≤ 10 ^ 9 = pow-le-pow_right (omega arith) hk in
    let part : d * 10 ^ k ≤ d * 10 ^ 9 = mul-le-mul_left d small in
    omega arith

choose : {X : Type 0} (P : X → Type 0) (b : Bool) (x y : X) → (b ≡ true → P x) → (b ≡ false → P y)
    → P (cond b x y)
choose P true x y f g = f refl
choose P false x y f g = g refl

-- ---- where a reader of a decimal text stands

data Place : Type 0 where
  AtStart : Place
  InWhole : Place
  AtPoint : Place
  InDecimals : Place
  Dead : Place

abbrev step : Place → ℕ → Place
step AtStart c = cond (is_ascii_digit c) InWhole Dead
step InWhole c = cond (is_ascii_digit c) InWhole (cond (c == 46) AtPoint Dead)
step AtPoint c = cond (is_ascii_digit c) InDecimals Dead
step InDecimals c = cond (is_ascii_digit c) InDecimals Dead
step Dead c = Dead

abbrev run : Place → List ℕ → Place
run p [] = p
run p (c ∷ cs) = run (step p c) cs

-- whether a decimal text may go on from here, and whether it may end here
abbrev live : Place → Bool
live AtStart = true
live InWhole = true
live AtPoint = true
live InDecimals = true
live Dead = false

abbrev ends : Place → Bool
ends AtStart = false
ends InWhole = true
ends AtPoint = false
ends InDecimals = true
ends Dead = false

run-append : (p : Place) (xs ys : List ℕ) → run p (xs ++ ys) ≡ run (run p xs) ys
run-append p [] ys = refl
run-append p (x ∷ xs) ys = run-append (step p x) xs ys

run-dead : (xs : List ℕ) → run Dead xs ≡ Dead
run-dead [] = refl
run-dead (x ∷ xs) = run-dead xs

run-whole : (ds : List ℕ) → IsTrue (list_all is_ascii_digit ds) → run InWhole ds ≡ InWhole
run-whole [] h = refl
run-whole (c ∷ cs) h =
    ap (λ b. run (cond b InWhole (cond (c == 46) AtPoint Dead)) cs) (both-true _ _ h).0
    ∙ run-whole cs (both-true _ _ h).1

run-decimals : (ds : List ℕ) → IsTrue (list_all is_ascii_digit ds) → run InDecimals ds ≡ InDecimals
run-decimals [] h = refl
run-decimals (c ∷ cs) h = ap (λ b. run (cond b InDecimals Dead) cs) (both-true _ _ h).0
    ∙ run-decimals cs (both-true _ _ h).1

run-number : (w : List ℕ) → IsTrue (is_number w) → run AtStart w ≡ InWhole
run-number [] h = absurd (cc)
run-number (c ∷ cs) h =
    let ds = (both-true _ _ h).1 in
    ap (λ b. run (cond b InWhole Dead) cs) (both-true _ _ ds).0 ∙ run-whole cs (both-true _ _ ds).1

ends-with_point : (d : List ℕ) → IsTrue (list_all is_ascii_digit d)
    → ends (run InWhole (with_point d)) ≡ true
ends-with_point [] h = refl
ends-with_point (c ∷ cs) h = ap ends (ap (λ b. run (cond b InDecimals Dead) cs) (both-true _ _ h).0
    ∙ run-decimals cs (both-true _ _ h).1)

ends-decimal : (text w d : List ℕ) → IsDecimal text w d → ends (run AtStart text) ≡ true
ends-decimal text w d h =
    ap (λ t. ends (run AtStart t)) h.form
    ∙ ap ends (run-append AtStart w (with_point d)
    ∙ ap (λ p. run p (with_point d)) (run-number w h.whole_digits))
    ∙ ends-with_point d h.decimal_digits

live-before : (p : Place) (rest : List ℕ) → ends (run p rest) ≡ true → live p ≡ true
live-before AtStart rest h = refl
live-before InWhole rest h = refl
live-before AtPoint rest h = refl
live-before InDecimals rest h = refl
live-before Dead rest h = ap ends (sym (run-dead rest)) ∙ h

live-begins : (bytes : List ℕ) → BeginsDecimal bytes → live (run AtStart bytes) ≡ true
live-begins bytes h =
    let e = ends-decimal (bytes ++ h.0) h.1.0 h.1.1.0 h.1.1.1 in
    live-before (run AtStart bytes) h.0 (ap ends (sym (run-append AtStart bytes h.0)) ∙ e)

-- one byte more, of which a reader dies
take-next : (n : ℕ) (text : List ℕ) → n < length text
    → take (n + 1) text ≡ take n text ++ (get_or text n 0 ∷ [])
take-next n text h = take-add n 1 text ∙ ap (λ r. take n text ++ take 1 r) (drop-cons text n 0 h)

dies-here : (text : List ℕ) (n : ℕ)
    → n < length text → step (run AtStart (take n text)) (get_or text n 0) ≡ Dead
    → BeginsDecimal (take (n + 1) text) → ⊥
dies-here text n h dead begins =
    let on = live-begins (take (n + 1) text) begins in
    let off : run AtStart (take (n + 1) text) ≡ Dead =
    ap (run AtStart) (take-next n text h)
    ∙ run-append AtStart (take n text) (get_or text n 0 ∷ []) ∙ dead in
    let no : false ≡ true = ap live (sym off) ∙ on in
    absurd (cc)

-- ---- the digits that a text begins with

leading-all : (xs : List ℕ) → IsTrue (list_all is_ascii_digit (take (leading_digits xs) xs))
leading-all xs =
    list_all-from_AllPass
    is_ascii_digit
    (take (leading_digits xs) xs)
    (λ k d h.
    let within = length-prefix_len is_ascii_digit xs in
    let low : k < leading_digits xs = omega arith in
    ap is_ascii_digit (get_or-take (leading_digits xs) xs k d low)
    ∙ prefix_len_passes is_ascii_digit xs k d low)

leading-number : (xs : List ℕ) → (leading_digits xs == 0) ≡ false
    → IsTrue (is_number (take (leading_digits xs) xs))
leading-number xs h =
    true-both _ _ (ap (λ n. not (n == 0)) (length-prefix_len is_ascii_digit xs) ∙ ap not h)
    (leading-all xs)

all-leading : (xs : List ℕ) → leading_digits xs ≡ length xs → IsTrue (list_all is_ascii_digit xs)
all-leading xs e =
    let P : List ℕ → Type 0 = λ t. IsTrue (list_all is_ascii_digit t) in
    subst P (take_all (leading_digits xs) xs (omega arith)) (leading-all xs)

-- ---- the cuts

answers-worth : (text w d : List ℕ) → IsDecimal text w d → AnswersDecimal text (worth_of w d)
answers-worth text w d form =
    choose
    (AnswersDecimal text)
    (nat_lt 9 (length d))
    (Err TooManyDecimals)
    _
    (λ e. (w, (d, (form, (grind (arith, nat_tests))))))
    (λ e.
    let few : length d ≤ 9 = grind (arith, nat_tests) in
    let short : IsShortDecimal text w d = record { is_decimal = form; few = few } in
    choose
    (AnswersDecimal text)
    (nat_le (billionths_of w d) 1000000000000000000)
    (Ok (billionths_of w d))
    (Err TooLarge)
    (λ f. (w, (d, (short, refl, below _ _ f))))
    (λ f. (w, (d, (short, above _ _ f)))))

not-empty : (text : List ℕ) → 0 < length text → text ≡ [] → ⊥
not-empty text h e = let none : length text ≡ 0 = ap length e in omega arith

answers-start : (text : List ℕ) → (length text == 0) ≡ false → (leading_digits text == 0) ≡ true
    → AnswersDecimal text (Err (BadByte 0))
answers-start text some none =
    let long = positive _ some in
    let zero-digits : leading_digits text ≡ 0 = same _ _ none in
    let stop = prefix_len_stops is_ascii_digit text 0 (omega arith) in
    let byte : is_ascii_digit (get_or text 0 0) ≡ false =
    ap (λ n. is_ascii_digit (get_or text n 0)) (sym zero-digits) ∙ stop in (
      not-empty text long,
      record {
        within = omega arith;
        good_before = (
          48 ∷ [],
          (
            48 ∷ [],
            ([], record { whole_digits = refl; decimal_digits = refl; form = refl }),
          ),
        );
        bad_here = λ h. dies-here text 0 h (ap (λ b. cond b InWhole Dead) byte);
        bad_end = λ e w d form. absurd (omega (arith, e));
      },
    )

answers-other : (text : List ℕ) → (leading_digits text == 0) ≡ false
    → (leading_digits text == length text) ≡ false → (get_or text (leading_digits text) 0 == 46)
    ≡ false → AnswersDecimal text (Err (BadByte (leading_digits text)))
answers-other text some more byte =
    let digits = leading_digits text in
    let first = take digits text in
    let x = get_or text digits 0 in
    let most = prefix_len-le-length is_ascii_digit text in
    let long : digits < length text = shorter _ _ most more in
    let stop : is_ascii_digit x ≡ false = prefix_len_stops is_ascii_digit text 0 long in
    let number = leading-number text some in (
      not-empty text (omega arith),
      record {
        within = most;
        good_before = (
          [],
          (
            first,
            ([], record { whole_digits = number; decimal_digits = refl; form = refl }),
          ),
        );
        bad_here =
            λ h.
            dies-here
            text
            digits
            h
            (ap (λ p. step p x) (run-number first number)
            ∙ ap (λ b. cond b InWhole (cond (x == 46) AtPoint Dead)) stop
            ∙ ap (λ b. cond b AtPoint Dead) byte);
        bad_end = λ e w d form. absurd (omega (arith, e));
      },
    )

pointed : (d : List ℕ) → 0 < length d → with_point d ≡ 46 ∷ d
pointed [] h = absurd (omega arith)
pointed (c ∷ cs) h = refl

-- a byte that is no digit has no place after the point
step-after : (ds : List ℕ) (x : ℕ) → IsTrue (list_all is_ascii_digit ds) → is_ascii_digit x ≡ false
    → step (run AtPoint ds) x ≡ Dead
step-after [] x h n = ap (λ b. cond b InDecimals Dead) n
step-after (c ∷ cs) x h n =
    let on : run AtPoint (c ∷ cs) ≡ InDecimals =
    ap (λ b. run (cond b InDecimals Dead) cs) (both-true _ _ h).0
    ∙ run-decimals cs (both-true _ _ h).1 in
    ap (λ p. step p x) on ∙ ap (λ b. cond b InDecimals Dead) n

no-decimals : (e n : ℕ) → ((e == 0) || nat_lt e n) ≡ true → e ≡ n → e ≡ 0
no-decimals e n h q = grind (arith, nat_tests)

all-decimals : (e n : ℕ) → ((e == 0) || nat_lt e n) ≡ false → e ≤ n → (e ≡ n) × (0 < n)
all-decimals e n h q = (grind (arith, nat_tests), grind (arith, nat_tests))

-- after a point: where the digits end too early, or are none
stops-after : (w rest : List ℕ) → IsTrue (is_number w)
    → ((leading_digits rest == 0) || nat_lt (leading_digits rest) (length rest)) ≡ true
    → StopsAt (w ++ (46 ∷ rest)) (length w + 1 + leading_digits rest)
stops-after w rest number early =
    let digits = leading_digits rest in
    let some = take digits rest in
    let text = w ++ (46 ∷ rest) in
    let place = length w + 1 + digits in
    let all : length text ≡ length w + suc (length rest) = length-append w (46 ∷ rest) in
    let most = prefix_len-le-length is_ascii_digit rest in
    let counted : place ≡ length w + suc digits = omega arith in
    let cut : take place text ≡ w ++ (46 ∷ some) = ap (λ n. take n text) counted
    ∙ take-append-add w (46 ∷ rest) (suc digits) in
    let byte : get_or text place 0 ≡ get_or rest digits 0 =
    ap (λ n. get_or text n 0) counted ∙ get_or-append-add w (46 ∷ rest) (suc digits) 0 in
    let ran : run AtStart (take place text) ≡ run AtPoint some =
    ap (run AtStart) cut ∙ run-append AtStart w (46 ∷ some)
    ∙ ap (λ p. run p (46 ∷ some)) (run-number w number) in
    let ten : IsTrue (list_all is_ascii_digit (some ++ (48 ∷ []))) =
    list_all-append is_ascii_digit some (48 ∷ []) ∙ true-both _ _ (leading-all rest) refl in
    let longer : 0 < length (some ++ (48 ∷ [])) = let n = length-append some (48 ∷ []) in
    omega (arith, n) in
    let P : List ℕ → Type 0 = BeginsDecimal in
    record {
      within = omega arith;
      good_before =
          subst
          P
          (sym cut) (
            48 ∷ [],
            (
              w,
              (
                some ++ (48 ∷ []),
                record {
                  whole_digits = number;
                  decimal_digits = ten;
                  form = append_assoc w (46 ∷ some) (48 ∷ [])
                      ∙ ap (λ r. w ++ r) (sym (pointed _ longer));
                },
              ),
            ),
          );
      bad_here =
          λ h.
          let inner : digits < length rest = omega arith in
          dies-here
          text
          place
          h
          (ap (λ p. step p (get_or text place 0)) ran
          ∙ ap (step (run AtPoint some)) byte
          ∙ step-after some (get_or rest digits 0) (leading-all rest)
          (prefix_len_stops is_ascii_digit rest 0 inner));
      bad_end =
          λ e v d form.
          let none : digits ≡ 0 = no-decimals digits (length rest) early (omega (arith, e)) in
          let whole : run AtStart text ≡ AtPoint =
          ap (run AtStart) (sym (take_all place text (omega (arith, e)))) ∙ ran
          ∙ ap (λ n. run AtPoint (take n rest)) none in
          let no : false ≡ true = ap ends (sym whole) ∙ ends-decimal text v d form in
          absurd (cc);
    }

at-point : (text : List ℕ) (n : ℕ) → n < length text → get_or text n 0 ≡ 46
    → text ≡ take n text ++ (46 ∷ drop (n + 1) text)
at-point text n h e =
    let more : suc n ≡ n + 1 = omega arith in
    sym (take-append-drop n text)
    ∙ ap (λ r. take n text ++ r)
    (drop-cons text n 0 h ∙ ap (λ b. b ∷ drop (suc n) text) e ∙ ap (λ m. 46 ∷ drop m text) more)

answers-point : (text : List ℕ) → (leading_digits text == 0) ≡ false
    → (leading_digits text == length text) ≡ false → (get_or text (leading_digits text) 0 == 46)
    ≡ true → AnswersDecimal text (after_point (leading_digits text + 1)
    (take (leading_digits text) text) (drop (leading_digits text + 1) text))
answers-point text some more byte =
    let digits = leading_digits text in
    let first = take digits text in
    let rest = drop (digits + 1) text in
    let long : digits < length text = shorter _ _ (prefix_len-le-length is_ascii_digit text) more in
    let parts : text ≡ first ++ (46 ∷ rest) = at-point text digits long (same _ _ byte) in
    let number = leading-number text some in
    let counted : length first ≡ digits = length-prefix_len is_ascii_digit text in
    let P : List ℕ → Type 0 = λ t. StopsAt t (length first + 1 + leading_digits rest) in
    let Q : ℕ → Type 0 = λ n. StopsAt text (n + 1 + leading_digits rest) in
    choose
    (AnswersDecimal text)
    ((leading_digits rest == 0) || nat_lt (leading_digits rest) (length rest))
    (Err (BadByte (digits + 1 + leading_digits rest)))
    (worth_of first rest)
    (λ e. (
      not-empty text (omega arith),
      subst Q counted (subst P (sym parts) (stops-after first rest number e)),
    ))
    (λ e.
    let all = all-decimals _ _ e (prefix_len-le-length is_ascii_digit rest) in
    answers-worth
    text
    first
    rest
    (record {
      whole_digits = number;
      decimal_digits = all-leading rest all.0;
      form = parts ∙ ap (λ r. first ++ r) (sym (pointed rest all.1));
    }))

pub answers-by_cuts : (text : List ℕ) → AnswersDecimal text (decimal_by_cuts text)
answers-by_cuts text =
    choose
    (AnswersDecimal text)
    (length text == 0)
    (Err Empty)
    _
    (λ e. nil_from_length text (same _ _ e))
    (λ some.
    choose
    (AnswersDecimal text)
    (leading_digits text == 0)
    (Err (BadByte 0))
    _
    (λ e. answers-start text some e)
    (λ digits.
    choose
    (AnswersDecimal text)
    (leading_digits text == length text)
    (worth_of text [])
    _
    (λ e.
    answers-worth
    text
    text
    []
    (record {
      whole_digits = true-both _ _ (ap not some) (all-leading text (same _ _ e));
      decimal_digits = refl;
      form = sym (append-nil text);
    }))
    (λ more.
    choose
    (AnswersDecimal text)
    (get_or text (leading_digits text) 0 == 46)
    (after_point (leading_digits text + 1) (take (leading_digits text) text)
    (drop (leading_digits text + 1) text))
    (Err (BadByte (leading_digits text)))
    (λ e. answers-point text digits more e)
    (λ e. answers-other text digits more e))))

-- ---- one answer for each text

leading-form : (w d : List ℕ) → IsTrue (list_all is_ascii_digit w)
    → leading_digits (w ++ with_point d) ≡ length w
leading-form [] [] h = refl
leading-form [] (c ∷ cs) h = refl
leading-form (c ∷ cs) d h =
    let rest = leading-form cs d (both-true _ _ h).1 in
    ap (λ b. cond b (1 + leading_digits (cs ++ with_point d)) 0) (both-true _ _ h).0
    ∙ (omega (arith, rest))

point-dropped : (d : List ℕ) → drop 1 (with_point d) ≡ d
point-dropped [] = refl
point-dropped (c ∷ cs) = refl

whole-is : (text w d : List ℕ) → IsDecimal text w d → take (leading_digits text) text ≡ w
whole-is text w d h =
    ap (λ t. take (leading_digits t) t) h.form
    ∙ ap (λ n. take n (w ++ with_point d)) (leading-form w d (both-true _ _ h.whole_digits).1)
    ∙ take-append_seam w (with_point d)

decimals-are : (text w d : List ℕ) → IsDecimal text w d
    → drop 1 (drop (leading_digits text) text) ≡ d
decimals-are text w d h =
    ap (λ t. drop 1 (drop (leading_digits t) t)) h.form
    ∙ ap (λ n. drop 1 (drop n (w ++ with_point d)))
    (leading-form w d (both-true _ _ h.whole_digits).1)
    ∙ ap (drop 1) (drop-append_seam w (with_point d))
    ∙ point-dropped d

-- a text has the form with one whole part and one list of decimals alone
pub decimal-unique : (text w d v e : List ℕ) → IsDecimal text w d → IsDecimal text v e
    → (w ≡ v) × (d ≡ e)
decimal-unique text w d v e f g = (
  sym (whole-is text w d f) ∙ whole-is text v e g,
  sym (decimals-are text w d f) ∙ decimals-are text v e g,
)

same-worth : (text w d v e : List ℕ) → IsDecimal text w d → IsDecimal text v e
    → billionths_of w d ≡ billionths_of v e
same-worth text w d v e f g =
    let u = decimal-unique text w d v e f g in
    ap (λ a. billionths_of a d) u.0 ∙ ap (billionths_of v) u.1

empty-no-decimal : (text w d : List ℕ) → text ≡ [] → IsDecimal text w d → ⊥
empty-no-decimal text w d e f =
    let no : false ≡ true = ap (λ t. ends (run AtStart t)) (sym e) ∙ ends-decimal text w d f in
    absurd (cc)

stop-no-decimal : (text w d : List ℕ) (p : ℕ) → StopsAt text p → IsDecimal text w d → ⊥
stop-no-decimal text w d p s f = by (nat_lt p (length text)) refl
  where
    by : (b : Bool) → nat_lt p (length text) ≡ b → ⊥
    by true e =
        let P : List ℕ → Type 0 = λ t. IsDecimal t w d in
        s.bad_here (grind (arith, nat_tests)) (
          drop (p + 1) text,
          (w, (d, subst P (sym (take-append-drop (p + 1) text)) f)),
        )
    by false e = let most = s.within in s.bad_end (grind (arith, nat_tests)) w d f

begins-shorter : (m n : ℕ) (text : List ℕ) → m ≤ n → BeginsDecimal (take n text)
    → BeginsDecimal (take m text)
begins-shorter m n text h b =
    let sum : n ≡ m + (n - m) = omega arith in
    let cut : take n text ≡ take m text ++ take (n - m) (drop m text) = ap (λ k. take k text) sum
    ∙ take-add m (n - m) text in
    let P : List ℕ → Type 0 = λ t. IsDecimal t b.1.0 b.1.1.0 in (
      take (n - m) (drop m text) ++ b.0,
      (
        b.1.0,
        (
          b.1.1.0,
          subst P (ap (λ t. t ++ b.0) cut
              ∙ append_assoc (take m text) (take (n - m) (drop m text)) b.0) b.1.1.1,
        ),
      ),
    )

no-earlier : (text : List ℕ) (p q : ℕ) → StopsAt text p → StopsAt text q → p < q → ⊥
no-earlier text p q s t h =
    let most = t.within in
    s.bad_here (omega arith) (begins-shorter (p + 1) q text (omega arith) t.good_before)

one-stop : (text : List ℕ) (p q : ℕ) → StopsAt text p → StopsAt text q → p ≡ q
one-stop text p q s t = by (nat_cmp p q) (ranked p q (nat_cmp p q) refl)
  where
    by : (r : Ordering) → MatchOrdering r (p < q) (p ≡ q) (q < p) → p ≡ q
    by Less h = absurd (no-earlier text p q s t h)
    by Equal h = h
    by Greater h = absurd (no-earlier text q p t s h)

few-and-many : (text w d v e : List ℕ) → IsShortDecimal text w d → IsDecimal text v e
    → 9 < length e → ⊥
few-and-many text w d v e f g h =
    let few = f.few in
    let len : length d ≡ length e = ap length (decimal-unique text w d v e f.is_decimal g).1 in
    omega arith

small-and-large : (text w d v e : List ℕ) (n : ℕ) → IsShortDecimal text w d → n ≡ billionths_of w d
    → n ≤ MAX_DECIMAL → IsShortDecimal text v e → MAX_DECIMAL < billionths_of v e → ⊥
small-and-large text w d v e n f i small g large =
    let value : n ≡ billionths_of v e = i ∙ same-worth text w d v e f.is_decimal g.is_decimal in
    large-small _ _ value small large
  where
    large-small : (a b : ℕ) → a ≡ b → a ≤ MAX_DECIMAL → MAX_DECIMAL < b → ⊥
    large-small a b e h k = omega arith

pub answers-unique : (text : List ℕ) (r s : Result ℕ DecimalFault) → AnswersDecimal text r
    → AnswersDecimal text s → r ≡ s
answers-unique text (Ok n) (Ok m) x y =
    ap Ok (x.1.1.1 ∙ same-worth text x.0 x.1.0 y.0 y.1.0 x.1.1.0.is_decimal y.1.1.0.is_decimal
    ∙ sym y.1.1.1)
answers-unique text (Ok n) (Err Empty) x y = absurd (empty-no-decimal text _ _ y x.1.1.0.is_decimal)
answers-unique text (Ok n) (Err (BadByte q)) x y =
    absurd (stop-no-decimal text _ _ q y.1 x.1.1.0.is_decimal)
answers-unique text (Ok n) (Err TooManyDecimals) x y =
    absurd (few-and-many text _ _ _ _ x.1.1.0 y.1.1.0 y.1.1.1)
answers-unique text (Ok n) (Err TooLarge) x y =
    absurd (small-and-large text _ _ _ _ n x.1.1.0 x.1.1.1 x.1.1.2 y.1.1.0 y.1.1.1)
answers-unique text (Err Empty) (Ok m) x y = absurd (empty-no-decimal text _ _ x y.1.1.0.is_decimal)
answers-unique text (Err Empty) (Err Empty) x y = refl
answers-unique text (Err Empty) (Err (BadByte q)) x y = absurd (y.0 x)
answers-unique text (Err Empty) (Err TooManyDecimals) x y =
    absurd (empty-no-decimal text _ _ x y.1.1.0)
answers-unique text (Err Empty) (Err TooLarge) x y =
    absurd (empty-no-decimal text _ _ x y.1.1.0.is_decimal)
answers-unique text (Err (BadByte p)) (Ok m) x y =
    absurd (stop-no-decimal text _ _ p x.1 y.1.1.0.is_decimal)
answers-unique text (Err (BadByte p)) (Err Empty) x y = absurd (x.0 y)
answers-unique text (Err (BadByte p)) (Err (BadByte q)) x y =
    ap (λ k. Err (BadByte k)) (one-stop text p q x.1 y.1)
answers-unique text (Err (BadByte p)) (Err TooManyDecimals) x y =
    absurd (stop-no-decimal text _ _ p x.1 y.1.1.0)
answers-unique text (Err (BadByte p)) (Err TooLarge) x y =
    absurd (stop-no-decimal text _ _ p x.1 y.1.1.0.is_decimal)
answers-unique text (Err TooManyDecimals) (Ok m) x y =
    absurd (few-and-many text _ _ _ _ y.1.1.0 x.1.1.0 x.1.1.1)
answers-unique text (Err TooManyDecimals) (Err Empty) x y =
    absurd (empty-no-decimal text _ _ y x.1.1.0)
answers-unique text (Err TooManyDecimals) (Err (BadByte q)) x y =
    absurd (stop-no-decimal text _ _ q y.1 x.1.1.0)
answers-unique text (Err TooManyDecimals) (Err TooManyDecimals) x y = refl
answers-unique text (Err TooManyDecimals) (Err TooLarge) x y =
    absurd (few-and-many text _ _ _ _ y.1.1.0 x.1.1.0 x.1.1.1)
answers-unique text (Err TooLarge) (Ok m) x y =
    absurd (small-and-large text _ _ _ _ m y.1.1.0 y.1.1.1 y.1.1.2 x.1.1.0 x.1.1.1)
answers-unique text (Err TooLarge) (Err Empty) x y =
    absurd (empty-no-decimal text _ _ y x.1.1.0.is_decimal)
answers-unique text (Err TooLarge) (Err (BadByte q)) x y =
    absurd (stop-no-decimal text _ _ q y.1 x.1.1.0.is_decimal)
answers-unique text (Err TooLarge) (Err TooManyDecimals) x y =
    absurd (few-and-many text _ _ _ _ x.1.1.0 y.1.1.0 y.1.1.1)
answers-unique text (Err TooLarge) (Err TooLarge) x y = refl
