-- The text of a plain scalar is of the plain form.
use Rattle.std.proofs.Common.{◌≡◌, ℕ, suc, ◌+◌, ◌-◌, ◌<◌, ◌≤◌, Bool, true, false, cond, not, ◌&&◌}
use Rattle.std.proofs.Common.{◌||◌, ◌==◌, List, [], ◌∷◌, ◌++◌, length, take, reverse, slice_index}
use Rattle.std.proofs.Common.{IsUtf8, refl, sym, ap, ◌∙◌, subst, arith, ◌⊎◌, inl, inr, eqb}
use Rattle.std.specs.Prelude.{⊤}
use Rattle.std.specs.List.{prefix_len}
use Rattle.std.proofs.lemmas.Bool.{and_parts, and_from, or_parts, or_cases, eqb-true, eqb-false}
use Rattle.std.proofs.lemmas.Bool.{true≢false, false≢true, eq-eqb}
use Rattle.std.proofs.lemmas.List.{reverse-append, length-reverse}
use Rattle.std.proofs.lemmas.List.Folds.{prefix_len-append}
use Rattle.std.proofs.lemmas.List.Sums.{prefix_len-le-length}
use Rattle.yaml_terms.specs.Block.{is_space, is_blank_byte, trimmed_text}
use Rattle.yaml_terms.specs.Flow.{is_indicator, is_soft_indicator}
use Rattle.yaml_terms.specs.Line.{has_control, ends_word, is_plain_start, stops_plain, plain_len}
use Rattle.yaml_terms.specs.SpellingFits.{is_plain}
use Rattle.yaml_terms.proofs.Utf8Lemmas.{pick, before_end, onward, backward, ascii_of}
use Rattle.yaml_writing.proofs.StandingBytes.{blank_ascii, free_take, IsPure}

-- WITHOUT THE BYTES AT THE END THAT PASS A TEST

-- one more byte before a text without such bytes at its end
abbrev onto : (ℕ → Bool) → ℕ → List ℕ → List ℕ
onto test x [] = cond (test x) [] (x ∷ [])
onto test x (y ∷ ys) = x ∷ y ∷ ys

module _ (test : ℕ → Bool) where
  last_len : List ℕ → ℕ
  last_len xs = prefix_len test (reverse xs)

  few : (xs : List ℕ) → last_len xs ≤ length xs
  unfolding last_len
  few xs = let h = prefix_len-le-length test (reverse xs) in
      subst (λ n. prefix_len test (reverse xs) ≤ n) (length-reverse xs) h

  last_cons : (x : ℕ) (xs : List ℕ) → last_len (x ∷ xs)
      ≡ cond (eqb (last_len xs) (length xs)) (length xs + cond (test x) (1 + 0) 0) (last_len xs)
  unfolding last_len
  last_cons x xs =
      ap (prefix_len test) (reverse-append (x ∷ []) xs)
      ∙ prefix_len-append test (reverse xs) (x ∷ [])
      ∙ ap (λ n. cond (eqb (prefix_len test (reverse xs)) n) (n + cond (test x) (1 + 0) 0)
      (prefix_len test (reverse xs))) (length-reverse xs)

  trimmed-cons : (x : ℕ) (xs : List ℕ) → trimmed_text test (x ∷ xs)
      ≡ onto test x (trimmed_text test xs)
  unfolding last_len
  trimmed-cons x xs =
      ap (λ n. take (suc (length xs) - n) (x ∷ xs)) (last_cons x xs)
      ∙ pick (λ n. take (suc (length xs) - n) (x ∷ xs) ≡ onto test x (trimmed_text test xs))
      (eqb (last_len xs) (length xs)) (length xs + cond (test x) (1 + 0) 0) (last_len xs)
      (λ e. whole (eqb-true (last_len xs) (length xs) e))
      (λ e. let h = few xs in part xs (last_len xs) h (eqb-false (last_len xs) (length xs) e))
    where
      by_test : (b : Bool) (n : ℕ) → n ≡ length xs
          → take (suc (length xs) - (n + cond b (1 + 0) 0)) (x ∷ xs) ≡ cond b [] (x ∷ [])
      by_test true n e = let f : suc (length xs) - (n + 1) ≡ 0 = omega arith in rw f refl
      by_test false n e = let f : suc (length xs) - (n + 0) ≡ 1 = omega arith in rw f refl

      whole : last_len xs ≡ length xs
          → take (suc (length xs) - (length xs + cond (test x) (1 + 0) 0)) (x ∷ xs)
          ≡ onto test x (trimmed_text test xs)
      whole e =
          let none : length xs - last_len xs ≡ 0 = omega arith in
          by_test (test x) (length xs) refl ∙ sym (ap (λ n. onto test x (take n xs)) none)

      part : (ys : List ℕ) (n : ℕ) → n ≤ length ys → ¬ (n ≡ length ys)
          → take (suc (length ys) - n) (x ∷ ys) ≡ onto test x (take (length ys - n) ys)
      part [] n h k = absurd (k (omega arith))
      part (y ∷ ys) n h k =
          let e : suc (length (y ∷ ys)) - n ≡ suc (suc (length ys - n)) = omega arith in
          let f : length (y ∷ ys) - n ≡ suc (length ys - n) = omega arith in
          rw (e, f) refl

  -- the last byte of such a text fails the test
  pub Last : List ℕ → Type 0
  Last [] = ⊤
  Last (y ∷ ys) = test (slice_index (y ∷ ys) (length ys)) ≡ false

  onto_last : (x : ℕ) (u : List ℕ) → Last u → Last (onto test x u)
  unfolding Last
  onto_last x [] h = pick Last (test x) [] (x ∷ []) (λ e. tt) (λ e. e)
  onto_last x (y ∷ ys) h = h

  pub trimmed_last : (xs : List ℕ) → Last (trimmed_text test xs)
  unfolding Last
  trimmed_last [] = tt
  trimmed_last (x ∷ xs) =
      subst Last (sym (trimmed-cons x xs)) (onto_last x (trimmed_text test xs) (trimmed_last xs))

  -- a byte that fails the test stays
  pub trimmed_first : (x : ℕ) (xs : List ℕ) → test x ≡ false
      → trimmed_text test (x ∷ xs) ≡ x ∷ trimmed_text test xs
  trimmed_first x xs e = trimmed-cons x xs ∙ by (trimmed_text test xs)
    where
      by : (u : List ℕ) → onto test x u ≡ x ∷ u
      by [] = rw e refl
      by (y ∷ ys) = refl

  -- where the test takes ASCII alone, such a text of UTF-8 is UTF-8
  pub trimmed_utf8 : ((c : ℕ) → test c ≡ true → c < 128) → (p xs : List ℕ) → IsUtf8 (p ++ xs)
      → IsUtf8 (p ++ trimmed_text test xs)
  trimmed_utf8 low p [] u = u
  trimmed_utf8 low p (x ∷ xs) u =
      subst (λ l. IsUtf8 (p ++ l)) (sym (trimmed-cons x xs))
      (by (trimmed_text test xs) (trimmed_utf8 low (p ++ (x ∷ [])) xs (onward p x xs u)))
    where
      by : (l : List ℕ) → IsUtf8 ((p ++ (x ∷ [])) ++ l) → IsUtf8 (p ++ onto test x l)
      by [] v = pick (λ l. IsUtf8 (p ++ l)) (test x) [] (x ∷ [])
          (λ e. before_end p x xs (low x e) u) (λ e. backward p x [] v)
      by (y ∷ ys) v = backward p x (y ∷ ys) v

-- PLAIN SCALARS

-- a plain scalar's text at the beginning of these bytes
abbrev pub body : List ℕ → List ℕ
body xs = trimmed_text is_blank_byte (take (plain_len xs) xs)

-- no colon ends it
abbrev pub EndsWell : List ℕ → Type 0
EndsWell xs = (slice_index xs (plain_len xs) == 58) ≡ false

body-cons : (c : ℕ) (cs : List ℕ)
    → body (c ∷ cs) ≡ cond (stops_plain c cs) [] (onto is_blank_byte c (body cs))
body-cons c cs = by (stops_plain c cs)
  where
    by : (b : Bool) → trimmed_text is_blank_byte (take (cond b 0 (suc (plain_len cs))) (c ∷ cs))
        ≡ cond b [] (onto is_blank_byte c (body cs))
    by true = refl
    by false = trimmed-cons is_blank_byte c (take (plain_len cs) cs)

onto_first : (c : ℕ) (u : List ℕ) → is_blank_byte c ≡ false → onto is_blank_byte c u ≡ c ∷ u
onto_first c [] e = rw e refl
onto_first c (y ∷ ys) e = refl

ends_well_behind : (c : ℕ) (cs : List ℕ) → stops_plain c cs ≡ false
    → EndsWell (c ∷ cs) → EndsWell cs
ends_well_behind c cs e h = by (stops_plain c cs) e h
  where
    by : (b : Bool) → b ≡ false
        → (slice_index (c ∷ cs) (cond b 0 (suc (plain_len cs))) == 58) ≡ false → EndsWell cs
    by true e h = absurd (true≢false e)
    by false e h = h

-- a byte that is neither blank nor a colon that ends the scalar begins it
goes_on : (c : ℕ) (cs : List ℕ) → is_blank_byte c ≡ false → EndsWell (c ∷ cs)
    → stops_plain c cs ≡ false
goes_on c cs e h = by (stops_plain c cs) refl h
  where
    stops : (c == 58) ≡ false → stops_plain c cs ≡ false
    stops f = rw (f, e) refl

    by : (b : Bool) → stops_plain c cs ≡ b
        → (slice_index (c ∷ cs) (cond b 0 (suc (plain_len cs))) == 58) ≡ false → b ≡ false
    by true s f = absurd (true≢false (sym s ∙ stops f))
    by false s f = refl

body_begins : (c : ℕ) (cs : List ℕ) → is_blank_byte c ≡ false → EndsWell (c ∷ cs)
    → body (c ∷ cs) ≡ c ∷ body cs
body_begins c cs e h = body-cons c cs ∙ rw (goes_on c cs e h) (onto_first c (body cs) e)

body_head : (d : ℕ) (ds : List ℕ) (y : ℕ) (ys : List ℕ) → body (d ∷ ds) ≡ y ∷ ys → d ≡ y
body_head d ds y ys e = by (stops_plain d ds) (body ds) (sym (body-cons d ds) ∙ e)
  where
    alone : (b : Bool) → cond b [] (d ∷ []) ≡ y ∷ ys → d ≡ y
    alone true f = cc
    alone false f = ap (λ l. slice_index l 0) f

    by : (b : Bool) (u : List ℕ) → cond b [] (onto is_blank_byte d u) ≡ y ∷ ys → d ≡ y
    by true u f = cc
    by false [] f = alone (is_blank_byte d) f
    by false (z ∷ zs) f = ap (λ l. slice_index l 0) f

same_stop : (c d y : ℕ) (ys ds : List ℕ) → d ≡ y → stops_plain c (d ∷ ds) ≡ false
    → stops_plain c (y ∷ ys) ≡ false
same_stop c d y ys ds e s =
    subst (λ z. ((c == 58 && is_blank_byte z) || (is_blank_byte c && z == 35)) ≡ false) e s

-- a colon with nothing of the scalar behind it would end it
no_colon : (c : ℕ) (ds : List ℕ) → stops_plain c ds ≡ false → EndsWell ds → body ds ≡ []
    → (b : Bool) → (c == 58) ≡ b → b ≡ false
no_colon c ds s w e false k = refl
no_colon c [] s w e true k = absurd (true≢false (by (c == 58) (is_blank_byte c && 0 == 35) k s))
  where
    by : (b t : Bool) → b ≡ true → ((b && true) || t) ≡ false → true ≡ false
    by true t k s = s
    by false t k s = sym k
no_colon c (d ∷ ds) s w e true k = let f =
    sym (body_begins d ds (by (c == 58) (is_blank_byte d) (is_blank_byte c && d == 35) k s) w)
    ∙ e in cc
  where
    by : (b x t : Bool) → b ≡ true → ((b && x) || t) ≡ false → x ≡ false
    by true x t k s = (or_parts x t s).0
    by false x t k s = absurd (true≢false (sym k))

alone : (c : ℕ) (ds : List ℕ) → is_blank_byte c ≡ false → stops_plain c ds ≡ false → EndsWell ds
    → body ds ≡ [] → stops_plain c [] ≡ false
alone c ds b s w e = rw (no_colon c ds s w e (c == 58) refl, b) refl

-- the whole text is plain
all_plain : (xs : List ℕ) → EndsWell xs → plain_len (body xs) ≡ length (body xs)
all_plain [] h = refl
all_plain (c ∷ cs) h = subst (λ l. plain_len l ≡ length l) (sym (body-cons c cs)) (pick
    (λ l. plain_len l ≡ length l) (stops_plain c cs) [] (onto is_blank_byte c (body cs)) (λ e. refl)
    (λ e. let w = ends_well_behind c cs e h in by cs (body cs) refl e w (all_plain cs w)))
  where
    by : (ds : List ℕ) (u : List ℕ) → body ds ≡ u → stops_plain c ds ≡ false → EndsWell ds
        → plain_len u ≡ length u
        → plain_len (onto is_blank_byte c u) ≡ length (onto is_blank_byte c u)
    by ds [] e s w ih = pick (λ l. plain_len l ≡ length l) (is_blank_byte c) [] (c ∷ []) (λ b. refl)
        (λ b. rw (alone c ds b s w e) refl)
    by [] (y ∷ ys) e s w ih = cc
    by (d ∷ ds) (y ∷ ys) e s w ih = rw (same_stop c d y ys ds (body_head d ds y ys e) s, ih) refl

soft_start : (ds : List ℕ) (s : Bool) → (not s || not (ends_word ds)) ≡ true → EndsWell ds
    → (not s || not (ends_word (body ds))) ≡ true
soft_start ds false h v = refl
soft_start [] true h v = absurd (false≢true h)
soft_start (d ∷ ds) true h v =
    subst (λ l. not (ends_word l) ≡ true) (sym (body_begins d ds (was_not (is_blank_byte d) h) v)) h
  where
    was_not : (b : Bool) → not b ≡ true → b ≡ false
    was_not true e = sym e
    was_not false e = refl

-- what the plain form asks
pub is_plain_of : (c : ℕ) (u : List ℕ) → is_blank_byte c ≡ false → is_plain_start c u ≡ true
    → plain_len (c ∷ u) ≡ length (c ∷ u) → Last is_blank_byte (c ∷ u) → has_control (c ∷ u) ≡ false
    → is_plain (c ∷ u) ≡ true
unfolding Last
is_plain_of c u nonblank start whole last free =
    and_from (not (is_blank_byte c)) _ (ap not nonblank)
    (and_from (is_plain_start c u) _ start (and_from (plain_len (c ∷ u) == length (c ∷ u)) _
    (eq-eqb (plain_len (c ∷ u)) (length (c ∷ u)) whole) (rw (last, free) refl)))

-- a plain scalar that no colon ends has a text of the plain form
pub plain_form : (c : ℕ) (cs : List ℕ) → is_plain_start c cs ≡ true → is_blank_byte c ≡ false
    → has_control (c ∷ cs) ≡ false → EndsWell (c ∷ cs) → is_plain (body (c ∷ cs)) ≡ true
plain_form c cs start nonblank free w =
    let begins = body_begins c cs nonblank w in
    let whole : plain_len (c ∷ body cs) ≡ length (c ∷ body cs) =
    subst (λ l. plain_len l ≡ length l) begins (all_plain (c ∷ cs) w) in
    let last : Last is_blank_byte (c ∷ body cs) = subst (Last is_blank_byte) begins
    (trimmed_last is_blank_byte (take (plain_len (c ∷ cs)) (c ∷ cs))) in
    let pure : has_control (c ∷ body cs) ≡ false =
    subst (λ l. has_control l ≡ false) begins (free_take _ (take (plain_len (c ∷ cs)) (c ∷ cs))
    (free_take (plain_len (c ∷ cs)) (c ∷ cs) free)) in
    subst (λ l. is_plain l ≡ true)
    (sym begins) (is_plain_of c (body cs) nonblank (starts cs (and_parts (not (is_indicator c))
    (not (is_soft_indicator c) || not (ends_word cs)) start) w) whole last pure)
  where
    starts : (ds : List ℕ) → (not (is_indicator c) ≡ true)
        × ((not (is_soft_indicator c) || not (ends_word ds)) ≡ true) → EndsWell (c ∷ ds)
        → is_plain_start c (body ds) ≡ true
    starts ds h v = and_from (not (is_indicator c)) _ h.0 (soft_start ds (is_soft_indicator c) h.1
        (ends_well_behind c ds (goes_on c ds nonblank v) v))

-- UTF-8

stop_ascii : (c : ℕ) (cs : List ℕ) → stops_plain c cs ≡ true → c < 128
stop_ascii c cs e =
    by (or_cases (c == 58 && ends_word cs) (is_blank_byte c && slice_index cs 0 == 35) e)
  where
    by : ((c == 58 && ends_word cs) ≡ true)
        ⊎ ((is_blank_byte c && slice_index cs 0 == 35) ≡ true) → c < 128
    by (inl h) = ascii_of c 58 (and_parts (c == 58) (ends_word cs) h).0 (omega arith)
    by (inr h) = blank_ascii c (and_parts (is_blank_byte c) (slice_index cs 0 == 35) h).0

plain_utf8 : (p xs : List ℕ) → IsUtf8 (p ++ xs) → IsUtf8 (p ++ take (plain_len xs) xs)
plain_utf8 p [] u = u
plain_utf8 p (x ∷ xs) u =
    pick (λ n. IsUtf8 (p ++ take n (x ∷ xs))) (stops_plain x xs) 0 (suc (plain_len xs))
    (λ e. before_end p x xs (stop_ascii x xs e) u) (λ e.
    backward p x (take (plain_len xs) xs) (plain_utf8 (p ++ (x ∷ [])) xs (onward p x xs u)))

pub body_utf8 : (xs : List ℕ) → IsUtf8 xs → IsUtf8 (body xs)
body_utf8 xs u =
    trimmed_utf8 is_blank_byte blank_ascii [] (take (plain_len xs) xs) (plain_utf8 [] xs u)

-- a plain key
pub key_pure : (xs : List ℕ) → IsPure xs → IsPure (trimmed_text is_space (take (plain_len xs) xs))
key_pure xs u = (
  trimmed_utf8 is_space (λ c e. ascii_of c 32 e (omega arith))
      [] (take (plain_len xs) xs) (plain_utf8 [] xs u.0),
  free_take _ (take (plain_len xs) xs) (free_take (plain_len xs) xs u.1),
)
