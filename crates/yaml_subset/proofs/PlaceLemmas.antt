-- The place where bytes stop being UTF-8, by what their characters look like (RFC 3629, section 4).
use Rattle.std.proofs.Common.{◌≡◌, ℕ, suc, ◌+◌, ◌-◌, ◌*◌, ◌/◌, ◌<◌, ◌≤◌, Bool, true, false, cond}
use Rattle.std.proofs.Common.{◌==◌, nat_lt, nat_le, List, [], ◌∷◌, ◌++◌, Option, Some, None, length}
use Rattle.std.proofs.Common.{take, drop, get_or, IsUtf8, ◌⊎◌, inl, inr, refl, sym, ap, ◌∙◌, subst}
use Rattle.std.proofs.Common.{arith, append_assoc, unwrap_or, length-append, take-add, length-drop}
use Rattle.std.proofs.Common.{length-take-le, take-append-drop, nat_eq, subst₂, ⊎_elim}
use Rattle.std.specs.List.{starts_with}
use Rattle.std.proofs.lemmas.Bool.{and_parts, cases_lt, lt-ltb, le-ltb, le-leb}
use Rattle.std.proofs.lemmas.Bool.Decides.{nat_tests}
use Rattle.std.proofs.lemmas.Str.{IsUtf8-append, IsUtf8-nil, IsUtf8-encode, encode_ascii}
use Rattle.std.proofs.Math.Seq.{take-append-add, drop-cons}
use Rattle.std.specs.Int.{is_in_range}
use Rattle.std.specs.Str.{IsValidUpTo}
use Rattle.std.specs.Str.Lossy.{second_byte_min, second_byte_max, error_len_after_two}
use Rattle.std.specs.Str.Lossy.{error_len_after_one, error_len_of_some, utf8_error_len}
use lib.Pointwise.{bytes_decides}
use lib.Utf8.{scalar, scalars, encode, encodes, next, scalar_cases, low_scalar}
use Rattle.yaml_terms.specs.BadPlace.{CanGoOn, IsBadPlace}
use Rattle.yaml_terms.specs.Text.{without_mark}
use Rattle.yaml_terms.proofs.Utf8Lemmas.{pick, seam}

-- a byte that may follow the second one of a character
abbrev pub Follows : ℕ → Type 0
Follows y = (128 ≤ y) × (y < 192)

abbrev Scalar : ℕ → Type 0
Scalar c = (c < 55296) ⊎ ((57344 ≤ c) × (c < 1114112))

two : (c : ℕ) → 128 ≤ c → c < 2048 → encode c ≡ (192 + c / 64) ∷ next c ∷ []
unfolding encode
two c l h = rw (le-ltb c 128 l, lt-ltb c 2048 h) refl

three : (c : ℕ) → 2048 ≤ c → c < 65536 → encode c ≡ (224 + c / 4096) ∷ next (c / 64) ∷ next c ∷ []
unfolding encode
three c l h = let e : 128 ≤ c = omega arith in
    rw (le-ltb c 128 e, le-ltb c 2048 l, lt-ltb c 65536 h) refl

four : (c : ℕ) → 65536 ≤ c
    → encode c ≡ (240 + c / 262144) ∷ next (c / 4096) ∷ next (c / 64) ∷ next c ∷ []
unfolding encode
four c l = let e : 128 ≤ c = omega arith in let f : 2048 ≤ c = omega arith in
    rw (le-ltb c 128 e, le-ltb c 2048 f, le-ltb c 65536 l) refl

high_scalar : (c : ℕ) → 57344 ≤ c → c < 1114112 → scalar c ≡ true
high_scalar c l h = let e : 55296 ≤ c = omega arith in
    rw (le-ltb c 55296 e, le-leb 57344 c l, lt-ltb c 1114112 h) refl

is_scalar : (c : ℕ) → Scalar c → scalar c ≡ true
is_scalar c (inl h) = low_scalar c h
is_scalar c (inr h) = high_scalar c h.0 h.1

one_char : (c : ℕ) (bs : List ℕ) → Scalar c → encode c ≡ bs → IsUtf8 bs
one_char c bs s e = subst IsUtf8 e (IsUtf8-encode c (is_scalar c s))

-- the second byte of a character with this first one
pub record Second (x : ℕ) (y : ℕ) : Type 0 where
  pub least : 128 ≤ y
  pub most : y < 192
  pub long_three : x ≡ 224 → 160 ≤ y
  pub long_four : x ≡ 240 → 144 ≤ y
  pub surrogate : x ≡ 237 → y < 160
  pub highest : x ≡ 244 → y < 144

-- the bytes behind the first one of a character
pub record Lead (x : ℕ) (more : List ℕ) : Type 0 where
  pub least : 194 ≤ x
  pub most : x ≤ 244
  pub second : Second x (get_or more 0 0)
  pub third : 224 ≤ x → Follows (get_or more 1 0)
  pub fourth : 240 ≤ x → Follows (get_or more 2 0)

abbrev Begun : ℕ → List ℕ → Type 0
Begun x more = (x < 128) ⊎ Lead x more

begun_two : (c x y : ℕ) (more : List ℕ) → 128 ≤ c → c < 2048 → 192 + c / 64 ≡ x
    → next c ≡ get_or more 0 0 → Begun x more
begun_two c x y more l h e f = inr (record {
  least = omega arith;
  most = omega arith;
  second = record {
    least = omega arith;
    most = omega arith;
    long_three = λ g. omega arith;
    long_four = λ g. omega arith;
    surrogate = λ g. omega arith;
    highest = λ g. omega arith;
  };
  third = λ g. absurd (omega arith);
  fourth = λ g. absurd (omega arith);
})

begun_three : (c x : ℕ) (more : List ℕ) → Scalar c → 2048 ≤ c → c < 65536 → 224 + c / 4096 ≡ x
    → next (c / 64) ≡ get_or more 0 0 → next c ≡ get_or more 1 0 → Begun x more
begun_three c x more s l h e f g = inr (record {
  least = omega arith;
  most = omega arith;
  second = record {
    least = omega arith;
    most = omega arith;
    long_three = λ k. omega arith;
    long_four = λ k. absurd (omega arith);
    surrogate = λ k. ⊎_elim (λ u. omega arith) (λ u. omega arith) s;
    highest = λ k. absurd (omega arith);
  };
  third = λ k. (omega arith, omega arith);
  fourth = λ k. absurd (omega arith);
})

begun_four : (c x : ℕ) (more : List ℕ) → c < 1114112 → 65536 ≤ c → 240 + c / 262144 ≡ x
    → next (c / 4096) ≡ get_or more 0 0 → next (c / 64) ≡ get_or more 1 0 → next c ≡ get_or more 2 0
    → Begun x more
begun_four c x more s l e f g h = inr (record {
  least = omega arith;
  most = omega arith;
  second = record {
    least = omega arith;
    most = omega arith;
    long_three = λ k. absurd (omega arith);
    long_four = λ k. omega arith;
    surrogate = λ k. absurd (omega arith);
    highest = λ k. omega arith;
  };
  third = λ k. (omega arith, omega arith);
  fourth = λ k. (omega arith, omega arith);
})

abbrev byte_at : ℕ → List ℕ → ℕ
byte_at i l = get_or l i 0

lead_of : (c : ℕ) → Scalar c → (r : List ℕ) (x : ℕ) (more : List ℕ) → encode c ++ r ≡ x ∷ more
    → Begun x more
lead_of c s r x more same = by (cases_lt c 128) (cases_lt c 2048) (cases_lt c 65536)
  where
    by : (c < 128) ⊎ (128 ≤ c) → (c < 2048) ⊎ (2048 ≤ c) → (c < 65536) ⊎ (65536 ≤ c) → Begun x more
    by (inl h) _ _ =
        let all : c ∷ r ≡ x ∷ more = ap (λ l. l ++ r) (sym (encode_ascii c h)) ∙ same in
        let e : c ≡ x = ap (byte_at 0) all in inl (omega arith)
    by (inr l) (inl h) _ =
        let all : (192 + c / 64) ∷ next c ∷ r ≡ x ∷ more =
        ap (λ l. l ++ r) (sym (two c l h)) ∙ same in
        begun_two c x 0 more l h (ap (byte_at 0) all) (ap (byte_at 1) all)
    by (inr _) (inr l) (inl h) =
        let all : (224 + c / 4096) ∷ next (c / 64) ∷ next c ∷ r ≡ x ∷ more =
        ap (λ l. l ++ r) (sym (three c l h)) ∙ same in
        begun_three c x more s l h (ap (byte_at 0) all) (ap (byte_at 1) all) (ap (byte_at 2) all)
    by (inr _) (inr _) (inr l) =
        let all : (240 + c / 262144) ∷ next (c / 4096) ∷ next (c / 64) ∷ next c ∷ r ≡ x ∷ more =
        ap (λ l. l ++ r) (sym (four c l)) ∙ same in
        let top : c < 1114112 = ⊎_elim (λ u. omega arith) (λ u. u.1) s in
        begun_four c x more top l (ap (byte_at 0) all) (ap (byte_at 1) all) (ap (byte_at 2) all)
        (ap (byte_at 3) all)

-- a text's first byte is ASCII or begins a character
lead : (x : ℕ) (more : List ℕ) → IsUtf8 (x ∷ more) → Begun x more
lead x more u = by u.0 u.1.0 u.1.1
  where
    by : (cs : List ℕ) → scalars cs ≡ true → encodes cs ≡ x ∷ more → Begun x more
    by [] s e = cc
    by (c ∷ cs) s e = lead_of c (scalar_cases c (and_parts _ _ s).0) (encodes cs) x more e

-- whole characters
char_one : (x : ℕ) → x < 128 → IsUtf8 (x ∷ [])
char_one x h = one_char x (x ∷ []) (inl (omega arith)) (encode_ascii x h)

char_two : (x y : ℕ) → 194 ≤ x → x < 224 → Second x y → IsUtf8 (x ∷ y ∷ [])
char_two x y a b s =
    let l = s.least in
    let m = s.most in
    let c = (x - 192) * 64 + (y - 128) in
    let p : 192 + c / 64 ≡ x = omega arith in
    let q : next c ≡ y = omega arith in
    one_char c (x ∷ y ∷ []) (inl (omega arith))
    (two c (omega arith) (omega arith) ∙ (λ k. p k ∷ q k ∷ []))

char_three : (x y z : ℕ) → 224 ≤ x → x < 240 → Second x y → Follows z → IsUtf8 (x ∷ y ∷ z ∷ [])
char_three x y z a b s f = by (cases_lt 224 x) (cases_lt x 237) (cases_lt 237 x)
  where
    of : let c = (x - 224) * 4096 + (y - 128) * 64 + (z - 128) in
        2048 ≤ c → Scalar c → IsUtf8 (x ∷ y ∷ z ∷ [])
    of low range =
        let l = s.least in
        let m = s.most in
        let c = (x - 224) * 4096 + (y - 128) * 64 + (z - 128) in
        let p : 224 + c / 4096 ≡ x = omega arith in
        let q : next (c / 64) ≡ y = omega arith in
        let r : next c ≡ z = omega arith in
        one_char c (x ∷ y ∷ z ∷ []) range (three c low (omega arith) ∙ (λ k. p k ∷ q k ∷ r k ∷ []))

    by : (224 < x) ⊎ (x ≤ 224) → (x < 237) ⊎ (237 ≤ x) → (237 < x) ⊎ (x ≤ 237)
        → IsUtf8 (x ∷ y ∷ z ∷ [])
    by (inl h) (inl k) _ = let m = s.most in of (omega arith) (inl (omega arith))
    by (inl h) (inr k) (inl j) = let m = s.most in of (omega arith) (inr (omega arith, omega arith))
    by (inl h) (inr k) (inr j) = let t = s.surrogate (omega arith) in
        of (omega arith) (inl (omega arith))
    by (inr h) _ _ = let t = s.long_three (omega arith) in let m = s.most in
        of (omega arith) (inl (omega arith))

char_four : (x y z w : ℕ) → 240 ≤ x → x ≤ 244 → Second x y → Follows z → Follows w
    → IsUtf8 (x ∷ y ∷ z ∷ w ∷ [])
char_four x y z w a b s f g = by (cases_lt 240 x) (cases_lt x 244)
  where
    of : let c = (x - 240) * 262144 + (y - 128) * 4096 + (z - 128) * 64 + (w - 128) in
        65536 ≤ c → c < 1114112 → IsUtf8 (x ∷ y ∷ z ∷ w ∷ [])
    of low high =
        let l = s.least in
        let m = s.most in
        let c = (x - 240) * 262144 + (y - 128) * 4096 + (z - 128) * 64 + (w - 128) in
        let p : 240 + c / 262144 ≡ x = omega arith in
        let q : next (c / 4096) ≡ y = omega arith in
        let e : c / 64 ≡ (x - 240) * 4096 + (y - 128) * 64 + (z - 128) = omega arith in
        let r : next (c / 64) ≡ z = subst (λ (n : ℕ). next n ≡ z) (sym e) (omega arith) in
        let t : next c ≡ w = omega arith in
        one_char c (x ∷ y ∷ z ∷ w ∷ []) (inr (omega arith, high))
        (four c low ∙ (λ k. p k ∷ q k ∷ r k ∷ t k ∷ []))

    by : (240 < x) ⊎ (x ≤ 240) → (x < 244) ⊎ (244 ≤ x) → IsUtf8 (x ∷ y ∷ z ∷ w ∷ [])
    by (inl h) (inl k) = let m = s.most in of (omega arith) (omega arith)
    by (inl h) (inr k) = let t = s.highest (omega arith) in of (omega arith) (omega arith)
    by (inr h) _ = let t = s.long_four (omega arith) in let m = s.most in
        of (omega arith) (omega arith)

-- beginnings of characters
three_go_on : (x y z : ℕ) → 240 ≤ x → x ≤ 244 → Second x y → Follows z → CanGoOn (x ∷ y ∷ z ∷ [])
three_go_on x y z a b s f = (128 ∷ [], char_four x y z 128 a b s f (omega arith, omega arith))

two_go_on : (x y : ℕ) → 194 ≤ x → x ≤ 244 → Second x y → CanGoOn (x ∷ y ∷ [])
two_go_on x y a b s = by (cases_lt x 224) (cases_lt x 240)
  where
    by : (x < 224) ⊎ (224 ≤ x) → (x < 240) ⊎ (240 ≤ x) → CanGoOn (x ∷ y ∷ [])
    by (inl h) _ = ([], char_two x y a h s)
    by (inr h) (inl k) = (128 ∷ [], char_three x y 128 h k s (omega arith, omega arith))
    by (inr h) (inr k) = (
      128 ∷ 128 ∷ [],
      char_four x y 128 128 k b s (omega arith, omega arith) (omega arith, omega arith),
    )

one_goes_on : (x : ℕ) → 194 ≤ x → x ≤ 244 → CanGoOn (x ∷ [])
one_goes_on x a b = by (cases_lt x 240) (cases_lt 224 x) (cases_lt 240 x)
  where
    with_second : (y : ℕ) → Second x y → CanGoOn (x ∷ [])
    with_second y s = let t = two_go_on x y a b s in (y ∷ t.0, t.1)

    by : (x < 240) ⊎ (240 ≤ x) → (224 < x) ⊎ (x ≤ 224) → (240 < x) ⊎ (x ≤ 240) → CanGoOn (x ∷ [])
    by (inl h) (inl k) _ = with_second 128 (record {
      least = omega arith;
      most = omega arith;
      long_three = λ e. absurd (omega arith);
      long_four = λ e. absurd (omega arith);
      surrogate = λ e. omega arith;
      highest = λ e. omega arith;
    })
    by (inl h) (inr k) _ = with_second 160 (record {
      least = omega arith;
      most = omega arith;
      long_three = λ e. omega arith;
      long_four = λ e. absurd (omega arith);
      surrogate = λ e. absurd (omega arith);
      highest = λ e. absurd (omega arith);
    })
    by (inr h) _ (inl k) = with_second 128 (record {
      least = omega arith;
      most = omega arith;
      long_three = λ e. absurd (omega arith);
      long_four = λ e. absurd (omega arith);
      surrogate = λ e. absurd (omega arith);
      highest = λ e. omega arith;
    })
    by (inr h) _ (inr k) = with_second 144 (record {
      least = omega arith;
      most = omega arith;
      long_three = λ e. absurd (omega arith);
      long_four = λ e. omega arith;
      surrogate = λ e. absurd (omega arith);
      highest = λ e. absurd (omega arith);
    })

-- where no front of the bytes is a text
abbrev NoFront : List ℕ → Type 0
NoFront bs = (k : ℕ) → 0 < k → k ≤ length bs → ¬ (IsUtf8 (take k bs))

abbrev pub IsLead : ℕ → Type 0
IsLead x = (194 ≤ x) × (x ≤ 244)

range_true : (lo hi c : ℕ) → is_in_range lo hi c ≡ true → (lo ≤ c) × (c ≤ hi)
range_true lo hi c e = let p = and_parts (nat_le lo c) (nat_le c hi) e in
    (grind (arith, nat_tests), grind (arith, nat_tests))

range_false : (lo hi c : ℕ) → is_in_range lo hi c ≡ false → (lo ≤ c) → (c ≤ hi) → ⊥
range_false lo hi c e a b = grind (arith, nat_tests)

min_of : (x y : ℕ) → second_byte_min x ≤ y → (128 ≤ y) × (x ≡ 224 → 160 ≤ y) × (x ≡ 240 → 144 ≤ y)
min_of x y h = grind (arith, nat_tests)

max_of : (x y : ℕ) → y ≤ second_byte_max x → (y < 192) × (x ≡ 237 → y < 160) × (x ≡ 244 → y < 144)
max_of x y h = grind (arith, nat_tests)

second_true : (x y : ℕ) → is_in_range (second_byte_min x) (second_byte_max x) y ≡ true → Second x y
second_true x y e =
    let r = range_true (second_byte_min x) (second_byte_max x) y e in
    let p = min_of x y r.0 in
    let q = max_of x y r.1 in
    record {
      least = p.0;
      most = q.0;
      long_three = p.1;
      long_four = p.2;
      surrogate = q.1;
      highest = q.2;
    }

of_min : (x y : ℕ) → Second x y → second_byte_min x ≤ y
of_min x y s = grind (arith, nat_tests)

of_max : (x y : ℕ) → Second x y → y ≤ second_byte_max x
of_max x y s = grind (arith, nat_tests)

second_false : (x y : ℕ) → is_in_range (second_byte_min x) (second_byte_max x) y ≡ false
    → ¬ (Second x y)
second_false x y e s =
    range_false (second_byte_min x) (second_byte_max x) y e (of_min x y s) (of_max x y s)

no_lead : (x : ℕ) (more : List ℕ) → NoFront (x ∷ more) → ¬ (IsLead x) → IsBadPlace (x ∷ more) 0
no_lead x more none out = record {
  within = omega arith;
  before = ([], IsUtf8-nil);
  with_it = λ h g. by (lead x g.0 g.1);
}
  where
    by : {m : List ℕ} → Begun x m → ⊥
    by (inl h) = none 1 (omega arith) (omega arith) (char_one x h)
    by (inr l) = out (l.least, l.most)

module _ (x : ℕ) (is_lead : IsLead x) where
  -- nothing but a first byte
  after_one : (y : ℕ) (more : List ℕ) → ¬ (Second x y) → IsBadPlace (x ∷ y ∷ more) 1
  after_one y more bad = record {
    within = omega arith;
    before = one_goes_on x is_lead.0 is_lead.1;
    with_it = λ h g. by (lead x (y ∷ g.0) g.1);
  }
    where
      by : {m : List ℕ} → Begun x (y ∷ m) → ⊥
      by (inl h) = let low = is_lead.0 in omega arith
      by (inr l) = bad l.second

  after_two : (y z : ℕ) (more : List ℕ) → NoFront (x ∷ y ∷ z ∷ more) → Second x y → ¬ (Follows z)
      → IsBadPlace (x ∷ y ∷ z ∷ more) 2
  after_two y z more none s bad = record {
    within = omega arith;
    before = two_go_on x y is_lead.0 is_lead.1 s;
    with_it = λ h g. by (lead x (y ∷ z ∷ g.0) g.1) (cases_lt x 224);
  }
    where
      by : {m : List ℕ} → Begun x (y ∷ z ∷ m) → (x < 224) ⊎ (224 ≤ x) → ⊥
      by (inl h) _ = let low = is_lead.0 in omega arith
      by (inr l) (inl h) = none 2 (omega arith) (omega arith) (char_two x y is_lead.0 h s)
      by (inr l) (inr h) = bad (l.third h)

  -- a first byte with two that may follow it begins a character of four bytes, where no front
  -- is a text
  is_long : (y z : ℕ) (more : List ℕ) → NoFront (x ∷ y ∷ z ∷ more) → Second x y
      → Follows z → 240 ≤ x
  is_long y z more none s f = by (cases_lt x 224) (cases_lt x 240)
    where
      by : (x < 224) ⊎ (224 ≤ x) → (x < 240) ⊎ (240 ≤ x) → 240 ≤ x
      by (inl h) _ = absurd (none 2 (omega arith) (omega arith) (char_two x y is_lead.0 h s))
      by (inr h) (inl k) = absurd (none 3 (omega arith) (omega arith) (char_three x y z h k s f))
      by (inr h) (inr k) = k

  after_three : (y z w : ℕ) (more : List ℕ) → NoFront (x ∷ y ∷ z ∷ w ∷ more) → Second x y
      → Follows z → IsBadPlace (x ∷ y ∷ z ∷ w ∷ more) 3
  after_three y z w more none s f =
      let long = is_long y z (w ∷ more) none s f in
      record {
        within = omega arith;
        before = three_go_on x y z long is_lead.1 s f;
        with_it = λ h g. by (lead x (y ∷ z ∷ w ∷ g.0) g.1) long;
      }
    where
      by : {m : List ℕ} → Begun x (y ∷ z ∷ w ∷ m) → 240 ≤ x → ⊥
      by (inl h) k = omega arith
      by (inr l) k =
          none 4 (omega arith) (omega arith) (char_four x y z w k is_lead.1 s f (l.fourth k))

  follows_true : (z : ℕ) → is_in_range 128 191 z ≡ true → Follows z
  follows_true z e = let r = range_true 128 191 z e in (r.0, omega arith)

  follows_false : (z : ℕ) → is_in_range 128 191 z ≡ false → ¬ (Follows z)
  follows_false z e f = range_false 128 191 z e f.0 (let t = f.1 in omega arith)

  -- bytes that begin with a first byte
  has_lead : (more : List ℕ) → NoFront (x ∷ more)
      → IsBadPlace (x ∷ more) (unwrap_or (error_len_after_one (x ∷ more)) (length (x ∷ more)))
  has_lead [] none = record {
    within = omega arith;
    before = one_goes_on x is_lead.0 is_lead.1;
    with_it = λ h g. absurd (omega arith);
  }
  has_lead (y ∷ []) none = pick (λ (o : Option ℕ). IsBadPlace (x ∷ y ∷ []) (unwrap_or o 2))
      (is_in_range (second_byte_min x) (second_byte_max x) y) None (Some 1)
      (λ e. record {
        within = omega arith;
        before = two_go_on x y is_lead.0 is_lead.1 (second_true x y e);
        with_it = λ h g. absurd (omega arith);
      })
      (λ e. after_one y [] (second_false x y e))
  has_lead (y ∷ z ∷ []) none = pick (λ (o : Option ℕ). IsBadPlace (x ∷ y ∷ z ∷ []) (unwrap_or o 3))
      (is_in_range (second_byte_min x) (second_byte_max x) y)
      (cond (is_in_range 128 191 z) None (Some 2)) (Some 1)
      (λ e. let s = second_true x y e in pick (λ (o : Option ℕ).
      IsBadPlace (x ∷ y ∷ z ∷ []) (unwrap_or o 3)) (is_in_range 128 191 z) None (Some 2)
      (λ t. let f = follows_true z t in record {
        within = omega arith;
        before = three_go_on x y z (is_long y z [] none s f) is_lead.1 s f;
        with_it = λ h g. absurd (omega arith);
      })
      (λ t. after_two y z [] none s (follows_false z t)))
      (λ e. after_one y (z ∷ []) (second_false x y e))
  has_lead (y ∷ z ∷ w ∷ more) none =
      let bytes : List ℕ = x ∷ y ∷ z ∷ w ∷ more in
      let P : Option ℕ → Type 0 = λ o. IsBadPlace bytes (unwrap_or o (length bytes)) in
      pick P (nat_lt (length bytes) 2) None
      (cond (is_in_range (second_byte_min x) (second_byte_max x) y) (error_len_after_two bytes)
      (Some 1)) (λ e. absurd (few 2 (omega arith) e))
      (λ _. pick P (is_in_range (second_byte_min x) (second_byte_max x) y)
      (error_len_after_two bytes) (Some 1)
      (λ e. let s = second_true x y e in pick P (nat_lt (length bytes) 3) None
      (cond (is_in_range 128 191 z) (cond (nat_lt (length bytes) 4) None (Some 3)) (Some 2))
      (λ t. absurd (few 3 (omega arith) t))
      (λ _. pick P (is_in_range 128 191 z) (cond (nat_lt (length bytes) 4) None (Some 3)) (Some 2)
      (λ t. pick P (nat_lt (length bytes) 4) None (Some 3) (λ u. absurd (few 4 (omega arith) u))
      (λ _. after_three y z w more none s (follows_true z t)))
      (λ t. after_two y z (w ∷ more) none s (follows_false z t))))
      (λ e. after_one y (z ∷ w ∷ more) (second_false x y e)))
    where
      few : (n : ℕ) → n ≤ 4 → nat_lt (length (x ∷ y ∷ z ∷ w ∷ more)) n ≡ true → ⊥
      few n h e = grind (arith, nat_tests)

  found_at : (more : List ℕ) → NoFront (x ∷ more)
      → IsBadPlace (x ∷ more) (unwrap_or (utf8_error_len (x ∷ more)) (length (x ∷ more)))
  unfolding utf8_error_len
  found_at more none =
      let P : Option ℕ → Type 0 = λ o. IsBadPlace (x ∷ more) (unwrap_or o (length (x ∷ more))) in
      pick P (length (x ∷ more) == 0) None (error_len_of_some (x ∷ more)) (λ e. absurd (some e))
      (λ _. pick P (is_in_range 194 244 x) (error_len_after_one (x ∷ more)) (Some 1)
      (λ _. has_lead more none) (λ e. absurd (range_false 194 244 x e is_lead.0 is_lead.1)))
    where
      some : (length (x ∷ more) == 0) ≡ true → ⊥
      some e = grind (arith, nat_tests)

-- a place in what stands behind a text
pub behind : (p q : List ℕ) (at : ℕ) → IsUtf8 p → IsBadPlace q at
    → IsBadPlace (p ++ q) (length p + at)
behind p q at u b = record {
  within = let h = b.within in omega (arith, length-append p q);
  before = (
    b.before.0,
    subst IsUtf8 (sym (split at b.before.0))
        (IsUtf8-append p (take at q ++ b.before.0) u b.before.1),
  );
  with_it =
      λ h g. b.with_it (omega (arith, length-append p q)) (
        g.0,
        seam p (take (at + 1) q ++ g.0) u
            (subst IsUtf8 (ap (λ n. take n (p ++ q) ++ g.0) (more at) ∙ split (at + 1) g.0) g.1),
      );
}
  where
    split : (n : ℕ) (more : List ℕ) → take (length p + n) (p ++ q) ++ more ≡ p ++ (take n q ++ more)
    split n more = ap (λ l. l ++ more) (take-append-add p q n) ∙ append_assoc p (take n q) more

    more : (n : ℕ) → length p + n + 1 ≡ length p + (n + 1)
    more n = omega arith

module _ (bs : List ℕ) (n : ℕ) (v : IsValidUpTo bs n) where
  none_behind : NoFront (drop n bs)
  none_behind k some within u = v.longest (n + k) (omega arith) (subst IsUtf8
      (sym (take-add n k bs)) (IsUtf8-append (take n bs) (take k (drop n bs)) v.front u))

  there : (k : ℕ) → IsBadPlace (drop n bs) k → IsBadPlace bs (n + k)
  there k b =
      let few = v.short in
      subst₂ IsBadPlace (take-append-drop n bs) (ap (λ m. m + k)
      (length-take-le n bs (omega arith))) (behind (take n bs) (drop n bs) k v.front b)

  first : drop n bs ≡ get_or bs n 0 ∷ drop (suc n) bs
  first = drop-cons bs n 0 v.short

  -- a byte that begins no character
  pub place_at_first : ¬ (IsLead (get_or bs n 0)) → IsBadPlace bs n
  place_at_first out =
      let e : n + 0 ≡ n = omega arith in
      subst (λ m. IsBadPlace bs m) e (there 0 (subst (λ l. IsBadPlace l 0) (sym first)
      (no_lead (get_or bs n 0) (drop (suc n) bs) (subst NoFront first none_behind) out)))

  found : IsLead (get_or bs n 0)
      → IsBadPlace bs (n + unwrap_or (utf8_error_len (drop n bs)) (length (drop n bs)))
  found is_lead =
      there _ (subst (λ l. IsBadPlace l (unwrap_or (utf8_error_len l) (length l))) (sym first)
      (found_at (get_or bs n 0) is_lead (drop (suc n) bs) (subst NoFront first none_behind)))

  -- bytes that end inside a character
  pub place_at_end : IsLead (get_or bs n 0) → utf8_error_len (drop n bs) ≡ None
      → IsBadPlace bs (length bs)
  place_at_end is_lead e =
      let few = v.short in
      let f : n + unwrap_or (utf8_error_len (drop n bs)) (length (drop n bs)) ≡ length bs =
      ap (λ (o : Option ℕ). n + unwrap_or o (length (drop n bs))) e
      ∙ ends (length (drop n bs)) (length-drop n bs) few in
      subst (λ m. IsBadPlace bs m) f (found is_lead)
    where
      ends : (k : ℕ) → k ≡ length bs - n → n < length bs → n + k ≡ length bs
      ends k e h = omega arith

  -- a byte that can't follow the beginning of a character
  pub place_inside : (k : ℕ) → IsLead (get_or bs n 0) → utf8_error_len (drop n bs) ≡ Some k
      → IsBadPlace bs (n + k)
  place_inside k is_lead e = subst (λ m. IsBadPlace bs m)
      (ap (λ (o : Option ℕ). n + unwrap_or o (length (drop n bs))) e) (found is_lead)

-- the byte order mark is a character
mark_utf8 : IsUtf8 (239 ∷ 187 ∷ 191 ∷ [])
mark_utf8 = char_three 239 187 191 (omega arith) (omega arith) (record {
  least = omega arith;
  most = omega arith;
  long_three = λ e. omega arith;
  long_four = λ e. omega arith;
  surrogate = λ e. omega arith;
  highest = λ e. omega arith;
}) (omega arith, omega arith)

-- a place behind the byte order mark, counted in the whole text
pub place_in_text : (text : List ℕ) (at : ℕ) → IsBadPlace (without_mark text) at
    → IsBadPlace text (length text - length (without_mark text) + at)
place_in_text text at = by (starts_with nat_eq text (239 ∷ 187 ∷ 191 ∷ [])) refl
  where
    plus_three : (n : ℕ) → suc (suc (suc n)) ≡ 3 + n
    plus_three n = omega arith

    by : (b : Bool) → starts_with nat_eq text (239 ∷ 187 ∷ 191 ∷ []) ≡ b
        → IsBadPlace (cond b (drop 3 text) text) at
        → IsBadPlace text (length text - length (cond b (drop 3 text) text) + at)
    by false e h = let f : length text - length text + at ≡ at = omega arith in
        subst (λ m. IsBadPlace text m) (sym f) h
    by true e h =
        let m : (239 ∷ 187 ∷ 191 ∷ []) ≡ take 3 text =
        (bytes_decides (239 ∷ 187 ∷ 191 ∷ []) (take 3 text)).0 e in
        let whole : (239 ∷ 187 ∷ 191 ∷ []) ++ drop 3 text ≡ text = ap (λ l. l ++ drop 3 text) m
        ∙ take-append-drop 3 text in
        let long : length text ≡ 3 + length (drop 3 text) = sym (ap length whole)
        ∙ plus_three (length (drop 3 text)) in
        let f : 3 + at ≡ length text - length (drop 3 text) + at = omega arith in
        subst₂ IsBadPlace whole f (behind (239 ∷ 187 ∷ 191 ∷ []) (drop 3 text) at mark_utf8 h)

-- what begins bytes that can go on can go on
front_goes_on : (bs : List ℕ) (n m : ℕ) → n ≤ m → CanGoOn (take m bs) → CanGoOn (take n bs)
front_goes_on bs n m h g =
    let e : n + (m - n) ≡ m = omega arith in
    let parts : take m bs ≡ take n bs ++ take (m - n) (drop n bs) = ap (λ k. take k bs) (sym e)
    ∙ take-add n (m - n) bs in (
      take (m - n) (drop n bs) ++ g.0,
      subst IsUtf8
          (ap (λ l. l ++ g.0) parts ∙ append_assoc (take n bs) (take (m - n) (drop n bs)) g.0) g.1,
    )

no_later : (bs : List ℕ) (a b : ℕ) → IsBadPlace bs a → IsBadPlace bs b → a < b → ⊥
no_later bs a b p q h = let w = q.within in
    p.with_it (omega arith) (front_goes_on bs (a + 1) b (omega arith) q.before)

-- bytes have one such place at most
pub one_place : (bs : List ℕ) (a b : ℕ) → IsBadPlace bs a → IsBadPlace bs b → a ≡ b
one_place bs a b p q = by (cases_lt a b) (cases_lt b a)
  where
    by : (a < b) ⊎ (b ≤ a) → (b < a) ⊎ (a ≤ b) → a ≡ b
    by (inl h) _ = absurd (no_later bs a b p q h)
    by (inr h) (inl k) = absurd (no_later bs b a q p k)
    by (inr h) (inr k) = omega arith
