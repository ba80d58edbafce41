-- Texts behind a word, and before and behind a byte; the bytes of labels, zone names and digits.
use Rattle.std.proofs.Common.{◌≡◌, ◌<◌, ℕ, List, [], ◌∷◌, ◌++◌, length, take, drop, Bool, true}
use Rattle.std.proofs.Common.{false, cond, Option, Some, None, option_map, sym, ap, ◌∙◌, refl}
use Rattle.std.proofs.Common.{arith}
use Rattle.std.specs.Prelude.{◌==◌, ◌&&◌, ◌||◌, nat_eq, nat_le, option_and_then, not}
use Rattle.std.specs.Char.{is_ascii_digit}
use Rattle.std.specs.List.{starts_with, list_any, list_all}
use Rattle.std.proofs.lemmas.Slice.Eq.{bytes_eq-Decides}
use Rattle.std.proofs.lemmas.List.{take-append-drop}
use Rattle.std.proofs.Math.Seq.{take-append_seam, drop-append_seam}
use Rattle.matchit.specs.Seek.{has_slash}
use Rattle.exact_fraction.specs.Digits.{digits_value, is_number, at_most, number_of}
use Rattle.exact_fraction.specs.Label.{is_label, is_label_byte}
use Rattle.exact_fraction.specs.ZoneName.{is_zone_name, is_zone_byte}
use Rattle.wire_routes.specs.Cuts.{after_word, cut_at, number32}

abbrev Pair : Type 0
Pair = List ℕ × List ℕ

-- both of two steps were there
pub then_back : {A B : Type 0} (o : Option A) (f : A → Option B) (y : B)
    → option_and_then f o ≡ Some y → (x : A) × (o ≡ Some x) × (f x ≡ Some y)
then_back None f y h = absurd (cc h)
then_back (Some x) f y h = (x, refl, h)

pub map_back : {A B : Type 0} (o : Option A) (f : A → B) (y : B) → option_map f o ≡ Some y
    → (x : A) × (o ≡ Some x) × (f x ≡ y)
map_back None f y h = absurd (cc h)
map_back (Some x) f y h = (x, refl, cc h)

pub map_none : {A B : Type 0} (o : Option A) (f : A → B) → option_map f o ≡ None → o ≡ None
map_none None f h = refl
map_none (Some x) f h = absurd (cc h)

pub cond_back : {A : Type 0} (b : Bool) (o : Option A) (y : A) → cond b o None ≡ Some y
    → (b ≡ true) × (o ≡ Some y)
cond_back true o y h = (refl, h)
cond_back false o y h = absurd (cc h)

pub same_pair : (p q : Pair) → Some p ≡ Some q → p ≡ q
same_pair p q e = cc e

pub after_joined : (word rest : List ℕ) → after_word word (word ++ rest) ≡ Some rest
after_joined word rest =
    let e : starts_with nat_eq (word ++ rest) word ≡ true =
    (bytes_eq-Decides word (take (length word) (word ++ rest))).1
    (sym (take-append_seam word rest)) in
    rw (e, drop-append_seam word rest) refl

pub after_back : (word text rest : List ℕ) → after_word word text ≡ Some rest → text ≡ word ++ rest
after_back word text rest h =
    let (is, same) =
    cond_back (starts_with nat_eq text word) (Some (drop (length word) text)) rest h in
    let a : word ≡ take (length word) text =
    (bytes_eq-Decides word (take (length word) text)).0 is in
    let b : drop (length word) text ≡ rest = cc same in
    sym (take-append-drop (length word) text) ∙ ap (λ x. x ++ drop (length word) text) (sym a)
    ∙ ap (λ x. word ++ x) b

pub cut_joined : (byte : ℕ) (x y : List ℕ) → list_any (λ b. b == byte) x ≡ false
    → cut_at byte (x ++ byte ∷ y) ≡ Some (x, y)
cut_joined byte [] y none = (let e : (byte == byte) ≡ true = grind (arith) in rw e refl)
cut_joined byte (b ∷ x) y none = by (b == byte) none (cut_joined byte x y)
  where
    by : (t : Bool) → (t || list_any (λ b. b == byte) x) ≡ false
        → (list_any (λ b. b == byte) x ≡ false → cut_at byte (x ++ byte ∷ y) ≡ Some (x, y))
        → cond {A = Option Pair} t (Some ([], x ++ byte ∷ y))
        (option_map (λ p. (b ∷ p.0, p.1)) (cut_at byte (x ++ byte ∷ y))) ≡ Some (b ∷ x, y)
    by true free more = absurd (cc free)
    by false free more = rw (more free) refl

pub cut_back : (byte : ℕ) (t x y : List ℕ) → cut_at byte t ≡ Some (x, y) → t ≡ x ++ byte ∷ y
cut_back byte [] x y h = absurd (cc h)
cut_back byte (b ∷ t) x y h = by (b == byte) refl h (λ u v. cut_back byte t u v)
  where
    by : (c : Bool) → (b == byte) ≡ c → cond {A = Option Pair} c (Some (
      [],
      t,
    )) (option_map (λ p. (b ∷ p.0, p.1)) (cut_at byte t)) ≡ Some (x, y)
        → ((u v : List ℕ) → cut_at byte t ≡ Some (u, v) → t ≡ u ++ byte ∷ v) → b ∷ t ≡ x ++ byte ∷ y
    by true same h more =
        let e : b ≡ byte = grind (arith, same) in
        let both = same_pair ([], t) (x, y) h in
        rw e (ap (λ l. l ++ byte ∷ t) (ap (λ q. q.0) both)
        ∙ ap (λ l. x ++ byte ∷ l) (ap (λ q. q.1) both))
    by false other h more =
        let (p, is, made) = map_back (cut_at byte t) (λ (p : Pair). (b ∷ p.0, p.1)) (x, y) h in
        let a : b ∷ p.0 ≡ x = ap (λ q. q.0) made in
        let d : p.1 ≡ y = ap (λ q. q.1) made in
        ap (λ l. b ∷ l) (more p.0 p.1 is) ∙ ap (λ l. l ++ byte ∷ p.1) a ∙ ap (λ l. x ++ byte ∷ l) d

both_0 : (a b : Bool) → (a && b) ≡ true → a ≡ true
both_0 true b h = refl
both_0 false b h = h

both_1 : (a b : Bool) → (a && b) ≡ true → b ≡ true
both_1 true b h = h
both_1 false b h = absurd (cc h)

-- a text that a path can have as a part: not empty, of bytes, and with no slash
pub record IsPart (text : List ℕ) : Type 0 where
  pub first : ℕ
  pub rest : List ℕ
  pub is : text ≡ first ∷ rest
  pub byte : first < 256
  pub router : has_slash (first ∷ rest) ≡ false
  pub plain : list_any (λ b. b == 47) text ≡ false

-- texts of bytes that are no slashes
abbrev IsFree : (ℕ → Bool) → Type 0
IsFree test = (b : ℕ) → test b ≡ true → ((b == 47) ≡ false) × (b < 256)

free_bytes : (test : ℕ → Bool) → IsFree test → (x : List ℕ) → list_all test x ≡ true
    → (has_slash x ≡ false) × (list_any (λ b. b == 47) x ≡ false)
free_bytes test free [] all = (refl, refl)
free_bytes test free (b ∷ x) all =
    let e = (free b (both_0 (test b) (list_all test x) all)).0 in
    let (more, others) = free_bytes test free x (both_1 (test b) (list_all test x) all) in
    (rw (e, more) refl, rw (e, others) refl)

part_of : (test : ℕ → Bool) → IsFree test → (b : ℕ) (x : List ℕ) → list_all test (b ∷ x) ≡ true
    → IsPart (b ∷ x)
part_of test free b x all = record {
  first = b;
  rest = x;
  is = refl;
  byte = (free b (both_0 (test b) (list_all test x) all)).1;
  router = (free_bytes test free (b ∷ x) all).0;
  plain = (free_bytes test free (b ∷ x) all).1;
}

not_slash : (b : ℕ) → is_label_byte b ≡ true → (b == 47) ≡ false
not_slash b h = grind (arith)

label_low : (b : ℕ) → is_label_byte b ≡ true → b < 256
label_low b h = grind (arith)

pub label_part : (x : List ℕ) → is_label x ≡ true → IsPart x
label_part [] is = absurd (cc is)
label_part (b ∷ x) is =
    part_of is_label_byte (λ c h. (not_slash c h, label_low c h)) b x
    (both_1 (nat_le 1 (length (b ∷ x)) && nat_le (length (b ∷ x)) 63)
    (list_all is_label_byte (b ∷ x)) is)

digit_low : (b : ℕ) → is_ascii_digit b ≡ true → b < 256
digit_low b h = grind (arith)

digit_no_slash : (b : ℕ) → is_ascii_digit b ≡ true → (b == 47) ≡ false
digit_no_slash b h = grind (arith)

all_digits : (d : List ℕ) (n : ℕ) → number32 d ≡ Some n → list_all is_ascii_digit d ≡ true
all_digits d n h =
    let (value, is, more) = then_back (digits_value d) (at_most 4_294_967_295) n h in
    let (number, same) = cond_back (is_number d) (Some (number_of d)) value is in
    both_1 (not (length d == 0)) (list_all is_ascii_digit d) number

pub digits_part : (d : List ℕ) (n : ℕ) → number32 d ≡ Some n → IsPart d
digits_part [] n is = absurd (cc is)
digits_part (b ∷ d) n is = part_of is_ascii_digit (λ c h. (digit_no_slash c h, digit_low c h)) b d
    (all_digits (b ∷ d) n is)

-- a byte from `A` to `z`
abbrev is_word_byte : ℕ → Bool
is_word_byte b = nat_le 65 b && nat_le b 122

word_low : (b : ℕ) → is_word_byte b ≡ true → b < 256
word_low b h = grind (arith)

word_no_slash : (b : ℕ) → is_word_byte b ≡ true → (b == 47) ≡ false
word_no_slash b h = grind (arith)

pub word_part : (x : List ℕ) → (length x == 0) ≡ false → list_all is_word_byte x ≡ true → IsPart x
word_part [] some all = absurd (cc some)
word_part (b ∷ x) some all =
    part_of is_word_byte (λ c h. (word_no_slash c h, word_low c h)) b x all

zone_low : (b : ℕ) → is_zone_byte b ≡ true → b < 256
zone_low b h = grind (arith)

-- a zone's name may have slashes
pub zone_parts : (x : List ℕ) → is_zone_name x ≡ true
    → (y : ℕ) × (n : List ℕ) × (x ≡ y ∷ n) × (y < 256)
zone_parts [] is = absurd (cc is)
zone_parts (y ∷ n) is =
    let all : list_all is_zone_byte (y ∷ n) ≡ true = both_1 (nat_le 1 (length (y ∷ n))
    && nat_le (length (y ∷ n)) 63) (list_all is_zone_byte (y ∷ n)) is in
    (y, n, refl, zone_low y (both_0 (is_zone_byte y) (list_all is_zone_byte n) all))
