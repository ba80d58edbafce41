use Rattle.std.proofs.Common.{◌≡◌, ℕ, zero, suc, ◌+◌, ◌-◌, ◌*◌, ◌^◌, ◌<◌, ◌≤◌, IsTrue, List, []}
use Rattle.std.proofs.Common.{◌∷◌, ◌++◌, length, drop, get_or, replicate, refl, sym, ap, ◌∙◌, arith}
use Rattle.std.proofs.Common.{nat_cmp, length-append, take, set, subst, Bool, ◌&&◌}
use Rattle.std.proofs.Math.Nat.{mul-le-mul_right, pow-suc, suc-mul}
use Rattle.std.proofs.Math.Seq.{drop-cons}
use Rattle.std.proofs.Math.Seq.{take-append_seam}
use Rattle.std.proofs.lemmas.List.{drop_all, length-replicate, set-append_right}
use Rattle.std.proofs.lemmas.List.{get_or-append_right}
use Rattle.std.proofs.lemmas.Bool.Decides.{nat_tests}
use Rattle.std.proofs.lemmas.Cmp.{tied_itself, ranked}
use Rattle.std.specs.Cmp.Lexicographic.{nat_list_cmp_total}
use Rattle.std.proofs.lemmas.Str.{IsUtf8-from_ascii}
use Rattle.std.specs.Str.{IsUtf8}
use Rattle.std.specs.Ordering.{ordering_then, MatchOrdering}
use Rattle.std.specs.declared.cmp.Ordering.{Ordering}
use Rattle.std.specs.declared.cmp.Ordering.TheVariants.{Less, Equal, Greater}
use Rattle.std.specs.Cmp.Lexicographic.{slice_cmp}
use Rattle.std.specs.List.{list_all}
use Rattle.std.specs.Str.{bytes_eq}
use Rattle.std.proofs.lemmas.Map.Text.{is_eq-slice_cmp}
use Rattle.std.specs.Ordering.{is_eq}
use Rattle.exact_fraction.proofs.BoolFacts.{below, both-true, true-both, same}
use Rattle.exact_fraction.specs.InlineName.{IsInline, IsPadded, has_name_length, is_inline_byte}
use Rattle.exact_fraction.specs.InlineName.{padded, word_from, words_from, words_of}
use Rattle.exact_fraction.specs.Label.{is_label, is_label_byte}
use Rattle.exact_fraction.specs.ZoneName.{is_zone_byte, is_zone_name}

-- each element is a byte
abbrev pub AreBytes : List ℕ → Type 0
AreBytes xs = (i : ℕ) → get_or xs i 0 < 256

-- bytes as one number, the first the highest
abbrev worth : List ℕ → ℕ
worth [] = 0
worth (x ∷ xs) = x * 256 ^ length xs + worth xs

below-next : (x p w q : ℕ) → x < 256 → w < p → q ≡ p * 256 → x * p + w < q
below-next x p w q hx hw e = grind (arith, mul-le-mul_right)

worth-below : (xs : List ℕ) → AreBytes xs → worth xs < 256 ^ length xs
worth-below [] h = omega arith
worth-below (x ∷ xs) h = below-next x (256 ^ length xs) (worth xs) _ (h 0)
    (worth-below xs (λ i. h (suc i))) (pow-suc 256 (length xs))

cmp-less : (m n : ℕ) → m < n → nat_cmp m n ≡ Less
cmp-less m n h = grind (arith, nat_tests)

cmp-greater : (m n : ℕ) → n < m → nat_cmp m n ≡ Greater
cmp-greater m n h = grind (arith, nat_tests)

cmp-shift : (k b c : ℕ) → nat_cmp b c ≡ nat_cmp (k + b) (k + c)
cmp-shift k b c = grind (arith, nat_tests)

higher : (x y p b c : ℕ) → x < y → b < p → x * p + b < y * p + c
higher x y p b c h hb =
    let one : suc x * p ≤ y * p = mul-le-mul_right p h in
    let all : suc x * p ≡ x * p + p = suc-mul x p in
    omega arith

-- the higher byte decides, else what follows does
step : (x y p b c : ℕ) (o : Ordering)
    → b < p → c < p → ordering_then (nat_cmp x y) (ordering_then (nat_cmp b c) o)
    ≡ ordering_then (nat_cmp (x * p + b) (y * p + c)) o
step x y p b c o hb hc = by (nat_cmp x y) (ranked x y (nat_cmp x y) refl)
  where
    by : (r : Ordering) → MatchOrdering r (x < y) (x ≡ y) (y < x)
        → ordering_then r (ordering_then (nat_cmp b c) o)
        ≡ ordering_then (nat_cmp (x * p + b) (y * p + c)) o
    by Less h = sym (ap (λ r. ordering_then r o) (cmp-less _ _ (higher x y p b c h hb)))
    by Equal h = ap (λ r. ordering_then r o)
        (cmp-shift (x * p) b c ∙ ap (λ n. nat_cmp (x * p + b) (n * p + c)) h)
    by Greater h = sym (ap (λ r. ordering_then r o) (cmp-greater _ _ (higher y x p c b h hc)))

-- lists that begin with as many bytes are ordered by the worth of these, and then by the rest
cmp-append : (xs ys r s : List ℕ)
    → length xs ≡ length ys → AreBytes xs → AreBytes ys → slice_cmp nat_cmp (xs ++ r) (ys ++ s)
    ≡ ordering_then (nat_cmp (worth xs) (worth ys)) (slice_cmp nat_cmp r s)
cmp-append [] [] r s e hx hy = refl
cmp-append [] (y ∷ ys) r s e hx hy = absurd (omega (arith, e))
cmp-append (x ∷ xs) [] r s e hx hy = absurd (omega (arith, e))
cmp-append (x ∷ xs) (y ∷ ys) r s e hx hy =
    let same : length xs ≡ length ys = omega arith in
    let low : worth ys < 256 ^ length xs = rw same (worth-below ys (λ i. hy (suc i))) in
    let more = cmp-append xs ys r s same (λ i. hx (suc i)) (λ i. hy (suc i)) in
    ap (ordering_then (nat_cmp x y)) more
    ∙ step x y (256 ^ length xs) (worth xs) (worth ys) (slice_cmp nat_cmp r s)
    (worth-below xs (λ i. hx (suc i))) low
    ∙ ap (λ n. ordering_then (nat_cmp (x * 256 ^ length xs + worth xs) (y * 256 ^ n + worth ys))
    (slice_cmp nat_cmp r s)) same

inline-byte : (b : ℕ) → IsTrue (is_inline_byte b) → (0 < b) × (b < 128)
inline-byte b h = grind (arith, nat_tests)

zero-below : (y : ℕ) → 0 < y → nat_cmp 0 y ≡ Less
zero-below y h = grind (arith, nat_tests)

above-zero : (y : ℕ) → 0 < y → nat_cmp y 0 ≡ Greater
above-zero y h = grind (arith, nat_tests)

-- zeros are below what begins with another byte
zeros-below : (m y : ℕ) (ts us : List ℕ) → 0 < m → 0 < y
    → slice_cmp nat_cmp (replicate m 0 ++ ts) (y ∷ us) ≡ Less
zeros-below zero y ts us h p = absurd (omega arith)
zeros-below (suc m) y ts us h p =
    ap (λ o. ordering_then o (slice_cmp nat_cmp (replicate m 0 ++ ts) us)) (zero-below y p)

above-zeros : (m y : ℕ) (ts us : List ℕ) → 0 < m → 0 < y
    → slice_cmp nat_cmp (y ∷ us) (replicate m 0 ++ ts) ≡ Greater
above-zeros zero y ts us h p = absurd (omega arith)
above-zeros (suc m) y ts us h p =
    ap (λ o. ordering_then o (slice_cmp nat_cmp us (replicate m 0 ++ ts))) (above-zero y p)

-- padded texts are ordered as the texts
cmp-padded : (a b : List ℕ) (m n p q : ℕ)
    → IsTrue (list_all is_inline_byte a) → IsTrue (list_all is_inline_byte b)
    → length a + m ≡ length b + n → (length a ≡ length b → p ≡ q)
    → slice_cmp nat_cmp (a ++ (replicate m 0 ++ (p ∷ []))) (b ++ (replicate n 0 ++ (q ∷ [])))
    ≡ slice_cmp nat_cmp a b
cmp-padded [] [] m n p q ha hb e same =
    let zeros : m ≡ n = omega (arith, e) in
    let end : p ≡ q = same refl in
    rw (zeros, end) (tied_itself nat_list_cmp_total (replicate n 0 ++ (q ∷ [])))
cmp-padded [] (y ∷ ys) m n p q ha hb e same =
    zeros-below m y _ _ (omega (arith, e)) (inline-byte y (both-true _ _ hb).0).0
cmp-padded (x ∷ xs) [] m n p q ha hb e same =
    above-zeros n x _ _ (omega (arith, e)) (inline-byte x (both-true _ _ ha).0).0
cmp-padded (x ∷ xs) (y ∷ ys) m n p q ha hb e same =
    ap
    (ordering_then (nat_cmp x y))
    (cmp-padded xs ys m n p q (both-true _ _ ha).1 (both-true _ _ hb).1 (omega (arith, e))
    (λ s. same (ap suc s)))

cons-bytes : (x : ℕ) (xs : List ℕ) → x < 256 → AreBytes xs → AreBytes (x ∷ xs)
cons-bytes x xs hx h zero = hx
cons-bytes x xs hx h (suc i) = h i

append-bytes : (xs ys : List ℕ) → AreBytes xs → AreBytes ys → AreBytes (xs ++ ys)
append-bytes [] ys hx hy = hy
append-bytes (x ∷ xs) ys hx hy =
    cons-bytes x (xs ++ ys) (hx 0) (append-bytes xs ys (λ i. hx (suc i)) hy)

no-bytes : AreBytes []
no-bytes i = omega arith

zero-bytes : (n : ℕ) → AreBytes (replicate n 0)
zero-bytes zero = no-bytes
zero-bytes (suc n) = cons-bytes 0 (replicate n 0) (omega arith) (zero-bytes n)

-- eight bytes from a place on
abbrev octet : ℕ → List ℕ → List ℕ
octet at xs =
    get_or xs at 0 ∷ get_or xs (at + 1) 0 ∷ get_or xs (at + 2) 0 ∷ get_or xs (at + 3) 0 ∷ get_or xs
    (at + 4) 0 ∷ get_or xs (at + 5) 0 ∷ get_or xs (at + 6) 0 ∷ get_or xs (at + 7) 0 ∷ []

octet-bytes : (at : ℕ) (xs : List ℕ) → AreBytes xs → AreBytes (octet at xs)
octet-bytes at xs h zero = h at
octet-bytes at xs h (suc zero) = h (at + 1)
octet-bytes at xs h (suc (suc zero)) = h (at + 2)
octet-bytes at xs h (suc (suc (suc zero))) = h (at + 3)
octet-bytes at xs h (suc (suc (suc (suc zero)))) = h (at + 4)
octet-bytes at xs h (suc (suc (suc (suc (suc zero))))) = h (at + 5)
octet-bytes at xs h (suc (suc (suc (suc (suc (suc zero)))))) = h (at + 6)
octet-bytes at xs h (suc (suc (suc (suc (suc (suc (suc zero))))))) = h (at + 7)
octet-bytes at xs h (suc (suc (suc (suc (suc (suc (suc (suc i)))))))) = omega arith

word-worth : (at : ℕ) (xs : List ℕ) → word_from at xs ≡ worth (octet at xs)
word-worth at xs = omega arith

next : (i j : ℕ) (xs : List ℕ) → j ≡ i + 1 → i < length xs → drop i xs ≡ get_or xs i 0 ∷ drop j xs
next i j xs e h = let s : j ≡ suc i = omega arith in rw s (drop-cons xs i 0 h)

octet-drop : (at : ℕ) (xs : List ℕ) → at + 8 ≤ length xs
    → drop at xs ≡ octet at xs ++ drop (at + 8) xs
octet-drop at xs h =
    next at (at + 1) xs (omega arith) (omega arith)
    ∙ ap
    (λ r. get_or xs at 0 ∷ r)
    (next (at + 1) (at + 2) xs (omega arith) (omega arith)
    ∙ ap
    (λ r. get_or xs (at + 1) 0 ∷ r)
    (next (at + 2) (at + 3) xs (omega arith) (omega arith)
    ∙ ap
    (λ r. get_or xs (at + 2) 0 ∷ r)
    (next (at + 3) (at + 4) xs (omega arith) (omega arith)
    ∙ ap
    (λ r. get_or xs (at + 3) 0 ∷ r)
    (next (at + 4) (at + 5) xs (omega arith) (omega arith)
    ∙ ap
    (λ r. get_or xs (at + 4) 0 ∷ r)
    (next (at + 5) (at + 6) xs (omega arith) (omega arith)
    ∙ ap
    (λ r. get_or xs (at + 5) 0 ∷ r)
    (next (at + 6) (at + 7) xs (omega arith) (omega arith)
    ∙ ap (λ r. get_or xs (at + 6) 0 ∷ r)
    (next (at + 7) (at + 8) xs (omega arith) (omega arith))))))))

cmp-words : (count at : ℕ) (xs ys : List ℕ)
    → length xs ≡ at + 8 * count → length ys ≡ at + 8 * count → AreBytes xs
    → AreBytes ys → slice_cmp nat_cmp (words_from count at xs) (words_from count at ys)
    ≡ slice_cmp nat_cmp (drop at xs) (drop at ys)
cmp-words zero at xs ys ex ey hx hy =
    let x : drop at xs ≡ [] = drop_all at xs (omega arith) in
    let y : drop at ys ≡ [] = drop_all at ys (omega arith) in
    rw (x, y) refl
cmp-words (suc count) at xs ys ex ey hx hy =
    let rest = cmp-words count (at + 8) xs ys (omega (arith, ex)) (omega (arith, ey)) hx hy in
    let x = octet-drop at xs (omega (arith, ex)) in
    let y = octet-drop at ys (omega (arith, ey)) in
    let head = cmp-append (octet at xs) (octet at ys) (drop (at + 8) xs) (drop (at + 8) ys) refl
    (octet-bytes at xs hx) (octet-bytes at ys hy) in
    ap (ordering_then (nat_cmp (word_from at xs) (word_from at ys))) rest
    ∙ ap (λ w. ordering_then (nat_cmp w (word_from at ys))
    (slice_cmp nat_cmp (drop (at + 8) xs) (drop (at + 8) ys))) (word-worth at xs)
    ∙ ap (λ w. ordering_then (nat_cmp (worth (octet at xs)) w)
    (slice_cmp nat_cmp (drop (at + 8) xs) (drop (at + 8) ys))) (word-worth at ys)
    ∙ sym head
    ∙ sym (ap (λ l. slice_cmp nat_cmp l (drop at ys)) x
    ∙ ap (λ l. slice_cmp nat_cmp (octet at xs ++ drop (at + 8) xs) l) y)

ascii : (text : List ℕ) → IsTrue (list_all is_inline_byte text) → (i : ℕ) → get_or text i 0 < 128
ascii [] h i = omega arith
ascii (x ∷ xs) h zero = (inline-byte x (both-true _ _ h).0).1
ascii (x ∷ xs) h (suc i) = ascii xs (both-true _ _ h).1 i

bytes-padded : (text : List ℕ) → IsInline text → AreBytes (padded text)
bytes-padded text h =
    append-bytes
    text
    _
    (λ i. let low = ascii text h.bytes i in omega arith)
    (append-bytes (replicate (63 - length text) 0) _ (zero-bytes _)
    (cons-bytes (length text) [] (let low = h.short in omega arith) no-bytes))

length-padded : (text : List ℕ) → IsInline text → length (padded text) ≡ 64
length-padded text h =
    let short = h.short in
    simp (length-append, length-replicate) (omega arith)

-- texts are ordered as their words
pub cmp-words_of : (a b : List ℕ) → IsInline a → IsInline b
    → slice_cmp nat_cmp (words_of a) (words_of b) ≡ slice_cmp nat_cmp a b
cmp-words_of a b ha hb =
    let sa = ha.short in
    let sb = hb.short in
    cmp-words 8 0 (padded a) (padded b) (length-padded a ha) (length-padded b hb)
    (bytes-padded a ha) (bytes-padded b hb)
    ∙ cmp-padded a b (63 - length a) (63 - length b) (length a) (length b) ha.bytes hb.bytes
    (omega arith) (λ e. e)

-- texts are equal as their words
pub eq-words_of : (a b : List ℕ) → IsInline a → IsInline b
    → bytes_eq (words_of a) (words_of b) ≡ bytes_eq a b
eq-words_of a b ha hb =
    sym (is_eq-slice_cmp (words_of a) (words_of b)) ∙ ap is_eq (cmp-words_of a b ha hb)
    ∙ is_eq-slice_cmp a b

-- an inline text is text
pub utf8-inline : (text : List ℕ) → IsInline text → IsUtf8 text
utf8-inline text h = IsUtf8-from_ascii text (ascii text h.bytes)

fill-zeros : (k v : ℕ) → set (replicate (suc k) 0) k v ≡ replicate k 0 ++ (v ∷ [])
fill-zeros zero v = refl
fill-zeros (suc k) v = ap (λ r. 0 ∷ r) (fill-zeros k v)

-- zeros behind a text, with its length written into the last byte
filled : (text : List ℕ) (v : ℕ)
    → length text ≤ 63 → set (text ++ replicate (64 - length text) 0) 63 v ≡ text
    ++ (replicate (63 - length text) 0 ++ (v ∷ []))
filled text v h =
    let room : 64 - length text ≡ suc (63 - length text) = omega arith in
    set-append_right text (replicate (64 - length text) 0) (length text) 63 v refl h
    ∙ ap (λ n. text ++ set (replicate n 0) (63 - length text) v) room
    ∙ ap (λ r. text ++ r) (fill-zeros (63 - length text) v)

last-padded : (text : List ℕ) → length text ≤ 63 → get_or (padded text) 63 0 ≡ length text
last-padded text h =
    let k = 63 - length text in
    let none : k - k ≡ 0 = omega arith in
    get_or-append_right text (replicate k 0 ++ (length text ∷ [])) (length text) 63 0 refl h
    ∙ get_or-append_right (replicate k 0) (length text ∷ []) k k 0
    (length-replicate k 0) (omega arith)
    ∙ ap (λ i. get_or (length text ∷ []) i 0) none

taken-padded : (text : List ℕ) → length text ≤ 63
    → take (get_or (padded text) 63 0) (padded text) ≡ text
taken-padded text h = ap (λ n. take n (padded text)) (last-padded text h) ∙ take-append_seam text _

-- the bytes of an inline name, once its length is written
pub made-padded : (text bytes : List ℕ) → IsInline text
    → bytes ≡ text ++ replicate (64 - length text) 0 → IsPadded (set bytes 63 (length text))
made-padded text bytes h e =
    let whole : set bytes 63 (length text) ≡ padded text = ap (λ b. set b 63 (length text)) e
    ∙ filled text (length text) h.short in
    let back = taken-padded text h.short in
    let P : List ℕ → Type 0 = IsPadded in
    subst P (sym whole) (record {
      legal = (let Q : List ℕ → Type 0 = IsInline in
          subst Q (sym back) h);
      fills = sym (ap padded back);
    })

label-byte : (b : ℕ) → IsTrue (is_label_byte b) → IsTrue (is_inline_byte b)
label-byte b h = grind (arith, nat_tests)

zone-byte : (b : ℕ) → IsTrue (is_zone_byte b) → IsTrue (is_inline_byte b)
zone-byte b h = grind (arith, nat_tests)

all-more : (p q : ℕ → Bool) → ((b : ℕ) → IsTrue (p b) → IsTrue (q b)) → (text : List ℕ)
    → IsTrue (list_all p text) → IsTrue (list_all q text)
all-more p q more [] h = refl
all-more p q more (x ∷ xs) h =
    true-both _ _ (more x (both-true _ _ h).0) (all-more p q more xs (both-true _ _ h).1)

-- a name whose bytes are ASCII, and none of them 0, can be kept inline
inline-name : (p : ℕ → Bool) → ((b : ℕ) → IsTrue (p b) → IsTrue (is_inline_byte b))
    → (text : List ℕ) → IsTrue (has_name_length text && list_all p text) → IsInline text
inline-name p more text h = record {
  short = below _ _ (both-true _ _ (both-true _ _ h).0).1;
  bytes = all-more p is_inline_byte more text (both-true _ _ h).1;
}

pub label-inline : (text : List ℕ) → IsTrue (is_label text) → IsInline text
label-inline = inline-name is_label_byte label-byte

pub zone-inline : (text : List ℕ) → IsTrue (is_zone_name text) → IsInline text
zone-inline = inline-name is_zone_byte zone-byte
