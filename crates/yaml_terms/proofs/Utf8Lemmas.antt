-- Parts of UTF-8 bytes that are cut at ASCII bytes are UTF-8.
use Rattle.std.proofs.Common.{◌≡◌, ℕ, suc, ◌+◌, ◌<◌, ◌≤◌, Bool, true, false, cond}
use Rattle.std.proofs.Common.{◌==◌, List, [], ◌∷◌, ◌++◌, length}
use Rattle.std.proofs.Common.{IsUtf8, refl, sym, subst, arith, append_assoc}
use Rattle.std.proofs.Common.{append-nil, length-append}
use Rattle.std.proofs.lemmas.Bool.{eqb-true}
use Rattle.std.proofs.lemmas.Str.{IsUtf8-append, IsUtf8-encode, encode_ascii}
use Rattle.std.proofs.lemmas.Str.{IsUtf8-take, IsUtf8-drop, IsCharBoundary-before_ascii}
use Rattle.std.proofs.lemmas.Str.{IsCharBoundary-from_take}
use Rattle.std.proofs.Math.Seq.{take-append_seam, drop-append_seam, get_or-append_seam}
use lib.Utf8.{low_scalar}

-- what holds of both of two, each where it is picked, holds of the one that is picked
pub pick : {A : Type 0} (P : A → Type 0) (b : Bool) (x y : A) → (b ≡ true → P x) → (b ≡ false → P y)
    → P (cond b x y)
pick P true x y p q = p refl
pick P false x y p q = q refl

-- what stands behind a text that is UTF-8 is UTF-8 where both are
pub seam : (p q : List ℕ) → IsUtf8 p → IsUtf8 (p ++ q) → IsUtf8 q
seam p q u v =
    let within : length p ≤ length (p ++ q) = omega (arith, length-append p q) in
    subst IsUtf8 (drop-append_seam p q) (IsUtf8-drop (p ++ q) (length p) v (IsCharBoundary-from_take
    (p ++ q) (length p) v within (subst IsUtf8 (sym (take-append_seam p q)) u)))

pub one_ascii : (c : ℕ) → c < 128 → IsUtf8 (c ∷ [])
one_ascii c h = subst IsUtf8 (encode_ascii c h) (IsUtf8-encode c (low_scalar c (omega arith)))

-- what stands before an ASCII byte, and behind it
pub front : (p : List ℕ) (c : ℕ) (q : List ℕ) → c < 128 → IsUtf8 (p ++ (c ∷ q)) → IsUtf8 p
front p c q h u =
    let within : length p < length (p ++ (c ∷ q)) = longer (length q) (length-append p (c ∷ q)) in
    subst IsUtf8 (take-append_seam p (c ∷ q))
    (IsUtf8-take (p ++ (c ∷ q)) (length p) u (IsCharBoundary-before_ascii (p ++ (c ∷ q))
    (length p) within (rw (get_or-append_seam p c q 0) h)))
  where
    longer : (n : ℕ) → length (p ++ (c ∷ q)) ≡ length p + suc n → length p < length (p ++ (c ∷ q))
    longer n e = omega arith

pub back : (p : List ℕ) (c : ℕ) (q : List ℕ) → c < 128 → IsUtf8 (p ++ (c ∷ q)) → IsUtf8 q
back p c q h u = seam (c ∷ []) q (one_ascii c h) (seam p (c ∷ q) (front p c q h u) u)

pub before_end : (p : List ℕ) (c : ℕ) (q : List ℕ) → c < 128 → IsUtf8 (p ++ (c ∷ q))
    → IsUtf8 (p ++ [])
before_end p c q h u = subst IsUtf8 (sym (append-nil p)) (front p c q h u)

-- without an ASCII byte, and with another one for it
pub without : (p : List ℕ) (c : ℕ) (q : List ℕ) → c < 128 → IsUtf8 (p ++ (c ∷ q)) → IsUtf8 (p ++ q)
without p c q h u = IsUtf8-append p q (front p c q h u) (back p c q h u)

pub in_place : (p : List ℕ) (c d : ℕ) (q : List ℕ) → c < 128 → d < 128 → IsUtf8 (p ++ (c ∷ q))
    → IsUtf8 ((p ++ (d ∷ [])) ++ q)
in_place p c d q h k u = IsUtf8-append (p ++ (d ∷ [])) q
    (IsUtf8-append p (d ∷ []) (front p c q h u) (one_ascii d k)) (back p c q h u)

-- one more byte before, one less behind
pub onward : (p : List ℕ) (c : ℕ) (q : List ℕ) → IsUtf8 (p ++ (c ∷ q))
    → IsUtf8 ((p ++ (c ∷ [])) ++ q)
onward p c q u = subst IsUtf8 (sym (append_assoc p (c ∷ []) q)) u

pub backward : (p : List ℕ) (c : ℕ) (q : List ℕ) → IsUtf8 ((p ++ (c ∷ [])) ++ q)
    → IsUtf8 (p ++ (c ∷ q))
backward p c q u = subst IsUtf8 (append_assoc p (c ∷ []) q) u

pub ascii_of : (c d : ℕ) → (c == d) ≡ true → d < 128 → c < 128
ascii_of c d e h = let s : c ≡ d = eqb-true c d e in omega arith
