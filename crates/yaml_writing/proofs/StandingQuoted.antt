-- The text of a quoted scalar on a line, and what stands behind it.
use Rattle.std.proofs.Common.{◌≡◌, ℕ, suc, ◌+◌, ◌<◌, true, false, cond, ◌==◌, List, [], ◌∷◌, ◌++◌}
use Rattle.std.proofs.Common.{Option, Some, None, drop, option_map, IsUtf8, refl, arith}
use Rattle.std.specs.Prelude.{⊤}
use Rattle.std.specs.List.{list_all}
use Rattle.std.proofs.lemmas.Bool.{and_parts, and_from, true≢false}
use Rattle.yaml_terms.specs.Quoted.{Quoted, quote_end, with_byte, with_escape, escaped_byte}
use Rattle.yaml_terms.specs.Quoted.{single}
use Rattle.yaml_terms.specs.Quoted.{double, quoted}
use Rattle.yaml_terms.specs.SpellingFits.{is_quotable}
use Rattle.yaml_terms.proofs.Utf8Lemmas.{pick, back, before_end, without, in_place, onward}
use Rattle.yaml_terms.proofs.Utf8Lemmas.{backward, ascii_of}
use Rattle.yaml_writing.proofs.StandingBytes.{may_stand}

-- A quoted scalar among these bytes, with no false escape: with the bytes before, its text is UTF-8
-- and can stand in double quotes, and what stands behind it is UTF-8.
abbrev pub IsFine : List ℕ → List ℕ → Option Quoted → Type 0
IsFine p cs None = ⊤
IsFine p cs (Some q) = q.bad ≡ false → IsUtf8 (p ++ q.text) × (is_quotable q.text ≡ true)
    × IsUtf8 (drop q.length cs)

ends : (p : List ℕ) (c : ℕ) (cs : List ℕ) → c < 128 → IsUtf8 (p ++ (c ∷ cs))
    → IsFine p (c ∷ cs) (Some quote_end)
ends p c cs h u g = (before_end p c cs h u, refl, back p c cs h u)

one_more : (p : List ℕ) (c : ℕ) (cs : List ℕ) (o : Option Quoted) → may_stand c ≡ true
    → IsFine (p ++ (c ∷ [])) cs o → IsFine p (c ∷ cs) (option_map (with_byte c 1) o)
one_more p c cs None h f = tt
one_more p c cs (Some q) h f = λ g.
    let r = f g in
    let e : 1 + q.length ≡ suc q.length = omega arith in
    (backward p c q.text r.0, and_from (may_stand c) (is_quotable q.text) h r.1, rw e r.2)

two_more : (p : List ℕ) (c d e : ℕ) (cs : List ℕ) (o : Option Quoted) → may_stand e ≡ true
    → IsFine (p ++ (e ∷ [])) cs o → IsFine p (c ∷ d ∷ cs) (option_map (with_byte e 2) o)
two_more p c d e cs None h f = tt
two_more p c d e cs (Some q) h f = λ g.
    let r = f g in
    let k : 2 + q.length ≡ suc (suc q.length) = omega arith in
    (backward p e q.text r.0, and_from (may_stand e) (is_quotable q.text) h r.1, rw k r.2)

single_fine : (p cs : List ℕ) → IsUtf8 (p ++ cs) → is_quotable cs ≡ true → IsFine p cs (single cs)
single_fine p [] u g = tt
single_fine p (c ∷ []) u g = pick (IsFine p (c ∷ [])) (c == 39) (Some quote_end) None
    (λ e. ends p c [] (ascii_of c 39 e (omega arith)) u) (λ e. tt)
single_fine p (c ∷ d ∷ cs) u g =
    let s = and_parts (may_stand c) (list_all may_stand (d ∷ cs)) g in
    let t = and_parts (may_stand d) (list_all may_stand cs) s.1 in
    pick (IsFine p (c ∷ d ∷ cs)) (c == 39) (cond (d == 39) (option_map (with_byte 39 2) (single cs))
    (Some quote_end)) (option_map (with_byte c 1) (single (d ∷ cs)))
    (λ e. let h = ascii_of c 39 e (omega arith) in pick (IsFine p (c ∷ d ∷ cs)) (d == 39)
    (option_map (with_byte 39 2) (single cs)) (Some quote_end)
    (λ f. two_more p c d 39 cs (single cs) refl (single_fine (p ++ (39 ∷ [])) cs
    (in_place p d 39 cs (ascii_of d 39 f (omega arith)) (omega arith) (without_first h)) t.1))
    (λ f. ends p c (d ∷ cs) h u))
    (λ e. one_more p c (d ∷ cs) (single (d ∷ cs)) s.0
    (single_fine (p ++ (c ∷ [])) (d ∷ cs) (onward p c (d ∷ cs) u) s.1))
  where
    without_first : c < 128 → IsUtf8 (p ++ (d ∷ cs))
    without_first h = without p c (d ∷ cs) h u

-- an escape stands for a byte that may stand in double quotes
abbrev pub IsEscape : ℕ → Option ℕ → Type 0
IsEscape d None = ⊤
IsEscape d (Some e) = (d < 128) × (e < 128) × (may_stand e ≡ true)

pub escape_fine : (d : ℕ) → IsEscape d (escaped_byte d)
escape_fine d = pick (IsEscape d) (d == 92)
    (Some 92) (cond (d == 34) (Some 34) (cond (d == 110) (Some 10) (cond (d == 116) (Some 9) None)))
    (λ e. (ascii_of d 92 e (omega arith), omega arith, refl))
    (λ _. pick (IsEscape d) (d == 34) (Some 34) (cond (d == 110) (Some 10)
    (cond (d == 116) (Some 9) None)) (λ e. (ascii_of d 34 e (omega arith), omega arith, refl))
    (λ _. pick (IsEscape d) (d == 110) (Some 10) (cond (d == 116) (Some 9) None)
    (λ e. (ascii_of d 110 e (omega arith), omega arith, refl))
    (λ _. pick (IsEscape d) (d == 116) (Some 9) None
    (λ e. (ascii_of d 116 e (omega arith), omega arith, refl)) (λ _. tt))))

bad_escape : (p cs : List ℕ) (o : Option Quoted) → IsFine p cs (option_map (with_escape None) o)
bad_escape p cs None = tt
bad_escape p cs (Some q) = λ g. absurd (true≢false g)

double_fine : (p cs : List ℕ) → IsUtf8 (p ++ cs) → is_quotable cs ≡ true → IsFine p cs (double cs)
double_fine p [] u g = tt
double_fine p (c ∷ []) u g = pick (IsFine p (c ∷ [])) (c == 34) (Some quote_end) None
    (λ e. ends p c [] (ascii_of c 34 e (omega arith)) u) (λ e. tt)
double_fine p (c ∷ d ∷ cs) u g =
    let s = and_parts (may_stand c) (list_all may_stand (d ∷ cs)) g in
    let t = and_parts (may_stand d) (list_all may_stand cs) s.1 in
    pick (IsFine p (c ∷ d ∷ cs)) (c == 34)
    (Some quote_end) (cond (c == 92) (option_map (with_escape (escaped_byte d)) (double cs))
    (option_map (with_byte c 1) (double (d ∷ cs))))
    (λ e. ends p c (d ∷ cs) (ascii_of c 34 e (omega arith)) u)
    (λ _. pick (IsFine p (c ∷ d ∷ cs)) (c == 92)
    (option_map (with_escape (escaped_byte d)) (double cs))
    (option_map (with_byte c 1) (double (d ∷ cs)))
    (λ e. by_escape (escaped_byte d) (escape_fine d) (λ k v. double_fine (p ++ (k ∷ [])) cs v t.1)
    (without_first (ascii_of c 92 e (omega arith))))
    (λ e. one_more p c (d ∷ cs) (double (d ∷ cs)) s.0
    (double_fine (p ++ (c ∷ [])) (d ∷ cs) (onward p c (d ∷ cs) u) s.1)))
  where
    without_first : c < 128 → IsUtf8 (p ++ (d ∷ cs))
    without_first h = without p c (d ∷ cs) h u

    by_escape : (o : Option ℕ) → IsEscape d o
        → ((k : ℕ) → IsUtf8 ((p ++ (k ∷ [])) ++ cs) → IsFine (p ++ (k ∷ [])) cs (double cs))
        → IsUtf8 (p ++ (d ∷ cs)) → IsFine p (c ∷ d ∷ cs) (option_map (with_escape o) (double cs))
    by_escape None h ih v = bad_escape p (c ∷ d ∷ cs) (double cs)
    by_escape (Some e) h ih v =
        two_more p c d e cs (double cs) h.2 (ih e (in_place p d e cs h.0 h.1 v))

pub quoted_fine : (c : ℕ) (cs : List ℕ) → IsUtf8 cs → is_quotable cs ≡ true
    → IsFine [] cs (quoted c cs)
quoted_fine c cs u g = pick (IsFine [] cs) (c == 39) (single cs) (double cs)
    (λ e. single_fine [] cs u g) (λ e. double_fine [] cs u g)
