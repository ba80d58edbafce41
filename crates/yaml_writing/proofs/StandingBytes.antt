-- The lines of a UTF-8 text are UTF-8, and what stands in double quotes.
use Rattle.std.proofs.Common.{◌≡◌, ℕ, suc, ◌+◌, ◌-◌, ◌<◌, ◌≤◌, Bool, true, false, cond, not, ◌||◌}
use Rattle.std.proofs.Common.{◌==◌, List, [], ◌∷◌, ◌++◌, length, take, drop, get_or, slice_index}
use Rattle.std.proofs.Common.{replicate, IsUtf8, refl, sym, ap, ◌∙◌, subst, arith, append_assoc}
use Rattle.std.proofs.Common.{append-nil, length-append, take-append-drop}
use Rattle.std.specs.Prelude.{zero}
use Rattle.std.specs.List.{AllByRecursion, list_all, slice_split, onto_first}
use Rattle.std.specs.Str.Lines.{lines, lines_of_parts, strip_carriage_return}
use Rattle.std.proofs.lemmas.Bool.{and_from, or_parts, eqb-true}
use Rattle.std.proofs.lemmas.Bool.Decides.{nat_tests}
use Rattle.std.proofs.lemmas.List.Folds.{list_all-append, list_any-append}
use Rattle.std.proofs.lemmas.Str.{IsUtf8-append, IsUtf8-nil, IsUtf8-encode, encode_ascii}
use Rattle.std.proofs.lemmas.Str.{IsUtf8-take, IsUtf8-drop, IsCharBoundary-before_ascii}
use Rattle.std.proofs.lemmas.Str.{IsCharBoundary-from_take}
use Rattle.std.proofs.Math.Seq.{take-append_seam, drop-append_seam, get_or-append_seam}
use lib.Utf8.{low_scalar}
use Rattle.yaml_terms.specs.Block.{is_blank_byte}
use Rattle.yaml_terms.specs.Line.{is_control, has_control}
use Rattle.yaml_terms.specs.SpellingFits.{is_quotable}
use Rattle.yaml_terms.proofs.Utf8Lemmas.{pick, one_ascii, back, before_end, without, onward}
use Rattle.yaml_terms.proofs.Utf8Lemmas.{backward, ascii_of}

pub blank_ascii : (c : ℕ) → is_blank_byte c ≡ true → c < 128
blank_ascii c e = grind (arith, nat_tests)

-- BYTES THAT PASS A TEST

pub list_all-both : (t : ℕ → Bool) (xs ys : List ℕ) → list_all t xs ≡ true → list_all t ys ≡ true
    → list_all t (xs ++ ys) ≡ true
list_all-both t xs ys e f = list_all-append t xs ys ∙ and_from (list_all t xs) (list_all t ys) e f

pub free_take : (n : ℕ) (xs : List ℕ) → has_control xs ≡ false → has_control (take n xs) ≡ false
free_take n xs e = (or_parts (has_control (take n xs))
    (has_control (drop n xs)) (sym (list_any-append is_control (take n xs) (drop n xs))
    ∙ ap has_control (take-append-drop n xs) ∙ e)).0

pub free_drop : (n : ℕ) (xs : List ℕ) → has_control xs ≡ false → has_control (drop n xs) ≡ false
free_drop n xs e = (or_parts (has_control (take n xs))
    (has_control (drop n xs)) (sym (list_any-append is_control (take n xs) (drop n xs))
    ∙ ap has_control (take-append-drop n xs) ∙ e)).1

-- a byte that may stand in double quotes
abbrev pub may_stand : ℕ → Bool
may_stand c = not (is_control c) || c == 10

pub quotable : (xs : List ℕ) → has_control xs ≡ false → is_quotable xs ≡ true
quotable [] e = refl
quotable (c ∷ cs) e =
    let p = or_parts (is_control c) (has_control cs) e in
    and_from (may_stand c) (list_all may_stand cs) (rw p.0 refl) (quotable cs p.1)

-- a text that can stand in double quotes
abbrev pub IsClean : List ℕ → Type 0
IsClean text = IsUtf8 text × (is_quotable text ≡ true)

pub clean-append : (xs ys : List ℕ) → IsClean xs → IsClean ys → IsClean (xs ++ ys)
clean-append xs ys a b = (IsUtf8-append xs ys a.0 b.0, list_all-both may_stand xs ys a.1 b.1)

pub clean-replicate : (n : ℕ) → IsClean (replicate n 10)
clean-replicate zero = (IsUtf8-nil, refl)
clean-replicate (suc n) =
    clean-append (10 ∷ []) (replicate n 10) (one_ascii 10 (omega arith), refl) (clean-replicate n)

-- a part of a line
abbrev pub IsPure : List ℕ → Type 0
IsPure bytes = IsUtf8 bytes × (has_control bytes ≡ false)

pub clean-from_pure : (xs : List ℕ) → IsPure xs → IsClean xs
clean-from_pure xs p = (p.0, quotable xs p.1)

-- without spaces at its start
pub pure-drop_spaces : (n : ℕ) (xs : List ℕ) → ((k : ℕ) → k < n → get_or xs k 0 < 128) → IsPure xs
    → IsPure (drop n xs)
pure-drop_spaces zero xs low p = p
pure-drop_spaces (suc n) [] low p = p
pure-drop_spaces (suc n) (x ∷ xs) low p =
    pure-drop_spaces n xs (λ k h. low (suc k) (omega arith))
    (back [] x xs (low 0 (omega arith)) p.0, (or_parts (is_control x) (has_control xs) p.1).1)

-- LINES

abbrev Parts : List ℕ → List (List ℕ) → Type 0
Parts p [] = ⊥
Parts p (l ∷ ls) = IsUtf8 (p ++ l) × AllByRecursion IsUtf8 ls

all_parts : (ls : List (List ℕ)) → Parts [] ls → AllByRecursion IsUtf8 ls
all_parts [] h = absurd h
all_parts (l ∷ ls) h = (h.0, h.1)

parts_utf8 : (p xs : List ℕ) → IsUtf8 (p ++ xs) → Parts p (slice_split (λ b. b == 10) xs)
parts_utf8 p [] u = (u, tt)
parts_utf8 p (x ∷ xs) u =
    pick (Parts p) (x == 10) ([] ∷ slice_split (λ b. b == 10) xs)
    (onto_first x (slice_split (λ b. b == 10) xs))
    (λ e. let h = ascii_of x 10 e (omega arith) in (
      before_end p x xs h u,
      all_parts (slice_split (λ b. b == 10) xs) (parts_utf8 [] xs (back p x xs h u)),
    ))
    (λ e. onto (slice_split (λ b. b == 10) xs) (parts_utf8 (p ++ (x ∷ [])) xs (onward p x xs u)))
  where
    onto : (ls : List (List ℕ)) → Parts (p ++ (x ∷ [])) ls → Parts p (onto_first x ls)
    onto [] h = absurd h
    onto (l ∷ ls) h = (backward p x l h.0, h.1)

strip_utf8 : (l : List ℕ) → IsUtf8 l → IsUtf8 (strip_carriage_return l)
strip_utf8 [] u = u
strip_utf8 (x ∷ l) u = pick IsUtf8 (slice_index (x ∷ l) (length (x ∷ l) - 1) == 13)
    (take (length (x ∷ l) - 1) (x ∷ l)) (x ∷ l)
    (λ e. IsUtf8-take (x ∷ l) (length (x ∷ l) - 1) u (IsCharBoundary-before_ascii (x ∷ l)
    (length (x ∷ l) - 1) (omega arith) (ascii_of _ 13 e (omega arith))))
    (λ e. u)

of_parts_utf8 : (ls : List (List ℕ)) → AllByRecursion IsUtf8 ls
    → AllByRecursion IsUtf8 (lines_of_parts ls)
of_parts_utf8 [] h = tt
of_parts_utf8 (x ∷ []) h =
    pick (AllByRecursion IsUtf8) (length x == 0) [] (x ∷ []) (λ e. tt) (λ e. (h.0, tt))
of_parts_utf8 (x ∷ y ∷ more) h = (strip_utf8 x h.0, of_parts_utf8 (y ∷ more) h.1)

pub lines_utf8 : (text : List ℕ) → IsUtf8 text → AllByRecursion IsUtf8 (lines text)
lines_utf8 text u = of_parts_utf8 (slice_split (λ b. b == 10) text)
    (all_parts (slice_split (λ b. b == 10) text) (parts_utf8 [] text u))
