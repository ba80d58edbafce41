-- Notices that are numbered on, wait and are taken.
use Rattle.std.proofs.Common.{◌≡◌, ◌≢◌, ◌⊎◌, inl, inr, ℕ, zero, suc, ◌+◌, ◌<◌, ◌≤◌, ◌==◌, ◌&&◌}
use Rattle.std.proofs.Common.{◌||◌, nat_eq, Bool, true, false, not, refl, ap, ◌∙◌, arith, List, []}
use Rattle.std.proofs.Common.{◌∷◌, ◌++◌, filter, length, length-append, append_assoc, slice_get}
use Rattle.std.proofs.Common.{Option, Some, None}
use Rattle.std.proofs.lemmas.Bool.Decides.{eqb_tells}
use Rattle.std.proofs.lemmas.List.{length-map}
use Rattle.std.proofs.lemmas.List.Elements.{filter-append}
use Rattle.burn_core.specs.declared.State.{State}
use Rattle.notice_box.specs.declared.Notice.{Notice}
use Rattle.notice_box.specs.Box.{AreNumbered, notices_of, after_taking}
use Rattle.catalog_terms.specs.declared.Binding.{Binding}
use Rattle.office_history.specs.Notices.{Told, notice_of, notices_from, waiting}
use Rattle.office_history.specs.Verdicts.{is_waiting}
use Rattle.notice_changes.specs.Works.{new_notices}

Kept : Type 0
Kept = Notice × Bool

-- one notice more, and the rest behind it
pub tell_on : (at : ℕ) (made : List (Notice × Bool)) (change : Binding × State)
    (rest : List (Binding × State)) →
    (made ++ (notice_of (length made + 1) (at, change), true) ∷ []) ++ new_notices at
    (length (made ++ (notice_of (length made + 1) (at, change), true) ∷ []) + 1) rest
    ≡ made ++ new_notices at (length made + 1) (change ∷ rest)
tell_on at made change rest =
    append_assoc made ((notice_of (length made + 1) (at, change), true) ∷ []) (new_notices at
    (length (made ++ (notice_of (length made + 1) (at, change), true) ∷ []) + 1) rest)
    ∙ ap (λ n. made ++ (notice_of (length made + 1) (at, change), true) ∷ new_notices at (n + 1)
    rest) (length-append made ((notice_of (length made + 1) (at, change), true) ∷ []))

-- how many notices a tick makes, and how many of them wait
pub length_new : (at number : ℕ) (told : List (Binding × State))
    → length (new_notices at number told) ≡ length told
length_new at number [] = refl
length_new at number (change ∷ told) = ap suc (length_new at (number + 1) told)

pub waiting_new : (at number : ℕ) (told : List (Binding × State))
    → waiting (new_notices at number told) ≡ length told
waiting_new at number [] = refl
waiting_new at number (change ∷ told) = ap suc (waiting_new at (number + 1) told)

pub waiting_more : (xs ys : List (Notice × Bool)) → waiting (xs ++ ys) ≡ waiting xs + waiting ys
waiting_more xs ys = ap length (filter-append (λ (kept : Notice × Bool). kept.1) xs ys)
    ∙ length-append (filter (λ (kept : Notice × Bool). kept.1) xs)
    (filter (λ (kept : Notice × Bool). kept.1) ys)

-- a taking lets no other notice wait
pub waiting_fewer : (made : List (Notice × Bool)) (number : ℕ)
    → waiting (after_taking made number) ≤ waiting made
waiting_fewer [] number = omega arith
waiting_fewer (kept ∷ made) number = by kept.1 (kept.0.number == number) (waiting_fewer made number)
  where
    by : (a b : Bool) → waiting (after_taking made number) ≤ waiting made
        → waiting ((kept.0, a && not b) ∷ after_taking made number) ≤ waiting ((kept.0, a) ∷ made)
    by true true h = omega (arith, h)
    by true false h = omega (arith, h)
    by false b h = h

pub length_taken : (made : List (Notice × Bool)) (number : ℕ)
    → length (after_taking made number) ≡ length made
length_taken made number =
    length-map made (λ (kept : Notice × Bool). (kept.0, kept.1 && not (kept.0.number == number)))

-- whether something waits at a place
abbrev pub waits_there : Option (Notice × Bool) → Bool
waits_there None = false
waits_there (Some kept) = kept.1

none_earlier : (from number : ℕ) (made : List (Notice × Bool)) → AreNumbered from (notices_of made)
    → number < from → is_waiting made number ≡ false
none_earlier from number [] are lt = refl
none_earlier from number (kept ∷ made) are lt = by (eqb_tells kept.0.number number)
    (none_earlier (from + 1) number made are.1 (omega (arith, lt)))
  where
    apart : kept.0.number ≡ number → ⊥
    apart e = omega (arith, e, are.0, lt)

    by : ((nat_eq kept.0.number number ≡ true) × (kept.0.number ≡ number))
        ⊎ ((nat_eq kept.0.number number ≡ false) × (kept.0.number ≢ number)) →
        is_waiting made number ≡ false → is_waiting (kept ∷ made) number ≡ false
    by (inl same) rest = absurd (apart same.1)
    by (inr other) rest = rw (other.0, rest) refl

-- the notice of a number waits where the one at its place does
pub waiting_at : (from place : ℕ) (made : List (Notice × Bool)) → AreNumbered from (notices_of made)
    → is_waiting made (from + place) ≡ waits_there (slice_get made place)
waiting_at from place [] are = refl
waiting_at from zero (kept ∷ made) are = by (eqb_tells kept.0.number (from + 0))
    (none_earlier (from + 1) (from + 0) made are.1 (omega arith))
  where
    same : kept.0.number ≡ from + 0
    same = omega (arith, are.0)

    or_false : (b : Bool) → (b || false) ≡ b
    or_false true = refl
    or_false false = refl

    by : ((nat_eq kept.0.number (from + 0) ≡ true) × (kept.0.number ≡ from + 0))
        ⊎ ((nat_eq kept.0.number (from + 0) ≡ false) × (kept.0.number ≢ from + 0)) →
        is_waiting made (from + 0) ≡ false → is_waiting (kept ∷ made) (from + 0) ≡ kept.1
    by (inl e) rest = rw (e.0, rest) (or_false kept.1)
    by (inr other) rest = absurd (other.1 same)
waiting_at from (suc place) (kept ∷ made) are = by (eqb_tells kept.0.number (from + suc place))
    (ap (is_waiting made) (moved from place) ∙ waiting_at (from + 1) place made are.1)
  where
    moved : (from place : ℕ) → from + suc place ≡ from + 1 + place
    moved from place = omega arith

    apart : kept.0.number ≡ from + suc place → ⊥
    apart e = omega (arith, e, are.0)

    by : ((nat_eq kept.0.number (from + suc place) ≡ true) × (kept.0.number ≡ from + suc place))
        ⊎ ((nat_eq kept.0.number (from + suc place) ≡ false) × (kept.0.number ≢ from + suc place)) →
        is_waiting made (from + suc place) ≡ waits_there (slice_get made place) →
        is_waiting (kept ∷ made) (from + suc place) ≡ waits_there (slice_get made place)
    by (inl e) rest = absurd (apart e.1)
    by (inr other) rest = rw other.0 rest

pub numbered_more : (number : ℕ) (xs ys : List Told)
    → notices_from number (xs ++ ys)
    ≡ notices_from number xs ++ notices_from (number + length xs) ys
numbered_more number [] ys = ap (λ k. notices_from k ys) (omega arith)
numbered_more number (x ∷ xs) ys =
    ap (λ ns. notice_of number x ∷ ns) (numbered_more (number + 1) xs ys
    ∙ ap (λ k. notices_from (number + 1) xs ++ notices_from k ys) (moved number (length xs)))
  where
    moved : (number n : ℕ) → number + 1 + n ≡ number + suc n
    moved number n = omega arith

pub length_numbered : (number : ℕ) (xs : List Told) → length (notices_from number xs) ≡ length xs
length_numbered number [] = refl
length_numbered number (x ∷ xs) = ap suc (length_numbered (number + 1) xs)
