-- The phrases of statuses: they are short, and of other numbers there is none.
use Rattle.std.proofs.Common.{◌≡◌, ◌≤◌, ◌<◌, ◌==◌, ℕ, zero, suc, List, [], length, Bool, true, ◌&&◌}
use Rattle.std.proofs.Common.{nat_le, nat_lt, Option, Some, None, cond, refl, arith}
use Rattle.std.proofs.lemmas.Bool.{leb-true}
use Rattle.std.proofs.lemmas.Bool.Decides.{Decides-below_and}
use Rattle.std.specs.Prelude.{unwrap_or}
use Rattle.http.specs.StatusCode.{IsStatusCode, reason_phrase}

abbrev is_short : Option (List ℕ) → Bool
is_short None = true
is_short (Some phrase) = nat_le (length phrase) 31

abbrev short_below : ℕ → Bool
short_below zero = true
short_below (suc n) = is_short (reason_phrase n) && short_below n

from_test : (phrase : Option (List ℕ)) → is_short phrase ≡ true → length (unwrap_or phrase []) ≤ 31
from_test None h = omega arith
from_test (Some phrase) h = leb-true (length phrase) 31 h

-- a phrase has at most 31 bytes
pub phrase_is_short : (n : ℕ) → n < 1000 → length (unwrap_or (reason_phrase n) []) ≤ 31
phrase_is_short n h =
    let test = λ (k : ℕ). is_short (reason_phrase k) in
    from_test (reason_phrase n)
    ((Decides-below_and test (λ k. test k ≡ true) short_below (λ k. (λ x. x, λ x. x)) refl
    (λ _. refl) 1000).0 refl n h)

-- a number that is no status isn't this one
skip : (n : ℕ) → (IsStatusCode n → ⊥) → (k : ℕ) (x y : Option (List ℕ))
    → (nat_le 100 k && nat_lt k 1000) ≡ true → y ≡ None
    → cond (n == k) x y ≡ None
skip n none k x y code h = grind (arith, h)

-- a number that is no status has no phrase
no_phrase : (n : ℕ) → (IsStatusCode n → ⊥) → reason_phrase n ≡ None
no_phrase n none =
    (skip n none 100 _ _ refl
    (skip n none 101 _ _ refl (skip n none 102 _ _ refl (skip n none 103 _ _ refl
    (skip n none 200 _ _ refl
    (skip n none 201 _ _ refl (skip n none 202 _ _ refl (skip n none 203 _ _ refl
    (skip n none 204 _ _ refl
    (skip n none 205 _ _ refl (skip n none 206 _ _ refl (skip n none 207 _ _ refl
    (skip n none 208 _ _ refl
    (skip n none 226 _ _ refl (skip n none 300 _ _ refl (skip n none 301 _ _ refl
    (skip n none 302 _ _ refl
    (skip n none 303 _ _ refl (skip n none 304 _ _ refl (skip n none 305 _ _ refl
    (skip n none 307 _ _ refl
    (skip n none 308 _ _ refl (skip n none 400 _ _ refl (skip n none 401 _ _ refl
    (skip n none 402 _ _ refl
    (skip n none 403 _ _ refl (skip n none 404 _ _ refl (skip n none 405 _ _ refl
    (skip n none 406 _ _ refl
    (skip n none 407 _ _ refl (skip n none 408 _ _ refl (skip n none 409 _ _ refl
    (skip n none 410 _ _ refl
    (skip n none 411 _ _ refl (skip n none 412 _ _ refl (skip n none 413 _ _ refl
    (skip n none 414 _ _ refl
    (skip n none 415 _ _ refl (skip n none 416 _ _ refl (skip n none 417 _ _ refl
    (skip n none 418 _ _ refl
    (skip n none 421 _ _ refl (skip n none 422 _ _ refl (skip n none 423 _ _ refl
    (skip n none 424 _ _ refl
    (skip n none 425 _ _ refl (skip n none 426 _ _ refl (skip n none 428 _ _ refl
    (skip n none 429 _ _ refl
    (skip n none 431 _ _ refl (skip n none 451 _ _ refl (skip n none 500 _ _ refl
    (skip n none 501 _ _ refl
    (skip n none 502 _ _ refl (skip n none 503 _ _ refl (skip n none 504 _ _ refl
    (skip n none 505 _ _ refl
    (skip n none 506 _ _ refl (skip n none 507 _ _ refl (skip n none 508 _ _ refl
    (skip n none 510 _ _ refl
    (skip n none 511 _ _ refl refl))))))))))))))))))))))))))))))))))))))))))))))))))))))))))))))

pub no_phrase_text : (n : ℕ) → (IsStatusCode n → ⊥) → unwrap_or (reason_phrase n) [] ≡ []
no_phrase_text n none = rw (no_phrase n none) refl
