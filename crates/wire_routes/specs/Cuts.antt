-- Texts behind a word, before and behind a byte, and numbers of 32 bits.
use Rattle.std.specs.Prelude.{ℕ, ◌==◌, cond, List, [], ◌∷◌, drop, length, nat_eq, Option, Some}
use Rattle.std.specs.Prelude.{None, option_map}
use Rattle.std.specs.List.{starts_with}
use Rattle.exact_fraction.specs.Digits.{number_within}

-- what follows the word that a text begins with
abbrev pub after_word : List ℕ → List ℕ → Option (List ℕ)
after_word word text = cond (starts_with nat_eq text word) (Some (drop (length word) text)) None

-- what stands before and behind the first of that byte
abbrev pub cut_at : ℕ → List ℕ → Option (List ℕ × List ℕ)
cut_at byte [] = None
cut_at byte (b ∷ bs) =
    cond (b == byte) (Some ([], bs)) (option_map (λ p. (b ∷ p.0, p.1)) (cut_at byte bs))

-- the number below 2^32 that digits stand for; leading zeros are read, and there may be any
-- number of digits
abbrev pub number32 : List ℕ → Option ℕ
number32 digits = number_within 4_294_967_295 digits
