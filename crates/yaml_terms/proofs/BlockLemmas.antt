-- Line feeds behind the text of a block scalar.
use Rattle.std.proofs.Common.{◌≡◌, ℕ, suc, ◌+◌, ◌≤◌, arith, List, [], ◌∷◌, ◌++◌, replicate, ap, ◌∙◌}
use Rattle.std.proofs.Common.{append_assoc, add-one}
use Rattle.std.proofs.lemmas.List.{replicate_more}

-- one line feed after so many
pub one_line_feed : (text : List ℕ) (n : ℕ)
    → (text ++ replicate n 10) ++ (10 ∷ []) ≡ text ++ replicate (suc n) 10
one_line_feed text n = append_assoc text (replicate n 10) (10 ∷ []) ∙ ap (λ (t : List ℕ). text ++ t)
    (replicate_more n 10 ∙ ap (λ (k : ℕ). replicate k 10) (add-one n))

-- so many of a byte behind a text, and one more
pub bytes_more : (a b c : List ℕ) (n y : ℕ) → b ≡ a ++ replicate n y → c ≡ b ++ y ∷ []
    → c ≡ a ++ replicate (n + 1) y
bytes_more a b c n y e f = f ∙ ap (λ (t : List ℕ). t ++ y ∷ []) e
    ∙ append_assoc a (replicate n y) (y ∷ []) ∙ ap (λ (t : List ℕ). a ++ t) (replicate_more n y)

pub bytes_all : (a b : List ℕ) (n m y : ℕ) → b ≡ a ++ replicate n y → n ≤ m → m ≤ n
    → b ≡ a ++ replicate m y
bytes_all a b n m y e h i = let same : n ≡ m = omega arith in
    e ∙ ap (λ (k : ℕ). a ++ replicate k y) same
