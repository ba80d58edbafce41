-- What a read gives.
use Rattle.std.proofs.Common.{◌≡◌, ◌≤◌, ℕ, List, ◌++◌, take, drop, length, sym, ap, ◌∙◌, arith}
use Rattle.std.proofs.Common.{length-take}
use Rattle.std.proofs.lemmas.List.{take-append-drop, take-append-le, take_all}

-- what a read put at the start of a piece, and what is left then, are what was left before
pub given_first : (left piece : List ℕ) (n : ℕ) → n ≤ length left
    → left ≡ take n (take n left ++ piece) ++ drop n left
given_first left piece n within =
    let long : length (take n left) ≡ n = omega (arith, length-take n left) in
    let taken : take n (take n left ++ piece) ≡ take n left =
    take-append-le n (take n left) piece (omega arith) ∙ take_all n (take n left) (omega arith) in
    sym (ap (λ (l : List ℕ). l ++ drop n left) taken ∙ take-append-drop n left)
