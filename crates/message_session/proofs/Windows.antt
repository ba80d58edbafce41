-- The window of a buffer.
use Rattle.std.proofs.Common.{◌≡◌, ◌≤◌, ℕ, ◌+◌, ◌-◌, List, ◌++◌, length, take, drop, arith, sym, ap}
use Rattle.std.proofs.Common.{◌∙◌, length-take}
use Rattle.std.specs.List.{slice_range}
use Rattle.std.proofs.lemmas.List.{drop-take, take-append-le, drop-append-le, take_all}
use Rattle.std.proofs.Math.Seq.{take-append-add}

-- a window's bytes, counted from its start or from its end
pub window : (xs : List ℕ) (start end : ℕ) → start ≤ end
    → slice_range xs start end ≡ drop start (take end xs)
window xs start end ordered =
    let whole : start + (end - start) ≡ end = omega arith in
    sym (drop-take start (end - start) xs) ∙ ap (λ k. drop start (take k xs)) whole

-- what is written behind a window doesn't change it
pub window_kept : (xs ys : List ℕ) (start end : ℕ) → end ≤ length xs
    → drop start (take end (take end xs ++ ys)) ≡ drop start (take end xs)
window_kept xs ys start end within =
    let long : length (take end xs) ≡ end = omega (arith, length-take end xs) in
    ap (λ l. drop start l) (take-append-le end (take end xs) ys (omega arith)
    ∙ take_all end (take end xs) (omega arith))

-- a window that takes in what was written behind it
pub window_grown : (xs ys zs : List ℕ) (start end n : ℕ) → start ≤ end → end ≤ length xs →
    n ≤ length ys →
    drop start (take (end + n) (take end xs ++ (ys ++ zs))) ≡ drop start (take end xs) ++ take n ys
window_grown xs ys zs start end n ordered within few =
    let long : length (take end xs) ≡ end = omega (arith, length-take end xs) in
    let taken : take (end + n) (take end xs ++ (ys ++ zs)) ≡ take end xs ++ take n ys =
    ap (λ k. take (k + n) (take end xs ++ (ys ++ zs))) (sym long)
    ∙ take-append-add (take end xs) (ys ++ zs) n
    ∙ ap (λ l. take end xs ++ l) (take-append-le n ys zs few) in
    ap (λ l. drop start l) taken ∙ drop-append-le start (take end xs) (take n ys) (omega arith)
