-- A list of numbers goes on as a ledger does.
use Rattle.std.proofs.Common.{◌≡◌, ℕ, Bool, true, false, List, [], ◌∷◌, ◌++◌, refl, sym, ap, ◌∙◌}
use Rattle.std.proofs.lemmas.List.{append-nil, map-append}
use Rattle.turn_desk.specs.Ledgers.{GoesOn}
use Rattle.turn_desk.specs.NumberLists.{numbers}

abbrev entries : List ℕ → List (List ℕ)
entries ns = (numbers ns).history

pub numbers_stay : (old new : List ℕ) → new ≡ old → GoesOn (numbers old) (numbers new) false
numbers_stay old new is = record {
  settled = [];
  own = [];
  may = tt;
  one = refl;
  grows = ap entries is ∙ sym (append-nil (entries old)) ∙ sym (append-nil (entries old ++ []));
  root = refl;
}

pub numbers_go_on : (old new : List ℕ) (number : ℕ) (added : Bool)
    → (added ≡ true → new ≡ old ++ number ∷ []) → (added ≡ false → new ≡ old)
    → GoesOn (numbers old) (numbers new) added
numbers_go_on old new number true more same = record {
  settled = [];
  own = (number ∷ []) ∷ [];
  may = tt;
  one = refl;
  grows = ap entries (more refl) ∙ map-append (λ n. n ∷ []) old (number ∷ [])
      ∙ ap (λ (l : List (List ℕ)). l ++ (number ∷ []) ∷ []) (sym (append-nil (entries old)));
  root = refl;
}
numbers_go_on old new number false more same = numbers_stay old new (same refl)
