-- Visits that are shared out, a door at a time.
use Rattle.std.proofs.Common.{◌≡◌, ℕ, zero, suc, ◌+◌, List, [], ◌∷◌, ◌++◌, length, flat_map, sum_by}
use Rattle.std.proofs.Common.{sym, ap, ◌∙◌, subst, arith, append_assoc, append-nil, length-append}
use Rattle.std.specs.List.{All}
use Rattle.std.proofs.lemmas.List.Sums.{sum_by-cons}
use Rattle.std.proofs.lemmas.List.Elements.{All-append}
use Rattle.std.proofs.lemmas.Grind.{flat_map-append}

one_of : {X : Type 0} (P : X → Type 0) (x : X) → P x → All P (x ∷ [])
one_of P x p zero d lt = p
one_of P x p (suc k) d lt = absurd (omega arith)

-- what holds of all and of one more holds of them together
pub all_with : {X : Type 0} (P : X → Type 0) (xs ys : List X) (x : X) → ys ≡ xs ++ x ∷ [] → All P xs
    → P x → All P ys
all_with P xs ys x is h p = subst (All P) (sym is) (All-append P xs (x ∷ []) h (one_of P x p))

-- one more door takes the first of what is left
pub dealt_more : {D V : Type 0} (left_of : D → List V) (all held rest : List V)
    (doors more : List D) (door : D)
    → more ≡ doors ++ door ∷ [] → all ≡ flat_map left_of doors ++ held → held ≡ left_of door ++ rest
    → all ≡ flat_map left_of more ++ rest
dealt_more left_of all held rest doors more door is before taken =
    before ∙ ap (λ l. flat_map left_of doors ++ l) taken
    ∙ sym (append_assoc (flat_map left_of doors) (left_of door) rest)
    ∙ ap (λ l. l ++ rest) (sym together)
  where
    together : flat_map left_of more ≡ flat_map left_of doors ++ left_of door
    together = ap (flat_map left_of) is ∙ flat_map-append left_of doors (door ∷ [])
        ∙ ap (λ l. flat_map left_of doors ++ l) (append-nil (left_of door))

-- the shares of the doors behind the first one are what the first one leaves
pub shares_less : {R : Type 0} (share : R → ℕ) (before after : List R) (room : R) (held rest : ℕ)
    → before ≡ room ∷ after → sum_by share before ≡ held → rest + share room ≡ held
    → sum_by share after ≡ rest
shares_less share before after room held rest is shares count =
    let e : sum_by share before ≡ share room + sum_by share after = ap (sum_by share) is
    ∙ sum_by-cons share room after in
    omega (arith, e, shares, count)

-- a door more for a room more
pub counted_more : {R D : Type 0} (doors more : List D) (door : D) (rooms : List R) (room : R)
    → more ≡ doors ++ door ∷ [] → length doors ≡ length rooms
    → length more ≡ length (rooms ++ room ∷ [])
counted_more doors more door rooms room is same =
    omega (
      arith,
      ap length is,
      length-append doors (door ∷ []),
      length-append rooms (room ∷ []),
      same,
    )
