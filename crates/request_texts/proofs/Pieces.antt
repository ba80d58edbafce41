-- Pieces that are written one behind another.
use Rattle.std.specs.Prelude.{◌≡◌, Result, Ok, Err, OnOk, OnErr, ℕ, List, [], ◌++◌, Option}
use Rattle.std.proofs.Common.{codes, append_assoc, refl, subst}
use Rattle.office_outside.specs.Told.{Gained, GainedPrefix}
use Rattle.office_outside.proofs.Gains.{gained_both, gained_then_prefix, prefix_with_more}

any_err : {T E : Type 0} (X : Type 0) (r : Result T E) → X → OnErr r X
any_err X (Ok v) x = tt
any_err X (Err e) x = x

on_err : {T E : Type 0} (X Y : Type 0) (r : Result T E) → OnErr r X → (X → Y) → OnErr r Y
on_err X Y (Ok v) x f = tt
on_err X Y (Err e) x f = f x

on_ok : {T E : Type 0} (X Y : Type 0) (r : Result T E) → OnOk r X → (X → Y) → OnOk r Y
on_ok X Y (Ok v) x f = f x
on_ok X Y (Err e) x f = tt

-- a text of two pieces
module _ {T E : Type 0} (whole first second : List ℕ) (is : first ++ second ≡ whole)
    (a b : Option (List ℕ)) where
  -- the first piece was written, and the second behind it
  pub both_behind : (c : Option (List ℕ)) (r : Result T E) → Gained first a b
      → OnOk r (Gained second b c) → OnOk r (Gained whole a c)
  both_behind c r gained next =
      on_ok _ _ r next
      (λ g. subst (λ (l : List ℕ). Gained l a c) is (gained_both first second a b c gained g))

  -- a prefix of the first piece was written
  pub part_of_first : (r : Result T E) → GainedPrefix first a b → OnErr r (GainedPrefix whole a b)
  part_of_first r part =
      any_err _ r
      (subst (λ (l : List ℕ). GainedPrefix l a b) is (prefix_with_more first second a b part))

  -- the first piece was written, and a prefix of the second behind it
  pub part_behind : (c : Option (List ℕ)) (r : Result T E) → Gained first a b
      → OnErr r (GainedPrefix second b c) → OnErr r (GainedPrefix whole a c)
  part_behind c r gained part =
      on_err _ _ r part
      (λ p. subst (λ (l : List ℕ). GainedPrefix l a c) is
      (gained_then_prefix first second a b c gained p))

pub head_joined : (line count : List ℕ)
    → ((line ++ codes " HTTP/1.1\r\nHost: office\r\nContent-Length: ") ++ count)
    ++ codes "\r\n\r\n"
    ≡ line ++ (codes " HTTP/1.1\r\nHost: office\r\nContent-Length: " ++ (count
    ++ codes "\r\n\r\n"))
head_joined line count = simp append_assoc refl
