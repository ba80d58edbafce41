-- What goes into a feed.
use Rattle.std.proofs.Common.{◌≡◌, ℕ, ◌+◌, ◌-◌, ◌≤◌, Bool, true, false, cond, nat_lt}
use Rattle.std.proofs.Common.{List}
use Rattle.std.proofs.Common.{[], ◌∷◌, ◌++◌, length, refl, ap, arith}
use Rattle.std.proofs.lemmas.Bool.{ltb-false, ltb-true}
use Rattle.entry_records.specs.declared.limits.TheConstants.{MAX_FEED_BYTES}
use Rattle.entry_records.specs.Feeds.{that_fit, room_behind}
use Rattle.entry_records.specs.Laws.{GoIntoFeed, FedAreMost, IsTooMuch, sized}

-- those that fit into a room
record AreMost (room : ℕ) (records fit : List (List ℕ)) : Type 0 where
  left : List (List ℕ)
  is : records ≡ fit ++ left
  few : sized fit ≤ room
  full : IsTooMuch (room - sized fit) left

by_room : (b : Bool) (room : ℕ) (r : List ℕ) (rs fit : List (List ℕ))
    → nat_lt room (4 + length r) ≡ b
    → AreMost (room - (4 + length r)) rs fit
    → AreMost room (r ∷ rs) (cond b [] (r ∷ fit))
by_room true room r rs fit test most = record {
  left = r ∷ rs;
  is = refl;
  few = omega arith;
  full = omega (arith, ltb-true room (4 + length r) test);
}
by_room false room r rs fit test most = record {
  left = most.left;
  is = ap (λ (all : List (List ℕ)). r ∷ all) most.is;
  few = omega (arith, most.few, ltb-false room (4 + length r) test);
  full = moved most.left (room - (4 + length r) - sized fit) (room - (4 + length r + sized fit))
      (omega arith) most.full;
}
  where
    moved : (left : List (List ℕ)) (n m : ℕ) → n ≡ m → IsTooMuch n left → IsTooMuch m left
    moved [] n m e h = tt
    moved (x ∷ xs) n m e h = omega (arith, e, h)

fit_most : (room : ℕ) (records : List (List ℕ)) → AreMost room records (that_fit room records)
fit_most room [] = record { left = []; is = refl; few = omega arith; full = tt }
fit_most room (r ∷ rs) = by_room (nat_lt room (4 + length r)) room r rs
    (that_fit (room - (4 + length r)) rs) refl (fit_most (room - (4 + length r)) rs)

some_size : (records : List (List ℕ)) → 1 ≤ length records → 4 ≤ sized records
some_size [] h = absurd (omega (arith, h))
some_size (r ∷ rs) h = omega arith

one_fed : (r : List ℕ) (rs fit : List (List ℕ)) → AreMost (room_behind (4 + length r)) rs fit
    → GoIntoFeed (r ∷ rs) (r ∷ fit)
one_fed r rs fit most = record {
  left = most.left;
  front = ap (λ (all : List (List ℕ)). r ∷ all) most.is;
  some = λ h. omega arith;
  few = λ h. omega (arith, h, most.few, some_size fit (omega (arith, h)));
  most = moved most.left (room_behind (4 + length r) - sized fit)
      (MAX_FEED_BYTES - (20 + (4 + length r + sized fit))) (omega arith) most.full;
}
  where
    moved : (left : List (List ℕ)) (n m : ℕ) → n ≡ m → IsTooMuch n left → IsTooMuch m left
    moved [] n m e h = tt
    moved (x ∷ xs) n m e h = omega (arith, e, h)

pub fed_are_most : FedAreMost
fed_are_most [] = record {
  left = [];
  front = refl;
  some = λ h. h;
  few = λ h. omega (arith, h);
  most = tt;
}
fed_are_most (r ∷ rs) = one_fed r rs (that_fit (room_behind (4 + length r)) rs)
    (fit_most (room_behind (4 + length r)) rs)
