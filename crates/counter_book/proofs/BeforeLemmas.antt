-- What stands at the greatest smaller minute, by look-ups alone.
use Rattle.std.proofs.Common.{◌≡◌, ℕ, zero, suc, ◌+◌, ◌<◌, ◌≤◌, Option, Some, None, refl, ap, sym}
use Rattle.std.proofs.Common.{◌∙◌, arith, ◌≢◌}
use Rattle.std.proofs.Common.{◌-◌}
use Rattle.counter_book.specs.Differences.{before_of, first_there, rise_at, rise_between}
use Rattle.counter_book.specs.declared.reading.Count.{Count}

module _ {A : Type 0} where
  -- what agrees below a minute has the same before it
  pub before-agree : (f g : ℕ → Option A) (m : ℕ) → ((j : ℕ) → j < m → f j ≡ g j)
      → before_of f m ≡ before_of g m
  before-agree f g zero h = refl
  before-agree f g (suc m) h =
      ap (λ x. first_there x (before_of f m)) (h m (omega arith))
      ∙ ap (first_there (g m)) (before-agree f g m (λ j l. h j (omega arith)))

  -- nothing between two minutes: the later one has before it what the earlier one has
  pub before-skip : (f : ℕ → Option A) (m d : ℕ)
      → ((j : ℕ) → m ≤ j → j < m + d → f j ≡ None) → before_of f (m + d) ≡ before_of f m
  before-skip f m zero h = ap (before_of f) (omega arith)
  before-skip f m (suc d) h =
      let e : m + suc d ≡ suc (m + d) = omega arith in
      ap (before_of f) e
      ∙ ap (λ x. first_there x (before_of f (m + d))) (h (m + d) (omega arith) (omega arith))
      ∙ before-skip f m d (λ j a b. h j a (omega arith))

  -- the same by minutes
  pub before-from : (f : ℕ → Option A) (m k : ℕ) → m ≤ k
      → ((j : ℕ) → m ≤ j → j < k → f j ≡ None) → before_of f k ≡ before_of f m
  before-from f m k l h =
      let e : m + (k - m) ≡ k = omega arith in
      ap (before_of f) (sym e) ∙ before-skip f m (k - m) (λ j a b. h j a (omega arith))

  pub before-none : (f : ℕ → Option A) (m : ℕ) → ((j : ℕ) → j < m → f j ≡ None)
      → before_of f m ≡ None
  before-none f m h = before-from f 0 m (omega arith) (λ j a b. h j b)

  -- nothing between the two: the later one has before it what stands at the earlier one, if any
  pub before-past : (f : ℕ → Option A) (m k : ℕ) → m < k
      → ((j : ℕ) → m < j → j < k → f j ≡ None)
      → before_of f k ≡ first_there (f m) (before_of f m)
  before-past f m k l h = before-from f (suc m) k (omega arith) (λ j a b. h j (omega arith) b)

  pub before-found : (f : ℕ → Option A) (k m : ℕ) (v : A) → k < m → f k ≡ Some v
      → ((j : ℕ) → k < j → j < m → f j ≡ None) → before_of f m ≡ Some v
  before-found f k m v l e h = before-past f k m l h ∙ ap (λ x. first_there x (before_of f k)) e

  -- what agrees above a minute has the same before each later one, once there is one between
  pub before-behind : (f g : ℕ → Option A) (m n d : ℕ) (v : A) → m < n → f n ≡ Some v
      → ((j : ℕ) → j ≢ m → f j ≡ g j) → before_of f (suc n + d) ≡ before_of g (suc n + d)
  before-behind f g m n zero v l e h =
      let s : suc n + zero ≡ suc n = omega arith in
      ap (before_of f) s
      ∙ ap (λ x. first_there x (before_of f n)) e
      ∙ sym (ap (λ x. first_there x (before_of g n)) (sym (h n (omega arith)) ∙ e))
      ∙ ap (before_of g) (sym s)
  before-behind f g m n (suc d) v l e h =
      let s : suc n + suc d ≡ suc (suc n + d) = omega arith in
      ap (before_of f) s
      ∙ ap (λ x. first_there x (before_of f (suc n + d))) (h (suc n + d) (omega arith))
      ∙ ap (first_there (g (suc n + d))) (before-behind f g m n d v l e h)
      ∙ ap (before_of g) (sym s)

  pub before-later : (f g : ℕ → Option A) (m n k : ℕ) (v : A) → m < n → n < k → f n ≡ Some v
      → ((j : ℕ) → j ≢ m → f j ≡ g j) → before_of f k ≡ before_of g k
  before-later f g m n k v l b e h =
      let s : suc n + (k - suc n) ≡ k = omega arith in
      ap (before_of f) (sym s) ∙ before-behind f g m n (k - suc n) v l e h ∙ ap (before_of g) s

-- Only two differences move: where counts agree but at m, the rise at each other minute is the
-- same, unless it is the first behind m.
pub rise-earlier : (f g : ℕ → Option Count) (m k : ℕ) → ((j : ℕ) → j ≢ m → f j ≡ g j)
    → k < m → rise_at f k ≡ rise_at g k
rise-earlier f g m k h l =
    ap (λ x. rise_between x (f k)) (before-agree f g k (λ j b. h j (omega arith)))
    ∙ ap (rise_between (before_of g k)) (h k (omega arith))

rise-absent : (b : Option Count) → rise_between b None ≡ None
rise-absent None = refl
rise-absent (Some b) = refl

pub rise-none : (f : ℕ → Option Count) (k : ℕ) → f k ≡ None → rise_at f k ≡ None
rise-none f k e = ap (rise_between (before_of f k)) e ∙ rise-absent (before_of f k)

pub rise-later : (f g : ℕ → Option Count) (m n k : ℕ) (v : Count)
    → ((j : ℕ) → j ≢ m → f j ≡ g j) → m < n → n < k → f n ≡ Some v
    → rise_at f k ≡ rise_at g k
rise-later f g m n k v h l b e =
    ap (λ x. rise_between x (f k)) (before-later f g m n k v l b e h)
    ∙ ap (rise_between (before_of g k)) (h k (omega arith))
