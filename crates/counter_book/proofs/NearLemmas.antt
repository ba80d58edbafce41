-- What is kept around a moment, and the last readings of sources.
use Rattle.std.proofs.Common.{◌≡◌, ◌≢◌, ℕ, ◌+◌, ◌<◌, List, Option, Some, None, true, false, refl}
use Rattle.std.proofs.Common.{ap, sym, ◌∙◌, subst, arith, option_map, ◌==◌, ◌&&◌, ◌⊎◌, inl, inr}
use Rattle.std.proofs.Common.{is_some, slice_get}
use Rattle.std.proofs.lemmas.Bool.Decides.{eqb_tells, nat_tests}
use Rattle.counter_book.specs.Book.{slot_at}
use Rattle.counter_book.specs.Differences.{before_of}
use Rattle.counter_book.specs.Moves.{IsNext, IsNextThere}
use Rattle.counter_book.specs.Neighbours.{AreNear, AreTails, IsNoted, IsTail, counts_at, tail_of}
use Rattle.counter_book.specs.Writing.{IsNextWritten, IsWritten, is_next_slot}
use Rattle.counter_book.specs.declared.reading.CounterReading.{CounterReading}
use Rattle.counter_book.specs.declared.reading.Kept.{Kept}
use Rattle.counter_book.specs.declared.reading.Moment.{Moment}
use Rattle.counter_book.specs.declared.reading.Moves.{Moves}
use Rattle.counter_book.specs.declared.reading.Neighbours.{Neighbours}
use Rattle.counter_book.specs.declared.reading.NextMove.{NextMove}
use Rattle.counter_book.specs.declared.reading.Tail.{Tail}
use Rattle.counter_book.proofs.BeforeLemmas.{before-agree, before-found}
use Rattle.counter_book.proofs.MoveLemmas.{before-map, next-at}
use Rattle.counter_book.proofs.PlaceLemmas.{bool_cases, eq_true, left, not_equal, parts, right}

-- what agrees everywhere has the same neighbours
pub near-at : (f g : ℕ → Option Kept) (m : ℕ) (near : Neighbours) → ((j : ℕ) → f j ≡ g j)
    → AreNear g m near → AreNear f m near
near-at f g m near h n = record {
  before = n.before ∙ sym (before-agree (counts_at f) (counts_at g) m
      (λ j l. ap (option_map (λ (x : Kept). x.count)) (h j)));
  here = n.here ∙ sym (h m);
  next = next-at f g m near.next h n.next;
}

-- the neighbours that were looked up
pub near-looked : (f : ℕ → Option Kept) (m : ℕ) (near : Neighbours)
    → near.before ≡ option_map (λ (x : Kept). x.count) (before_of f m) → near.here ≡ f m
    → IsNext f m near.next → AreNear f m near
near-looked f m near b h n = record {
  before = b ∙ before-map (λ (x : Kept). x.count) f m;
  here = h;
  next = n;
}

-- the neighbours of a minute behind the last reading
pub near-tail : (f : ℕ → Option Kept) (m : ℕ) (tail : Tail) → IsTail f tail → tail.minute < m
    → AreNear f m (record { before = Some tail.count; here = None; next = None })
near-tail f m tail h l = record {
  before = sym (before-found (counts_at f) tail.minute m tail.count l h.there
      (λ j a b. ap (option_map (λ (x : Kept). x.count)) (h.last j a)));
  here = sym (h.last m l);
  next = λ j a. h.last j (omega arith);
}

before_or : (a b : ℕ) → (a < b) ⊎ (b < a + 1)
before_or a b = grind (arith, nat_tests)

module _ (old new : List (Moment × Kept)) (n : ℕ) (r : CounterReading) (moves : Moves)
    (near : Neighbours) (w : IsWritten old n r moves new)
    (there : IsNextThere old n r.minute moves.next)
    (around : AreNear (slot_at old n) r.minute near) where
  next_far : (next : Option NextMove) (k m : ℕ) → (k == n) ≡ false → is_next_slot n next k m ≡ false
  next_far None k m e = refl
  next_far (Some next) k m e = left (k == n) (m == next.minute) e

  -- other sources stay
  far : (k m : ℕ) → k ≢ n → slot_at new k m ≡ slot_at old k m
  far k m d = let e = not_equal k n d in
      w.others k m (left (k == n) (m == r.minute) e) (next_far moves.next k m e)

  -- where nothing was but at the reading's own minute, nothing is
  stays-none : (m : ℕ) → m ≢ r.minute → slot_at old n m ≡ None → slot_at new n m ≡ None
  stays-none m d e = elim (bool_cases (is_next_slot n moves.next n m)) [
    | inl h ↦ absurd (taken moves.next there h)
    | inr h ↦ w.others n m (right (n == n) (m == r.minute) (not_equal m r.minute d)) h ∙ e
  ]
    where
      taken : (next : Option NextMove) → IsNextThere old n r.minute next
          → is_next_slot n next n m ≡ true → ⊥
      taken None t h = cc h
      taken (Some next) t h =
          let same = eq_true m next.minute (parts (n == n) (m == next.minute) h).1 in
          let some : slot_at old n m ≡ Some next.kept = ap (slot_at old n) same ∙ t.1 in
          cc (e, some)

  -- but at the reading's own minute, counts stay
  stays-counts : (m : ℕ) → m ≢ r.minute → counts_at (slot_at new n) m ≡ counts_at (slot_at old n) m
  stays-counts m d = elim (bool_cases (is_next_slot n moves.next n m)) [
    | inl h ↦ same moves.next w.next there h
    | inr h ↦ ap (option_map (λ (x : Kept). x.count))
        (w.others n m (right (n == n) (m == r.minute) (not_equal m r.minute d)) h)
  ]
    where
      same : (next : Option NextMove) → IsNextWritten new n next → IsNextThere old n r.minute next
          → is_next_slot n next n m ≡ true
          → counts_at (slot_at new n) m ≡ counts_at (slot_at old n) m
      same None a t h = cc h
      same (Some next) a t h =
          let e = eq_true m next.minute (parts (n == n) (m == next.minute) h).1 in
          ap (λ x. counts_at (slot_at new n) x) e
          ∙ ap (option_map (λ (x : Kept). x.count)) a
          ∙ sym (ap (option_map (λ (x : Kept). x.count)) t.1)
          ∙ sym (ap (λ x. counts_at (slot_at old n) x) e)

  -- the reading is the last one now
  own-tail : near.next ≡ None → IsTail (slot_at new n) (tail_of r)
  own-tail e = record {
    there = ap (option_map (λ (x : Kept). x.count)) w.own;
    last = λ m l. stays-none m (λ d. absurd (omega arith))
        (subst (IsNext (slot_at old n) r.minute) e around.next m l);
  }

  -- a last reading behind this one stays the last one
  later-tail : (tail : Tail) → IsTail (slot_at old n) tail → is_some near.next ≡ true
      → IsTail (slot_at new n) tail
  later-tail tail h e =
      let l : r.minute < tail.minute = behind near.next around.next e in record {
        there = stays-counts tail.minute (λ d. absurd (omega arith)) ∙ h.there;
        last = λ m k. stays-none m (λ d. absurd (omega arith)) (h.last m k);
      }
    where
      behind : (next : Option (ℕ × Kept)) → IsNext (slot_at old n) r.minute next
          → is_some next ≡ true → r.minute < tail.minute
      behind None a s = cc s
      behind (Some next) a s = elim (before_or tail.minute next.0) [
        | inl l ↦ (let none = h.last next.0 l in let some = a.1 in absurd (cc (none, some)))
        | inr l ↦ (let m = a.0 in omega arith)
      ]

  -- Tails stay true over what a reading writes, once it is noted.
  pub tails-noted : (tails lasts : List Tail) → AreTails old tails → IsNoted tails n r near lasts
      → AreTails new lasts
  tails-noted tails lasts h noted k tail e = elim (noted k tail e) [
    | inl p ↦ subst (λ x. IsTail (slot_at new x) tail) (sym p.0)
        (subst (IsTail (slot_at new n)) (sym p.2) (own-tail p.1))
    | inr p ↦ elim (eqb_tells k n) [
      | inl q ↦ subst (λ x. IsTail (slot_at new x) tail) (sym q.1)
          (later-tail tail (subst (λ x. IsTail (slot_at old x) tail) q.1 (h k tail p.0)) (p.1 q.1))
      | inr q ↦ (let t = h k tail p.0 in record {
        there = ap (option_map (λ (x : Kept). x.count)) (far k tail.minute q.1) ∙ t.there;
        last = λ m l. far k m q.1 ∙ t.last m l;
      })
    ]
  ]
