-- Which differences a reading moves.
use Rattle.std.proofs.Common.{◌≡◌, ◌≢◌, ℕ, zero, suc, ◌<◌, true, false, Option, Some, None, List}
use Rattle.std.proofs.Common.{refl, ap, sym, ◌∙◌, subst, arith, option_map, cond, ◌==◌}
use Rattle.std.proofs.Common.{◌⊎◌, inl, inr}
use Rattle.std.proofs.lemmas.Bool.Decides.{nat_tests, eqb_tells}
use Rattle.counter_book.specs.declared.reading.Count.{Count}
use Rattle.counter_book.specs.declared.reading.CounterReading.{CounterReading}
use Rattle.counter_book.specs.declared.reading.Rise.{Rise}
use Rattle.counter_book.specs.declared.reading.Kept.{Kept}
use Rattle.counter_book.specs.declared.reading.NextMove.{NextMove}
use Rattle.counter_book.specs.Book.{Book, counts_in, kept_at}
use Rattle.counter_book.specs.Differences.{before_of, count_of, first_there, is_reading_at, rise_at}
use Rattle.counter_book.specs.Differences.{rise_between, rise_of}
use Rattle.counter_book.specs.Moves.{IsMoves, IsNext, change_at, counts_with, moved_to}
use Rattle.counter_book.specs.Moves.{next_move_of, next_move_to, same_rise}
use Rattle.counter_book.proofs.PlaceLemmas.{text_tells, pair_here, pair_there, true_false}
use Rattle.counter_book.proofs.BeforeLemmas.{before-agree, before-past, before-found, rise-earlier}
use Rattle.counter_book.proofs.BeforeLemmas.{rise-later, rise-none}

pub next-at : (f g : ℕ → Option Kept) (m : ℕ) (o : Option (ℕ × Kept)) → ((j : ℕ) → f j ≡ g j)
    → IsNext g m o → IsNext f m o
next-at f g m None h n = λ j l. h j ∙ n j l
next-at f g m (Some x) h n = (n.0, h x.0 ∙ n.1, λ j a b. h j ∙ n.2 j a b)

-- what stands before goes through a map
pub before-map : {A B : Type 0} (t : A → B) (f : ℕ → Option A) (m : ℕ)
    → option_map t (before_of f m) ≡ before_of (λ j. option_map t (f j)) m
before-map {A = A} t f zero = refl
before-map {A = A} t f (suc m) = by (f m) ∙ ap (first_there (option_map t (f m))) (before-map t f m)
  where
    by : (o : Option A) → option_map t (first_there o (before_of f m))
        ≡ first_there (option_map t o) (option_map t (before_of f m))
    by None = refl
    by (Some x) = refl

equal : (n : ℕ) → (n == n) ≡ true
equal n = grind (arith, nat_tests)

pub same_rise-itself : (o : Option Rise) → same_rise o o ≡ true
same_rise-itself None = refl
same_rise-itself (Some x) = grind (arith, nat_tests)

pub moved-itself : (o p : Option Rise) → o ≡ p → moved_to o p ≡ None
moved-itself o p e = ap (moved_to o) (sym e) ∙ ap (λ b. cond b None o) (same_rise-itself o)

pub here : (s : List ℕ) (m : ℕ) (r : CounterReading) → s ≡ r.source → m ≡ r.minute
    → is_reading_at s m r ≡ true
here s m r a b = pair_here s r.source m r.minute a b

pub there : (s : List ℕ) (m : ℕ) (r : CounterReading) → (s ≡ r.source → m ≡ r.minute → ⊥)
    → is_reading_at s m r ≡ false
there s m r h = pair_there s r.source m r.minute h

apart : (a b : ℕ) → a ≢ b → (a < b) ⊎ (b < a)
apart a b n = grind (arith, nat_tests)

-- where else a moment can be
pub elsewhere : (s : List ℕ) (m : ℕ) (r : CounterReading) → is_reading_at s m r ≡ false
    → (s ≢ r.source) ⊎ ((s ≡ r.source) × ((m < r.minute) ⊎ (r.minute < m)))
elsewhere s m r h = elim (text_tells s r.source) [
  | inl e ↦ inr (e.1, apart m r.minute (λ k. true_false (sym (here s m r e.1 k) ∙ h)))
  | inr e ↦ inl e.1
]

module _ (es : Book) (r : CounterReading) where
  -- the counts with the reading are the counts but at its minute
  else_same : (j : ℕ) → j ≢ r.minute → counts_in es r.source j ≡ counts_with es r r.source j
  else_same j n = sym (ap (λ b. cond b (Some (count_of r)) (counts_in es r.source j))
      (there r.source j r (λ a b. n b)))

  own_there : counts_with es r r.source r.minute ≡ Some (count_of r)
  own_there = ap (λ b. cond b (Some (count_of r)) (counts_in es r.source r.minute))
      (here r.source r.minute r refl refl)

  -- another source's differences stay
  pub other-source : (s : List ℕ) (m : ℕ) → s ≢ r.source → change_at es r s m ≡ None
  unfolding change_at
  other-source s m n = moved-itself _ _
      (ap (λ x. rise_between x (counts_in es s m))
      (before-agree (counts_in es s) (counts_with es r s) m (λ j l. same j))
      ∙ ap (rise_between (before_of (counts_with es r s) m)) (same m))
    where
      same : (j : ℕ) → counts_in es s j ≡ counts_with es r s j
      same j = sym (ap (λ b. cond b (Some (count_of r)) (counts_in es s j))
          (there s j r (λ a b. n a)))

  -- an earlier difference of the source stays
  pub earlier : (k : ℕ) → k < r.minute → change_at es r r.source k ≡ None
  unfolding change_at
  earlier k l = moved-itself _ _
      (rise-earlier (counts_in es r.source) (counts_with es r r.source) r.minute k else_same l)

  -- where there is no reading, there is no difference
  pub nowhere : (k : ℕ) → r.minute < k → kept_at es r.source k ≡ None
      → change_at es r r.source k ≡ None
  unfolding change_at
  nowhere k l e =
      let none : counts_in es r.source k ≡ None = ap (option_map (λ (x : Kept). x.count)) e in
      moved-itself _ _ (rise-none (counts_in es r.source) k none
      ∙ sym (rise-none (counts_with es r r.source) k (sym (else_same k (omega arith)) ∙ none)))

  -- a difference behind the next reading stays
  pub later : (n k : ℕ) (v : Kept) → r.minute < n → kept_at es r.source n ≡ Some v → n < k
      → change_at es r r.source k ≡ None
  unfolding change_at
  later n k v a e b = moved-itself _ _
      (rise-later (counts_in es r.source) (counts_with es r r.source) r.minute n k v.count else_same
      a b
      (ap (option_map (λ (x : Kept). x.count)) e))

  -- the reading's own difference
  pub own : change_at es r r.source r.minute ≡ moved_to
      (rise_between (before_of (counts_in es r.source) r.minute) (counts_in es r.source r.minute))
      (rise_between (before_of (counts_in es r.source) r.minute) (Some (count_of r)))
  unfolding change_at
  own = ap (moved_to (rise_at (counts_in es r.source) r.minute))
      (ap (rise_between (before_of (counts_with es r r.source) r.minute)) own_there
      ∙ ap (λ x. rise_between x (Some (count_of r)))
      (before-agree (counts_with es r r.source) (counts_in es r.source) r.minute
      (λ j l. sym (else_same j (omega arith)))))

  -- the next reading's difference
  pub next : (n : ℕ) (v : Kept) → IsNext (kept_at es r.source) r.minute (Some (n, v))
      → change_at es r r.source n ≡ moved_to
      (rise_between (first_there (counts_in es r.source r.minute)
      (before_of (counts_in es r.source) r.minute)) (Some v.count))
      (Some (rise_of (count_of r) v.count))
  unfolding change_at
  next n v h =
      let stays : counts_in es r.source n
      ≡ Some v.count = ap (option_map (λ (x : Kept). x.count)) h.1 in
      let none : (j : ℕ) → r.minute < j → j < n → counts_in es r.source j ≡ None =
      λ j a b. ap (option_map (λ (x : Kept). x.count)) (h.2 j a b) in
      ap (λ x. moved_to x (rise_at (counts_with es r r.source) n))
      (ap (rise_between (before_of (counts_in es r.source) n)) stays
      ∙ ap (λ x. rise_between x (Some v.count))
      (before-past (counts_in es r.source) r.minute n h.0 none))
      ∙ ap (moved_to (rise_between (first_there (counts_in es r.source r.minute)
      (before_of (counts_in es r.source) r.minute)) (Some v.count)))
      (ap (rise_between (before_of (counts_with es r r.source) n))
      (sym (else_same n (omega arith)) ∙ stays)
      ∙ ap (λ x. rise_between x (Some v.count))
      (before-found (counts_with es r r.source) r.minute n (count_of r) h.0 own_there
      (λ j a b. sym (else_same j (omega arith)) ∙ none j a b)))

  -- where nothing is behind the reading, only its own difference moves
  others-none : IsNext (kept_at es r.source) r.minute None → (s : List ℕ) (m : ℕ)
      → is_reading_at s m r ≡ false → change_at es r s m ≡ None
  others-none h s m e = elim (elsewhere s m r e) [
    | inl n ↦ other-source s m n
    | inr p ↦ subst (λ x. change_at es r x m ≡ None) (sym p.0) (elim p.1 [
      | inl l ↦ earlier m l
      | inr l ↦ nowhere m l (h m l)
    ])
  ]

  -- else at most the next one's
  others-next : (n : ℕ) (v : Kept) → IsNext (kept_at es r.source) r.minute (Some (n, v))
      → (s : List ℕ) (m : ℕ)
      → is_reading_at s m r ≡ false → (s ≡ r.source → m ≡ n → ⊥) → change_at es r s m ≡ None
  others-next n v h s m e far = elim (elsewhere s m r e) [
    | inl k ↦ other-source s m k
    | inr p ↦ subst (λ x. change_at es r x m ≡ None) (sym p.0) (elim p.1 [
      | inl l ↦ earlier m l
      | inr l ↦ elim (apart m n (far p.0)) [
        | inl b ↦ nowhere m l (h.2 m l b)
        | inr b ↦ later n m v h.0 h.1 b
      ]
    ])
  ]

  next-is : (n : ℕ) (v : Kept) → IsNext (kept_at es r.source) r.minute (Some (n, v))
      → (own : Option Rise) → own ≡ change_at es r r.source r.minute
      → (x : Option Rise) → change_at es r r.source n ≡ x
      → IsMoves es r (record { own = own; next = next_move_to n v x })
  next-is n v h own o None e = record {
    own = o;
    next = tt;
    others = λ s m a b. elim (text_tells s r.source) [
      | inl p ↦ elim (eqb_tells m n) [
        | inl q ↦ subst (λ x. change_at es r x m ≡ None) (sym p.1)
            (subst (λ x. change_at es r r.source x ≡ None) (sym q.1) e)
        | inr q ↦ others-next n v h s m a (λ x y. q.1 y)
      ]
      | inr p ↦ other-source s m p.1
    ];
  }
  next-is n v h own o (Some x) e = record {
    own = o;
    next = (h.0, h.1, e);
    others = λ s m a b. others-next n v h s m a
        (λ p q. true_false (sym (pair_here s r.source m n p q) ∙ b));
  }

  own_as : (before now : Option Count)
      → before ≡ before_of (counts_in es r.source) r.minute
      → now ≡ counts_in es r.source r.minute
      → moved_to (rise_between before now) (rise_between before (Some (count_of r)))
      ≡ change_at es r r.source r.minute
  own_as before now b h =
      ap (λ x. moved_to (rise_between x now) (rise_between x (Some (count_of r)))) b
      ∙ ap (λ x. moved_to (rise_between (before_of (counts_in es r.source) r.minute) x)
      (rise_between (before_of (counts_in es r.source) r.minute) (Some (count_of r)))) h
      ∙ sym own

  next_as : (before now : Option Count) (n : ℕ) (v : Kept)
      → before ≡ before_of (counts_in es r.source) r.minute
      → now ≡ counts_in es r.source r.minute
      → IsNext (kept_at es r.source) r.minute (Some (n, v))
      → change_at es r r.source n ≡ moved_to
      (rise_between (first_there now before) (Some v.count)) (Some (rise_of (count_of r) v.count))
  next_as before now n v b h i = next n v i ∙ sym (ap (λ x. moved_to
      (rise_between x (Some v.count)) (Some (rise_of (count_of r) v.count)))
      (ap (λ x. first_there x before) h ∙ ap (first_there (counts_in es r.source r.minute)) b))

  -- What a reading moves, from its neighbours.
  pub moves-are : (before now : Option Count) (behind : Option (ℕ × Kept))
      → before ≡ before_of (counts_in es r.source) r.minute
      → now ≡ counts_in es r.source r.minute
      → IsNext (kept_at es r.source) r.minute behind
      → IsMoves es r (record {
        own = moved_to (rise_between before now) (rise_between before (Some (count_of r)));
        next = next_move_of behind (first_there now before) (count_of r);
      })
  moves-are before now None b h n = record {
    own = own_as before now b h;
    next = tt;
    others = λ s m a c. others-none n s m a;
  }
  moves-are before now (Some next) b h n = next-is next.0 next.1 n _ (own_as before now b h) _
      (next_as before now next.0 next.1 b h n)

  -- the same, from equations
  pub moves-by : (before now : Option Count) (behind : Option (ℕ × Kept))
      → (own : Option Rise) (next : Option NextMove)
      → before ≡ before_of (counts_in es r.source) r.minute
      → now ≡ counts_in es r.source r.minute
      → IsNext (kept_at es r.source) r.minute behind
      → own ≡ moved_to (rise_between before now) (rise_between before (Some (count_of r)))
      → next ≡ next_move_of behind (first_there now before) (count_of r)
      → IsMoves es r (record { own = own; next = next })
  moves-by before now behind own next b h n o e =
      subst (λ x. IsMoves es r (record { own = x; next = next })) (sym o)
      (subst (λ y. IsMoves es r (record {
        own = moved_to (rise_between before now) (rise_between before (Some (count_of r)));
        next = y;
      })) (sym e) (moves-are before now behind b h n))
