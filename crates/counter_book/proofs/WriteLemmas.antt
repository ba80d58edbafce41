-- What the written moves change, moment by moment.
use Rattle.std.proofs.Common.{◌≡◌, ℕ, ◌+◌, ◌<◌, Bool, true, false, Option, Some, None, List, []}
use Rattle.std.proofs.Common.{◌∷◌, ◌++◌, refl, ap, sym, ◌∙◌, subst, arith, option_map, cond, ◌==◌}
use Rattle.std.proofs.Common.{◌&&◌, if◌then◌else◌, filter}
use Rattle.std.proofs.Common.{◌⊎◌, inl, inr}
use Rattle.std.specs.Prelude.{IfSome}
use Rattle.counter_book.specs.declared.reading.CounterReading.{CounterReading}
use Rattle.counter_book.specs.declared.reading.Rise.{Rise}
use Rattle.counter_book.specs.declared.reading.Kept.{Kept}
use Rattle.counter_book.specs.declared.reading.Moves.{Moves}
use Rattle.counter_book.specs.declared.reading.NextMove.{NextMove}
use Rattle.counter_book.specs.declared.reading.Difference.{Difference}
use Rattle.counter_book.specs.declared.reading.Changes.{Changes}
use Rattle.counter_book.specs.Book.{Book, given_in, given_of, kept_at, reading_in}
use Rattle.counter_book.specs.Differences.{count_of, is_reading_at}
use Rattle.counter_book.specs.Judging.{IsJudged}
use Rattle.counter_book.specs.Moves.{IsMoves, IsNextMove, change_at, is_next_at}
use Rattle.counter_book.specs.Puts.{HasNoJump, Puts, PutsAs, Writes, change_rows, given_after}
use Rattle.counter_book.specs.Puts.{is_difference_at, listed, listed_one}
use Rattle.counter_book.specs.Standings.{is_full, is_put, standing_in}
use Rattle.counter_book.specs.Writing.{IsNextPlaced, IsPlaced, changes_of, next_kept_of, next_row}
use Rattle.counter_book.specs.Writing.{own_row}
use Rattle.counter_book.specs.declared.reading.Standing.{Standing}
use Rattle.counter_book.specs.declared.reading.Standing.TheVariants.{Fresh, Newer, Repeated}
use Rattle.counter_book.specs.declared.reading.Standing.TheVariants.{Superseded, Conflict}
use Rattle.std.specs.Prelude.{Ok}
use Rattle.std.specs.Str.{bytes_eq}
use Rattle.counter_book.proofs.PlaceLemmas.{pair_here, pair_there, pair_parts}
use Rattle.counter_book.proofs.MoveLemmas.{here, there}

bool_cases : (b : Bool) → (b ≡ true) ⊎ (b ≡ false)
bool_cases true = inl refl
bool_cases false = inr refl

reading_parts : (s : List ℕ) (m : ℕ) (r : CounterReading) → is_reading_at s m r ≡ true
    → (s ≡ r.source) × (m ≡ r.minute)
reading_parts s m r h = pair_parts s r.source m r.minute h

next_parts : (s : List ℕ) (m : ℕ) (r : CounterReading) (next : Option NextMove)
    → is_next_at r next s m ≡ true
    → (n : NextMove) × (next ≡ Some n) × (s ≡ r.source) × (m ≡ n.minute)
next_parts s m r None h = cc h
next_parts s m r (Some n) h = let p = pair_parts s r.source m n.minute h in (n, refl, p.0, p.1)

abbrev own_difference : CounterReading → ℕ → Rise → Difference
own_difference r g rise = record {
  source = r.source;
  minute = r.minute;
  revision = g + 1;
  part = rise.part;
  total = rise.total;
}

abbrev next_difference : CounterReading → NextMove → Difference
next_difference r n = record {
  source = r.source;
  minute = n.minute;
  revision = n.kept.given + 1;
  part = n.rise.part;
  total = n.rise.total;
}

own_apart : (r : CounterReading) (n : NextMove) → r.minute < n.minute
    → (bytes_eq r.source r.source && r.minute == n.minute) ≡ false
own_apart r n h = pair_there r.source r.source r.minute n.minute (λ a b. omega arith)

next_here : (r : CounterReading) (n : NextMove)
    → (bytes_eq r.source r.source && n.minute == n.minute) ≡ true
next_here r n = pair_here r.source r.source n.minute n.minute refl refl

-- the rows of the reading's own moment
rows_own : (r : CounterReading) (g : ℕ) (own : Option Rise) (next : Option NextMove)
    → IfSome next (λ n. r.minute < n.minute)
    → filter (is_difference_at r.source r.minute)
    (listed_one (own_row r g own) ++ listed_one (next_row r next))
    ≡ change_rows r.source r.minute (given_after own g) own
rows_own r g None None h = refl
rows_own r g None (Some n) h = ap (λ b. cond b (next_difference r n ∷ []) []) (own_apart r n h)
rows_own r g (Some rise) None h =
    ap (λ b. cond b (own_difference r g rise ∷ []) []) (here r.source r.minute r refl refl)
rows_own r g (Some rise) (Some n) h =
    ap (λ b. cond b (own_difference r g rise
    ∷ cond (bytes_eq r.source r.source && r.minute == n.minute)
    (next_difference r n ∷ []) []) (cond (bytes_eq r.source r.source && r.minute == n.minute)
    (next_difference r n ∷ []) [])) (here r.source r.minute r refl refl)
    ∙ ap (λ b. own_difference r g rise ∷ cond b (next_difference r n ∷ []) []) (own_apart r n h)

-- the rows of the next reading's moment
rows_next : (r : CounterReading) (g : ℕ) (own : Option Rise) (n : NextMove) → r.minute < n.minute
    → filter (is_difference_at r.source n.minute)
    (listed_one (own_row r g own) ++ listed_one (next_row r (Some n)))
    ≡ change_rows r.source n.minute (n.kept.given + 1) (Some n.rise)
rows_next r g None n h = ap (λ b. cond b (next_difference r n ∷ []) []) (next_here r n)
rows_next r g (Some rise) n h =
    ap (λ b. cond b (own_difference r g rise
    ∷ cond (bytes_eq r.source r.source && n.minute == n.minute)
    (next_difference r n ∷ []) []) (cond (bytes_eq r.source r.source && n.minute == n.minute)
    (next_difference r n ∷ []) [])) (there r.source n.minute r (λ a b. omega arith))
    ∙ ap (λ b. cond b (next_difference r n ∷ []) []) (next_here r n)

-- the rows of another moment
rows_other : (r : CounterReading) (g : ℕ) (own : Option Rise) (next : Option NextMove) (s : List ℕ)
    (m : ℕ)
    → is_reading_at s m r ≡ false → is_next_at r next s m ≡ false
    → filter (is_difference_at s m) (listed_one (own_row r g own) ++ listed_one (next_row r next))
    ≡ []
rows_other r g None None s m a b = refl
rows_other r g None (Some n) s m a b = ap (λ b. cond b (next_difference r n ∷ []) []) b
rows_other r g (Some rise) None s m a b = ap (λ b. cond b (own_difference r g rise ∷ []) []) a
rows_other r g (Some rise) (Some n) s m a b =
    ap (λ b. cond b (own_difference r g rise ∷ cond (bytes_eq s r.source && m == n.minute)
    (next_difference r n ∷ []) []) (cond (bytes_eq s r.source && m == n.minute)
    (next_difference r n ∷ []) [])) a
    ∙ ap (λ b. cond b (next_difference r n ∷ []) []) b

module _ (es : Book) (r : CounterReading) (moves : Moves) where
  -- a moment is the reading's own, the next one's, or another
  pub by_place : (P : List ℕ → ℕ → Type 0) → P r.source r.minute
      → ((n : NextMove) → moves.next ≡ Some n → P r.source n.minute)
      → ((s : List ℕ) (m : ℕ) → is_reading_at s m r ≡ false → is_next_at r moves.next s m ≡ false
      → P s m)
      → (s : List ℕ) (m : ℕ) → P s m
  by_place P own next others s m = elim (bool_cases (is_reading_at s m r)) [
    | inl h ↦ subst (λ x. P x m) (sym (reading_parts s m r h).0)
        (subst (λ y. P r.source y) (sym (reading_parts s m r h).1) own)
    | inr h ↦ elim (bool_cases (is_next_at r moves.next s m)) [
      | inl k ↦ let p = next_parts s m r moves.next k in
          subst (λ x. P x m) (sym p.2) (subst (λ y. P r.source y) (sym p.3) (next p.0 p.1))
      | inr k ↦ others s m h k
    ]
  ]

  module _ (is : IsMoves es r moves) (after : Book) (p : IsPlaced es r moves after) where
    next_move : (n : NextMove) → moves.next ≡ Some n → IsNextMove es r (Some n)
    next_move n e = subst (IsNextMove es r) e is.next

    next_placed : (n : NextMove) → moves.next ≡ Some n
        → kept_at after r.source n.minute ≡ Some (next_kept_of n)
    next_placed n e = subst (IsNextPlaced after r) e p.next

    behind : (n : NextMove) → moves.next ≡ Some n → is_reading_at r.source n.minute r ≡ false
    behind n e = let l : r.minute < n.minute = (next_move n e).0 in
        there r.source n.minute r (λ a b. omega arith)

    pub readings : (s : List ℕ) (m : ℕ) → reading_in after s m
        ≡ (if is_reading_at s m r then Some (r.revision, count_of r) else reading_in es s m)
    readings = by_place (λ s m. reading_in after s m
        ≡ (if is_reading_at s m r then Some (r.revision, count_of r) else reading_in es s m))
        (ap (option_map (λ (k : Kept). (k.revision, k.count))) p.own
        ∙ sym (ap (λ b. cond b (Some (r.revision, count_of r)) (reading_in es r.source r.minute))
        (here r.source r.minute r refl refl)))
        (λ n e. ap (option_map (λ (k : Kept). (k.revision, k.count))) (next_placed n e)
        ∙ sym (ap (option_map (λ (k : Kept). (k.revision, k.count))) (next_move n e).1)
        ∙ sym (ap (λ b. cond b (Some (r.revision, count_of r)) (reading_in es r.source n.minute))
        (behind n e)))
        (λ s m a b. ap (option_map (λ (k : Kept). (k.revision, k.count))) (p.others s m a b)
        ∙ sym (ap (λ b. cond b (Some (r.revision, count_of r)) (reading_in es s m)) a))

    pub given : (s : List ℕ) (m : ℕ) → given_in after s m
        ≡ given_after (change_at es r s m) (given_in es s m)
    given = by_place (λ s m. given_in after s m
        ≡ given_after (change_at es r s m) (given_in es s m))
        (ap given_of p.own
        ∙ ap (λ x. given_after x (given_in es r.source r.minute)) is.own)
        (λ n e. ap given_of (next_placed n e)
        ∙ sym (ap (λ x. given_after x (given_in es r.source n.minute)) (next_move n e).2
        ∙ ap (λ x. given_of x + 1) (next_move n e).1))
        (λ s m a b. ap given_of (p.others s m a b)
        ∙ sym (ap (λ x. given_after x (given_in es s m)) (is.others s m a b)))

    later : (next : Option NextMove) → IsNextMove es r next → IfSome next (λ n. r.minute < n.minute)
    later None h = tt
    later (Some n) h = h.0

    own_first : (own : Option Rise) (g : ℕ) → IfSome (own_row r g own) (λ d. d.minute ≡ r.minute)
    own_first None g = tt
    own_first (Some rise) g = refl

    next_later : (next : Option NextMove) → IsNextMove es r next
        → IfSome (next_row r next) (λ d. r.minute < d.minute)
    next_later None h = tt
    next_later (Some n) h = h.0

    pub rows : (s : List ℕ) (m : ℕ) → filter (is_difference_at s m)
        (listed (changes_of r (given_in es r.source r.minute) moves))
        ≡ change_rows s m (given_in after s m) (change_at es r s m)
    rows = by_place (λ s m. filter (is_difference_at s m)
        (listed (changes_of r (given_in es r.source r.minute) moves))
        ≡ change_rows s m (given_in after s m) (change_at es r s m))
        (rows_own r (given_in es r.source r.minute) moves.own moves.next (later moves.next is.next)
        ∙ ap (λ x. change_rows r.source r.minute x moves.own) (sym (ap given_of p.own))
        ∙ ap (change_rows r.source r.minute (given_in after r.source r.minute)) is.own)
        (λ n e. ap (λ x. filter (is_difference_at r.source n.minute)
        (listed_one (own_row r (given_in es r.source r.minute) moves.own)
        ++ listed_one (next_row r x))) e
        ∙ rows_next r (given_in es r.source r.minute) moves.own n (next_move n e).0
        ∙ ap (λ x. change_rows r.source n.minute x (Some n.rise))
        (sym (ap given_of (next_placed n e)))
        ∙ ap (change_rows r.source n.minute (given_in after r.source n.minute))
        (sym (next_move n e).2))
        (λ s m a b. rows_other r (given_in es r.source r.minute) moves.own moves.next s m a b
        ∙ sym (ap (change_rows s m (given_in after s m)) (is.others s m a b)))

    -- What is written is what the reading changes.
    pub writes-are : (changes : Changes)
        → changes ≡ changes_of r (given_in es r.source r.minute) moves
        → is_full (standing_in es r) es ≡ false → HasNoJump es r → after.puts ≡ es.puts + 1
        → Writes es r changes after
    writes-are changes e room small counted = record {
      readings = readings;
      given = given;
      rows = λ s m. ap (λ x. filter (is_difference_at s m) (listed x)) e ∙ rows s m;
      own = subst (λ x. IfSome x.own (λ d. d.minute ≡ r.minute)) (sym e)
          (own_first moves.own (given_in es r.source r.minute));
      next = subst (λ x. IfSome x.next (λ d. r.minute < d.minute)) (sym e)
          (next_later moves.next is.next);
      puts = counted;
      room = room;
      small = small;
    }

puts_as : (st : Standing) (old new : Book) (r : CounterReading) (changes : Changes)
    → is_put st ≡ true → Writes old r changes new → PutsAs st old r changes new
puts_as Fresh old new r changes e w = w
puts_as Newer old new r changes e w = w
puts_as Repeated old new r changes e w = cc e
puts_as Superseded old new r changes e w = cc e
puts_as (Conflict kept) old new r changes e w = cc e

pub put-done : (old new : Book) (r : CounterReading) (moves : Moves) (g : ℕ) (changes : Changes)
    → g ≡ given_in old r.source r.minute → changes ≡ changes_of r g moves
    → IsJudged old r (Ok (Some moves)) → IsPlaced old r moves new → new.puts ≡ old.puts + 1
    → Puts old r changes new
put-done old new r moves g changes e c j p n =
    puts_as (standing_in old r) old new r changes j.0
    (writes-are old r moves j.2 new p changes (c ∙ ap (λ x. changes_of r x moves) e) j.1 j.3 n)
