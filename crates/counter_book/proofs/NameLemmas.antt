-- What a book has at a name, once the moves are written at its number.
use Rattle.std.proofs.Common.{◌≡◌, ◌≢◌, ℕ, ◌<◌, ◌≤◌, List, [], ◌∷◌, ◌++◌, length, Bool, true, false}
use Rattle.std.proofs.Common.{Option, Some, None, refl, ap, sym, ◌∙◌, subst, arith, ◌==◌, ◌&&◌, inl}
use Rattle.std.proofs.Common.{inr, get_or, suc, cond, option_map, ◌+◌, length-append}
use Rattle.std.specs.List.{position}
use Rattle.std.specs.Str.{bytes_eq}
use Rattle.std.proofs.lemmas.Slice.Eq.{bytes_eq-Decides}
use Rattle.std.proofs.lemmas.List.Quantifiers.{position-Some}
use Rattle.std.proofs.lemmas.Bool.Decides.{nat_tests}
use Rattle.counter_book.specs.declared.reading.CounterReading.{CounterReading}
use Rattle.counter_book.specs.declared.reading.Kept.{Kept}
use Rattle.counter_book.specs.declared.reading.Moment.{Moment}
use Rattle.counter_book.specs.declared.reading.Moves.{Moves}
use Rattle.counter_book.specs.declared.reading.NextMove.{NextMove}
use Rattle.counter_book.specs.declared.reading.Rise.{Rise}
use Rattle.slo_limits.specs.declared.TheConstants.{MAX_PUTS}
use Rattle.counter_book.specs.declared.reading.Standing.{Standing}
use Rattle.counter_book.specs.declared.reading.Standing.TheVariants.{Fresh, Newer, Repeated}
use Rattle.counter_book.specs.declared.reading.Standing.TheVariants.{Superseded, Conflict}
use Rattle.counter_book.specs.Book.{Book, given_of, kept_at, numbered, slot_at}
use Rattle.counter_book.specs.Differences.{is_reading_at}
use Rattle.counter_book.specs.Moves.{IsNextThere, is_next_at}
use Rattle.counter_book.specs.Puts.{given_after}
use Rattle.counter_book.specs.Standings.{is_full_at, is_put}
use Rattle.counter_book.specs.Writing.{IsCounted, IsNextPlaced, IsNextWritten, IsPlaced, IsWritten}
use Rattle.counter_book.specs.Writing.{given_slot, is_next_slot, own_kept_of}
use Rattle.name_numbers.specs.Names.{IsNumber, named_with}
use Rattle.name_numbers.proofs.NumberLemmas.{position-own, position-other, apart-numbers}
use Rattle.counter_book.proofs.PlaceLemmas.{text_tells, drop_own, not_equal, left, right, parts}
use Rattle.counter_book.proofs.PlaceLemmas.{eq_true, bool_cases}

kept-named : (book : Book) (s : List ℕ) (o : Option ℕ) (m : ℕ)
    → position (bytes_eq s) book.names ≡ o
    → kept_at book s m ≡ numbered o book.entries m
unfolding kept_at
kept-named book s o m e = ap (λ x. numbered x book.entries m) e

-- what a book has at a name is what its entries have at the name's number, or the next free one
pub kept-numbered : (names : List (List ℕ)) (entries : List (Moment × Kept)) (puts : ℕ) (s : List ℕ)
    (n m : ℕ)
    → IsCounted names entries puts → IsNumber (position (bytes_eq s) names) (length names) n
    → kept_at (record { names = names; entries = entries; puts = puts }) s m ≡ slot_at entries n m
kept-numbered names entries puts s n m c h = by (position (bytes_eq s) names) refl h
  where
    book : Book
    book = record { names = names; entries = entries; puts = puts }

    by : (o : Option ℕ) → position (bytes_eq s) names ≡ o → IsNumber o (length names) n
        → kept_at (record { names = names; entries = entries; puts = puts }) s m
        ≡ slot_at entries n m
    by None e k = kept-named (record { names = names; entries = entries; puts = puts }) s None m e
        ∙ sym (c.named n m (omega arith))
    by (Some p) e k = kept-named (record { names = names; entries = entries; puts = puts }) s
        (Some p) m e
        ∙ ap (λ x. slot_at entries x m) (sym k)

module _ (names : List (List ℕ)) (entries : List (Moment × Kept)) (puts : ℕ) (r : CounterReading)
    (n : ℕ)
    (moves : Moves) (after : List (Moment × Kept)) (puts' : ℕ)
    (c : IsCounted names entries puts) (h : IsNumber (position (bytes_eq r.source) names)
    (length names) n)
    (w : IsWritten entries n r moves after) where
  old : Book
  old = record { names = names; entries = entries; puts = puts }

  own_at : (m : ℕ) → kept_at (record {
    names = named_with (position (bytes_eq r.source) names) names
        r.source;
    entries = after;
    puts = puts';
  }) r.source m
      ≡ slot_at after n m
  own_at m = kept-named (record {
    names = named_with (position (bytes_eq r.source) names) names
        r.source;
    entries = after;
    puts = puts';
  })
      r.source (Some n) m (position-own names r.source n (position (bytes_eq r.source) names) refl
      h)

  next_placed : (next : Option NextMove) → IsNextWritten after n next
      → IsNextPlaced (record {
        names = named_with (position (bytes_eq r.source) names) names
            r.source;
        entries = after;
        puts = puts';
      }) r next
  next_placed None k = tt
  next_placed (Some next) k = own_at next.minute ∙ k

  next_own : (next : Option NextMove) (m : ℕ) → is_next_at r next r.source m ≡ false
      → is_next_slot n next n m ≡ false
  next_own None m b = refl
  next_own (Some next) m b = right (n == n) (m == next.minute) (drop_own r.source m next.minute b)

  next_far : (next : Option NextMove) (k m : ℕ) → (k == n) ≡ false → is_next_slot n next k m ≡ false
  next_far None k m e = refl
  next_far (Some next) k m e = left (k == n) (m == next.minute) e

  stays : (k m : ℕ) → (k == n) ≡ false → slot_at after k m ≡ slot_at entries k m
  stays k m e = w.others k m (left (k == n) (m == r.minute) e) (next_far moves.next k m e)

  others_far : (s : List ℕ) (m : ℕ) (o : Option ℕ) → s ≢ r.source → position (bytes_eq s) names ≡ o
      → numbered o after m ≡ numbered o entries m
  others_far s m None far e = refl
  others_far s m (Some k) far e = stays k m (not_equal k n
      (apart-numbers names r.source s n k (position (bytes_eq r.source) names) far refl h e))

  pub placed : IsPlaced (record { names = names; entries = entries; puts = puts }) r moves
      (record {
        names = named_with (position (bytes_eq r.source) names) names r.source;
        entries = after;
        puts = puts';
      })
  placed = record {
    own = own_at r.minute ∙ w.own ∙ ap (λ g. Some (own_kept_of r g moves.own))
        (sym (ap given_of (kept-numbered names entries puts r.source n r.minute c h)));
    next = next_placed moves.next w.next;
    others = λ s m a b. elim (text_tells s r.source) [
      | inl e ↦ subst (λ x. is_reading_at x m r ≡ false → is_next_at r moves.next x m ≡ false
          → kept_at (record {
            names = named_with (position (bytes_eq r.source) names) names
                r.source;
            entries = after;
            puts = puts';
          }) x m
          ≡ kept_at (record { names = names; entries = entries; puts = puts }) x m) (sym e.1)
          (λ a b. own_at m ∙ w.others n m
          (right (n == n) (m == r.minute) (drop_own r.source m r.minute a))
          (next_own moves.next m b)
          ∙ sym (kept-numbered names entries puts r.source n m c h)) a b
      | inr e ↦ kept-named (record {
        names = named_with (position (bytes_eq r.source) names) names
            r.source;
        entries = after;
        puts = puts';
      })
          s (position (bytes_eq s) names) m
          (position-other names r.source s (position (bytes_eq r.source) names) e.0)
          ∙ others_far s m (position (bytes_eq s) names) e.1 refl
          ∙ sym (kept-named (record { names = names; entries = entries; puts = puts }) s
          (position (bytes_eq s) names) m refl)
    ];
  }

  given_le : (o : Option Rise) (g p : ℕ) → g ≤ p → given_after o g ≤ p + 1
  given_le None g p l = omega arith
  given_le (Some x) g p l = omega arith

  next_given : (next : Option NextMove) (k m : ℕ) → IsNextWritten after n next
      → IsNextThere entries n r.minute next
      → is_next_slot n next k m ≡ true → given_slot after k m ≤ puts + 1
  next_given None k m a b e = cc e
  next_given (Some next) k m a b e =
      let p = parts (k == n) (m == next.minute) e in
      let x : k ≡ n = eq_true k n p.0 in
      let y : m ≡ next.minute = eq_true m next.minute p.1 in
      let g : given_slot entries n next.minute ≤ puts = c.given n next.minute in
      let z : given_slot entries n next.minute ≡ next.kept.given = ap given_of b.1 in
      let t : given_slot after k m ≡ next.kept.given + 1 =
      ap (λ i. given_slot after i m) x ∙ ap (given_slot after n) y ∙ ap given_of a in
      omega arith

  own_given : (k m : ℕ) → (k == n && m == r.minute) ≡ true → given_slot after k m ≤ puts + 1
  own_given k m e =
      let p = parts (k == n) (m == r.minute) e in
      let t : given_slot after k m ≡ given_after moves.own (given_slot entries n r.minute) =
      ap (λ i. given_slot after i m) (eq_true k n p.0) ∙ ap (given_slot after n)
      (eq_true m r.minute p.1) ∙ ap given_of w.own in
      subst (λ x. x ≤ puts + 1) (sym t) (given_le moves.own (given_slot entries n r.minute) puts
      (c.given n r.minute))

  other_given : (k m : ℕ) → (k == n && m == r.minute) ≡ false
      → is_next_slot n moves.next k m ≡ false → given_slot after k m ≤ puts + 1
  other_given k m a b =
      let t : given_slot after k m ≡ given_slot entries k m = ap given_of (w.others k m a b) in
      let g : given_slot entries k m ≤ puts = c.given k m in
      omega arith

  below : (o : Option ℕ) → position (bytes_eq r.source) names ≡ o → IsNumber o (length names) n
      → (n < length (named_with o names r.source))
      × (length names ≤ length (named_with o names r.source))
  below None e k = let l : length (names ++ r.source ∷ [])
      ≡ length names + 1 = length-append names (r.source ∷ []) in
      (omega arith, omega arith)
  below (Some q) e k = let l : q < length names = (position-Some (bytes_eq r.source) names q [] e).0
      in
      (omega arith, omega arith)

  pub counted : puts + 1 ≤ MAX_PUTS → IsNextThere entries n r.minute moves.next
      → IsCounted (named_with (position (bytes_eq r.source) names) names r.source) after (puts + 1)
  counted few there = record {
    few = few;
    given = λ k m. elim (bool_cases (k == n && m == r.minute)) [
      | inl e ↦ own_given k m e
      | inr e ↦ elim (bool_cases (is_next_slot n moves.next k m)) [
        | inl f ↦ next_given moves.next k m w.next there f
        | inr f ↦ other_given k m e f
      ]
    ];
    named = λ k m l. let b = below (position (bytes_eq r.source) names) refl h in
        stays k m (not_equal k n (λ e. absurd (omega arith))) ∙ c.named k m (omega arith);
  }

pub has_room : (st : Standing) (readings puts : ℕ) → is_put st ≡ true
    → is_full_at st readings puts ≡ false → puts + 1 ≤ MAX_PUTS
has_room Fresh readings puts a b = grind (arith, nat_tests)
has_room Newer readings puts a b = grind (arith, nat_tests)
has_room Repeated readings puts a b = cc a
has_room Superseded readings puts a b = cc a
has_room (Conflict kept) readings puts a b = cc a
