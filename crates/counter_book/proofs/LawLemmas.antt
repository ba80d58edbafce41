-- What was given is what is.
use Rattle.std.proofs.Common.{◌≡◌, ℕ, zero, suc, ◌+◌, Bool, true, false, Option, Some, None, List}
use Rattle.std.proofs.Common.{[], ◌∷◌, ◌++◌, refl, ap, sym, ◌∙◌, arith, option_map, cond, ◌==◌}
use Rattle.std.proofs.Common.{◌&&◌, if◌then◌else◌, filter, nat_lt}
use Rattle.std.proofs.Common.{◌⊎◌, inl, inr}
use Rattle.std.specs.Cmp.{IsEquivalence}
use Rattle.std.specs.Option.{IsSome}
use Rattle.std.specs.List.{find}
use Rattle.std.proofs.lemmas.Bool.Decides.{nat_tests}
use Rattle.counter_book.specs.declared.reading.Count.{Count}
use Rattle.counter_book.specs.declared.reading.CounterReading.{CounterReading}
use Rattle.counter_book.specs.declared.reading.Rise.{Rise}
use Rattle.counter_book.specs.declared.reading.Kept.{Kept}
use Rattle.counter_book.specs.declared.reading.Difference.{Difference}
use Rattle.counter_book.specs.declared.reading.Changes.{Changes}
use Rattle.counter_book.specs.declared.reading.Standing.{Standing}
use Rattle.counter_book.specs.declared.reading.Standing.TheVariants.{Fresh, Newer, Repeated}
use Rattle.counter_book.specs.declared.reading.Standing.TheVariants.{Superseded, Conflict}
use Rattle.counter_book.specs.Book.{Book, counts_in, given_in, given_of, kept_at, no_readings}
use Rattle.counter_book.specs.Book.{reading_in}
use Rattle.counter_book.specs.Differences.{before_of, count_of, counts_of, difference_at}
use Rattle.counter_book.specs.Differences.{first_there, is_reading_at, reading_at, rise_at}
use Rattle.counter_book.specs.Differences.{rise_between, same_moment}
use Rattle.counter_book.specs.Laws.{HoldsReadings, current_differences, row_at, same_place}
use Rattle.counter_book.specs.Moves.{change_at, counts_with, moved_to}
use Rattle.counter_book.specs.Puts.{Puts, PutsAs, Writes, change_rows, given_after}
use Rattle.counter_book.specs.Puts.{is_difference_at, listed, no_changes}
use Rattle.counter_book.specs.Standings.{is_put, same_count, standing_in, standing_of}
use Rattle.std.specs.Str.{bytes_eq}
use Rattle.counter_book.proofs.PlaceLemmas.{pair_here, pair_parts, pair_back}
use Rattle.counter_book.proofs.PickLemmas.{picked, picks, find-push, find-pushes}
use Rattle.counter_book.proofs.BeforeLemmas.{before-agree, rise-none}
use Rattle.std.proofs.lemmas.List.{append-nil}
use Rattle.std.proofs.lemmas.List.Elements.{filter-append}
use Rattle.std.proofs.Common.{length, length-append}
use Rattle.counter_book.specs.Laws.HoldsReadings.{empty, put}

moments_laws : IsEquivalence same_moment
moments_laws = record {
  refl = λ x. pair_here x.source x.source x.minute x.minute refl refl;
  symm = λ x y. pair_back x.source y.source x.minute y.minute;
  congr = λ x y z e. let p = pair_parts x.source y.source x.minute y.minute e in
      ap (λ t. bytes_eq t z.source && x.minute == z.minute) p.0
      ∙ ap (λ n. bytes_eq y.source z.source && n == z.minute) p.1;
}

pub places_laws : IsEquivalence same_place
places_laws = record {
  refl = λ x. pair_here x.source x.source x.minute x.minute refl refl;
  symm = λ x y. pair_back x.source y.source x.minute y.minute;
  congr = λ x y z e. let p = pair_parts x.source y.source x.minute y.minute e in
      ap (λ t. bytes_eq t z.source && x.minute == z.minute) p.0
      ∙ ap (λ n. bytes_eq y.source z.source && n == z.minute) p.1;
}

-- ---- the readings

abbrev kept_tag : Kept → ℕ × Count
kept_tag k = (k.revision, k.count)

abbrev tag : CounterReading → ℕ × Count
tag r = (r.revision, count_of r)

abbrev revision_of : CounterReading → ℕ
revision_of r = r.revision

-- the newest reading at a moment, once one more came
reading-push : (came : List CounterReading) (r : CounterReading) (s : List ℕ) (m : ℕ)
    → reading_at (came ++ r ∷ []) s m
    ≡ (if is_reading_at s m r then Some (picked revision_of (reading_at came s m) r)
    else reading_at came s m)
reading-push came r s m =
    let q : CounterReading = record {
      source = s;
      minute = m;
      revision = 0;
      good = r.good;
      total = r.total;
    } in
    find-push same_moment revision_of moments_laws q r came

abbrev conflict_with : Kept → CounterReading → CounterReading
conflict_with k r = record {
  source = r.source;
  minute = r.minute;
  revision = k.revision;
  good = k.count.good;
  total = k.count.total;
}

put_by : (a b c : Bool) (x : CounterReading)
    → is_put (if a then Newer else if b then Superseded else if c then Repeated else Conflict x)
    ≡ true
    → a ≡ true
put_by true b c x h = refl
put_by false true c x h = cc h
put_by false false true x h = cc h
put_by false false false x h = cc h

stay_by : (a b c : Bool) (x : CounterReading)
    → is_put (if a then Newer else if b then Superseded else if c then Repeated else Conflict x)
    ≡ false
    → a ≡ false
stay_by true b c x h = cc h
stay_by false b c x h = refl

abbrev first_part : Option (ℕ × Count) → ℕ
first_part None = 0
first_part (Some p) = p.0

put_lt : (k : Kept) (r : CounterReading) → is_put (standing_of (Some k) r) ≡ true
    → nat_lt k.revision r.revision ≡ true
put_lt k r h = put_by (nat_lt k.revision r.revision) (nat_lt r.revision k.revision)
    (same_count k.count (count_of r)) (conflict_with k r) h

stay_lt : (k : Kept) (r : CounterReading) → is_put (standing_of (Some k) r) ≡ false
    → nat_lt k.revision r.revision ≡ false
stay_lt k r h = stay_by (nat_lt k.revision r.revision) (nat_lt r.revision k.revision)
    (same_count k.count (count_of r)) (conflict_with k r) h

-- a reading that is put is the newest one
tag-put : (kept : Option Kept) (found : Option CounterReading) (r : CounterReading)
    → option_map kept_tag kept ≡ option_map tag found → is_put (standing_of kept r) ≡ true
    → Some (tag r) ≡ option_map tag (Some (picked revision_of found r))
tag-put None None r e h = refl
tag-put None (Some f) r e h = cc e
tag-put (Some k) None r e h = cc e
tag-put (Some k) (Some f) r e h =
    ap (λ b. Some (tag (cond b r f))) (sym
    (ap (λ x. nat_lt x r.revision) (ap first_part (sym e)) ∙ put_lt k r h))

-- a reading that isn't put isn't the newest one
tag-stay : (kept : Option Kept) (found : Option CounterReading) (r : CounterReading)
    → option_map kept_tag kept ≡ option_map tag found → is_put (standing_of kept r) ≡ false
    → option_map kept_tag kept ≡ option_map tag (Some (picked revision_of found r))
tag-stay None found r e h = cc h
tag-stay (Some k) None r e h = cc e
tag-stay (Some k) (Some f) r e h = e
    ∙ ap (λ b. Some (tag (cond b r f))) (sym
    (ap (λ x. nat_lt x r.revision) (ap first_part (sym e)) ∙ stay_lt k r h))

-- what comes of it, by how the reading stands
readings-step : (st : Standing) (old new : Book) (r : CounterReading) (changes : Changes)
    → PutsAs st old r changes new → ((is_put st ≡ true) × Writes old r changes new)
    ⊎ ((is_put st ≡ false) × (changes ≡ no_changes) × (new ≡ old))
readings-step Fresh old new r changes h = inl (refl, h)
readings-step Newer old new r changes h = inl (refl, h)
readings-step Repeated old new r changes h = inr (refl, h.0, h.1)
readings-step Superseded old new r changes h = inr (refl, h.0, h.1)
readings-step (Conflict kept) old new r changes h = absurd h

-- the book keeps the newest readings
abbrev KeepsNewest : List CounterReading → Book → Type 0
KeepsNewest came book = (s : List ℕ) (m : ℕ)
    → reading_in book s m ≡ option_map tag (reading_at came s m)

reading_parts : (s : List ℕ) (m : ℕ) (r : CounterReading) → is_reading_at s m r ≡ true
    → (s ≡ r.source) × (m ≡ r.minute)
reading_parts s m r h = pair_parts s r.source m r.minute h

keeps-newest : (came : List CounterReading) (old new : Book) (r : CounterReading)
    (changes : Changes)
    → KeepsNewest came old → Puts old r changes new → KeepsNewest (came ++ r ∷ []) new
keeps-newest came old new r changes inv h s m = elim
    (readings-step (standing_in old r) old new r changes h) [
      | inl w ↦ w.1.readings s m ∙ written (is_reading_at s m r) refl w.0
          ∙ sym (ap (option_map tag) (reading-push came r s m))
      | inr w ↦ ap (λ b. reading_in b s m) w.2 ∙ stays (is_reading_at s m r) refl w.0
          ∙ sym (ap (option_map tag) (reading-push came r s m))
    ]
  where
    own_inv : s ≡ r.source → m ≡ r.minute
        → option_map kept_tag (kept_at old r.source r.minute) ≡ option_map tag (reading_at came s m)
    own_inv a b = sym (ap (reading_in old s) b ∙ ap (λ x. reading_in old x r.minute) a)
        ∙ inv s m

    written : (b : Bool) → is_reading_at s m r ≡ b → is_put (standing_in old r) ≡ true
        → (if b then Some (r.revision, count_of r) else reading_in old s m)
        ≡ option_map tag (if b then Some (picked revision_of (reading_at came s m) r) else
        reading_at came s m)
    written true e p = let q = reading_parts s m r e in
        tag-put (kept_at old r.source r.minute) (reading_at came s m) r (own_inv q.0 q.1) p
    written false e p = inv s m

    stays : (b : Bool) → is_reading_at s m r ≡ b → is_put (standing_in old r) ≡ false
        → reading_in old s m
        ≡ option_map tag (if b then Some (picked revision_of (reading_at came s m) r) else
        reading_at came s m)
    stays true e p = let q = reading_parts s m r e in
        ap (reading_in old s) q.1 ∙ ap (λ x. reading_in old x r.minute) q.0
        ∙ tag-stay (kept_at old r.source r.minute) (reading_at came s m) r (own_inv q.0 q.1) p
    stays false e p = inv s m

-- ---- the differences

there-some : (a b x y : Option Count) → (IsSome a → IsSome b) → (IsSome x → IsSome y)
    → IsSome (first_there a x) → IsSome (first_there b y)
there-some None None x y h k e = k e
there-some None (Some b) x y h k e = refl
there-some (Some a) None x y h k e = cc (h refl)
there-some (Some a) (Some b) x y h k e = refl

before-some : (f g : ℕ → Option Count) → ((j : ℕ) → IsSome (f j) → IsSome (g j)) → (m : ℕ)
    → IsSome (before_of f m) → IsSome (before_of g m)
before-some f g h zero e = e
before-some f g h (suc m) e =
    there-some (f m) (g m) (before_of f m) (before_of g m) (h m) (before-some f g h m) e

between-some : (a b c d : Option Count) → (IsSome a → IsSome c) → (IsSome b → IsSome d)
    → IsSome (rise_between a b) → IsSome (rise_between c d)
between-some None b c d h k e = cc e
between-some (Some a) None c d h k e = cc e
between-some (Some a) (Some b) None d h k e = cc (h refl)
between-some (Some a) (Some b) (Some c) None h k e = cc (k refl)
between-some (Some a) (Some b) (Some c) (Some d) h k e = refl

-- a difference never vanishes
rise-some : (f g : ℕ → Option Count) → ((j : ℕ) → IsSome (f j) → IsSome (g j)) → (m : ℕ)
    → IsSome (rise_at f m) → IsSome (rise_at g m)
rise-some f g h m = between-some (before_of f m) (f m) (before_of g m) (g m)
    (before-some f g h m) (h m)

rise-same : (f g : ℕ → Option Count) → ((j : ℕ) → f j ≡ g j) → (m : ℕ) → rise_at f m ≡ rise_at g m
rise-same f g h m = ap (λ x. rise_between x (f m)) (before-agree f g m (λ j l. h j))
    ∙ ap (rise_between (before_of g m)) (h m)

rise_ext : (a b : Rise) → a.part ≡ b.part → a.total ≡ b.total → b ≡ a
rise_ext a b p t = ap (λ x. record { part = x; total = b.total }) (sym p)
    ∙ ap (λ x. record { part = a.part; total = x }) (sym t)

some_ext : (a b : Rise) → (a.part == b.part && a.total == b.total) ≡ true → Some b ≡ Some a
some_ext a b h = ap Some (rise_ext a b (grind (arith, nat_tests)) (grind (arith, nat_tests)))

moved-none : (o p : Option Rise) → (IsSome o → IsSome p) → moved_to o p ≡ None → p ≡ o
moved-none None None h e = refl
moved-none None (Some b) h e = cc e
moved-none (Some a) None h e = cc (h refl)
moved-none (Some a) (Some b) h e = by (a.part == b.part && a.total == b.total) refl e
  where
    by : (t : Bool) → (a.part == b.part && a.total == b.total) ≡ t → cond t None (Some b) ≡ None
        → Some b ≡ Some a
    by true q e = some_ext a b q
    by false q e = cc e

moved-some : (o p : Option Rise) (x : Rise) → moved_to o p ≡ Some x → p ≡ Some x
moved-some None None x e = cc e
moved-some None (Some b) x e = e
moved-some (Some a) None x e = cc e
moved-some (Some a) (Some b) x e = by (a.part == b.part && a.total == b.total) e
  where
    by : (t : Bool) → cond t None (Some b) ≡ Some x → Some b ≡ Some x
    by true e = cc e
    by false e = e

second : ℕ × Count → Count
second p = p.1

counts-tag : (k : Option Kept) → option_map (λ x. x.count) k
    ≡ option_map (λ p. p.1) (option_map kept_tag k)
counts-tag None = refl
counts-tag (Some k) = refl

counts-with : (old new : Book) (r : CounterReading) (changes : Changes) → Writes old r changes new
    → (s : List ℕ) (j : ℕ) → counts_in new s j ≡ counts_with old r s j
counts-with old new r changes w s j =
    counts-tag (kept_at new s j) ∙ ap (option_map (λ p. p.1)) (w.readings s j)
    ∙ by (is_reading_at s j r)
  where
    by : (b : Bool) → option_map (λ p. p.1)
        (if b then Some (r.revision, count_of r) else reading_in old s j)
        ≡ (if b then Some (count_of r) else counts_in old s j)
    by true = refl
    by false = sym (counts-tag (kept_at old s j))

counts-stay : (es : Book) (r : CounterReading) (s : List ℕ) (j : ℕ)
    → IsSome (counts_in es s j) → IsSome (counts_with es r s j)
counts-stay es r s j h = by (is_reading_at s j r)
  where
    by : (b : Bool) → IsSome (if b then Some (count_of r) else counts_in es s j)
    by true = refl
    by false = h

abbrev number_of : Difference → ℕ
number_of d = d.revision

less_next : (g g' : ℕ) → g' ≡ g + 1 → nat_lt g g' ≡ true
less_next g g' e = grind (arith, nat_tests)

picked_row : (s : List ℕ) (m g g' : ℕ) (old : Option Rise) (x : Rise) → g' ≡ g + 1
    → Some (picked number_of (row_at s m g old)
    (record { source = s; minute = m; revision = g'; part = x.part; total = x.total }))
    ≡ row_at s m g' (Some x)
picked_row s m g g' None x e = refl
picked_row s m g g' (Some o) x e =
    ap (λ b. Some (cond b (record {
      source = s;
      minute = m;
      revision = g';
      part = x.part;
      total = x.total;
    })
    (record { source = s; minute = m; revision = g; part = o.part; total = o.total })))
    (less_next g g' e)

step-at : (s : List ℕ) (m g g' : ℕ) (old now change : Option Rise) → moved_to old now ≡ change
    → (IsSome old → IsSome now) → g' ≡ given_after change g
    → picks number_of (row_at s m g old) (change_rows s m g' change) ≡ row_at s m g' now
step-at s m g g' old now None e stays n =
    ap (λ x. row_at s m x old) (sym n) ∙ ap (row_at s m g') (sym (moved-none old now stays e))
step-at s m g g' old now (Some x) e stays n =
    picked_row s m g g' old x n ∙ ap (row_at s m g') (sym (moved-some old now x e))

-- what was given is what the book's counts say
abbrev KeepsGiven : List Difference → Book → Type 0
KeepsGiven given book = (s : List ℕ) (m : ℕ)
    → find (is_difference_at s m) (current_differences given)
    ≡ row_at s m (given_in book s m) (rise_at (counts_in book s) m)

change-is : (es : Book) (r : CounterReading) (s : List ℕ) (m : ℕ)
    → moved_to (rise_at (counts_in es s) m) (rise_at (counts_with es r s) m) ≡ change_at es r s m
unfolding change_at
change-is es r s m = refl

rows-push : (given more : List Difference) (s : List ℕ) (m : ℕ)
    → find (is_difference_at s m) (current_differences (given ++ more))
    ≡ picks number_of (find (is_difference_at s m) (current_differences given))
    (filter (is_difference_at s m) more)
rows-push given more s m =
    let q : Difference = record { source = s; minute = m; revision = 0; part = 0; total = 0 } in
    find-pushes same_place number_of places_laws q given more

keeps-given : (given : List Difference) (old new : Book) (r : CounterReading) (changes : Changes)
    → KeepsGiven given old → Puts old r changes new → KeepsGiven (given ++ listed changes) new
keeps-given given old new r changes inv h s m = elim
    (readings-step (standing_in old r) old new r changes h) [
      | inl w ↦ rows-push given (listed changes) s m
          ∙ ap (λ o. picks number_of o (filter (is_difference_at s m) (listed changes))) (inv s m)
          ∙ ap (picks number_of (row_at s m (given_in old s m) (rise_at (counts_in old s) m)))
          (w.1.rows s m)
          ∙ step-at s m (given_in old s m) (given_in new s m)
          (rise_at (counts_in old s) m) (rise_at (counts_with old r s) m)
          (change_at old r s m) (change-is old r s m)
          (rise-some (counts_in old s) (counts_with old r s) (counts-stay old r s) m)
          (w.1.given s m)
          ∙ ap (row_at s m (given_in new s m))
          (sym (rise-same (counts_in new s) (counts_with old r s)
          (counts-with old new r changes w.1 s)
          m))
      | inr w ↦ ap (λ c. find (is_difference_at s m) (current_differences (given ++ listed c))) w.1
          ∙ ap (λ xs. find (is_difference_at s m) (current_differences xs)) (append-nil given)
          ∙ inv s m
          ∙ ap (λ b. row_at s m (given_in b s m) (rise_at (counts_in b s) m)) (sym w.2)
    ]

-- how often a moment's difference was given
abbrev KeepsNumber : List Difference → Book → Type 0
KeepsNumber given book = (s : List ℕ) (m : ℕ)
    → length (filter (is_difference_at s m) given) ≡ given_in book s m

length-row : (s : List ℕ) (m g n : ℕ) (change : Option Rise)
    → n + length (change_rows s m g change) ≡ given_after change n
length-row s m g n None = omega arith
length-row s m g n (Some x) = refl

keeps-number : (given : List Difference) (old new : Book) (r : CounterReading) (changes : Changes)
    → KeepsNumber given old → Puts old r changes new → KeepsNumber (given ++ listed changes) new
keeps-number given old new r changes inv h s m = elim
    (readings-step (standing_in old r) old new r changes h) [
      | inl w ↦ ap length (filter-append (is_difference_at s m) given (listed changes))
          ∙ length-append (filter (is_difference_at s m) given)
          (filter (is_difference_at s m) (listed changes))
          ∙ ap (λ n. n + length (filter (is_difference_at s m) (listed changes))) (inv s m)
          ∙ ap (λ xs. given_in old s m + length xs) (w.1.rows s m)
          ∙ length-row s m (given_in new s m) (given_in old s m) (change_at old r s m)
          ∙ sym (w.1.given s m)
      | inr w ↦ ap (λ c. length (filter (is_difference_at s m) (given ++ listed c))) w.1
          ∙ ap (λ xs. length (filter (is_difference_at s m) xs)) (append-nil given)
          ∙ inv s m ∙ ap (λ b. given_in b s m) (sym w.2)
    ]

record Keeps (came : List CounterReading) (given : List Difference) (book : Book) : Type 0 where
  readings : KeepsNewest came book
  rows : KeepsGiven given book
  number : KeepsNumber given book

none-kept : (s : List ℕ) (m : ℕ) → kept_at no_readings s m ≡ None
unfolding kept_at
none-kept s m = refl

none-there : (s : List ℕ) (m : ℕ) → counts_in no_readings s m ≡ None
unfolding kept_at
none-there s m = refl

keeps : (came : List CounterReading) (given : List Difference) (book : Book)
    → HoldsReadings came given book → Keeps came given book
keeps came given book empty = record {
  readings = λ s m. ap (option_map kept_tag) (none-kept s m);
  rows = λ s m. none-between s m;
  number = λ s m. sym (ap given_of (none-kept s m));
}
  where
    none-between : (s : List ℕ) (m : ℕ) → None
        ≡ row_at s m (given_in no_readings s m) (rise_at (counts_in no_readings s) m)
    none-between s m = ap (row_at s m (given_in no_readings s m))
        (sym (rise-none (counts_in no_readings s) m (none-there s m)))
keeps came given book (put r changes before h) =
    let k = keeps _ _ _ before in
    record {
      readings = keeps-newest _ _ _ r changes k.readings h;
      rows = keeps-given _ _ _ r changes k.rows h;
      number = keeps-number _ _ _ r changes k.number h;
    }

counts-came : (found : Option CounterReading)
    → option_map (λ p. p.1) (option_map tag found) ≡ option_map count_of found
counts-came None = refl
counts-came (Some f) = refl

-- The current rows of what was given are the differences over all readings, from scratch.
pub given-is : (came : List CounterReading) (given : List Difference) (book : Book)
    → HoldsReadings came given book → (s : List ℕ) (m : ℕ)
    → find (is_difference_at s m) (current_differences given)
    ≡ row_at s m (length (filter (is_difference_at s m) given)) (difference_at came s m)
given-is came given book h s m =
    let k = keeps came given book h in
    k.rows s m
    ∙ ap (λ n. row_at s m n (rise_at (counts_in book s) m)) (sym (k.number s m))
    ∙ ap (row_at s m (length (filter (is_difference_at s m) given)))
    (rise-same (counts_in book s) (counts_of came s) (λ j. counts-tag (kept_at book s j)
    ∙ ap (option_map (λ p. p.1)) (k.readings s j) ∙ counts-came (reading_at came s j)) m)
