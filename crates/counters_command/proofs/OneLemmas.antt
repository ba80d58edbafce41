-- Records have one text of rows: a book gives for readings one list of differences.
use Rattle.std.proofs.Common.{◌≡◌, ◌<◌, ℕ, List, [], ◌∷◌, ◌++◌, Bool, true, false, ◌==◌, cond}
use Rattle.std.proofs.Common.{Option, Some, None, option_map, refl, ap, ap₂, sym, ◌∙◌, subst}
use Rattle.std.proofs.Common.{arith, filter, map}
use Rattle.std.specs.Prelude.{IfSome, Ok, Result}
use Rattle.std.specs.Str.{bytes_eq}
use Rattle.std.proofs.lemmas.List.Elements.{filter-append}
use Rattle.csv_records.specs.Records.{Fields}
use Rattle.event_fields.specs.declared.EventFault.{EventFault}
use Rattle.counter_book.specs.Book.{Book, counts_in, given_in, given_of, kept_at, reading_in}
use Rattle.counter_book.specs.Differences.{count_of, is_reading_at, rise_at, rise_between}
use Rattle.counter_book.specs.Laws.{HoldsReadings}
use Rattle.counter_book.specs.Laws.HoldsReadings.{empty, put}
use Rattle.counter_book.specs.Moves.{change_at, counts_with, moved_to}
use Rattle.counter_book.specs.Puts.{Puts, PutsAs, Writes, change_rows, given_after}
use Rattle.counter_book.specs.Puts.{is_difference_at, listed, listed_one, no_changes}
use Rattle.counter_book.specs.Standings.{standing_in, standing_of}
use Rattle.counter_book.specs.declared.Changes.{Changes}
use Rattle.counter_book.specs.declared.Count.{Count}
use Rattle.counter_book.specs.declared.CounterReading.{CounterReading}
use Rattle.counter_book.specs.declared.Difference.{Difference}
use Rattle.counter_book.specs.declared.Kept.{Kept}
use Rattle.counter_book.specs.declared.Standing.{Standing}
use Rattle.counter_book.specs.declared.Standing.TheVariants.{Conflict, Fresh, Newer}
use Rattle.counter_book.specs.declared.Standing.TheVariants.{Repeated, Superseded}
use Rattle.counter_book.proofs.BeforeLemmas.{before-agree}
use Rattle.counter_book.proofs.PlaceLemmas.{not_equal, pair_here, right}
use Rattle.counters_command.specs.Rows.{rows_of}
use Rattle.counters_command.specs.Taking.{GivesRows}

-- books that have the same at each source's minute
abbrev Same : Book → Book → Type 0
Same a b = (s : List ℕ) (m : ℕ) → kept_at a s m ≡ kept_at b s m

abbrev tag : Kept → ℕ × Count
tag k = (k.revision, k.count)

kept-same : (x y : Option Kept) → option_map tag x ≡ option_map tag y → given_of x ≡ given_of y
    → x ≡ y
kept-same None None e f = refl
kept-same None (Some l) e f = cc e
kept-same (Some k) None e f = cc e
kept-same (Some k) (Some l) e f =
    let tags : tag k ≡ tag l = cc e in
    let of : ℕ → Count → ℕ → Kept = λ revision count given.
    record { count = count; revision = revision; given = given } in
    let same : k ≡ l =
    ap (λ (x : ℕ). of x k.count k.given) (ap (λ (t : ℕ × Count). t.0) tags)
    ∙ ap (λ (c : Count). of l.revision c k.given) (ap (λ (t : ℕ × Count). t.1) tags)
    ∙ ap (of l.revision l.count) f in
    ap Some same

-- ---- differences that are told by their places

at_own : (d : Difference) → is_difference_at d.source d.minute d ≡ true
at_own d = pair_here d.source d.source d.minute d.minute refl refl

abbrev AreAlikeAt : Option Difference → Option Difference → Difference → Type 0
AreAlikeAt o p d = filter (is_difference_at d.source d.minute) (listed_one o)
    ≡ filter (is_difference_at d.source d.minute) (listed_one p)

-- differences that are the same at each place where one of them is
option-same : (o p : Option Difference) → IfSome o (AreAlikeAt o p) → IfSome p (AreAlikeAt o p)
    → o ≡ p
option-same None None h k = refl
option-same None (Some d) h k =
    let none : cond true (d ∷ []) [] ≡ [] =
    sym (k ∙ ap (λ b. cond b (d ∷ []) []) (at_own d)) in
    cc none
option-same (Some d) None h k =
    let none : cond true (d ∷ []) [] ≡ [] =
    ap (λ b. cond b (d ∷ []) []) (sym (at_own d)) ∙ h in
    cc none
option-same (Some d) (Some e) h k =
    by (is_difference_at d.source d.minute e)
    (ap (λ b. cond b (d ∷ []) []) (sym (at_own d)) ∙ h)
  where
    by : (b : Bool) → d ∷ [] ≡ cond b (e ∷ []) [] → Some d ≡ Some e
    by true same = let one : d ≡ e = cc same in ap Some one
    by false same = cc same

-- a difference of another minute isn't there
elsewhere : (s : List ℕ) (m : ℕ) (o : Option Difference) → IfSome o (λ d. d.minute ≡ m → ⊥)
    → filter (is_difference_at s m) (listed_one o) ≡ []
elsewhere s m None h = refl
elsewhere s m (Some d) h =
    ap (λ b. cond b (d ∷ []) [])
    (right (bytes_eq s d.source) (m == d.minute) (not_equal m d.minute (λ e. h (sym e))))

append-nothing : (xs ys : List Difference) → ys ≡ [] → xs ++ ys ≡ xs
append-nothing [] ys e = e
append-nothing (x ∷ xs) ys e = ap (λ zs. x ∷ zs) (append-nothing xs ys e)

module _ (minute : ℕ) (o n o' n' : Option Difference)
    (own : IfSome o (λ d. d.minute ≡ minute)) (own' : IfSome o' (λ d. d.minute ≡ minute))
    (next : IfSome n (λ d. minute < d.minute)) (next' : IfSome n' (λ d. minute < d.minute))
    (alike : (s : List ℕ) (m : ℕ)
    → filter (is_difference_at s m) (listed_one o ++ listed_one n)
    ≡ filter (is_difference_at s m) (listed_one o' ++ listed_one n')) where
  not_next : (x : Option Difference) → IfSome x (λ d. minute < d.minute)
      → IfSome x (λ d. d.minute ≡ minute → ⊥)
  not_next None h = tt
  not_next (Some d) h = λ e. omega (arith, e, h)

  not_own : (m : ℕ) → minute < m → (x : Option Difference) → IfSome x (λ d. d.minute ≡ minute)
      → IfSome x (λ d. d.minute ≡ m → ⊥)
  not_own m l None h = tt
  not_own m l (Some d) h = λ e. omega (arith, e, h, l)

  own_there : (s : List ℕ) (x y : Option Difference) → IfSome y (λ d. minute < d.minute)
      → filter (is_difference_at s minute) (listed_one x ++ listed_one y)
      ≡ filter (is_difference_at s minute) (listed_one x)
  own_there s x y h =
      filter-append (is_difference_at s minute) (listed_one x) (listed_one y)
      ∙ append-nothing (filter (is_difference_at s minute) (listed_one x))
      (filter (is_difference_at s minute) (listed_one y))
      (elsewhere s minute y (not_next y h))

  next_there : (s : List ℕ) (m : ℕ) → minute < m → (x y : Option Difference)
      → IfSome x (λ d. d.minute ≡ minute)
      → filter (is_difference_at s m) (listed_one x ++ listed_one y)
      ≡ filter (is_difference_at s m) (listed_one y)
  next_there s m l x y h =
      filter-append (is_difference_at s m) (listed_one x) (listed_one y)
      ∙ ap (λ (xs : List Difference). xs ++ filter (is_difference_at s m) (listed_one y))
      (elsewhere s m x (not_own m l x h))

  own-alike : (s : List ℕ) → filter (is_difference_at s minute) (listed_one o)
      ≡ filter (is_difference_at s minute) (listed_one o')
  own-alike s = sym (own_there s o n next) ∙ alike s minute ∙ own_there s o' n' next'

  next-alike : (s : List ℕ) (m : ℕ) → minute < m
      → filter (is_difference_at s m) (listed_one n)
      ≡ filter (is_difference_at s m) (listed_one n')
  next-alike s m l = sym (next_there s m l o n own) ∙ alike s m ∙ next_there s m l o' n' own'

  owns : (x : Option Difference) → IfSome x (λ d. d.minute ≡ minute)
      → IfSome x (AreAlikeAt o o')
  owns None h = tt
  owns (Some d) h =
      subst (λ (m : ℕ). filter (is_difference_at d.source m) (listed_one o)
      ≡ filter (is_difference_at d.source m) (listed_one o')) (sym h) (own-alike d.source)

  nexts : (x : Option Difference) → IfSome x (λ d. minute < d.minute)
      → IfSome x (AreAlikeAt n n')
  nexts None h = tt
  nexts (Some d) h = next-alike d.source d.minute h

  pub own-same : o ≡ o'
  own-same = option-same o o' (owns o own) (owns o' own')

  pub next-same : n ≡ n'
  next-same = option-same n n' (nexts n next) (nexts n' next')

-- ---- one reading

module _ (r : CounterReading) (a b : Book) (same : Same a b) where
  counts-same : (s : List ℕ) (j : ℕ) → counts_in a s j ≡ counts_in b s j
  counts-same s j = ap (option_map (λ (k : Kept). k.count)) (same s j)

  with-same : (s : List ℕ) (j : ℕ) → counts_with a r s j ≡ counts_with b r s j
  with-same s j =
      ap (λ (o : Option Count). cond (is_reading_at s j r) (Some (count_of r)) o)
      (counts-same s j)

  rise-same : (f g : ℕ → Option Count) → ((j : ℕ) → f j ≡ g j) → (m : ℕ)
      → rise_at f m ≡ rise_at g m
  rise-same f g each m = ap₂ rise_between (before-agree f g m (λ j l. each j)) (each m)

  change-same : (s : List ℕ) (m : ℕ) → change_at a r s m ≡ change_at b r s m
  unfolding change_at
  change-same s m = ap₂ moved_to
      (rise-same (counts_in a s) (counts_in b s) (counts-same s) m)
      (rise-same (counts_with a r s) (counts_with b r s) (with-same s) m)

  module _ (ch ch' : Changes) (a' b' : Book) where
    writes-same : Writes a r ch a' → Writes b r ch' b' → (ch ≡ ch') × Same a' b'
    writes-same w v =
        let given : (s : List ℕ) (m : ℕ) → given_in a' s m ≡ given_in b' s m = λ s m.
        w.given s m
        ∙ ap₂ given_after (change-same s m) (ap given_of (same s m))
        ∙ sym (v.given s m) in
        let reading : (s : List ℕ) (m : ℕ) → reading_in a' s m ≡ reading_in b' s m = λ s m.
        w.readings s m
        ∙ ap (λ (k : Option Kept). cond (is_reading_at s m r) (Some (r.revision, count_of r))
        (option_map tag k)) (same s m)
        ∙ sym (v.readings s m) in
        let alike : (s : List ℕ) (m : ℕ) → filter (is_difference_at s m) (listed ch)
        ≡ filter (is_difference_at s m) (listed ch') = λ s m.
        w.rows s m ∙ ap₂ (change_rows s m) (given s m) (change-same s m) ∙ sym (v.rows s m) in
        let own = own-same r.minute ch.own ch.next ch'.own ch'.next w.own v.own w.next v.next
        alike in
        let next = next-same r.minute ch.own ch.next ch'.own ch'.next w.own v.own w.next v.next
        alike in
        let both : Option Difference → Option Difference → Changes = λ x y.
        record { own = x; next = y } in
        let changes : ch ≡ ch' = ap₂ both own next in
        (changes, λ s m. kept-same (kept_at a' s m) (kept_at b' s m) (reading s m) (given s m))

    stays : (ch ≡ no_changes) × (a' ≡ a) → (ch' ≡ no_changes) × (b' ≡ b)
        → (ch ≡ ch') × Same a' b'
    stays (e, f) (g, h) = (
      e ∙ sym g,
      λ s m. ap (λ (x : Book). kept_at x s m) f ∙ same s m
          ∙ sym (ap (λ (x : Book). kept_at x s m) h),
    )

    puts-same : Puts a r ch a' → Puts b r ch' b' → (ch ≡ ch') × Same a' b'
    puts-same p q =
        by (standing_in a r) p (subst (λ (x : Standing). PutsAs x b r ch' b')
        (sym (ap (λ (k : Option Kept). standing_of k r) (same r.source r.minute))) q)
      where
        by : (x : Standing) → PutsAs x a r ch a' → PutsAs x b r ch' b' → (ch ≡ ch') × Same a' b'
        by Fresh w v = writes-same w v
        by Newer w v = writes-same w v
        by Repeated w v = stays w v
        by Superseded w v = stays w v
        by (Conflict kept) w v = absurd w

-- ---- all readings

not_nil : {A : Type 0} (xs : List A) (x : A) → [] ≡ xs ++ x ∷ [] → ⊥
not_nil [] x e = cc e
not_nil (y ∷ ys) x e = cc e

lasts : {A : Type 0} (xs ys : List A) (x y : A) → xs ++ x ∷ [] ≡ ys ++ y ∷ []
    → (xs ≡ ys) × (x ≡ y)
lasts [] [] x y e = (refl, cc e)
lasts [] (b ∷ ys) x y e = absurd (not_nil ys y (cc e))
lasts (a ∷ xs) [] x y e = absurd (not_nil xs x (cc (sym e)))
lasts (a ∷ xs) (b ∷ ys) x y e =
    let head : a ≡ b = cc e in
    let tail : xs ++ x ∷ [] ≡ ys ++ y ∷ [] = cc e in
    let go = lasts xs ys x y tail in
    (ap₂ (λ z zs. z ∷ zs) head go.0, go.1)

-- a book gives for readings one list of differences
one-given : (came came' : List CounterReading) (given given' : List Difference) (book book' : Book)
    → HoldsReadings came given book → HoldsReadings came' given' book' → came ≡ came'
    → (given ≡ given') × Same book book'
one-given came came' given given' book book' empty empty e = (refl, λ s m. refl)
one-given came came' given given' book book' empty (put {came = c} r ch h p) e =
    absurd (not_nil c r e)
one-given came came' given given' book book' (put {came = c} r ch h p) empty e =
    absurd (not_nil c r (sym e))
one-given came came' given given' book book'
    (put {came = c} {given = g} {book = k} {after = a} r ch h p)
    (put {came = d} {given = f} {book = l} {after = b} q di i o) e =
    let parts = lasts c d r q e in
    let before = one-given c d g f k l h i parts.0 in
    let after = puts-same r k l before.1 ch di a b p
    (subst (λ (x : CounterReading). Puts l x di b) (sym parts.1) o) in
    (ap₂ (λ (xs : List Difference) (ys : Changes). xs ++ listed ys) before.0 after.0, after.1)

abbrev Read : Type 0
Read = Result CounterReading EventFault

same-read : (xs ys : List CounterReading) → map {B = Read} Ok xs ≡ map Ok ys → xs ≡ ys
same-read [] [] e = refl
same-read [] (y ∷ ys) e = cc e
same-read (x ∷ xs) [] e = cc e
same-read (x ∷ xs) (y ∷ ys) e =
    let head : x ≡ y = cc e in
    let tail : map {B = Read} Ok xs ≡ map Ok ys = cc e in
    ap₂ (λ z zs. z ∷ zs) head (same-read xs ys tail)

pub one-text : (sli : List ℕ) (records : List Fields) (text other : List ℕ)
    → GivesRows sli records text → GivesRows sli records other → text ≡ other
one-text sli records text other g h =
    let came = same-read g.taken.came h.taken.came (sym g.taken.read ∙ h.taken.read) in
    let given = one-given g.taken.came h.taken.came g.given h.given g.book h.book g.taken.holds
    h.taken.holds came in
    g.text_is ∙ ap (rows_of sli) given.0 ∙ sym h.text_is
