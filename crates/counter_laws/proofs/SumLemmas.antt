-- The samples of a minute add up to the differences there.
use Rattle.std.proofs.Common.{◌≡◌, ◌+◌, ℕ, List, [], ◌∷◌, Bool, true, false, ◌&&◌, ◌||◌, cond}
use Rattle.std.proofs.Common.{Option, Some, None, refl, ap, sym, ◌∙◌, filter, map, length, nat_eq}
use Rattle.std.proofs.Common.{◌==◌, ap₂, arith, option_map, sum_by, subst}
use Rattle.std.specs.List.{AllByRecursion, IsDistinct, find, list_any}
use Rattle.std.specs.Str.{bytes_eq}
use Rattle.std.specs.Cmp.{IsEquivalence}
use Rattle.std.specs.Cmp.Lexicographic.{nat_list_eq_equiv}
use Rattle.std.proofs.lemmas.Bool.Decides.{Decides-eqb}
use Rattle.std.proofs.lemmas.List.Sums.{sum_by-cons}
use Rattle.std.proofs.lemmas.Bool.{or_parts}
use Rattle.std.proofs.lemmas.Slice.Eq.{bytes_eq-Decides}
use Rattle.slo_terms.proofs.SumLemmas.{sum_by-none}
use Rattle.slo_terms.specs.Sums.{amount_at}
use Rattle.exact_fraction.specs.declared.Op.{Op}
use Rattle.slice_method.specs.Readings.{counts}
use Rattle.slice_method.specs.declared.Reading.TheVariants.{Good}
use Rattle.sample_book.specs.Counting.{counts_of_minute, is_of}
use Rattle.cell_index.specs.Cells.{cell_eq}
use Rattle.cell_index.specs.declared.Cell.{Cell}
use Rattle.sample_book.specs.Rows.{cell_of, current_rows, same_cell}
use Rattle.sample_book.specs.declared.Row.{Row}
use Rattle.slo_terms.proofs.CurrentLemmas.{current-distinct}
use Rattle.sample_book.proofs.StandingLemmas.{cell_laws}
use Rattle.counter_book.specs.Book.{Book}
use Rattle.counter_book.specs.Differences.{before_of, count_of, counts_of, difference_at}
use Rattle.counter_book.specs.Differences.{is_reading_at, newest}
use Rattle.counter_book.specs.Differences.{rise_between, same_moment}
use Rattle.counter_book.specs.Laws.{HoldsReadings, row_at}
use Rattle.counter_book.specs.Puts.{is_difference_at}
use Rattle.counter_book.specs.declared.Count.{Count}
use Rattle.counter_book.specs.declared.CounterReading.{CounterReading}
use Rattle.counter_book.specs.declared.Difference.{Difference}
use Rattle.counter_book.specs.declared.Rise.{Rise}
use Rattle.counter_book.proofs.PlaceLemmas.{pair_here, pair_parts, pair_back}
use Rattle.counter_laws.specs.Counted.{part_of, sums_of_differences, total_of}
use Rattle.counter_laws.specs.Samples.{is_sample_at, sample_of}
use Rattle.counter_laws.proofs.SampleLemmas.{samples-are}

abbrev Text : Type 0
Text = List ℕ

bytes-flip : (a b : Text) → bytes_eq a b ≡ bytes_eq b a
bytes-flip = nat_list_eq_equiv.symm

nat-flip : (a b : ℕ) → nat_eq a b ≡ nat_eq b a
nat-flip a b = by (nat_eq a b) (nat_eq b a) refl refl
  where
    by : (x y : Bool) → nat_eq a b ≡ x → nat_eq b a ≡ y → x ≡ y
    by true true e f = refl
    by false false e f = refl
    by true false e f =
        let same : a ≡ b = (Decides-eqb a b).0 e in
        sym ((Decides-eqb b a).1 (sym same)) ∙ f
    by false true e f =
        let same : b ≡ a = (Decides-eqb b a).0 f in
        sym (sym ((Decides-eqb a b).1 (sym same)) ∙ e)

-- ---- a sum over keys of which one has another term

same-terms : (f g : Text → ℕ) (ks : List Text) → AllByRecursion (λ k. f k ≡ g k) ks
    → sum_by f ks ≡ sum_by g ks
same-terms f g [] all = refl
same-terms f g (k ∷ ks) all =
    omega (arith, sum_by-cons f k ks, sum_by-cons g k ks, all.0, same-terms f g ks all.1)

abbrev changed : Text → ℕ → (Text → ℕ) → Text → ℕ
changed key a g k = cond (bytes_eq k key) a (g k)

-- keys of which none is this one
apart-terms : (key : Text) (a : ℕ) (g : Text → ℕ) (ks : List Text)
    → AllByRecursion (λ k. bytes_eq key k ≡ false) ks
    → AllByRecursion (λ k. changed key a g k ≡ g k) ks
apart-terms key a g [] all = tt
apart-terms key a g (k ∷ ks) all =
    let other : bytes_eq k key ≡ false = bytes-flip k key ∙ all.0 in
    (ap (λ b. cond b a (g k)) other, apart-terms key a g ks all.1)

one-changed : (key : Text) (a : ℕ) (g : Text → ℕ) (ks : List Text) → IsDistinct bytes_eq ks
    → list_any (bytes_eq key) ks ≡ true → g key ≡ 0
    → sum_by (changed key a g) ks ≡ a + sum_by g ks
unfolding IsDistinct
one-changed key a g [] distinct there none = cc there
one-changed key a g (k ∷ ks) distinct there none =
    by (bytes_eq key k) refl (λ later. one-changed key a g ks distinct.1 later none)
  where
    by : (b : Bool) → bytes_eq key k ≡ b
        → (list_any (bytes_eq key) ks ≡ true → sum_by (changed key a g) ks ≡ a + sum_by g ks)
        → sum_by (changed key a g) (k ∷ ks) ≡ a + sum_by g (k ∷ ks)
    by true e go =
        let same : key ≡ k = (bytes_eq-Decides key k).0 e in
        let head : changed key a g k ≡ a = ap (λ b. cond b a (g k)) (bytes-flip k key ∙ e) in
        let zero : g k ≡ 0 = subst (λ (x : Text). g x ≡ 0) same none in
        let apart : AllByRecursion (λ x. bytes_eq key x ≡ false) ks =
        subst (λ (x : Text). AllByRecursion (λ y. bytes_eq x y ≡ false) ks) (sym same)
        distinct.0 in
        let rest = same-terms (changed key a g) g ks (apart-terms key a g ks apart) in
        omega (
          arith,
          sum_by-cons (changed key a g) k ks,
          sum_by-cons g k ks,
          head,
          zero,
          rest,
        )
    by false e go =
        let head : changed key a g k ≡ g k = ap (λ b. cond b a (g k)) (bytes-flip k key ∙ e) in
        let later : list_any (bytes_eq key) ks ≡ true =
        subst (λ (b : Bool). (b || list_any (bytes_eq key) ks) ≡ true) e there in
        let rest = go later in
        omega (
          arith,
          sum_by-cons (changed key a g) k ks,
          sum_by-cons g k ks,
          head,
          rest,
        )

all-apart : (key : Text) (ks : List Text) → list_any (bytes_eq key) ks ≡ false
    → AllByRecursion (λ k. bytes_eq key k ≡ false) ks
all-apart key [] none = tt
all-apart key (k ∷ ks) none =
    let parts = or_parts (bytes_eq key k) (list_any (bytes_eq key) ks) none in
    (parts.0, all-apart key ks parts.1)

same-sum : (f g : Text → ℕ) → ((k : Text) → f k ≡ g k) → (ks : List Text)
    → sum_by f ks ≡ sum_by g ks
same-sum f g each [] = refl
same-sum f g each (k ∷ ks) =
    omega (arith, sum_by-cons f k ks, sum_by-cons g k ks, each k, same-sum f g each ks)

-- ---- the rows of an indicator's minute, of which each source has one

no-cell : (cell : Cell) (rows : List Row)
    → AllByRecursion (λ (row : Row). cell_eq cell (cell_of row) ≡ false) rows
    → find (λ row. cell_eq cell (cell_of row)) rows ≡ None
no-cell cell [] all = refl
no-cell cell (row ∷ rows) all =
    ap (λ b. cond b (Some row) (find (λ x. cell_eq cell (cell_of x)) rows)) all.0
    ∙ no-cell cell rows all.1

module _ (sli : Text) (minute : ℕ) (amount : Row → ℕ) where
  abbrev term : Row → ℕ
  term row = cond (is_of sli row) (cond (nat_eq row.minute minute) (amount row) 0) 0

  -- a sum over the rows of an indicator is one over all rows
  over-all : (rows : List Row)
      → amount_at (λ (row : Row). row.minute) amount (filter (is_of sli) rows) minute
      ≡ sum_by term rows
  over-all [] = refl
  over-all (row ∷ rows) = by (is_of sli row) refl (over-all rows)
    where
      own : Row → ℕ
      own x = cond (nat_eq x.minute minute) (amount x) 0

      by : (b : Bool) → is_of sli row ≡ b
          → sum_by own (filter (is_of sli) rows) ≡ sum_by term rows
          → sum_by own (cond b (row ∷ filter (is_of sli) rows) (filter (is_of sli) rows))
          ≡ sum_by term (row ∷ rows)
      by true e go =
          let head : term row ≡ own row = ap (λ c. cond c (own row) 0) e in
          omega (
            arith,
            sum_by-cons own row (filter (is_of sli) rows),
            sum_by-cons term row rows,
            head,
            go,
          )
      by false e go =
          let head : term row ≡ 0 = ap (λ c. cond c (own row) 0) e in
          omega (arith, sum_by-cons term row rows, head, go)

  abbrev amount_of : Option Row → ℕ
  amount_of None = 0
  amount_of (Some row) = amount row

  abbrev found : List Row → Text → ℕ
  found rows source = amount_of (find (is_sample_at sli source minute) rows)

  amount-if : (b : Bool) (row : Row) (o : Option Row)
      → amount_of (cond b (Some row) o) ≡ cond b (amount row) (amount_of o)
  amount-if true row o = refl
  amount-if false row o = refl

  -- a row of the indicator's minute is the sample of its source
  test-here : (row : Row) → is_of sli row ≡ true → nat_eq row.minute minute ≡ true
      → (source : Text) → is_sample_at sli source minute row ≡ bytes_eq source row.source
  test-here row e f source =
      ap (λ b. b && (bytes_eq source row.source && nat_eq minute row.minute))
      (bytes-flip sli row.sli ∙ e)
      ∙ ap (λ b. bytes_eq source row.source && b) (nat-flip minute row.minute ∙ f)
      ∙ and_true (bytes_eq source row.source)
    where
      and_true : (b : Bool) → (b && true) ≡ b
      and_true true = refl
      and_true false = refl

  -- another one is the sample of none
  test-other : (row : Row) → (is_of sli row && nat_eq row.minute minute) ≡ false
      → (source : Text) → is_sample_at sli source minute row ≡ false
  test-other row e source =
      by (is_of sli row) (nat_eq row.minute minute) (bytes_eq source row.source) e
      (bytes-flip sli row.sli) (nat-flip minute row.minute)
    where
      by : (a b c : Bool) → (a && b) ≡ false → bytes_eq sli row.sli ≡ a
          → nat_eq minute row.minute ≡ b
          → (bytes_eq sli row.sli && (c && nat_eq minute row.minute)) ≡ false
      by true true c e f g = cc e
      by true false true e f g = rw (f, g) refl
      by true false false e f g = rw f refl
      by false b c e f g = rw f refl

  -- behind a row of the indicator's minute there is none of its source
  none-behind : (row : Row) (rows : List Row) → is_of sli row ≡ true
      → nat_eq row.minute minute ≡ true
      → AllByRecursion (λ later. same_cell row later ≡ false) rows → found rows row.source ≡ 0
  none-behind row rows e f apart =
      let s : row.sli ≡ sli = (bytes_eq-Decides row.sli sli).0 e in
      let m : row.minute ≡ minute = (Decides-eqb row.minute minute).0 f in
      let cell : Cell = record { sli = sli; source = row.source; minute = minute } in
      let same : cell_of row ≡ cell = cc (s, m) in
      ap amount_of (no-cell cell rows
      (subst (λ (c : Cell). AllByRecursion (λ (x : Row). cell_eq c (cell_of x) ≡ false) rows) same
      apart))

  -- the rows add up to what is found for the keys
  abbrev AddUp : List Text → List Row → Type 0
  AddUp keys rows = sum_by term rows ≡ sum_by (found rows) keys

  -- so they do where nothing is found for others
  abbrev AddUpWhere : List Text → List Row → Type 0
  AddUpWhere keys rows =
      ((s : Text) → list_any (bytes_eq s) keys ≡ false → found rows s ≡ 0) → AddUp keys rows

  -- The rows of a minute, one for each source, add up to what is found for each of these sources,
  -- where nothing is found for others.
  sums : (keys : List Text) → IsDistinct bytes_eq keys → (rows : List Row)
      → IsDistinct same_cell rows
      → ((s : Text) → list_any (bytes_eq s) keys ≡ false → found rows s ≡ 0)
      → sum_by term rows ≡ sum_by (found rows) keys
  unfolding IsDistinct
  sums keys distinct [] apart zero = sym (sum_by-none (found []) (λ k. refl) keys)
  sums keys distinct (row ∷ rows) apart zero =
      by (is_of sli row) (nat_eq row.minute minute) refl refl (sums keys distinct rows apart.1)
    where
      skipped : (is_of sli row && nat_eq row.minute minute) ≡ false → term row ≡ 0
          → AddUpWhere keys rows → AddUp keys (row ∷ rows)
      skipped e head go =
          let same : (s : Text) → found (row ∷ rows) s ≡ found rows s = λ s.
          ap (λ b. amount_of (cond b (Some row) (find (is_sample_at sli s minute) rows)))
          (test-other row e s) in
          let rest = go (λ s none. sym (same s) ∙ zero s none) in
          omega (
            arith,
            sum_by-cons term row rows,
            head,
            rest,
            same-sum (found (row ∷ rows)) (found rows) same keys,
          )

      met : (e : is_of sli row ≡ true) → (f : nat_eq row.minute minute ≡ true)
          → (s : Text) → found (row ∷ rows) s ≡ changed row.source (amount row) (found rows) s
      met e f s =
          ap (λ b. amount_of (cond b (Some row) (find (is_sample_at sli s minute) rows)))
          (test-here row e f s)
          ∙ amount-if (bytes_eq s row.source) row (find (is_sample_at sli s minute) rows)

      behind : (e : is_of sli row ≡ true) → (f : nat_eq row.minute minute ≡ true)
          → (s : Text) → list_any (bytes_eq s) keys ≡ false → found rows s ≡ 0
      behind e f s none = of (bytes_eq s row.source) refl
        where
          of : (b : Bool) → bytes_eq s row.source ≡ b → found rows s ≡ 0
          of true g =
              let same : s ≡ row.source = (bytes_eq-Decides s row.source).0 g in
              subst (λ (x : Text). found rows x ≡ 0) (sym same)
              (none-behind row rows e f apart.0)
          of false g =
              sym (met e f s ∙ ap (λ b. cond b (amount row) (found rows s)) g) ∙ zero s none

      taken : (e : is_of sli row ≡ true) → (f : nat_eq row.minute minute ≡ true)
          → AddUpWhere keys rows → AddUp keys (row ∷ rows)
      taken e f go = of (list_any (bytes_eq row.source) keys) refl
        where
          head : term row ≡ amount row
          head = ap (λ b. cond b (cond (nat_eq row.minute minute) (amount row) 0) 0) e
              ∙ ap (λ b. cond b (amount row) 0) f

          now : sum_by (found (row ∷ rows)) keys
              ≡ sum_by (changed row.source (amount row) (found rows)) keys
          now = same-sum (found (row ∷ rows)) (changed row.source (amount row) (found rows))
              (met e f) keys

          of : (b : Bool) → list_any (bytes_eq row.source) keys ≡ b → AddUp keys (row ∷ rows)
          of true there =
              let one = one-changed row.source (amount row) (found rows) keys distinct there
              (none-behind row rows e f apart.0) in
              omega (arith, sum_by-cons term row rows, head, now, one, go (behind e f))
          of false there =
              let self : bytes_eq row.source row.source ≡ true =
              (bytes_eq-Decides row.source row.source).1 refl in
              let zeroed : amount row ≡ 0 =
              sym (met e f row.source ∙ ap (λ b. cond b (amount row) (found rows row.source)) self)
              ∙ zero row.source there in
              let others = same-terms (changed row.source (amount row) (found rows)) (found rows)
              keys (apart-terms row.source (amount row) (found rows) keys
              (all-apart row.source keys there)) in
              omega (arith, sum_by-cons term row rows, head, zeroed, now, others, go (behind e f))

      by : (a b : Bool) → is_of sli row ≡ a → nat_eq row.minute minute ≡ b
          → AddUpWhere keys rows → AddUp keys (row ∷ rows)
      by true true e f go = taken e f go
      by true false e f go = skipped (ap₂ (λ x y. x && y) e f)
          (ap (λ x. cond x (cond (nat_eq row.minute minute) (amount row) 0) 0) e
          ∙ ap (λ x. cond x (amount row) 0) f) go
      by false b e f go = skipped (ap (λ x. x && nat_eq row.minute minute) e)
          (ap (λ x. cond x (cond (nat_eq row.minute minute) (amount row) 0) 0) e) go

-- ---- the newest readings of a minute, by their sources

moments_laws : IsEquivalence same_moment
moments_laws = record {
  refl = λ x. pair_here x.source x.source x.minute x.minute refl refl;
  symm = λ x y. pair_back x.source y.source x.minute y.minute;
  congr = λ x y z e. let p = pair_parts x.source y.source x.minute y.minute e in
      ap (λ t. bytes_eq t z.source && x.minute == z.minute) p.0
      ∙ ap (λ n. bytes_eq y.source z.source && n == z.minute) p.1;
}

module _ (minute : ℕ) where
  abbrev at : CounterReading → Bool
  at r = nat_eq r.minute minute

  abbrev keys_of : List CounterReading → List Text
  keys_of ys = map (λ (r : CounterReading). r.source) (filter at ys)

  other-sources : (r : CounterReading) (ys : List CounterReading) → at r ≡ true
      → AllByRecursion (λ y. same_moment r y ≡ false) ys
      → AllByRecursion (λ k. bytes_eq r.source k ≡ false) (keys_of ys)
  other-sources r [] e all = tt
  other-sources r (y ∷ ys) e all = by (at y) refl (other-sources r ys e all.1)
    where
      here : at y ≡ true → bytes_eq r.source y.source ≡ false
      here f =
          let a : r.minute ≡ minute = (Decides-eqb r.minute minute).0 e in
          let b : y.minute ≡ minute = (Decides-eqb y.minute minute).0 f in
          let same : nat_eq r.minute y.minute ≡ true =
          (Decides-eqb r.minute y.minute).1 (a ∙ sym b) in
          of (bytes_eq r.source y.source) (nat_eq r.minute y.minute) same all.0
        where
          of : (x z : Bool) → z ≡ true → (x && z) ≡ false → x ≡ false
          of true true g h = cc h
          of true false g h = cc g
          of false z g h = refl

      by : (b : Bool) → at y ≡ b
          → AllByRecursion (λ k. bytes_eq r.source k ≡ false) (keys_of ys)
          → AllByRecursion (λ k. bytes_eq r.source k ≡ false)
          (map (λ (x : CounterReading). x.source) (cond b (y ∷ filter at ys) (filter at ys)))
      by true f go = (here f, go)
      by false f go = go

  keys-distinct : (ys : List CounterReading) → IsDistinct same_moment ys
      → IsDistinct bytes_eq (keys_of ys)
  unfolding IsDistinct
  keys-distinct [] h = h
  keys-distinct (y ∷ ys) h = by (at y) refl (keys-distinct ys h.1)
    where
      by : (b : Bool) → at y ≡ b → IsDistinct bytes_eq (keys_of ys)
          → IsDistinct bytes_eq
          (map (λ (x : CounterReading). x.source) (cond b (y ∷ filter at ys) (filter at ys)))
      by true f go = (other-sources y ys f h.0, go)
      by false f go = go

  -- the first reading of a source there
  abbrev there : Text → List CounterReading → Option CounterReading
  there source ys = find (is_reading_at source minute) ys

  -- a source that isn't among them has no reading there
  no-reading : (source : Text) (ys : List CounterReading)
      → list_any (bytes_eq source) (keys_of ys) ≡ false
      → find (is_reading_at source minute) ys ≡ None
  no-reading source [] none = refl
  no-reading source (y ∷ ys) none = by (at y) refl (no-reading source ys) none
    where
      by : (b : Bool) → at y ≡ b
          → (list_any (bytes_eq source) (keys_of ys) ≡ false → there source ys ≡ None)
          → list_any (bytes_eq source)
          (map (λ (x : CounterReading). x.source) (cond b (y ∷ filter at ys) (filter at ys)))
          ≡ false
          → cond (bytes_eq source y.source && nat_eq minute y.minute) (Some y) (there source ys)
          ≡ None
      by true f go out =
          let parts = or_parts (bytes_eq source y.source) (list_any (bytes_eq source) (keys_of ys))
          out in
          ap (λ b. cond (b && nat_eq minute y.minute) (Some y) (there source ys)) parts.0
          ∙ go parts.1
      by false f go out =
          ap (λ b. cond (bytes_eq source y.source && b) (Some y) (there source ys))
          (nat-flip minute y.minute ∙ f)
          ∙ skip (bytes_eq source y.source) ∙ go out
        where
          skip : (b : Bool) → cond (b && false) (Some y) (there source ys) ≡ there source ys
          skip true = refl
          skip false = refl

  -- a sum over their sources is one over the readings
  over-readings : (p : Text → ℕ → ℕ) (ys : List CounterReading)
      → sum_by (λ s. p s minute) (keys_of ys)
      ≡ amount_at (λ (r : CounterReading). r.minute)
      (λ (r : CounterReading). p r.source r.minute) ys minute
  over-readings p [] = refl
  over-readings p (y ∷ ys) = by (at y) refl (over-readings p ys)
    where
      own : Text → ℕ
      own s = p s minute

      each : CounterReading → ℕ
      each r = cond (nat_eq r.minute minute) (p r.source r.minute) 0

      by : (b : Bool) → at y ≡ b → sum_by own (keys_of ys) ≡ sum_by each ys
          → sum_by own
          (map (λ (x : CounterReading). x.source) (cond b (y ∷ filter at ys) (filter at ys)))
          ≡ sum_by each (y ∷ ys)
      by true f go =
          let same : y.minute ≡ minute = (Decides-eqb y.minute minute).0 f in
          let head : each y ≡ own y.source =
          ap (λ b. cond b (p y.source y.minute) 0) f ∙ ap (λ m. p y.source m) same in
          omega (
            arith,
            sum_by-cons own y.source (keys_of ys),
            sum_by-cons each y ys,
            head,
            go,
          )
      by false f go =
          let head : each y ≡ 0 = ap (λ b. cond b (p y.source y.minute) 0) f in
          omega (arith, sum_by-cons each y ys, head, go)

-- no difference where there is no reading
no-rise : (before : Option Count) → rise_between before None ≡ None
no-rise None = refl
no-rise (Some x) = refl

-- ---- a number of the differences, as the samples have it

module _ (sli : Text) (minute : ℕ) (amount : Row → ℕ) (worth : Option Rise → ℕ)
    (none_is : worth None ≡ 0)
    (some_is : (source : Text) (n : ℕ) (rise : Rise) → amount (sample_of sli (record {
      source = source;
      minute = minute;
      revision = n;
      part = rise.part;
      total = rise.total;
    })) ≡ worth (Some rise)) where
  worth-found : (source : Text) (n : ℕ) (o : Option Rise)
      → amount_of sli minute amount (option_map (sample_of sli) (row_at source minute n o))
      ≡ worth o
  worth-found source n None = sym none_is
  worth-found source n (Some rise) = some_is source n rise

  pub sums-are : (rows : List Row) (came : List CounterReading) (given : List Difference)
      (book : Book) → HoldsReadings came given book
      → filter (is_of sli) rows ≡ map (sample_of sli) given
      → amount_at (λ (row : Row). row.minute) amount (filter (is_of sli) (current_rows rows)) minute
      ≡ amount_at (λ (r : CounterReading). r.minute)
      (λ (r : CounterReading). worth (difference_at came r.source r.minute)) (newest came) minute
  sums-are rows came given book h e =
      let found-is : (s : Text) → found sli minute amount (current_rows rows) s
      ≡ worth (difference_at came s minute) = λ s.
      ap (amount_of sli minute amount) (samples-are sli rows came given book h e s minute)
      ∙ worth-found s (length (filter (is_difference_at s minute) given))
      (difference_at came s minute) in
      let keys : List Text = keys_of minute (newest came) in
      let zero : (s : Text) → list_any (bytes_eq s) keys ≡ false
      → found sli minute amount (current_rows rows) s ≡ 0 = λ s none.
      found-is s
      ∙ ap worth (ap (λ (o : Option CounterReading).
      rise_between (before_of (counts_of came s) minute) (option_map count_of o))
      (no-reading minute s (newest came) none)
      ∙ no-rise (before_of (counts_of came s) minute))
      ∙ none_is in
      over-all sli minute amount (current_rows rows)
      ∙ sums sli minute amount keys
      (keys-distinct minute (newest came)
      (current-distinct same_moment (λ (r : CounterReading). r.revision) moments_laws came))
      (current_rows rows)
      (current-distinct same_cell (λ (row : Row). row.revision) cell_laws rows) zero
      ∙ same-sum (found sli minute amount (current_rows rows))
      (λ s. worth (difference_at came s minute)) found-is keys
      ∙ over-readings minute (λ s m. worth (difference_at came s m)) (newest came)

-- The counts of a minute are the sums of the differences there.
pub counts-are : (sli : Text) (rows : List Row) (came : List CounterReading)
    (given : List Difference) (book : Book) → HoldsReadings came given book
    → filter (is_of sli) rows ≡ map (sample_of sli) given → (op : Op) (value minute : ℕ)
    → counts_of_minute Good op value (current_rows rows) sli minute
    ≡ sums_of_differences came minute
counts-are sli rows came given book h e op value minute =
    let good = sums-are sli minute (λ row. (counts Good op value row.amount).good) part_of refl
    (λ s n rise. refl) rows came given book h e in
    let total = sums-are sli minute (λ row. (counts Good op value row.amount).total) total_of refl
    (λ s n rise. refl) rows came given book h e in
    ap₂ (λ (g t : ℕ). record { good = g; total = t }) good total
