-- One cell more: the first cell of an indicator, and the number of its days.
use Rattle.std.proofs.Common.{◌≡◌, ℕ, zero, suc, ◌+◌, ◌/◌, ◌<◌, ◌≤◌, ◌==◌, ◌&&◌, ◌||◌, Bool, true}
use Rattle.std.proofs.Common.{false, cond, not, nat_eq, nat_lt, refl, ap, sym, ◌∙◌, arith, subst}
use Rattle.std.proofs.Common.{List, [], ◌∷◌, ◌++◌, length, map, filter, Option, Some}
use Rattle.std.proofs.Common.{None}
use Rattle.std.specs.Cmp.{IsEquivalence}
use Rattle.std.specs.List.{list_any, position}
use Rattle.std.specs.Option.{option_map}
use Rattle.std.specs.Str.{bytes_eq}
use Rattle.std.proofs.lemmas.Bool.{eqb-true}
use Rattle.std.proofs.lemmas.Bool.Decides.{nat_tests}
use Rattle.std.proofs.lemmas.List.{append-nil, map-append}
use Rattle.std.proofs.lemmas.List.Elements.{filter-append}
use Rattle.std.proofs.lemmas.Slice.Eq.{bytes_eq-Decides}
use Rattle.indexmap.specs.IndexMap.{get}
use Rattle.slo_terms.specs.Rows.{first_of_each}
use Rattle.cell_index.specs.Chains.{last, later}
use Rattle.cell_index.specs.Cells.{is_cell_on}
use Rattle.cell_index.specs.Cells.{days_with_cells, is_cell_of}
use Rattle.cell_index.specs.Extents.{AreExtents, extent_of}
use Rattle.cell_index.specs.declared.extents.Extent.{Extent}
use Rattle.cell_index.specs.declared.extents.Extents.{Extents}
use Rattle.cell_index.specs.declared.cell.Cell.{Cell}
use Rattle.slo_terms.proofs.CurrentLemmas.{adds, first_of_each-push}
use Rattle.name_numbers.proofs.FirstPlaces.{first, none-first, position-first}
use Rattle.cell_index.proofs.ListLemmas.{eq-itself}

abbrev same_day : ℕ → ℕ → Bool
same_day a b = a == b

number_laws : IsEquivalence same_day
number_laws = record {
  refl = eq-itself;
  symm = λ x y. grind (arith, nat_tests);
  congr = λ x y z h. ap (λ (n : ℕ). same_day n z) (eqb-true x y h);
}

length-adds : (fs : List ℕ) (d : ℕ) → length (adds same_day (λ n. n) fs d)
    ≡ cond (list_any (λ f. f == d) fs) (length fs) (suc (length fs))
length-adds [] d = refl
length-adds (f ∷ fs) d = by (f == d) (list_any (λ f. f == d) fs) (length-adds fs d)
  where
    by : (a b : Bool) → length (adds same_day (λ n. n) fs d)
        ≡ cond b (length fs) (suc (length fs)) →
        suc (length (cond a fs (adds same_day (λ n. n) fs d)))
        ≡ cond (a || b) (suc (length fs)) (suc (suc (length fs)))
    by true b rest = refl
    by false true rest = ap suc rest
    by false false rest = ap suc rest

-- leaving out the days that equal one leaves those that equal another
any-others : (x d : ℕ) (xs : List ℕ) → (x == d) ≡ false
    → list_any (λ y. y == d) (filter (λ later. not (x == later)) xs) ≡ list_any (λ y. y == d) xs
any-others x d [] h = refl
any-others x d (y ∷ ys) h = by (x == y) refl (any-others x d ys h)
  where
    by : (b : Bool) → (x == y) ≡ b →
        list_any (λ y. y == d) (filter (λ later. not (x == later)) ys) ≡ list_any (λ y. y == d) ys →
        list_any (λ y. y == d) (cond (not b) (y ∷ filter (λ later. not (x == later)) ys)
        (filter (λ later. not (x == later)) ys)) ≡ ((y == d) || list_any (λ y. y == d) ys)
    by true e rest =
        let other : (y == d) ≡ false = ap (λ (n : ℕ). n == d) (sym (eqb-true x y e)) ∙ h in
        rest ∙ ap (λ (b : Bool). b || list_any (λ y. y == d) ys) (sym other)
    by false e rest = ap (λ (b : Bool). (y == d) || b) rest

any-firsts : (d : ℕ) (xs : List ℕ)
    → list_any (λ y. y == d) (first_of_each same_day xs) ≡ list_any (λ y. y == d) xs
any-firsts d [] = refl
any-firsts d (x ∷ xs) = by (x == d) refl (any-firsts d xs)
  where
    by : (b : Bool) → (x == d) ≡ b
        → list_any (λ y. y == d) (first_of_each same_day xs) ≡ list_any (λ y. y == d) xs
        → (b || list_any (λ y. y == d) (filter (λ later. not (x == later))
        (first_of_each same_day xs))) ≡ (b || list_any (λ y. y == d) xs)
    by true e rest = refl
    by false e rest = any-others x d (first_of_each same_day xs) e ∙ rest

firsts-push : (xs : List ℕ) (d : ℕ)
    → length (first_of_each same_day (xs ++ d ∷ [])) ≡ cond (list_any (λ y. y == d) xs)
    (length (first_of_each same_day xs)) (suc (length (first_of_each same_day xs)))
firsts-push xs d =
    ap length (first_of_each-push same_day (λ n. n) number_laws xs d)
    ∙ length-adds (first_of_each same_day xs) d
    ∙ ap (λ (b : Bool). cond b (length (first_of_each same_day xs))
    (suc (length (first_of_each same_day xs)))) (any-firsts d xs)

length-filtered : (p : ℕ → Bool) (xs : List ℕ) → length (filter p xs) ≤ length xs
length-filtered p [] = omega arith
length-filtered p (x ∷ xs) = by (p x) (length-filtered p xs)
  where
    by : (b : Bool) → length (filter p xs) ≤ length xs
        → length (cond b (x ∷ filter p xs) (filter p xs)) ≤ suc (length xs)
    by true h = omega (arith, h)
    by false h = omega (arith, h)

length-firsts : (xs : List ℕ) → length (first_of_each same_day xs) ≤ length xs
length-firsts [] = omega arith
length-firsts (x ∷ xs) = omega (
  arith,
  length-filtered (λ later. not (x == later)) (first_of_each same_day xs),
  length-firsts xs,
)

abbrev days : List Cell → List ℕ → List ℕ
days cells sli = map (λ (cell : Cell). cell.minute / 1440) (filter (is_cell_of sli) cells)

length-days : (cells : List Cell) (sli : List ℕ) → length (days cells sli) ≤ length cells
length-days [] sli = omega arith
length-days (cell ∷ cells) sli = by (is_cell_of sli cell) (length-days cells sli)
  where
    by : (b : Bool) → length (days cells sli) ≤ length cells
        → length (map (λ (cell : Cell). cell.minute / 1440)
        (cond b (cell ∷ filter (is_cell_of sli) cells) (filter (is_cell_of sli) cells))) ≤ suc
        (length cells)
    by true h = omega (arith, h)
    by false h = omega (arith, h)

any-days : (sli : List ℕ) (day : ℕ) (cells : List Cell)
    → list_any (λ y. y == day) (days cells sli) ≡ list_any (is_cell_on sli day) cells
any-days sli day [] = refl
any-days sli day (cell ∷ cells) = by (is_cell_of sli cell) (any-days sli day cells)
  where
    by : (b : Bool)
        → list_any (λ y. y == day) (days cells sli) ≡ list_any (is_cell_on sli day) cells →
        list_any (λ y. y == day) (map (λ (cell : Cell). cell.minute / 1440)
        (cond b (cell ∷ filter (is_cell_of sli) cells) (filter (is_cell_of sli) cells)))
        ≡ ((b && nat_eq (cell.minute / 1440) day) || list_any (is_cell_on sli day) cells)
    by true rest = ap (λ (b : Bool). (cell.minute / 1440 == day) || b) rest
    by false rest = rest

any-is_last : {A : Type 0} (p : A → Bool) (xs : List A) → list_any p xs ≡ nat_lt 0 (last p xs)
any-is_last p [] = refl
any-is_last p (x ∷ xs) = by (last p xs) (p x) (any-is_last p xs)
  where
    by : (n : ℕ) (b : Bool) → list_any p xs ≡ nat_lt 0 n
        → (b || list_any p xs) ≡ nat_lt 0 (later n b)
    by zero true e = refl
    by zero false e = e
    by (suc n) true e = grind (arith, nat_tests)
    by (suc n) false e = e ∙ grind (arith, nat_tests)

days-push : (cells : List Cell) (cell : Cell) (sli : List ℕ) (n : ℕ) →
    n ≡ length (days_with_cells cells sli) →
    length (days_with_cells (cells ++ cell ∷ []) sli) ≡ cond (is_cell_of sli cell)
    (cond (nat_lt 0 (last (is_cell_on sli (cell.minute / 1440)) cells)) n (suc n)) n
days-push cells cell sli n is =
    ap (λ own. length (first_of_each same_day (map (λ (cell : Cell). cell.minute / 1440) own)))
    (filter-append (is_cell_of sli) cells (cell ∷ []))
    ∙ ap (λ own. length (first_of_each same_day own))
    (map-append (λ (cell : Cell). cell.minute / 1440)
    (filter (is_cell_of sli) cells) (filter (is_cell_of sli) (cell ∷ [])))
    ∙ by (is_cell_of sli cell)
  where
    day : ℕ
    day = cell.minute / 1440

    by : (b : Bool) → length (first_of_each
        same_day (days cells sli ++ map (λ (cell : Cell). cell.minute / 1440)
        (cond b (cell ∷ []) [])))
        ≡ cond b (cond (nat_lt 0 (last (is_cell_on sli day) cells)) n (suc n)) n
    by true =
        firsts-push (days cells sli) day
        ∙ ap (λ (b : Bool). cond
        b (length (days_with_cells cells sli)) (suc (length (days_with_cells cells sli))))
        (any-days sli day cells ∙ any-is_last (is_cell_on sli day) cells)
        ∙ ap (λ m. cond (nat_lt 0 (last (is_cell_on sli day) cells)) m (suc m)) (sym is)
    by false = ap (λ own. length (first_of_each same_day own)) (append-nil (days cells sli))
        ∙ sym is

-- the first place in a list, or in the item behind it
abbrev or_behind : Option ℕ → Bool → ℕ → Option ℕ
or_behind (Some place) here behind = Some place
or_behind None here behind = cond here (Some behind) None

first-push : {A : Type 0} (p : A → Bool) (xs : List A) (x : A)
    → first p (xs ++ x ∷ []) ≡ or_behind (first p xs) (p x) (length xs)
first-push p [] x = refl
first-push p (y ∷ ys) x = by (p y) (first p ys) (p x) (first-push p ys x)
  where
    by : (a : Bool) (o : Option ℕ) (b : Bool) → first p (ys ++ x ∷ []) ≡ or_behind o b (length ys) →
        cond a (Some 0) (option_map suc (first p (ys ++ x ∷ [])))
        ≡ or_behind (cond a (Some 0) (option_map suc o)) b (suc (length ys))
    by true o b rest = refl
    by false (Some n) b rest = ap (option_map suc) rest
    by false None true rest = ap (option_map suc) rest
    by false None false rest = ap (option_map suc) rest

position-push : {A : Type 0} (p : A → Bool) (xs : List A) (x : A)
    → position p (xs ++ x ∷ []) ≡ or_behind (position p xs) (p x) (length xs)
position-push p xs x =
    position-first p (xs ++ x ∷ []) ∙ first-push p xs x
    ∙ ap (λ o. or_behind o (p x) (length xs)) (sym (position-first p xs))

-- where a day has a cell of an indicator, the indicator has a cell
any-of : (sli : List ℕ) (day : ℕ) (cells : List Cell) → list_any (is_cell_on sli day) cells ≡ true
    → list_any (is_cell_of sli) cells ≡ true
any-of sli day [] h = h
any-of sli day (cell ∷ cells) h = by (is_cell_of sli cell) h (any-of sli day cells)
  where
    by : (b : Bool)
        → ((b && nat_eq (cell.minute / 1440) day) || list_any (is_cell_on sli day) cells)
        ≡ true → (list_any (is_cell_on sli day) cells ≡ true
        → list_any (is_cell_of sli) cells ≡ true)
        → (b || list_any (is_cell_of sli) cells) ≡ true
    by true h go = refl
    by false h go = go h

none-of : (cells : List Cell) (sli : List ℕ) → list_any (is_cell_of sli) cells ≡ false
    → filter (is_cell_of sli) cells ≡ []
none-of [] sli h = refl
none-of (cell ∷ cells) sli h = by (is_cell_of sli cell) h (none-of cells sli)
  where
    by : (b : Bool) → (b || list_any (is_cell_of sli) cells) ≡ false
        → (list_any (is_cell_of sli) cells ≡ false → filter (is_cell_of sli) cells ≡ [])
        → cond b (cell ∷ filter (is_cell_of sli) cells) (filter (is_cell_of sli) cells) ≡ []
    by true h go = cc h
    by false h go = go h

-- an indicator of no cell has no days
pub no_days : (cells : List Cell) (sli : List ℕ) → position (is_cell_of sli) cells ≡ None
    → length (days_with_cells cells sli) ≡ 0
no_days cells sli none =
    ap (λ own. length (first_of_each same_day (map (λ (cell : Cell). cell.minute / 1440) own)))
    (none-of cells sli
    (none-first (is_cell_of sli) cells (sym (position-first (is_cell_of sli) cells) ∙ none)))

-- what is known of an indicator once its day has one cell more
abbrev pub grown : Option Extent → ℕ → Extent
grown (Some extent) behind = record { first = extent.first; days = extent.days + 1 }
grown None behind = record { first = behind; days = 1 }

abbrev extent : ℕ → Option ℕ → Option Extent
extent count place = option_map (λ place. record { first = place; days = count }) place

extent-other : (cells : List Cell) (cell : Cell) (sli : List ℕ) → is_cell_of sli cell ≡ false
    → extent_of (cells ++ cell ∷ []) sli ≡ extent_of cells sli
extent-other cells cell sli other =
    let count = length (days_with_cells cells sli) in
    let days_stay : length (days_with_cells (cells ++ cell ∷ []) sli) ≡ count =
    days-push cells cell sli count refl ∙ ap (λ (b : Bool). cond b (cond
    (nat_lt 0 (last (is_cell_on sli (cell.minute / 1440)) cells)) count (suc count)) count) other in
    let place_stays : position (is_cell_of sli) (cells ++ cell ∷ [])
    ≡ position (is_cell_of sli) cells =
    position-push (is_cell_of sli) cells cell
    ∙ ap (λ (b : Bool). or_behind (position (is_cell_of sli) cells) b (length cells)) other
    ∙ by (position (is_cell_of sli) cells) in
    (λ i. extent (days_stay i) (place_stays i))
  where
    by : (o : Option ℕ) → or_behind o false (length cells) ≡ o
    by (Some n) = refl
    by None = refl

-- a cell behind one of its indicator and day adds nothing
extent-same : (cells : List Cell) (cell : Cell)
    → nat_lt 0 (last (is_cell_on cell.sli (cell.minute / 1440)) cells) ≡ true
    → is_cell_of cell.sli cell ≡ true
    → extent_of (cells ++ cell ∷ []) cell.sli ≡ extent_of cells cell.sli
extent-same cells cell there own =
    let sli = cell.sli in
    let count = length (days_with_cells cells sli) in
    let days_stay : length (days_with_cells (cells ++ cell ∷ []) sli) ≡ count =
    days-push cells cell sli count refl
    ∙ (λ i. cond (own i) (cond (there i) count (suc count)) count) in
    let some : list_any (is_cell_of sli) cells ≡ true = any-of sli (cell.minute / 1440) cells
    (any-is_last (is_cell_on sli (cell.minute / 1440)) cells ∙ there) in
    let place_stays : position (is_cell_of sli) (cells ++ cell ∷ [])
    ≡ position (is_cell_of sli) cells =
    position-push (is_cell_of sli) cells cell ∙ by (position (is_cell_of sli) cells) refl some in
    (λ i. extent (days_stay i) (place_stays i))
  where
    by : (o : Option ℕ) → position (is_cell_of cell.sli) cells ≡ o
        → list_any (is_cell_of cell.sli) cells ≡ true
        → or_behind o (is_cell_of cell.sli cell) (length cells) ≡ o
    by (Some n) e some = refl
    by None e some = cc (sym some
        ∙ none-first (is_cell_of cell.sli) cells
        (sym (position-first (is_cell_of cell.sli) cells) ∙ e))

-- a cell that is the first of its indicator on its day adds the day, and is the first of all where
-- there was none
extent-day : (cells : List Cell) (cell : Cell)
    → last (is_cell_on cell.sli (cell.minute / 1440)) cells ≡ 0 →
    is_cell_of cell.sli cell ≡ true →
    extent_of (cells ++ cell ∷ []) cell.sli ≡ Some (grown (extent_of cells cell.sli) (length cells))
extent-day cells cell none own =
    let sli = cell.sli in
    let count = length (days_with_cells cells sli) in
    let added : length (days_with_cells (cells ++ cell ∷ []) sli) ≡ suc count =
    days-push cells cell sli count refl
    ∙ (λ i. cond (own i) (cond (nat_lt 0 (none i)) count (suc count)) count) in
    let placed : position (is_cell_of sli) (cells ++ cell ∷ [])
    ≡ or_behind (position (is_cell_of sli) cells) true (length cells) =
    position-push (is_cell_of sli) cells cell
    ∙ ap (λ (b : Bool). or_behind (position (is_cell_of sli) cells) b (length cells)) own in
    (λ i. extent (added i) (placed i)) ∙ by (position (is_cell_of sli) cells) refl
  where
    by : (o : Option ℕ) → position (is_cell_of cell.sli) cells ≡ o →
        extent (suc (length (days_with_cells cells cell.sli))) (or_behind o true (length cells))
        ≡ Some (grown (extent (length (days_with_cells cells cell.sli)) o) (length cells))
    by (Some n) e = let more : suc (length (days_with_cells cells cell.sli))
        ≡ length (days_with_cells cells cell.sli) + 1 = omega arith in
        ap (λ (count : ℕ). Some (record { first = n; days = count })) more
    by None e = ap (λ (count : ℕ). Some (record { first = length cells; days = suc count }))
        (no_days cells cell.sli e)

own_cell : (cell : Cell) → is_cell_of cell.sli cell ≡ true
own_cell cell = (bytes_eq-Decides cell.sli cell.sli).1 refl

pub extents_same : (cells : List Cell) (cell : Cell) (extents : Extents) (before : ℕ)
    → AreExtents cells extents → before ≡ last (is_cell_on cell.sli (cell.minute / 1440)) cells
    → 0 < before
    → AreExtents (cells ++ cell ∷ []) extents
extents_same cells cell extents before are e some =
    record { known = λ sli. are.known sli ∙ by sli (is_cell_of sli cell) refl }
  where
    there : nat_lt 0 (last (is_cell_on cell.sli (cell.minute / 1440)) cells) ≡ true
    there = positive (last (is_cell_on cell.sli (cell.minute / 1440)) cells)
        (subst (λ n. 0 < n) e some)
      where
        positive : (n : ℕ) → 0 < n → nat_lt 0 n ≡ true
        positive n h = grind (arith, nat_tests, h)

    by : (sli : List ℕ) (b : Bool) → is_cell_of sli cell ≡ b
        → extent_of cells sli ≡ extent_of (cells ++ cell ∷ []) sli
    by sli true e = let same : cell.sli ≡ sli = (bytes_eq-Decides cell.sli sli).0 e in
        subst (λ sli. extent_of cells sli ≡ extent_of (cells ++ cell ∷ []) sli) same
        (sym (extent-same cells cell there (own_cell cell)))
    by sli false e = sym (extent-other cells cell sli e)

-- so many days at most
pub few_days : (cells : List Cell) (sli : List ℕ) (extent : Extent)
    → Some extent ≡ extent_of cells sli
    → extent.days ≤ length cells
few_days cells sli known is = by (position (is_cell_of sli) cells) is
  where
    by : (o : Option ℕ) → Some known ≡ extent (length (days_with_cells cells sli)) o
        → known.days ≤ length cells
    by (Some n) e = let same : known.days ≡ length (days_with_cells cells sli) = cc e in
        omega (arith, same, length-firsts (days cells sli), length-days cells sli)
    by None e = let same : known.days ≡ 0 = cc e in omega (arith, same)

pub extents_day : (cells : List Cell) (cell : Cell) (sli : List ℕ) (old new : Extents)
    (next : Extent) →
    AreExtents cells old → cell.sli ≡ sli → last (is_cell_on sli (cell.minute / 1440)) cells ≡ 0 →
    next ≡ grown (get bytes_eq old.known sli) (length cells) →
    ((other : List ℕ) → get bytes_eq new.known other
    ≡ cond (bytes_eq sli other) (Some next) (get bytes_eq old.known other)) →
    AreExtents (cells ++ cell ∷ []) new
extents_day cells cell sli old new next are own none is updates =
    record {
      known = λ other. updates other ∙ ap (λ (sli : List ℕ). cond (bytes_eq sli other)
          (Some next) (get bytes_eq old.known other)) (sym own)
          ∙ by other (is_cell_of other cell) refl;
    }
  where
    by : (other : List ℕ) (b : Bool) → is_cell_of other cell ≡ b
        → cond b (Some next) (get bytes_eq old.known other) ≡ extent_of (cells ++ cell ∷ []) other
    by other true e =
        let same : cell.sli ≡ other = (bytes_eq-Decides cell.sli other).0 e in
        let none' : last (is_cell_on cell.sli (cell.minute / 1440)) cells ≡ 0 =
        subst (λ s. last (is_cell_on s (cell.minute / 1440)) cells ≡ 0) (sym own) none in
        ap Some (is ∙ ap (λ known. grown known (length cells)) (are.known sli)
        ∙ ap (λ s. grown (extent_of cells s) (length cells)) (sym own))
        ∙ sym (extent-day cells cell none' (own_cell cell))
        ∙ ap (extent_of (cells ++ cell ∷ [])) same
    by other false e = are.known other ∙ sym (extent-other cells cell other e)

pub extents_none : (extents : Extents) → ((sli : List ℕ) → get bytes_eq extents.known sli ≡ None)
    → AreExtents [] extents
extents_none extents none = record { known = none }

-- the place and the number that are known
pub known_place : (cells : List Cell) (sli : List ℕ) (known : Option Extent)
    → known ≡ extent_of cells sli
    → option_map (λ (extent : Extent). extent.first) known ≡ position (is_cell_of sli) cells
known_place cells sli known is = ap (option_map (λ (extent : Extent). extent.first)) is
    ∙ by (position (is_cell_of sli) cells)
  where
    by : (o : Option ℕ) → option_map (λ (extent : Extent). extent.first)
        (extent (length (days_with_cells cells sli)) o) ≡ o
    by (Some n) = refl
    by None = refl

pub known_days : (cells : List Cell) (sli : List ℕ) (known : Extent)
    → Some known ≡ extent_of cells sli
    → known.days ≡ length (days_with_cells cells sli)
known_days cells sli known is = by (position (is_cell_of sli) cells) is
  where
    by : (o : Option ℕ) → Some known ≡ extent (length (days_with_cells cells sli)) o
        → known.days ≡ length (days_with_cells cells sli)
    by (Some n) e = cc e
    by None e = cc e

pub known_none : (cells : List Cell) (sli : List ℕ) → None ≡ extent_of cells sli
    → position (is_cell_of sli) cells ≡ None
known_none cells sli is = by (position (is_cell_of sli) cells) is
  where
    by : (o : Option ℕ) → None ≡ extent (length (days_with_cells cells sli)) o → o ≡ None
    by (Some n) e = cc e
    by None e = refl
