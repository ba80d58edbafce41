-- The rows of a range of minutes, which follow an exclusion or its lifting from the first on.
use Rattle.std.proofs.Common.{◌≡◌, ◌⊎◌, inl, inr, ℕ, suc, ◌+◌, ◌-◌, ◌*◌, ◌≤◌, ◌<◌, ◌/◌, ◌%◌}
use Rattle.std.proofs.Common.{◌&&◌, not, nat_eq, nat_le, nat_lt, Bool, true, false, cond, refl, ap}
use Rattle.std.proofs.Common.{sym, subst, ◌∙◌, arith, List, [], length, slice_get, Option, Some}
use Rattle.std.proofs.Common.{if◌then◌else◌}
use Rattle.std.specs.List.{AllByRecursion}
use Rattle.std.specs.Int.{◌∣◌, div_ceil}
use Rattle.std.specs.Str.{bytes_eq}
use Rattle.std.proofs.Math.Nat.{div-add-mod', div-mul-le_self, mul-le-mul_right}
use Rattle.std.proofs.lemmas.Bool.{and_parts}
use Rattle.std.proofs.lemmas.Bool.Decides.{leb_tells, nat_tests}
use Rattle.std.proofs.lemmas.Grind.{div_ceil_times}
use Rattle.std.proofs.lemmas.Nat.{div-mul-add, le-div, mod_below}
use Rattle.slo_limits.specs.declared.TheConstants.{MINUTES_A_DAY}
use Rattle.slice_method.specs.declared.Counts.{Counts}
use Rattle.sample_book.specs.declared.Exclusion.{Exclusion}
use Rattle.sample_book.specs.declared.Row.{Row}
use Rattle.sample_book.specs.LastRows.{is_on}
use Rattle.sample_book.specs.Counting.{is_of}
use Rattle.window_sums.specs.Shares.{IsSumOf, slice_counts}
use Rattle.window_sums.specs.Slices.{CountedDays, counts_of, counts_outside, day_of, has_day}
use Rattle.window_sums.specs.Slices.{is_whole, no_counts, slice_of, width_of}
use Rattle.window_sums.proofs.WidthFacts.{day_of_slice}
use Rattle.office_history.specs.declared.Measure.{Measure}
use Rattle.kept_sums.specs.Sums.{RowFits, SumsAreKept, row_counts, shares_by}
use Rattle.kept_sums.specs.Walks.{IsWalking, followed, is_within, made_on, up_to}
use Rattle.kept_sums.proofs.DayLemmas.{counts_more, other_counts_none, outside_free, same_on}
use Rattle.kept_sums.proofs.DayLemmas.{small_within}
use Rattle.kept_sums.proofs.DaysLemmas.{none_counted}
use Rattle.kept_sums.proofs.FollowLemmas.{same_days}
use Rattle.kept_sums.proofs.RowLemmas.{AreSmallBy, shares_same, small_rows}
use Rattle.kept_sums.proofs.ShareLemmas.{shares-like}
use Rattle.kept_sums.proofs.WalkLemmas.{WalkFacts, walk_facts}

-- a minute lies in a range, or before it, or behind it
test-is : (from to minute : ℕ) → from ≤ minute → minute < to
    → (nat_le from minute && nat_lt minute to) ≡ true
test-is from to minute a b = grind (arith, nat_tests, a, b)

test-before : (from to minute : ℕ) → minute < from
    → (nat_le from minute && nat_lt minute to) ≡ false
test-before from to minute a = grind (arith, nat_tests, a)

test-behind : (from to minute : ℕ) → to ≤ minute
    → (nat_le from minute && nat_lt minute to) ≡ false
test-behind from to minute a = grind (arith, nat_tests, a)

le_is : (a b : ℕ) → nat_le a b ≡ true → a ≤ b
le_is a b h = grind (arith, nat_tests, h)

lt_is : (a b : ℕ) → nat_lt a b ≡ true → a < b
lt_is a b h = grind (arith, nat_tests, h)

not_both : (a b : Bool) → b ≡ false → (a && b) ≡ false
not_both true b e = e
not_both false b e = refl

-- a row of a minute that isn't reached counts by f
pub not_yet : (sli : List ℕ) (first at : ℕ) (f g : Row → Counts) (row : Row) → at ≤ row.minute
    → up_to sli first at f g row ≡ f row
not_yet sli first at f g row le = ap (λ (t : Bool). if t then g row else f row)
    (not_both (is_of sli row) (nat_le first row.minute && nat_lt row.minute at)
    (test-behind first at row.minute le))

-- one of the indicator that is passed counts by g
pub by_then : (sli : List ℕ) (first at : ℕ) (f g : Row → Counts) (row : Row)
    → is_of sli row ≡ true → first ≤ row.minute → row.minute < at
    → up_to sli first at f g row ≡ g row
by_then sli first at f g row own from to =
    let e : is_within sli first at row ≡ true =
    rw (own, test-is first at row.minute from to) refl in
    ap (λ (t : Bool). if t then g row else f row) e

-- a row of another indicator counts by f
other_own : (sli : List ℕ) (first at : ℕ) (f g : Row → Counts) (row : Row)
    → is_of sli row ≡ false → up_to sli first at f g row ≡ f row
other_own sli first at f g row other =
    let e : is_within sli first at row ≡ false = rw other refl in
    ap (λ (t : Bool). if t then g row else f row) e

-- from one minute on to another only rows of the minutes between them come to count otherwise
pub apart : (sli : List ℕ) (first from to : ℕ) (f g : Row → Counts) (row : Row) → from ≤ to
    → (nat_le from row.minute && nat_lt row.minute to) ≡ false
    → up_to sli first from f g row ≡ up_to sli first to f g row
apart sli first from to f g row le out =
    ap (λ b. if is_of sli row && (nat_le first row.minute && b) then g row else f row)
    (same from to row.minute le out)
  where
    same : (from to minute : ℕ) → from ≤ to → (nat_le from minute && nat_lt minute to) ≡ false
        → nat_lt minute from ≡ nat_lt minute to
    same from to minute le out = grind (arith, nat_tests, le, out)

-- a row between them counts as it did at the one, and as it will at the other
pub now_and_then : (m : Measure) (made : List (Exclusion × Bool)) (value : Exclusion)
    (taken : Bool) (from to : ℕ) (row : Row) → value.from ≤ from → is_of m.sli row ≡ true →
    (nat_le from row.minute && nat_lt row.minute to) ≡ true →
    (followed m made value taken from row ≡ row_counts m (made_on made value (not taken)) row)
    × (followed m made value taken to row ≡ row_counts m (made_on made value taken) row)
now_and_then m made value taken from to row begun own inside =
    let p = and_parts (nat_le from row.minute) (nat_lt row.minute to) inside in
    let behind = le_is from row.minute p.0 in
    let a : Row → Counts = row_counts m (made_on made value (not taken)) in
    let b : Row → Counts = row_counts m (made_on made value taken) in (
      not_yet m.sli value.from from a b row behind,
      by_then m.sli value.from to a b row own (omega (arith, begun, behind))
          (lt_is row.minute to p.1),
    )

-- so a row of another day counts as before, where the minutes between them all lie on one
pub other_day : (sli : List ℕ) (first from to : ℕ) (f g : Row → Counts) (row : Row) → from ≤ to
    → ((minute : ℕ) → from ≤ minute → minute < to → day_of minute ≡ day_of from)
    → is_on sli (day_of from) row ≡ false
    → up_to sli first from f g row ≡ up_to sli first to f g row
other_day sli first from to f g row le day other = by (is_of sli row) refl
  where
    same : (a b : ℕ) → a ≡ b → nat_eq a b ≡ true
    same a b e = grind (arith, nat_tests, e)

    out : is_of sli row ≡ true → (t : Bool) → (nat_le from row.minute && nat_lt row.minute to) ≡ t
        → (nat_le from row.minute && nat_lt row.minute to) ≡ false
    out own false e = e
    out own true e =
        let p = and_parts (nat_le from row.minute) (nat_lt row.minute to) e in
        let here : nat_eq (day_of row.minute) (day_of from) ≡ true =
        same (day_of row.minute) (day_of from) (day row.minute
        (le_is from row.minute p.0) (lt_is row.minute to p.1)) in
        let on : is_on sli (day_of from) row ≡ true = rw (own, here) refl in
        let no : true ≡ false = sym on ∙ other in
        cc no

    by : (a : Bool) → is_of sli row ≡ a
        → up_to sli first from f g row ≡ up_to sli first to f g row
    by true own = apart sli first from to f g row le (out own _ refl)
    by false own = other_own sli first from f g row own
        ∙ sym (other_own sli first to f g row own)

-- before the first minute none is passed
pub range_begins : (sli : List ℕ) (first : ℕ) (f g : Row → Counts) (rows : List Row)
    → shares_by f rows ≡ shares_by (up_to sli first first f g) rows
range_begins sli first f g rows = shares_same f (up_to sli first first f g)
    (λ row. sym (ap (λ (t : Bool). if t then g row else f row)
    (not_both (is_of sli row) (nat_le first row.minute && nat_lt row.minute first)
    (none first row.minute)))) rows
  where
    none : (first minute : ℕ) → (nat_le first minute && nat_lt minute first) ≡ false
    none first minute = grind (arith, nat_tests)

-- behind the last minute of the range all are
pub range_ends : (m : Measure) (made : List (Exclusion × Bool)) (value : Exclusion)
    (taken : Bool) (rows : List Row) → shares_by (followed m made value taken value.to) rows
    ≡ shares_by (row_counts m (made_on made value taken)) rows
range_ends m made value taken rows =
    shares_same (followed m made value taken value.to) (row_counts m (made_on made value taken))
    (λ row. by row (is_of m.sli row)
    (nat_le value.from row.minute && nat_lt row.minute value.to) refl refl) rows
  where
    a : Row → Counts
    a = row_counts m (made_on made value (not taken))

    b : Row → Counts
    b = row_counts m (made_on made value taken)

    by : (row : Row) (x y : Bool) → is_of m.sli row ≡ x
        → (nat_le value.from row.minute && nat_lt row.minute value.to) ≡ y
        → up_to m.sli value.from value.to a b row ≡ b row
    by row true true own in_range =
        let e : is_within m.sli value.from value.to row ≡ true = rw (own, in_range) refl in
        ap (λ (t : Bool). if t then b row else a row) e
    by row true false own out =
        let e : is_within m.sli value.from value.to row ≡ false = rw (own, out) refl in
        ap (λ (t : Bool). if t then b row else a row) e
        ∙ same_on m made value taken row (outside_free m.slo row.minute value out)
    by row false y own in_range = other_own m.sli value.from value.to a b row own
        ∙ other_counts_none m (made_on made value (not taken)) row own
        ∙ sym (other_counts_none m (made_on made value taken) row own)

-- a row whose minute an exclusion takes counts for nothing with it
pub taken_none : (m : Measure) (made : List (Exclusion × Bool)) (value : Exclusion) (row : Row)
    → bytes_eq value.slo m.slo ≡ true → value.from ≤ row.minute → row.minute < value.to
    → row_counts m (made_on made value true) row ≡ no_counts
taken_none m made value row own from to =
    counts_more m made value row
    ∙ ap (λ (t : Bool). if t then no_counts else row_counts m made row)
    (is (bytes_eq value.slo m.slo) own)
  where
    is : (s : Bool) → s ≡ true
        → (s && nat_le value.from row.minute && nat_lt row.minute value.to) ≡ true
    is true e = test-is value.from value.to row.minute from to
    is false e = cc e

-- a minute lies in its slice
record IsInSlice (w k minute : ℕ) : Type 0 where
  pub from : k * w ≤ minute
  pub to : minute < k * w + w

in_slice : (w k minute : ℕ) → 0 < w → minute / w ≡ k → IsInSlice w k minute
in_slice w k minute some is = record {
  from = subst (λ q. q * w ≤ minute) is (div-mul-le_self minute w);
  to = subst (λ q. minute < q * w + w) is (omega (
    arith,
    div-add-mod' minute w,
    mod_below minute w some,
  ));
}

-- once nothing is counted in the slices of a part of the range, its rows have followed
pub counted_without : (m : Measure) (made : List (Exclusion × Bool)) (value : Exclusion)
    (rows : List Row) (old new : CountedDays) (w first end : ℕ) → 0 < w → width_of old.method ≡ w →
    bytes_eq value.slo m.slo ≡ true → value.from ≤ first * w → first ≤ end →
    end * w ≤ value.to → new.method ≡ old.method →
    ((k : ℕ) → counts_of new k ≡ counts_outside old (first * w) (end * w) k) →
    IsSumOf old (shares_by (followed m made value true (first * w)) rows) →
    IsSumOf new (shares_by (followed m made value true (end * w)) rows)
counted_without m made value rows old new w first end some wide own begun order ended methods clear
    counted k =
    clear k
    ∙ ap (λ x. if is_whole x (first * w) (end * w) k then no_counts else counts_of old k) wide
    ∙ by (is_whole w (first * w) (end * w) k) refl
    ∙ ap (λ method. slice_counts method (shares_by after rows) k) (sym methods)
  where
    before : Row → Counts
    before = followed m made value true (first * w)

    after : Row → Counts
    after = followed m made value true (end * w)

    none : CountedDays
    none = record { method = old.method; days = [] }

    place_of : (row : Row) → slice_of old.method row.minute ≡ k → IsInSlice w k row.minute
    place_of row lies =
        in_slice w k row.minute some (ap (λ x. row.minute / x) (sym wide) ∙ lies)

    nothing : is_whole w (first * w) (end * w) k ≡ true → (row : Row)
        → slice_of old.method row.minute ≡ k → after row ≡ no_counts
    nothing whole row lies = turn (is_of m.sli row) refl
      where
        here : IsInSlice w k row.minute
        here = place_of row lies

        p : (nat_le (first * w) (k * w) ≡ true) × (nat_le (k * w + w) (end * w) ≡ true)
        p = and_parts (nat_le (first * w) (k * w)) (nat_le (k * w + w) (end * w)) whole

        from : first * w ≤ row.minute
        from = omega (arith, le_is (first * w) (k * w) p.0, here.from)

        to : row.minute < end * w
        to = omega (arith, le_is (k * w + w) (end * w) p.1, here.to)

        turn : (x : Bool) → is_of m.sli row ≡ x → after row ≡ no_counts
        turn true e =
            by_then m.sli value.from (end * w) (row_counts m (made_on made value false))
            (row_counts m (made_on made value true)) row e (omega (arith, begun, from)) to
            ∙ taken_none m made value row own (omega (arith, begun, from))
            (omega (arith, to, ended))
        turn false e =
            other_own m.sli value.from (end * w) (row_counts m (made_on made value false))
            (row_counts m (made_on made value true)) row e
            ∙ other_counts_none m (made_on made value false) row e

    stays : is_whole w (first * w) (end * w) k ≡ false → (row : Row)
        → slice_of old.method row.minute ≡ k → before row ≡ after row
    stays cut row lies =
        apart m.sli value.from (first * w) (end * w) (row_counts m (made_on made value false))
        (row_counts m (made_on made value true)) row
        (mul-le-mul_right {m = first} {n = end} w order)
        (out (nat_le (first * w) row.minute && nat_lt row.minute (end * w)) refl)
      where
        here : IsInSlice w k row.minute
        here = place_of row lies

        is : row.minute / w ≡ k
        is = ap (λ x. row.minute / x) (sym wide) ∙ lies

        begins : first * w ≤ row.minute → first * w ≤ k * w
        begins le = mul-le-mul_right {m = first} {n = k} w
            (subst (λ q. first ≤ q) is (le-div first row.minute w some le))

        ends : row.minute < end * w → k * w + w ≤ end * w
        ends less = turn (leb_tells (suc k) end)
          where
            turn : ((nat_le (suc k) end ≡ true) × (suc k ≤ end))
                ⊎ ((nat_le (suc k) end ≡ false) × (end < suc k)) → k * w + w ≤ end * w
            turn (inl a) = omega (arith, mul-le-mul_right {m = suc k} {n = end} w a.1)
            turn (inr b) = absurd (omega (
              arith,
              less,
              here.from,
              mul-le-mul_right {m = end} {n = k} w (omega (arith, b.1)),
            ))

        whole-is : (a b c d : ℕ) → a ≤ b → c ≤ d → (nat_le a b && nat_le c d) ≡ true
        whole-is a b c d x y = grind (arith, nat_tests, x, y)

        out : (t : Bool) → (nat_le (first * w) row.minute && nat_lt row.minute (end * w)) ≡ t
            → (nat_le (first * w) row.minute && nat_lt row.minute (end * w)) ≡ false
        out false e = e
        out true e =
            let p = and_parts (nat_le (first * w) row.minute) (nat_lt row.minute (end * w)) e in
            let no : true ≡ false = sym (whole-is (first * w) (k * w) (k * w + w) (end * w)
            (begins (le_is (first * w) row.minute p.0))
            (ends (lt_is row.minute (end * w) p.1))) ∙ cut in
            cc no

    by : (t : Bool) → is_whole w (first * w) (end * w) k ≡ t
        → cond t no_counts (counts_of old k) ≡ slice_counts old.method (shares_by after rows) k
    by true whole =
        none_counted none refl rows k
        ∙ sym (shares-like old.method after (λ row. no_counts) rows k
        (λ place row at lies. nothing whole row lies))
    by false cut = counted k ∙ shares-like old.method before after rows k
        (λ place row at lies. stays cut row lies)

-- minutes of one slice lie on one day
pub day_of_one_slice : (w from minute : ℕ) → w ∣ 60 → minute / w ≡ from / w
    → day_of minute ≡ day_of from
day_of_one_slice w from minute divides same =
    sym (day_of_slice w minute divides) ∙ ap (λ s. s / (24 * (60 / w))) same
    ∙ day_of_slice w from divides

-- the quotient of a minute that lies in a slice
quotient : (w k minute : ℕ) → k * w ≤ minute → minute < k * w + w → minute / w ≡ k
quotient w k minute from to =
    ap (λ n. n / w) parted ∙ div-mul-add k w (minute - k * w) (omega (arith, from, to))
  where
    parted : minute ≡ k * w + (minute - k * w)
    parted = omega (arith, from)

-- before the first slice that begins at a minute or behind it only the minute's own slice has
-- minutes from it on
pub before_first : (w from minute : ℕ) → 0 < w → from ≤ minute → minute < div_ceil from w * w
    → minute / w ≡ from / w
before_first w from minute some begun less =
    quotient w (from / w) minute (omega (arith, div-mul-le_self from w, begun))
    (turn (leb_tells (suc (suc (from / w))) (div_ceil from w)))
  where
    ceil : (from ≤ div_ceil from w * w) × (div_ceil from w * w < from + w)
    ceil = div_ceil_times from w some

    rest : from < from / w * w + w
    rest = omega (arith, div-add-mod' from w, mod_below from w some)

    turn : ((nat_le (suc (suc (from / w))) (div_ceil from w) ≡ true)
        × (suc (suc (from / w)) ≤ div_ceil from w))
        ⊎ ((nat_le (suc (suc (from / w))) (div_ceil from w) ≡ false)
        × (div_ceil from w < suc (suc (from / w)))) → minute < from / w * w + w
    turn (inl a) = absurd (omega (
      arith,
      ceil.1,
      rest,
      mul-le-mul_right {m = suc (suc (from / w))} {n = div_ceil from w} w a.1,
    ))
    turn (inr b) = omega (
      arith,
      less,
      mul-le-mul_right {m = div_ceil from w} {n = suc (from / w)} w (omega (arith, b.1)),
    )

-- so it is with the minutes of a range that no slice lies wholly in
pub one_slice : (w from to minute : ℕ) → 0 < w → to / w < div_ceil from w → from ≤ minute
    → minute < to → minute / w ≡ from / w
one_slice w from to minute some none begun less =
    before_first w from minute some begun (omega (
      arith,
      less,
      div-add-mod' to w,
      mod_below to w some,
      mul-le-mul_right {m = suc (to / w)} {n = div_ceil from w} w (omega (arith, none)),
    ))

-- behind the last slice that ends at a minute or before it only one slice has minutes up to it
pub behind_last : (w to minute : ℕ) → 0 < w → to / w * w ≤ minute → minute < to
    → minute / w ≡ to / w
behind_last w to minute some from less =
    quotient w (to / w) minute from
    (omega (arith, less, div-add-mod' to w, mod_below to w some))

pub last_slice : (w to minute : ℕ) → 0 < w → to / w * w ≤ minute → minute < to
    → minute / w ≡ to / w * w / w
last_slice w to minute some from less = behind_last w to minute some from less
    ∙ sym (quotient w (to / w) (to / w * w) (omega arith) (omega (arith, some)))

pub last_day : (w to minute : ℕ) → w ∣ 60 → 0 < w → to / w * w ≤ minute → minute < to
    → day_of minute ≡ day_of (to / w * w)
last_day w to minute divides some from less =
    day_of_one_slice w (to / w * w) minute divides (last_slice w to minute some from less)

-- from a minute up to the end of its day
pub rest_of_day : (from to minute : ℕ) → to ≤ from + (MINUTES_A_DAY - from % MINUTES_A_DAY)
    → from ≤ minute → minute < to → day_of minute ≡ day_of from
rest_of_day from to minute short a b = omega (arith, short, a, b)

-- what the sums need to go on by the row at a place
pub range_facts : (m : Measure) (made : List (Exclusion × Bool)) (value : Exclusion)
    (taken : Bool) (from to place : ℕ) (rows : List Row) (row : Row) (next : Option ℕ)
    (sums : CountedDays) → next ≡ Some place → slice_get rows place ≡ Some row →
    AllByRecursion (RowFits m) rows → length rows ≤ 4000000 →
    IsWalking (is_on m.sli (day_of from)) (followed m made value taken from)
    (followed m made value taken to) rows next sums →
    WalkFacts (followed m made value taken from) (followed m made value taken to) place rows row
    sums
range_facts m made value taken from to place rows row next sums is at forms few walking =
    let f : Row → Counts = followed m made value taken from in
    let h : Row → Counts = followed m made value taken to in
    let w = subst (λ n. IsWalking (is_on m.sli (day_of from)) f h rows n sums) is walking in
    walk_facts (is_on m.sli (day_of from)) f h place rows row sums at (small from) (small to) few w
  where
    small : (minute : ℕ) → AreSmallBy (followed m made value taken minute) rows
    small minute = small_within m.sli value.from minute
        (row_counts m (made_on made value (not taken))) (row_counts m (made_on made value taken))
        rows (small_rows m (made_on made value (not taken)) rows forms)
        (small_rows m (made_on made value taken) rows forms)

-- before the range begins the sums are those of rows that haven't followed
pub counted_begins : (m : Measure) (made : List (Exclusion × Bool)) (value : Exclusion)
    (taken way : Bool) (rows : List Row) (sums : CountedDays) → taken ≡ way →
    SumsAreKept m (made_on made value (not taken)) rows sums →
    IsSumOf sums (shares_by (followed m made value way value.from) rows)
counted_begins m made value taken way rows sums is kept =
    subst (λ t. IsSumOf sums (shares_by (followed m made value t value.from) rows)) is
    (subst (IsSumOf sums) (range_begins m.sli value.from
    (row_counts m (made_on made value (not taken))) (row_counts m (made_on made value taken)) rows)
    kept.counted)

-- behind it they are those of rows that have
pub kept_after : (m : Measure) (made : List (Exclusion × Bool)) (value : Exclusion)
    (taken way : Bool) (rows : List Row) (old new : CountedDays) → taken ≡ way →
    SumsAreKept m (made_on made value (not taken)) rows old →
    IsSumOf new (shares_by (followed m made value way value.to) rows) →
    new.method ≡ old.method → ((day : ℕ) → has_day new day ≡ has_day old day) →
    SumsAreKept m (made_on made value taken) rows new
kept_after m made value taken way rows old new is kept counted methods days = record {
  method = methods ∙ kept.method;
  counted = subst (IsSumOf new) (range_ends m made value taken rows)
      (subst (λ t. IsSumOf new (shares_by (followed m made value t value.to) rows)) (sym is)
      counted);
  days = same_days m rows old new days kept.days;
}
