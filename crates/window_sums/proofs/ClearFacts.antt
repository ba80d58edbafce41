-- Slices in which nothing is counted any more.
use Rattle.std.proofs.Common.{◌≡◌, ◌≢◌, ◌⊎◌, inl, inr, ℕ, suc, ◌+◌, ◌-◌, ◌*◌, ◌/◌, ◌%◌, ◌<◌, ◌≤◌}
use Rattle.std.proofs.Common.{◌==◌, ◌&&◌, nat_eq, nat_le, nat_lt, min, max, Bool, true, false, cond}
use Rattle.std.proofs.Common.{refl, ap, sym, subst, ◌∙◌, arith, List, [], Option}
use Rattle.std.proofs.Common.{IsTrue, slice_index_or, unwrap_or, if◌then◌else◌}
use Rattle.std.specs.Int.{div_ceil}
use Rattle.std.specs.Map.{lookup}
use Rattle.std.proofs.Math.Nat.{div-add-mod', div-mul-le_self, mul-le-mul_right}
use Rattle.std.proofs.lemmas.Bool.Decides.{eqb_tells, leb_tells, nat_tests}
use Rattle.std.proofs.lemmas.Grind.{div_ceil_times}
use Rattle.std.proofs.lemmas.Nat.{div-mul-add, mod_below}
use Rattle.slice_method.specs.declared.amount.Counts.{Counts}
use Rattle.slice_method.specs.Leaves.{leaf}
use Rattle.slo_terms.specs.Sums.{AreFew}
use Rattle.slo_terms.proofs.RangeLemmas.{sum_over-part}
use Rattle.sum_pages.specs.DayTables.{values_of_day}
use Rattle.sum_pages.proofs.DayLemmas.{nothing_found}
use Rattle.window_sums.specs.Slices.{AreCounted, AreSoundCounts, CountedDays, counts_after}
use Rattle.window_sums.specs.Slices.{counts_of, counts_without, day_of, new_counts}
use Rattle.window_sums.specs.Slices.{has_day, is_whole, no_counts, slice_of, slices_a_day, width_of}
use Rattle.window_sums.proofs.WidthFacts.{day_of_slice}

-- the slice that begins at a minute is the minute's
pub slice_back : (w slice : ℕ) → 0 < w → slice * w / w ≡ slice
slice_back w slice some = ap (λ n. n / w) (none (slice * w)) ∙ div-mul-add slice w 0 some
  where
    none : (n : ℕ) → n ≡ n + 0
    none n = omega arith

-- a slice whose day isn't there has no counts
pub none_there : (sums : CountedDays) (day slice : ℕ) → has_day sums day ≡ false
    → slice / slices_a_day sums.method ≡ day → counts_of sums slice ≡ no_counts
none_there sums day slice absent here =
    ap (λ d. slice_index_or (values_of_day sums.days d) (slice % slices_a_day sums.method)
    no_counts) here
    ∙ ap (λ (o : Option (List Counts)). slice_index_or (unwrap_or o [])
    (slice % slices_a_day sums.method) no_counts)
    (nothing_found (lookup (nat_eq day) sums.days) absent)

-- the day of a slice that has counts is there
pub day_there : (sums : CountedDays) (slice : ℕ) → counts_of sums slice ≢ no_counts
    → IsTrue (has_day sums (slice / slices_a_day sums.method))
day_there sums slice some =
    by (has_day sums (slice / slices_a_day sums.method)) refl
  where
    by : (b : Bool) → has_day sums (slice / slices_a_day sums.method) ≡ b
        → IsTrue (has_day sums (slice / slices_a_day sums.method))
    by true e = e
    by false e = absurd (some (none_there sums (slice / slices_a_day sums.method) slice e refl))

-- counts that lose all that they have
new_counts-none : (c : Counts) → new_counts c c no_counts ≡ no_counts
new_counts-none c = λ i. record { good = none c.good i; total = none c.total i }
  where
    none : (n : ℕ) → n - n + 0 ≡ 0
    none n = omega arith

-- the counts of each slice once one has lost all that it had
pub counts-cleared : (sums : CountedDays) (minute slice : ℕ) (counts : Counts)
    → slice_of sums.method minute ≡ slice → counts ≡ counts_of sums slice → (k : ℕ)
    → counts_after sums minute counts no_counts k
    ≡ (if k == slice then no_counts else counts_of sums k)
counts-cleared sums minute slice counts is all k =
    ap (λ s. if k == s then new_counts (counts_of sums k) counts no_counts
    else counts_of sums k) is
    ∙ ap (λ c. if k == slice then new_counts (counts_of sums k) c no_counts
    else counts_of sums k) all ∙ by (eqb_tells k slice)
  where
    by : ((nat_eq k slice ≡ true) × (k ≡ slice)) ⊎ ((nat_eq k slice ≡ false) × (k ≢ slice)) →
        (if k == slice then new_counts (counts_of sums k) (counts_of sums slice) no_counts
        else counts_of sums k) ≡ (if k == slice then no_counts else counts_of sums k)
    by (inl same) = rw same.0
        (ap (λ j. new_counts (counts_of sums j) (counts_of sums slice) no_counts) same.1
        ∙ new_counts-none (counts_of sums slice))
    by (inr other) = rw other.0 refl

-- where each place has no more, all together have no more
few-less : (f g : ℕ → ℕ) → ((k : ℕ) → g k ≤ f k) → AreFew f → AreFew g
few-less f g less few first count = omega (
  arith,
  sum_over-part g f less first count,
  few first count,
)

-- a slice that has lost all that it had has a part, and no more than before
module _ (sums : CountedDays) (minute slice : ℕ) (counts : Counts)
    (is : slice_of sums.method minute ≡ slice) (all : counts ≡ counts_of sums slice)
    (sound : AreSoundCounts sums.method (counts_of sums)) where
  abbrev after : ℕ → Counts
  after k = counts_after sums minute counts no_counts k

  by_cases : (P : Counts → Type 0) → P no_counts → (k : ℕ) → P (counts_of sums k) → P (after k)
  by_cases P none k some =
      subst P (sym (counts-cleared sums minute slice counts is all k)) (by (k == slice))
    where
      by : (b : Bool) → P (cond b no_counts (counts_of sums k))
      by true = none
      by false = some

  pub cleared-part : (k : ℕ) → (after k).good ≤ (after k).total
  cleared-part k = by_cases (λ c. c.good ≤ c.total) (omega arith) k (sound.parts k)

  pub cleared-events : AreFew (λ k. (after k).total)
  cleared-events = few-less (λ k. (counts_of sums k).total) (λ k. (after k).total)
      (λ k. by_cases (λ c. c.total ≤ (counts_of sums k).total) (omega arith) k (omega arith))
      sound.events

  pub cleared-leaves : AreFew (λ k. (leaf sums.method (after k)).den)
  cleared-leaves = few-less (λ k. (leaf sums.method (counts_of sums k)).den)
      (λ k. (leaf sums.method (after k)).den)
      (λ k. by_cases (λ c. (leaf sums.method c).den ≤ (leaf sums.method (counts_of sums k)).den)
      (omega arith) k (omega arith)) sound.leaves

-- counts that aren't nothing
pub some_counts : (c : Counts) → (nat_eq c.good 0 && nat_eq c.total 0) ≡ false → c ≢ no_counts
some_counts c h none =
    let no : true ≡ false = ap (λ (c : Counts). nat_eq c.good 0 && nat_eq c.total 0) (sym none)
    ∙ h in cc no

-- the day of a minute of a slice with counts is there
pub its_day_there : (sums : CountedDays) (minute slice : ℕ) → AreCounted sums
    → slice_of sums.method minute ≡ slice → counts_of sums slice ≢ no_counts
    → IsTrue (has_day sums (day_of minute))
its_day_there sums minute slice counted is some =
    subst (λ d. IsTrue (has_day sums d)) (ap (λ s. s / slices_a_day sums.method) (sym is)
    ∙ day_of_slice (width_of sums.method) minute counted.divides) (day_there sums slice some)

-- nothing is counted in the slices of [first, end)
abbrev pub without : (ℕ → Counts) → ℕ → ℕ → ℕ → Counts
without f first end k = if nat_le first k && nat_lt k end then no_counts else f k

outside-test : (first end k : ℕ) → (k < first) ⊎ (end ≤ k)
    → (nat_le first k && nat_lt k end) ≡ false
outside-test first end k (inl below) = by (nat_lt k end) (none first k below)
  where
    none : (first k : ℕ) → k < first → nat_le first k ≡ false
    none first k h = grind (arith, nat_tests, h)

    by : (b : Bool) → nat_le first k ≡ false → (nat_le first k && b) ≡ false
    by b e = rw e refl
outside-test first end k (inr behind) = by (nat_le first k) (none end k behind)
  where
    none : (end k : ℕ) → end ≤ k → nat_lt k end ≡ false
    none end k h = grind (arith, nat_tests, h)

    by : (b : Bool) → nat_lt k end ≡ false → (b && nat_lt k end) ≡ false
    by true e = e
    by false e = refl

outside : (f : ℕ → Counts) (first end k : ℕ) → (k < first) ⊎ (end ≤ k)
    → without f first end k ≡ f k
outside f first end k out =
    ap (λ (t : Bool). if t then no_counts else f k) (outside-test first end k out)

below-is : (a b : ℕ) → a < b → nat_lt a b ≡ true
below-is a b h = grind (arith, nat_tests, h)

below-not : (a b : ℕ) → b ≤ a → nat_lt a b ≡ false
below-not a b h = grind (arith, nat_tests, h)

-- one slice more
pub slice_more : (old mid new : ℕ → Counts) (first at : ℕ) → first ≤ at
    → ((k : ℕ) → mid k ≡ without old first at k)
    → ((k : ℕ) → new k ≡ (if k == at then no_counts else mid k))
    → (k : ℕ) → new k ≡ without old first (at + 1) k
slice_more old mid new first at le so step k = step k ∙ by (eqb_tells k at)
  where
    here : (first k at : ℕ) → first ≤ at → k ≡ at
        → (nat_le first k && nat_lt k (at + 1)) ≡ true
    here first k at le e = grind (arith, nat_tests, le, e)

    other : (first k at : ℕ) → k ≢ at
        → (nat_le first k && nat_lt k at) ≡ (nat_le first k && nat_lt k (at + 1))
    other first k at h = ap (λ b. nat_le first k && b) (tail k at h)
      where
        tail : (k at : ℕ) → k ≢ at → nat_lt k at ≡ nat_lt k (at + 1)
        tail k at h = grind (arith, nat_tests, h)

    by : ((nat_eq k at ≡ true) × (k ≡ at)) ⊎ ((nat_eq k at ≡ false) × (k ≢ at))
        → (if k == at then no_counts else mid k) ≡ without old first (at + 1) k
    by (inl same) = ap (λ (t : Bool). if t then no_counts else mid k) same.0
        ∙ sym (ap (λ (t : Bool). if t then no_counts else old k) (here first k at le same.1))
    by (inr apart) = ap (λ (t : Bool). if t then no_counts else mid k) apart.0 ∙ so k
        ∙ ap (λ (t : Bool). if t then no_counts else old k) (other first k at apart.1)

-- before the first slice none is passed
pub slices_begin : (f : ℕ → Counts) (first k : ℕ) → f k ≡ without f first first k
slices_begin f first k = sym (outside f first first k (by (leb_tells first k)))
  where
    by : ((nat_le first k ≡ true) × (first ≤ k)) ⊎ ((nat_le first k ≡ false) × (k < first))
        → (k < first) ⊎ (first ≤ k)
    by (inl a) = inr a.1
    by (inr b) = inl b.1

-- the slices of one day
record IsInDay (n day k : ℕ) : Type 0 where
  pub from : day * n ≤ k
  pub to : k < day * n + n

in_day : (n day k : ℕ) → 0 < n → k / n ≡ day → IsInDay n day k
in_day n day k some is = record {
  from = subst (λ d. d * n ≤ k) is (div-mul-le_self k n);
  to = subst (λ d. k < d * n + n) is (omega (arith, div-add-mod' k n, mod_below k n some));
}

apart_from_day : (n day k : ℕ) → 0 < n → k / n ≢ day → (k < day * n) ⊎ (day * n + n ≤ k)
apart_from_day n day k some other = by (leb_tells (suc (k / n)) day)
  where
    rest : k < k / n * n + n
    rest = omega (arith, div-add-mod' k n, mod_below k n some)

    by : ((nat_le (suc (k / n)) day ≡ true) × (suc (k / n) ≤ day))
        ⊎ ((nat_le (suc (k / n)) day ≡ false) × (day < suc (k / n)))
        → (k < day * n) ⊎ (day * n + n ≤ k)
    by (inl a) = inl (omega (arith, rest, mul-le-mul_right {m = suc (k / n)} {n = day} n a.1))
    by (inr b) = inr (omega (
      arith,
      div-mul-le_self k n,
      mul-le-mul_right {m = suc day} {n = k / n} n (more (k / n) b.1 other),
    ))
      where
        more : (q : ℕ) → day < suc q → q ≢ day → suc day ≤ q
        more q le ne = omega (arith, le, ne)

-- the slices of the day that lie in [first, end) are passed
pub day_ends : (f : ℕ → Counts) (n day first end until : ℕ) → 0 < n → day * n < end
    → until ≡ day * n + min n (end - day * n) → (at : ℕ) → until ≤ at
    → (at ≤ until) ⊎ (at ≤ max (day * n) first) → (k : ℕ)
    → without f (max (day * n) first) at k
    ≡ (if k / n == day then without f first end k else f k)
day_ends f n day first end until some begun is at passed last k =
    by (eqb_tells (k / n) day) last
  where
    lo : ℕ
    lo = max (day * n) first

    same-tests : (s lo first end until at k : ℕ) → lo ≡ max s first → s ≤ k → k < s + n
        → s < end → until ≡ s + min n (end - s) → until ≤ at → (at ≤ until) ⊎ (at ≤ lo)
        → (nat_le lo k && nat_lt k at) ≡ (nat_le first k && nat_lt k end)
    same-tests s lo first end until at k e a b less u p (inl l) =
        ends (low s lo first k e a) (high s end until at k b less u p l)
      where
        low : (s lo first k : ℕ) → lo ≡ max s first → s ≤ k → nat_le lo k ≡ nat_le first k
        low s lo first k e a = grind (arith, nat_tests, e, a)

        high : (s end until at k : ℕ) → k < s + n → s < end → until ≡ s + min n (end - s)
            → until ≤ at → at ≤ until → nat_lt k at ≡ nat_lt k end
        high s end until at k b less u p l = grind (arith, nat_tests, b, less, u, p, l)

        ends : nat_le lo k ≡ nat_le first k → nat_lt k at ≡ nat_lt k end
            → (nat_le lo k && nat_lt k at) ≡ (nat_le first k && nat_lt k end)
        ends x y = ap (λ t. t && nat_lt k at) x ∙ ap (λ t. nat_le first k && t) y
    same-tests s lo first end until at k e a b less u p (inr l) =
        outside-test lo at k (side (leb_tells lo k))
        ∙ sym (outside-test first end k (none (leb_tells first k)))
      where
        side : ((nat_le lo k ≡ true) × (lo ≤ k)) ⊎ ((nat_le lo k ≡ false) × (k < lo))
            → (k < lo) ⊎ (at ≤ k)
        side (inl x) = inr (omega (arith, x.1, l))
        side (inr x) = inl x.1

        none : ((nat_le first k ≡ true) × (first ≤ k)) ⊎ ((nat_le first k ≡ false) × (k < first))
            → (k < first) ⊎ (end ≤ k)
        none (inl x) = inr (omega (arith, x.1, e, a, b, less, u, p, l))
        none (inr x) = inl x.1

    by : ((nat_eq (k / n) day ≡ true) × (k / n ≡ day))
        ⊎ ((nat_eq (k / n) day ≡ false) × (k / n ≢ day)) → (at ≤ until) ⊎ (at ≤ lo)
        → without f lo at k ≡ (if k / n == day then without f first end k else f k)
    by (inl same) l =
        let d = in_day n day k some same.1 in
        ap (λ (t : Bool). if t then no_counts else f k)
        (same-tests (day * n) lo first end until at k refl d.from d.to begun is passed l)
        ∙ sym (ap (λ (t : Bool). if t then without f first end k else f k) same.0)
    by (inr other) l =
        outside f lo at k (out (apart_from_day n day k some other.1) l)
        ∙ sym (ap (λ (t : Bool). if t then without f first end k else f k) other.0)
      where
        out : (k < day * n) ⊎ (day * n + n ≤ k) → (at ≤ until) ⊎ (at ≤ lo)
            → (k < lo) ⊎ (at ≤ k)
        out (inl a) l = inl (omega (arith, a))
        out (inr b) (inl l) = inr (omega (arith, b, l, is))
        out (inr b) (inr l) = turn (leb_tells lo k)
          where
            turn : ((nat_le lo k ≡ true) × (lo ≤ k)) ⊎ ((nat_le lo k ≡ false) × (k < lo))
                → (k < lo) ⊎ (at ≤ k)
            turn (inl x) = inr (omega (arith, x.1, l))
            turn (inr x) = inl x.1

-- where the day isn't there, nothing is counted in its slices
pub day_absent : (sums : CountedDays) (day first end : ℕ) → has_day sums day ≡ false → (k : ℕ)
    → counts_of sums k ≡ (if k / slices_a_day sums.method == day
    then counts_without sums first end k else counts_of sums k)
day_absent sums day first end absent k = by (eqb_tells (k / slices_a_day sums.method) day)
  where
    pick : (t : Bool) → counts_of sums k ≡ no_counts
        → counts_of sums k ≡ cond t no_counts (counts_of sums k)
    pick true e = e
    pick false e = refl

    by : ((nat_eq (k / slices_a_day sums.method) day ≡ true)
        × (k / slices_a_day sums.method ≡ day))
        ⊎ ((nat_eq (k / slices_a_day sums.method) day ≡ false)
        × (k / slices_a_day sums.method ≢ day))
        → counts_of sums k ≡ (if k / slices_a_day sums.method == day
        then counts_without sums first end k else counts_of sums k)
    by (inl same) =
        pick (nat_le first k && nat_lt k end) (none_there sums day k absent same.1)
        ∙ sym (ap (λ (t : Bool). if t then counts_without sums first end k
        else counts_of sums k) same.0)
    by (inr other) = sym (ap (λ (t : Bool). if t then counts_without sums first end k
        else counts_of sums k) other.0)

-- before the day of the first slice none is passed
pub days_begin : (f : ℕ → Counts) (n first end : ℕ) → 0 < n → (k : ℕ)
    → f k ≡ (if nat_lt (k / n) (first / n) then without f first end k else f k)
days_begin f n first end some k = by (leb_tells (suc (k / n)) (first / n))
  where
    rest : k < k / n * n + n
    rest = omega (arith, div-add-mod' k n, mod_below k n some)

    by : ((nat_le (suc (k / n)) (first / n) ≡ true) × (suc (k / n) ≤ first / n))
        ⊎ ((nat_le (suc (k / n)) (first / n) ≡ false) × (first / n < suc (k / n)))
        → f k ≡ (if nat_lt (k / n) (first / n) then without f first end k else f k)
    by (inl a) = sym (ap (λ (t : Bool). if t then without f first end k else f k)
        (below-is (k / n) (first / n) (omega (arith, a.1)))
        ∙ outside f first end k (inl (omega (
          arith,
          rest,
          div-mul-le_self first n,
          mul-le-mul_right {m = suc (k / n)} {n = first / n} n a.1,
        ))))
    by (inr b) = sym (ap (λ (t : Bool). if t then without f first end k else f k)
        (below-not (k / n) (first / n) (omega (arith, b.1))))

-- one day more
pub day_more : (old mid new : ℕ → Counts) (n first end day : ℕ)
    → ((k : ℕ) → mid k ≡ (if nat_lt (k / n) day then without old first end k else old k))
    → ((k : ℕ) → new k ≡ (if k / n == day then without mid first end k else mid k))
    → (k : ℕ) → new k ≡ (if nat_lt (k / n) (day + 1) then without old first end k else old k)
day_more old mid new n first end day so step k = step k ∙ by (eqb_tells (k / n) day)
  where
    tail : (q day : ℕ) → q ≢ day → nat_lt q day ≡ nat_lt q (day + 1)
    tail q day h = grind (arith, nat_tests, h)

    by : ((nat_eq (k / n) day ≡ true) × (k / n ≡ day))
        ⊎ ((nat_eq (k / n) day ≡ false) × (k / n ≢ day))
        → (if k / n == day then without mid first end k else mid k)
        ≡ (if nat_lt (k / n) (day + 1) then without old first end k else old k)
    by (inl same) =
        let was : mid k ≡ old k = so k
        ∙ ap (λ (t : Bool). if t then without old first end k else old k)
        (below-not (k / n) day (omega (arith, same.1))) in
        ap (λ (t : Bool). if t then without mid first end k else mid k) same.0
        ∙ ap (λ c. if nat_le first k && nat_lt k end then no_counts else c) was
        ∙ sym (ap (λ (t : Bool). if t then without old first end k else old k)
        (below-is (k / n) (day + 1) (omega (arith, same.1))))
    by (inr other) =
        ap (λ (t : Bool). if t then without mid first end k else mid k) other.0 ∙ so k
        ∙ ap (λ (t : Bool). if t then without old first end k else old k)
        (tail (k / n) day other.1)

-- a day before the end begins before it
pub day_begun : (n end day : ℕ) → 0 < n → day < div_ceil end n → day * n < end
day_begun n end day some less = omega (
  arith,
  (div_ceil_times end n some).1,
  mul-le-mul_right {m = suc day} {n = div_ceil end n} n (omega (arith, less)),
)

-- behind the day of the last slice all are passed
pub days_end : (f : ℕ → Counts) (n first end day : ℕ) → 0 < n → div_ceil end n ≤ day → (k : ℕ)
    → (if nat_lt (k / n) day then without f first end k else f k) ≡ without f first end k
days_end f n first end day some passed k = by (leb_tells (suc (k / n)) day)
  where
    by : ((nat_le (suc (k / n)) day ≡ true) × (suc (k / n) ≤ day))
        ⊎ ((nat_le (suc (k / n)) day ≡ false) × (day < suc (k / n)))
        → (if nat_lt (k / n) day then without f first end k else f k) ≡ without f first end k
    by (inl a) = ap (λ (t : Bool). if t then without f first end k else f k)
        (below-is (k / n) day (omega (arith, a.1)))
    by (inr b) = ap (λ (t : Bool). if t then without f first end k else f k)
        (below-not (k / n) day (omega (arith, b.1)))
        ∙ sym (outside f first end k (inr (omega (
          arith,
          (div_ceil_times end n some).0,
          mul-le-mul_right {m = div_ceil end n} {n = k / n} n (omega (arith, passed, b.1)),
          div-mul-le_self k n,
        ))))

-- a slice lies wholly in a range where it is one of those from the first that begins in it up to
-- the first that doesn't end in it
pub whole-is : (f : ℕ → Counts) (w from to : ℕ) → 0 < w → (k : ℕ)
    → without f (div_ceil from w) (to / w) k
    ≡ (if is_whole w from to k then no_counts else f k)
whole-is f w from to some k = ap (λ (t : Bool). if t then no_counts else f k)
    (ap (λ t. t && nat_lt k (to / w)) (first (leb_tells (div_ceil from w) k))
    ∙ ap (λ t. nat_le from (k * w) && t) (last (leb_tells (suc k) (to / w))))
  where
    ceil : (from ≤ div_ceil from w * w) × (div_ceil from w * w < from + w)
    ceil = div_ceil_times from w some

    le-is : (a b : ℕ) → a ≤ b → nat_le a b ≡ true
    le-is a b h = grind (arith, nat_tests, h)

    le-not : (a b : ℕ) → b < a → nat_le a b ≡ false
    le-not a b h = grind (arith, nat_tests, h)

    first : ((nat_le (div_ceil from w) k ≡ true) × (div_ceil from w ≤ k))
        ⊎ ((nat_le (div_ceil from w) k ≡ false) × (k < div_ceil from w))
        → nat_le (div_ceil from w) k ≡ nat_le from (k * w)
    first (inl a) = a.0 ∙ sym (le-is from (k * w) (omega (
      arith,
      ceil.0,
      mul-le-mul_right {m = div_ceil from w} {n = k} w a.1,
    )))
    first (inr b) = b.0 ∙ sym (le-not from (k * w) (omega (
      arith,
      ceil.1,
      mul-le-mul_right {m = suc k} {n = div_ceil from w} w (omega (arith, b.1)),
    )))

    last : ((nat_le (suc k) (to / w) ≡ true) × (suc k ≤ to / w))
        ⊎ ((nat_le (suc k) (to / w) ≡ false) × (to / w < suc k))
        → nat_lt k (to / w) ≡ nat_le (k * w + w) to
    last (inl a) = below-is k (to / w) (omega (arith, a.1))
        ∙ sym (le-is (k * w + w) to (omega (
          arith,
          div-mul-le_self to w,
          mul-le-mul_right {m = suc k} {n = to / w} w a.1,
        )))
    last (inr b) = below-not k (to / w) (omega (arith, b.1))
        ∙ sym (le-not (k * w + w) to (omega (
          arith,
          div-add-mod' to w,
          mod_below to w some,
          mul-le-mul_right {m = to / w} {n = k} w (omega (arith, b.1)),
        )))
