-- One share exchanged for another of its minute.
use Rattle.std.proofs.Common.{◌≡◌, ◌≢◌, ◌⊎◌, ℕ, ◌+◌, ◌-◌, ◌≤◌, ◌==◌, nat_eq, ◌&&◌, Bool, true}
use Rattle.std.proofs.Common.{false, cond, not, inl, inr, refl, sym, ap, subst, ◌∙◌, arith, List}
use Rattle.std.proofs.Common.{[], ◌∷◌, ◌++◌, if◌then◌else◌}
use Rattle.std.proofs.lemmas.Bool.Decides.{eqb_tells}
use Rattle.std.proofs.lemmas.Cmp.{nat_eq_equiv}
use Rattle.std.proofs.lemmas.List.Sums.{sum_by-append, sum_by-cons}
use Rattle.slice_method.specs.declared.Counts.{Counts}
use Rattle.slice_method.specs.declared.Method.{Method}
use Rattle.slo_terms.specs.Sums.{amount_at}
use Rattle.window_sums.specs.Shares.{IsSumOf, Share, slice_counts}
use Rattle.window_sums.specs.Slices.{AreSoundCounts, CountedDays, counts_after, counts_of}
use Rattle.window_sums.specs.Slices.{new_counts, no_counts, slice_of}
use Rattle.window_sums.proofs.ShareLemmas.{sound-shares}
use Rattle.kept_sums.specs.Replacing.{MayReplace, among}

pub around : (key f : Share → ℕ) (xs ys : List Share) (s : Share) (k : ℕ) →
    amount_at key f (xs ++ s ∷ ys) k
    ≡ amount_at key f xs k + ((if key s == k then f s else 0) + amount_at key f ys k)
around key f xs ys s k =
    sum_by-append (λ s. if key s == k then f s else 0) xs (s ∷ ys)
    ∙ ap (λ n. amount_at key f xs k + n) (sum_by-cons (λ s. if key s == k then f s else 0) s ys)

here : (a b old new : ℕ) → a + (new + b) ≡ a + (old + b) - old + new
here a b old new = omega arith

part : (a b old : ℕ) → old ≤ a + (old + b)
part a b old = omega arith

-- the counts of each slice, once a share is another
counts-exchanged : (method : Method) (xs ys : List Share) (minute : ℕ) (old new : Counts) (k : ℕ) →
    slice_counts method (among xs minute new ys) k
    ≡ (if k == slice_of method minute
    then new_counts (slice_counts method (among xs minute old ys) k) old new
    else slice_counts method (among xs minute old ys) k)
counts-exchanged method xs ys minute old new k =
    by (eqb_tells k (slice_of method minute)) (eqb_tells (slice_of method minute) k)
  where
    key : Share → ℕ
    key share = slice_of method share.minute

    one : (f : Counts → ℕ) (c : Counts) (b : Bool) → (slice_of method minute == k) ≡ b →
        amount_at key (λ s. f s.counts) (among xs minute c ys) k ≡ amount_at key (λ s. f s.counts)
        xs k + (cond b (f c) 0 + amount_at key (λ s. f s.counts) ys k)
    one f c b e =
        around key (λ s. f s.counts) xs ys (record { minute = minute; counts = c }) k ∙ rw e refl

    swap : (f : Counts → ℕ) → (slice_of method minute == k) ≡ true →
        amount_at key (λ s. f s.counts) (among xs minute new ys) k
        ≡ amount_at key (λ s. f s.counts) (among xs minute old ys) k - f old + f new
    swap f e = one f new true e ∙ here (amount_at key (λ s. f s.counts) xs k)
        (amount_at key (λ s. f s.counts) ys k) (f old) (f new)
        ∙ ap (λ n. n - f old + f new) (sym (one f old true e))

    stay : (f : Counts → ℕ) → (slice_of method minute == k) ≡ false →
        amount_at key (λ s. f s.counts) (among xs minute new ys) k
        ≡ amount_at key (λ s. f s.counts) (among xs minute old ys) k
    stay f e = one f new false e ∙ sym (one f old false e)

    by : ((nat_eq k (slice_of method minute) ≡ true) × (k ≡ slice_of method minute))
        ⊎ ((nat_eq k (slice_of method minute) ≡ false) × (k ≢ slice_of method minute)) →
        ((nat_eq (slice_of method minute) k ≡ true) × (slice_of method minute ≡ k))
        ⊎ ((nat_eq (slice_of method minute) k ≡ false) × (slice_of method minute ≢ k)) →
        slice_counts method (among xs minute new ys) k
        ≡ (if k == slice_of method minute
        then new_counts (slice_counts method (among xs minute old ys) k) old new
        else slice_counts method (among xs minute old ys) k)
    by (inl same) (inl same') = rw same.0
        (λ i. record { good = swap (λ c. c.good) same'.0 i; total = swap (λ c. c.total) same'.0 i })
    by (inl same) (inr other') = absurd (other'.1 (sym same.1))
    by (inr other) (inl same') = absurd (other.1 (sym same'.1))
    by (inr other) (inr other') = rw other.0 (λ i. record {
      good = stay (λ c. c.good) other'.0 i;
      total = stay (λ c. c.total) other'.0 i;
    })

-- a share is a part of its slice
part-of : (f : Counts → ℕ) (method : Method) (xs ys : List Share) (minute : ℕ) (old : Counts) →
    f old ≤ amount_at (λ s. slice_of method s.minute) (λ s. f s.counts) (among xs minute old ys)
    (slice_of method minute)
part-of f method xs ys minute old =
    rw (
      around (λ s. slice_of method s.minute)
          (λ s. f s.counts) xs ys (record { minute = minute; counts = old })
          (slice_of method minute),
      nat_eq_equiv.refl (slice_of method minute),
    )
    (part (amount_at (λ s. slice_of method s.minute) (λ s. f s.counts) xs (slice_of method minute))
    (amount_at (λ s. slice_of method s.minute) (λ s. f s.counts) ys (slice_of method minute))
    (f old))

-- what a change of the sums makes of them is the sum of the new shares
pub sum-exchanged : (sums : CountedDays) (xs ys : List Share) (minute : ℕ) (old new : Counts) →
    IsSumOf sums (among xs minute old ys) → (k : ℕ) →
    counts_after sums minute old new k ≡ slice_counts sums.method (among xs minute new ys) k
sum-exchanged sums xs ys minute old new counted k =
    ap (λ (c : Counts). if k == slice_of sums.method minute then new_counts c old new else c)
    (counted k)
    ∙ sym (counts-exchanged sums.method xs ys minute old new k)

pub good-there : (sums : CountedDays) (xs ys : List Share) (minute : ℕ) (old new : Counts) →
    MayReplace sums minute old new xs ys →
    old.good ≤ (counts_of sums (slice_of sums.method minute)).good
good-there sums xs ys minute old new may =
    subst (λ (c : Counts). old.good ≤ c.good) (sym (may.counted (slice_of sums.method minute)))
    (part-of (λ c. c.good) sums.method xs ys minute old)

pub total-there : (sums : CountedDays) (xs ys : List Share) (minute : ℕ) (old new : Counts) →
    MayReplace sums minute old new xs ys →
    old.total ≤ (counts_of sums (slice_of sums.method minute)).total
total-there sums xs ys minute old new may =
    subst (λ (c : Counts). old.total ≤ c.total) (sym (may.counted (slice_of sums.method minute)))
    (part-of (λ c. c.total) sums.method xs ys minute old)

-- the counts are sound once a share is another
pub sound-then : (sums : CountedDays) (xs ys : List Share) (minute : ℕ) (old new : Counts) →
    MayReplace sums minute old new xs ys →
    AreSoundCounts sums.method (counts_after sums minute old new)
sound-then sums xs ys minute old new may =
    sound-shares sums.method (counts_after sums minute old new) (among xs minute new ys)
    may.small_then (sum-exchanged sums xs ys minute old new may.counted)

pub after-other : (sums : CountedDays) (minute : ℕ) (old new : Counts) (k : ℕ)
    → k ≢ slice_of sums.method minute → counts_after sums minute old new k ≡ counts_of sums k
after-other sums minute old new k other = by (eqb_tells k (slice_of sums.method minute))
  where
    by : ((nat_eq k (slice_of sums.method minute) ≡ true) × (k ≡ slice_of sums.method minute))
        ⊎ ((nat_eq k (slice_of sums.method minute) ≡ false) × (k ≢ slice_of sums.method minute)) →
        counts_after sums minute old new k ≡ counts_of sums k
    by (inl same) = absurd (other same.1)
    by (inr o) = rw o.0 refl

pub same_counts : (a b : Counts)
    → false ≡ not (nat_eq a.good b.good && nat_eq a.total b.total) → a ≡ b
same_counts a b h = by (eqb_tells a.good b.good) (eqb_tells a.total b.total)
  where
    by : ((nat_eq a.good b.good ≡ true) × (a.good ≡ b.good))
        ⊎ ((nat_eq a.good b.good ≡ false) × (a.good ≢ b.good)) →
        ((nat_eq a.total b.total ≡ true) × (a.total ≡ b.total))
        ⊎ ((nat_eq a.total b.total ≡ false) × (a.total ≢ b.total)) → a ≡ b
    by (inl g) (inl t) = λ i. record { good = g.1 i; total = t.1 i }
    by (inl g) (inr t) = let e : false ≡ true = h ∙ rw (g.0, t.0) refl in cc e
    by (inr g) t = let e : false ≡ true = h ∙ rw g.0 refl in cc e

pub other_counts : (a b : Counts)
    → true ≡ not (nat_eq a.good b.good && nat_eq a.total b.total) → a ≢ b
other_counts a b h same =
    let e : true ≡ false = h
    ∙ ap (λ (c : Counts). not (nat_eq a.good c.good && nat_eq a.total c.total)) (sym same)
    ∙ itself in cc e
  where
    itself : not (nat_eq a.good a.good && nat_eq a.total a.total) ≡ false
    itself = rw (nat_eq_equiv.refl a.good, nat_eq_equiv.refl a.total) refl

nothing_here : (a : ℕ) (b : Bool) → a + (cond b 0 0 + 0) ≡ a
nothing_here a true = omega arith
nothing_here a false = omega arith

-- a share of nothing behind the others changes nothing
pub nothing-added : (method : Method) (shares : List Share) (minute k : ℕ)
    → slice_counts method (among shares minute no_counts []) k ≡ slice_counts method shares k
nothing-added method shares minute k =
    let key : Share → ℕ = λ s. slice_of method s.minute in
    let one : (f : Counts → ℕ) → f no_counts ≡ 0 → amount_at key (λ s. f s.counts)
    (among shares minute no_counts []) k ≡ amount_at key (λ s. f s.counts) shares k =
    λ f e. around key (λ s. f s.counts) shares [] (record { minute = minute; counts = no_counts }) k
    ∙ ap (λ z. amount_at key (λ s. f s.counts) shares k
    + ((if slice_of method minute == k then z else 0) + 0)) e
    ∙ nothing_here (amount_at key (λ s. f s.counts) shares k) (slice_of method minute == k) in
    let good = one (λ c. c.good) refl in
    let total = one (λ c. c.total) refl in
    λ i. record { good = good i; total = total i }

-- counts are the same or others
pub same_or_other : (a b : Counts) → (a ≡ b) ⊎ (a ≢ b)
same_or_other a b = by (not (nat_eq a.good b.good && nat_eq a.total b.total)) refl
  where
    by : (t : Bool) → not (nat_eq a.good b.good && nat_eq a.total b.total) ≡ t → (a ≡ b) ⊎ (a ≢ b)
    by true e = inr (other_counts a b (sym e))
    by false e = inl (same_counts a b (sym e))
