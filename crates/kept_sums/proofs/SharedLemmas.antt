-- Objectives that count the same, and the sums that they share.
use Rattle.std.proofs.Common.{◌≡◌, ◌≢◌, ◌⊎◌, ◌∙◌, ◌&&◌, ◌<◌, ℕ, Bool, true, false, not, List, []}
use Rattle.std.proofs.Common.{◌∷◌, ap, arith, cond, inl, inr, length, map, refl, slice_index_or}
use Rattle.std.proofs.Common.{subst, suc, sym, zero}
use Rattle.std.specs.List.{AllByRecursion, Contains}
use Rattle.std.proofs.lemmas.List.Elements.{All-contains, All-from_recursion, All-map}
use Rattle.exact_fraction.specs.declared.Op.{Op}
use Rattle.slice_method.specs.declared.Method.{Method}
use Rattle.slice_method.specs.declared.Reading.{Reading}
use Rattle.slice_method.specs.Readings.{HasForm, IsSmall, counts}
use Rattle.sample_book.specs.declared.Exclusion.{Exclusion}
use Rattle.sample_book.specs.declared.Row.{Row}
use Rattle.sample_book.specs.Counting.{is_of}
use Rattle.sample_book.specs.Exclusions.{is_excluded}
use Rattle.window_sums.specs.Shares.{IsSumOf}
use Rattle.window_sums.specs.Slices.{CountedDays, no_counts}
use Rattle.office_history.specs.declared.Measure.{Measure}
use Rattle.kept_sums.specs.Found.{HasNoOwn, HasNoPooled, IsFound, IsTold}
use Rattle.kept_sums.specs.Objectives.{AreKept, HasNoExclusions, HasSums, counted, key_by, keys_by}
use Rattle.kept_sums.specs.Objectives.{IsPooledFor, KeptObjectives, made_for, pooled}
use Rattle.kept_sums.specs.Sums.{HasItsDay, RowFits, SumsAreKept, row_counts, shares_by}
use Rattle.kept_sums.specs.declared.kept.ObjectiveSums.{ObjectiveSums}
use Rattle.kept_sums.proofs.KeyLemmas.{never_there}

-- what counts by one key is of one indicator, and read and counted alike
pub record CountAlike (a b : Measure) : Type 0 where
  pub sli : a.sli ≡ b.sli
  pub reading : a.reading ≡ b.reading
  pub op : a.op ≡ b.op
  pub value : a.value ≡ b.value
  pub method : a.method ≡ b.method

pub alike : (pool : Bool) (a b : Measure) → key_by pool a ≡ key_by pool b → CountAlike a b
alike true a b e = record {
  sli = ap (λ (m : Measure). m.sli) e;
  reading = ap (λ (m : Measure). m.reading) e;
  op = ap (λ (m : Measure). m.op) e;
  value = ap (λ (m : Measure). m.value) e;
  method = ap (λ (m : Measure). m.method) e;
}
alike false a b e = record {
  sli = ap (λ (m : Measure). m.sli) e;
  reading = ap (λ (m : Measure). m.reading) e;
  op = ap (λ (m : Measure). m.op) e;
  value = ap (λ (m : Measure). m.value) e;
  method = ap (λ (m : Measure). m.method) e;
}

-- a row counts the same for both, where its minute is excluded for both or for neither
same-row : (a b : Measure) (made other : List (Exclusion × Bool)) (row : Row) → CountAlike a b
    → is_excluded made a.slo row.minute ≡ is_excluded other b.slo row.minute
    → row_counts a made row ≡ row_counts b other row
same-row a b made other row same out = λ i.
    cond (is_of (same.sli i) row && not (out i))
    (counts (same.reading i) (same.op i) (same.value i) row.amount) no_counts

same-shares : (a b : Measure) (made other : List (Exclusion × Bool)) (rows : List Row)
    → CountAlike a b
    → ((minute : ℕ) → is_excluded made a.slo minute ≡ is_excluded other b.slo minute)
    → shares_by (row_counts a made) rows ≡ shares_by (row_counts b other) rows
same-shares a b made other [] same out = refl
same-shares a b made other (row ∷ rows) same out = λ i.
    record {
      minute = row.minute;
      counts = same-row a b made other row same (out row.minute) i;
    } ∷ same-shares a b made other rows same out i

same-days : (a b : Measure) (sums : CountedDays) (rows : List Row) → a.sli ≡ b.sli
    → AllByRecursion (HasItsDay a sums) rows → AllByRecursion (HasItsDay b sums) rows
same-days a b sums [] e days = tt
same-days a b sums (row ∷ rows) e days = (
  λ own. days.0 (ap (λ (name : List ℕ). is_of name row) e ∙ own),
  same-days a b sums rows e days.1,
)

-- so the sums of one are the sums of the other
pub shared-sums : (a b : Measure) (made other : List (Exclusion × Bool)) (rows : List Row)
    (sums : CountedDays) → CountAlike a b
    → ((minute : ℕ) → is_excluded made a.slo minute ≡ is_excluded other b.slo minute)
    → SumsAreKept a made rows sums → SumsAreKept b other rows sums
shared-sums a b made other rows sums same out kept = record {
  method = kept.method ∙ same.method;
  counted = subst (IsSumOf sums) (same-shares a b made other rows same out) kept.counted;
  days = same-days a b sums rows same.sli kept.days;
}

-- Objectives of one SLO that differ in their targets alone have the same sums.
pub own-shared : (a b : Measure) (made : List (Exclusion × Bool)) (rows : List Row)
    (sums : CountedDays) → counted a ≡ counted b → SumsAreKept a made rows sums
    → SumsAreKept b made rows sums
own-shared a b made rows sums e kept =
    shared-sums a b made made rows sums (alike false a b e)
    (λ minute. ap (λ (m : Measure). is_excluded made m.slo minute) e) kept

-- .. and where nothing is excluded for an objective, the sums from which nothing is excluded are
-- its sums.
pub pooled-shared : (a b : Measure) (made : List (Exclusion × Bool)) (rows : List Row)
    (sums : CountedDays) → pooled a ≡ pooled b → HasNoExclusions made b.slo
    → SumsAreKept a [] rows sums → SumsAreKept b made rows sums
pooled-shared a b made rows sums e none kept =
    shared-sums a b [] made rows sums (alike true a b e) (λ minute. sym (none minute)) kept

-- rows fit what counts alike
pub fit-alike : (pool : Bool) (a b : Measure) (rows : List Row) → key_by pool a ≡ key_by pool b
    → AllByRecursion (RowFits a) rows → AllByRecursion (RowFits b) rows
fit-alike pool a b [] e fit = tt
fit-alike pool a b (row ∷ rows) e fit =
    let same = alike pool a b e in (
      λ own. subst (λ (r : Reading). HasForm r row.amount × IsSmall row.amount) same.reading
          (fit.0 (ap (λ (name : List ℕ). is_of name row) same.sli ∙ own)),
      fit-alike pool a b rows e fit.1,
    )

-- one of the sums that are kept is of its rows
entry-kept : (made : List (Exclusion × Bool)) (rows : List Row) (kept : List ObjectiveSums)
    (k : ObjectiveSums) → AreKept made rows kept → Contains kept k
    → SumsAreKept k.measure made rows k.sums
entry-kept made rows kept k are there =
    All-contains (λ (k : ObjectiveSums). SumsAreKept k.measure made rows k.sums) kept k
    (All-from_recursion (λ (k : ObjectiveSums). SumsAreKept k.measure made rows k.sums) kept are)
    there

-- what is found under the key of an objective is kept for it
pub found-own : (made : List (Exclusion × Bool)) (rows : List Row) (kept : List ObjectiveSums)
    (m : Measure) (sums : CountedDays) → AreKept made rows kept → IsFound false kept m sums
    → SumsAreKept m made rows sums
found-own made rows kept m sums are found =
    own-shared found.entry.measure m made rows sums found.alike
    (subst (SumsAreKept found.entry.measure made rows) found.is
    (entry-kept made rows kept found.entry are found.there))

pub found-pooled : (made : List (Exclusion × Bool)) (rows : List Row) (kept : List ObjectiveSums)
    (m : Measure) (sums : CountedDays) → AreKept [] rows kept → HasNoExclusions made m.slo
    → IsFound true kept m sums → SumsAreKept m made rows sums
found-pooled made rows kept m sums are none found =
    pooled-shared found.entry.measure m made rows sums found.alike none
    (subst (SumsAreKept found.entry.measure [] rows) found.is
    (entry-kept [] rows kept found.entry are found.there))

-- where nothing is excluded for an objective, the sums of its SLO are pooled ones too
for-either : (pool : Bool) (made : List (Exclusion × Bool)) (rows : List Row) (m : Measure)
    (sums : CountedDays) → HasNoExclusions made m.slo → SumsAreKept m made rows sums
    → SumsAreKept m (made_for pool made) rows sums
for-either false made rows m sums none kept = kept
for-either true made rows m sums none kept =
    shared-sums m m made [] rows sums (alike true m m refl) (λ minute. none minute) kept

-- so what is told of it is either
pub told-either : (pool : Bool) (made : List (Exclusion × Bool)) (rows : List Row)
    (kept : KeptObjectives) (m : Measure) (sums : CountedDays) → AreKept made rows kept.own
    → AreKept [] rows kept.pooled → HasNoExclusions made m.slo → IsTold kept m sums
    → SumsAreKept m (made_for pool made) rows sums
told-either pool made rows kept m sums own pools none (inl found) =
    for-either pool made rows m sums none (found-own made rows kept.own m sums own found)
told-either pool made rows kept m sums own pools none (inr told) =
    for-either pool made rows m sums none
    (found-pooled made rows kept.pooled m sums pools none told.1)

-- where no entry has the key of an objective, its key isn't there
pub no-key : (pool : Bool) (kept : List ObjectiveSums) (m : Measure)
    → AllByRecursion (λ (k : ObjectiveSums). key_by pool k.measure ≢ key_by pool m) kept
    → Contains (keys_by pool kept) (key_by pool m) → ⊥
no-key pool kept m none has =
    never_there (λ (k : ObjectiveSums). key_by pool k.measure) kept (key_by pool m) none has

pub no-key-in : (pool : Bool) (seen kept : List ObjectiveSums) (m : Measure) → seen ≡ kept
    → AllByRecursion (λ (k : ObjectiveSums). key_by pool k.measure ≢ key_by pool m) seen
    → Contains (keys_by pool kept) (key_by pool m) → ⊥
no-key-in pool seen kept m same none has =
    no-key pool seen m none
    (subst (λ (ks : List ObjectiveSums). Contains (keys_by pool ks) (key_by pool m)) (sym same) has)

key-at : (pool : Bool) (kept : List ObjectiveSums) (k : ObjectiveSums) (n : ℕ) → n < length kept
    → slice_index_or kept n k ≡ k → Contains (keys_by pool kept) (key_by pool k.measure)
key-at pool [] k n less e = absurd (omega (arith, less))
key-at pool (x ∷ xs) k zero less e =
    (0, omega arith, ap (λ (y : ObjectiveSums). key_by pool y.measure) e)
key-at pool (x ∷ xs) k (suc n) less e =
    let rest = key-at pool xs k n (omega (arith, less)) e in
    (suc rest.0, omega (arith, rest.1), rest.2)

-- and where one is found, it is
pub found-key : (pool : Bool) (kept : List ObjectiveSums) (m : Measure) (sums : CountedDays)
    → IsFound pool kept m sums → Contains (keys_by pool kept) (key_by pool m)
found-key pool kept m sums found =
    subst (Contains (keys_by pool kept)) found.alike
    (key-at pool kept found.entry found.there.0 found.there.1 found.there.2)

-- an objective that has no sums of its own has pooled ones, and nothing is excluded for it
pub pooled-else : (made : List (Exclusion × Bool)) (own pool : List ObjectiveSums) (m : Measure)
    → HasSums made own pool m → (Contains (keys_by false own) (counted m) → ⊥)
    → Contains (keys_by true pool) (pooled m) × HasNoExclusions made m.slo
pooled-else made own pool m (inl has) none = absurd (none has)
pooled-else made own pool m (inr has) none = has

-- where nothing is excluded for an SLO, sums of it may be given up for which pooled ones are kept
pub pooled-again : (made : List (Exclusion × Bool)) (old new pool : List ObjectiveSums)
    (slo : List ℕ) → HasNoExclusions made slo
    → ((m : Measure) → Contains (keys_by false old) (counted m)
    → Contains (keys_by false new) (counted m) ⊎ IsPooledFor pool slo m)
    → (m : Measure) → HasSums made old pool m → HasSums made new pool m
pooled-again made old new pool slo none left m (inl has) = by (left m has)
  where
    by : Contains (keys_by false new) (counted m) ⊎ IsPooledFor pool slo m
        → HasSums made new pool m
    by (inl still) = inl still
    by (inr again) = inr (again.there, subst (HasNoExclusions made) (sym again.named) none)
pooled-again made old new pool slo none left m (inr has) = inr has

-- the sums of an objective are those of its rows
pub told-kept : (made : List (Exclusion × Bool)) (rows : List Row) (kept : KeptObjectives)
    (m : Measure) (sums : CountedDays) → AreKept made rows kept.own → AreKept [] rows kept.pooled
    → HasSums made kept.own kept.pooled m → IsTold kept m sums → SumsAreKept m made rows sums
told-kept made rows kept m sums own pool has (inl found) =
    found-own made rows kept.own m sums own found
told-kept made rows kept m sums own pool has (inr told) =
    found-pooled made rows kept.pooled m sums pool
    (pooled-else made kept.own kept.pooled m has told.0).1 told.1

-- an objective that has sums isn't without any
pub not-without : (made : List (Exclusion × Bool)) (kept : KeptObjectives) (m : Measure)
    → HasSums made kept.own kept.pooled m → HasNoOwn kept m → HasNoPooled kept m → ⊥
not-without made kept m (inl has) own pool = own has
not-without made kept m (inr has) own pool = pool has.0

-- what holds of the key of each of these holds of each key
pub each-key : (P : Measure → Type 0) (pool : Bool) (wanted : List Measure)
    → AllByRecursion (λ (m : Measure). P (key_by pool m)) wanted → (key : Measure)
    → Contains (map (key_by pool) wanted) key → P key
each-key P pool wanted all key has =
    All-contains P (map (key_by pool) wanted) key
    (All-map P (key_by pool) wanted
    (All-from_recursion (λ (m : Measure). P (key_by pool m)) wanted all)) has
