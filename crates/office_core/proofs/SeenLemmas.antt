-- The sums that a machine shows are those of the objectives of its catalog.
use Rattle.std.proofs.Common.{◌≡◌, ◌∙◌, ◌||◌, ◌<◌, ℕ, Bool, true, false, List, [], ◌∷◌, ap, arith}
use Rattle.std.proofs.Common.{cond, inl, inr, length, map, refl, slice_index_or, subst, suc, zero}
use Rattle.std.specs.List.{AllByRecursion, Contains, flat_map, list_any}
use Rattle.std.proofs.lemmas.List.Elements.{All-contains, All-from_recursion}
use Rattle.sample_book.specs.declared.Exclusion.{Exclusion}
use Rattle.sample_book.specs.declared.Row.{Row}
use Rattle.window_sums.specs.Slices.{CountedDays}
use Rattle.object_terms.specs.declared.Object.{Object}
use Rattle.office_history.specs.declared.Measure.{Measure}
use Rattle.kept_sums.specs.Found.{IsFound, IsTold}
use Rattle.kept_sums.specs.Keys.{alike_in, is_alike}
use Rattle.kept_sums.specs.Objectives.{AreKept, HasSums, IsObjective, KeepsSums, KeptObjectives}
use Rattle.kept_sums.specs.Objectives.{counted, key_by, keys_by, measures_of}
use Rattle.kept_sums.specs.Sums.{SumsAreKept}
use Rattle.kept_sums.specs.declared.ObjectiveSums.{ObjectiveSums}
use Rattle.kept_sums.proofs.KeyLemmas.{all_append, flat_contains}
use Rattle.kept_sums.proofs.KeyTests.{alike-key, key-alike}
use Rattle.kept_sums.proofs.SharedLemmas.{own-shared, pooled-else, pooled-shared}
use Rattle.catalog_changes.specs.Wanted.{objectives_in}
use Rattle.catalog_changes.proofs.WantedLemmas.{each_objective, only_objectives}
use Rattle.office_core.specs.SumsSeen.{sums_beside, sums_seen}

all_flat : {A B : Type 0} (P : B → Type 0) (f : A → List B) (xs : List A) →
    AllByRecursion (λ (x : A). AllByRecursion P (f x)) xs → AllByRecursion P (flat_map f xs)
all_flat P f [] h = tt
all_flat P f (x ∷ xs) h = all_append P (f x) (flat_map f xs) h.0 (all_flat P f xs h.1)

all_so : {A : Type 0} (P Q : A → Type 0) (xs : List A) → ((x : A) → P x → Q x) →
    AllByRecursion P xs → AllByRecursion Q xs
all_so P Q [] f h = tt
all_so P Q (x ∷ xs) f h = (f x h.0, all_so P Q xs f h.1)

-- what holds of all that has a key holds of what the test leaves
all_alike : (P : ObjectiveSums → Type 0) (pool : Bool) (m : Measure)
    (made : List (Exclusion × Bool)) (rows : List Row) (kept : List ObjectiveSums) →
    AreKept made rows kept →
    ((k : ObjectiveSums) → key_by pool k.measure ≡ key_by pool m →
    SumsAreKept k.measure made rows k.sums → P (record { measure = m; sums = k.sums })) →
    AllByRecursion P (map (λ (k : ObjectiveSums). record { measure = m; sums = k.sums })
    (alike_in pool kept m))
all_alike P pool m made rows [] are f = tt
all_alike P pool m made rows (k ∷ kept) are f =
    by (is_alike pool k.measure m) refl (all_alike P pool m made rows kept are.1 f)
  where
    by : (b : Bool) → is_alike pool k.measure m ≡ b →
        AllByRecursion P (map (λ (k : ObjectiveSums). record { measure = m; sums = k.sums })
        (alike_in pool kept m)) →
        AllByRecursion P (map (λ (k : ObjectiveSums). record { measure = m; sums = k.sums })
        (cond b (k ∷ alike_in pool kept m) (alike_in pool kept m)))
    by true e rest = (f k (alike-key pool k.measure m e) are.0, rest)
    by false e rest = rest

-- where the test finds none, the key isn't there
none_alike : (pool : Bool) (m : Measure) (kept : List ObjectiveSums) →
    list_any (λ (k : ObjectiveSums). is_alike pool k.measure m) kept ≡ false → (n : ℕ) →
    n < length (keys_by pool kept) →
    slice_index_or (keys_by pool kept) n (key_by pool m) ≡ key_by pool m → ⊥
none_alike pool m [] none n less e = absurd (omega (arith, less))
none_alike pool m (k ∷ kept) none zero less e =
    by (is_alike pool k.measure m) (key-alike pool k.measure m e) none
  where
    by : (b : Bool) → b ≡ true → (b || list_any (λ (k : ObjectiveSums).
        is_alike pool k.measure m) kept) ≡ false → ⊥
    by true h none = cc none
    by false h none = cc h
none_alike pool m (k ∷ kept) none (suc n) less e =
    by (is_alike pool k.measure m) none (λ rest. none_alike pool m kept rest n (omega (arith, less))
    e)
  where
    by : (b : Bool) → (b || list_any (λ (k : ObjectiveSums).
        is_alike pool k.measure m) kept) ≡ false →
        (list_any (λ (k : ObjectiveSums). is_alike pool k.measure m) kept ≡ false → ⊥) → ⊥
    by true none rest = cc none
    by false none rest = rest none

-- an entry whose key is the objective's is left by the test
alike_at : (pool : Bool) (m : Measure) (kept : List ObjectiveSums) (k : ObjectiveSums) (n : ℕ) →
    n < length kept → slice_index_or kept n k ≡ k → key_by pool k.measure ≡ key_by pool m →
    Contains {X = ObjectiveSums}
    (map (λ (k : ObjectiveSums). record { measure = m; sums = k.sums })
    (alike_in pool kept m)) (record { measure = m; sums = k.sums })
    × (list_any (λ (k : ObjectiveSums). is_alike pool k.measure m) kept ≡ true)
alike_at pool m [] k n less e same = absurd (omega (arith, less))
alike_at pool m (x ∷ xs) k zero less e same =
    by (is_alike pool x.measure m) (key-alike pool x.measure m
    (ap (λ (y : ObjectiveSums). key_by pool y.measure) e ∙ same))
  where
    by : (b : Bool) → b ≡ true →
        Contains {X = ObjectiveSums}
        (map (λ (k : ObjectiveSums). record { measure = m; sums = k.sums })
        (cond b (x ∷ alike_in pool xs m) (alike_in pool xs m)))
        (record { measure = m; sums = k.sums })
        × ((b || list_any (λ (k : ObjectiveSums). is_alike pool k.measure m) xs) ≡ true)
    by true h = (
      (0, omega arith, ap (λ (y : ObjectiveSums). record { measure = m; sums = y.sums }) e),
      refl,
    )
    by false h = cc h
alike_at pool m (x ∷ xs) k (suc n) less e same =
    by (is_alike pool x.measure m) (alike_at pool m xs k n (omega (arith, less)) e same)
  where
    by : (b : Bool) → Contains {X = ObjectiveSums}
        (map (λ (k : ObjectiveSums).
        record { measure = m; sums = k.sums }) (alike_in pool xs m))
        (record { measure = m; sums = k.sums })
        × (list_any (λ (k : ObjectiveSums). is_alike pool k.measure m) xs ≡ true) →
        Contains {X = ObjectiveSums}
        (map (λ (k : ObjectiveSums). record { measure = m; sums = k.sums })
        (cond b (x ∷ alike_in pool xs m) (alike_in pool xs m)))
        (record { measure = m; sums = k.sums })
        × ((b || list_any (λ (k : ObjectiveSums). is_alike pool k.measure m) xs) ≡ true)
    by true h = ((suc h.0.0, omega (arith, h.0.1), h.0.2), refl)
    by false h = h

-- and where it finds one, it is there
any_key : (pool : Bool) (m : Measure) (kept : List ObjectiveSums) →
    list_any (λ (k : ObjectiveSums). is_alike pool k.measure m) kept ≡ true →
    Contains (keys_by pool kept) (key_by pool m)
any_key pool m [] e = cc e
any_key pool m (k ∷ kept) e = by (is_alike pool k.measure m) refl e (any_key pool m kept)
  where
    by : (b : Bool) → is_alike pool k.measure m ≡ b →
        (b || list_any (λ (k : ObjectiveSums). is_alike pool k.measure m) kept) ≡ true →
        (list_any (λ (k : ObjectiveSums). is_alike pool k.measure m) kept ≡ true →
        Contains (keys_by pool kept) (key_by pool m)) →
        Contains (keys_by pool (k ∷ kept)) (key_by pool m)
    by true h e rest = (0, omega arith, alike-key pool k.measure m h)
    by false h e rest = let r = rest e in (suc r.0, omega (arith, r.1), r.2)

-- a key that is there is that of an entry
key_found : (pool : Bool) (m : Measure) (kept : List ObjectiveSums) (n : ℕ) →
    n < length (keys_by pool kept) →
    slice_index_or (keys_by pool kept) n (key_by pool m) ≡ key_by pool m →
    (sums : CountedDays) × IsFound pool kept m sums
key_found pool m [] n less e = absurd (omega (arith, less))
key_found pool m (k ∷ kept) zero less e = (
  k.sums,
  record { entry = k; there = (0, omega arith, refl); alike = e; is = refl },
)
key_found pool m (k ∷ kept) (suc n) less e =
    let rest = key_found pool m kept n (omega (arith, less)) e in
    let found = rest.1 in (
      rest.0,
      record {
        entry = found.entry;
        there = (suc found.there.0, omega (arith, found.there.1), found.there.2);
        alike = found.alike;
        is = found.is;
      },
    )

-- THE SUMS OF AN OBJECTIVE

-- those that are found for an objective stand beside it
pub told_beside : (kept : KeptObjectives) (m : Measure) (sums : CountedDays) →
    IsTold kept m sums → Contains (sums_beside kept m) (record { measure = m; sums = sums })
told_beside kept m sums (inl found) =
    subst (λ (s : CountedDays). Contains (sums_beside kept m) (record { measure = m; sums = s }))
    found.is (by (list_any (λ (k : ObjectiveSums). is_alike false k.measure m) kept.own) here.1)
  where
    here : Contains {X = ObjectiveSums}
        (map (λ (k : ObjectiveSums). record { measure = m; sums = k.sums })
        (alike_in false kept.own m)) (record { measure = m; sums = found.entry.sums })
        × (list_any (λ (k : ObjectiveSums). is_alike false k.measure m) kept.own ≡ true)
    here = alike_at false m kept.own found.entry found.there.0 found.there.1 found.there.2
        found.alike

    by : (b : Bool) → b ≡ true →
        Contains {X = ObjectiveSums}
        (map (λ (k : ObjectiveSums). record { measure = m; sums = k.sums })
        (cond b (alike_in false kept.own m) (alike_in true kept.pooled m)))
        (record { measure = m; sums = found.entry.sums })
    by true e = here.0
    by false e = cc e
told_beside kept m sums (inr told) =
    subst (λ (s : CountedDays). Contains (sums_beside kept m) (record { measure = m; sums = s }))
    told.1.is (by (list_any (λ (k : ObjectiveSums). is_alike false k.measure m) kept.own) refl)
  where
    found : IsFound true kept.pooled m sums
    found = told.1

    here : Contains {X = ObjectiveSums}
        (map (λ (k : ObjectiveSums). record { measure = m; sums = k.sums })
        (alike_in true kept.pooled m)) (record { measure = m; sums = found.entry.sums })
        × (list_any (λ (k : ObjectiveSums). is_alike true k.measure m) kept.pooled ≡ true)
    here = alike_at true m kept.pooled found.entry found.there.0 found.there.1 found.there.2
        found.alike

    by : (b : Bool) → list_any (λ (k : ObjectiveSums). is_alike false k.measure m) kept.own ≡ b →
        Contains {X = ObjectiveSums}
        (map (λ (k : ObjectiveSums). record { measure = m; sums = k.sums })
        (cond b (alike_in false kept.own m) (alike_in true kept.pooled m)))
        (record { measure = m; sums = found.entry.sums })
    by true e = absurd (told.0 (any_key false m kept.own e))
    by false e = here.0

-- an objective that has sums is told some
told_there : (made : List (Exclusion × Bool)) (kept : KeptObjectives) (m : Measure) →
    HasSums made kept.own kept.pooled m → (sums : CountedDays) × IsTold kept m sums
told_there made kept m has =
    by (list_any (λ (k : ObjectiveSums). is_alike false k.measure m) kept.own) refl
  where
    by : (b : Bool) → list_any (λ (k : ObjectiveSums). is_alike false k.measure m) kept.own ≡ b →
        (sums : CountedDays) × IsTold kept m sums
    by true e =
        let at = any_key false m kept.own e in
        let found = key_found false m kept.own at.0 at.1 at.2 in
        (found.0, inl found.1)
    by false e =
        let none = λ (at : Contains (keys_by false kept.own) (counted m)).
        none_alike false m kept.own e at.0 at.1 at.2 in
        let at = (pooled-else made kept.own kept.pooled m has none).0 in
        let found = key_found true m kept.pooled at.0 at.1 at.2 in
        (found.0, inr (none, found.1))

-- ALL THAT IS SEEN

-- the sums of an objective of the catalog
pub record IsRightly (members : List Object) (made : List (Exclusion × Bool)) (rows : List Row)
    (k : ObjectiveSums) : Type 0 where
  pub objective : IsObjective members k.measure
  pub sums : SumsAreKept k.measure made rows k.sums

module _ (members : List Object) (made : List (Exclusion × Bool)) (rows : List Row)
    (kept : KeptObjectives) (keeps : KeepsSums members made rows kept) where
  rightly_beside : (m : Measure) → IsObjective members m →
      AllByRecursion (IsRightly members made rows) (sums_beside kept m)
  rightly_beside m is =
      by (list_any (λ (k : ObjectiveSums). is_alike false k.measure m) kept.own) refl
    where
      by : (b : Bool) → list_any (λ (k : ObjectiveSums). is_alike false k.measure m) kept.own ≡ b →
          AllByRecursion (IsRightly members made rows)
          (map (λ (k : ObjectiveSums). record { measure = m; sums = k.sums })
          (cond b (alike_in false kept.own m) (alike_in true kept.pooled m)))
      by true e =
          all_alike (IsRightly members made rows) false m made rows kept.own keeps.own
          (λ k same sums. record {
            objective = is;
            sums = own-shared k.measure m made rows k.sums same sums;
          })
      by false e =
          let none = pooled-else made kept.own kept.pooled m (keeps.all m is)
          (λ (at : Contains (keys_by false kept.own) (counted m)).
          none_alike false m kept.own e at.0 at.1 at.2) in
          all_alike (IsRightly members made rows) true m [] rows kept.pooled keeps.pooled
          (λ k same sums. record {
            objective = is;
            sums = pooled-shared k.measure m made rows k.sums same none.1 sums;
          })

  pub seen_rightly : AllByRecursion (IsRightly members made rows) (sums_seen members kept)
  seen_rightly =
      all_flat (IsRightly members made rows) (sums_beside kept) (objectives_in members)
      (all_so (IsObjective members)
      (λ (m : Measure). AllByRecursion (IsRightly members made rows) (sums_beside kept m))
      (objectives_in members) rightly_beside (only_objectives members))

  -- one of them is that of its objective
  pub seen_kept : (m : Measure) (sums : CountedDays) →
      Contains (sums_seen members kept) (record { measure = m; sums = sums }) →
      SumsAreKept m made rows sums
  seen_kept m sums there =
      (All-contains (IsRightly members made rows) (sums_seen members kept)
      (record { measure = m; sums = sums })
      (All-from_recursion (IsRightly members made rows) (sums_seen members kept) seen_rightly)
      there).sums

  seen_objectives : (seen : List ObjectiveSums) →
      AllByRecursion (IsRightly members made rows) seen →
      AllByRecursion (IsObjective members) (measures_of seen)
  seen_objectives [] all = tt
  seen_objectives (k ∷ seen) all = (all.0.objective, seen_objectives seen all.1)

  -- each that is seen is an objective of the catalog
  pub seen_only : (m : Measure) → Contains (measures_of (sums_seen members kept)) m →
      IsObjective members m
  seen_only m there =
      All-contains (IsObjective members) (measures_of (sums_seen members kept)) m
      (All-from_recursion (IsObjective members) (measures_of (sums_seen members kept))
      (seen_objectives (sums_seen members kept) seen_rightly)) there

  measure_at : (seen : List ObjectiveSums) (k : ObjectiveSums) (n : ℕ) → n < length seen →
      slice_index_or seen n k ≡ k → Contains (measures_of seen) k.measure
  measure_at [] k n less e = absurd (omega (arith, less))
  measure_at (x ∷ xs) k zero less e =
      (0, omega arith, ap (λ (y : ObjectiveSums). y.measure) e)
  measure_at (x ∷ xs) k (suc n) less e =
      let rest = measure_at xs k n (omega (arith, less)) e in
      (suc rest.0, omega (arith, rest.1), rest.2)

  -- and each of them is seen
  pub seen_all : (m : Measure) → IsObjective members m →
      Contains (measures_of (sums_seen members kept)) m
  seen_all m is =
      let told = told_there made kept m (keeps.all m is) in
      let entry : ObjectiveSums = record { measure = m; sums = told.0 } in
      let at = flat_contains (sums_beside kept) (objectives_in members) m entry
      (each_objective members m is) (told_beside kept m told.0 told.1) in
      measure_at (sums_seen members kept) entry at.0 at.1 at.2

-- what is told of an objective is seen beside it
pub told_seen : (members : List Object) (kept : KeptObjectives) (m : Measure)
    (sums : CountedDays) → IsObjective members m → IsTold kept m sums →
    Contains (sums_seen members kept) (record { measure = m; sums = sums })
told_seen members kept m sums is told =
    flat_contains (sums_beside kept) (objectives_in members) m
    (record { measure = m; sums = sums }) (each_objective members m is)
    (told_beside kept m sums told)
