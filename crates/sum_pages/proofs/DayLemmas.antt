-- Tables of days, after a value of one day was changed or a day was added.
use Rattle.std.proofs.Common.{◌≡◌, ◌≢◌, ◌⊎◌, ℕ, ◌+◌, ◌/◌, ◌%◌, ◌*◌, ◌<◌, ◌==◌, ◌||◌, zero, suc}
use Rattle.std.proofs.Common.{Bool, true, false, cond, not, nat_eq, nat_lt, List, [], ◌∷◌, ◌++◌}
use Rattle.std.proofs.Common.{All, length, replicate, refl, sym, ap, subst, ◌∙◌, arith, Option}
use Rattle.std.proofs.Common.{Some, None, IfSome, IsTrue, is_some, unwrap_or, position}
use Rattle.std.proofs.Common.{slice_index_or, slice_set, inl, inr, if◌then◌else◌}
use Rattle.std.specs.List.{position_or_len}
use Rattle.std.specs.Map.{lookup, set_value, keys_of, values_of}
use Rattle.indexmap.specs.IndexMap.{set_value_at}
use Rattle.std.proofs.Math.Nat.{div-add-mod'}
use Rattle.std.proofs.lemmas.Map.{lookup-set_value}
use Rattle.std.proofs.lemmas.Map.Views.{IfSome-lookup_from_All}
use Rattle.std.proofs.lemmas.Cmp.{nat_eq_equiv}
use Rattle.std.proofs.lemmas.Bool.Decides.{eqb_tells}
use Rattle.std.proofs.lemmas.List.{get_or-set_same, get_or-set_other}
use Rattle.sum_pages.specs.DayTables.{is_day_of, value_at, values_of_day}

next : (n : ℕ) → 1 + n ≡ suc n
next n = omega arith

-- a write at the place of a key is a write at that key
set_value_at-first : {K X : Type 0} (test : K → Bool) (es : List (K × X)) (w : X) →
    set_value_at es (position_or_len test (keys_of es)) w ≡ set_value test es w
set_value_at-first test [] w = refl
set_value_at-first {K} {X} test (e ∷ es) w = by (test e.0) (set_value_at-first test es w)
  where
    by : (b : Bool) → set_value_at es (position_or_len test (keys_of es)) w ≡ set_value test es w →
        set_value_at (e ∷ es) (cond (not b) (1 + position_or_len test (keys_of es)) 0) w
        ≡ cond b ((e.0, w) ∷ es) (e ∷ set_value test es w)
    by true rest = refl
    by false rest = ap (λ j. set_value_at (e ∷ es) j w) (next (position_or_len test (keys_of es)))
        ∙ ap (λ l. e ∷ l) rest

pub set_value_at-found : {K X : Type 0} (test : K → Bool) (es : List (K × X)) (i : ℕ) (w : X) →
    position test (keys_of es) ≡ Some i →
    set_value_at es i w ≡ set_value test es w
set_value_at-found {K} {X} test es i w found =
    ap (λ j. set_value_at es j w)
    (sym (by (nat_lt (position_or_len test (keys_of es)) (length (keys_of es))) found))
    ∙ set_value_at-first test es w
  where
    by : (b : Bool) → cond b (Some (position_or_len test (keys_of es))) None ≡ Some i
        → position_or_len test (keys_of es) ≡ i
    by true e = cc e
    by false e = cc e

-- a look-up that finds nothing
pub nothing_found : {A : Type 0} (o : Option A) → is_some o ≡ false → o ≡ None
nothing_found None h = refl
nothing_found (Some x) h = cc h

-- a slot is told by its day and its place there
same_slot : (n a b : ℕ) → a / n ≡ b / n → a % n ≡ b % n → a ≡ b
same_slot n a b days places =
    sym (div-add-mod' a n) ∙ ap (λ q. q * n + a % n) days ∙ ap (λ r. b / n * n + r) places
    ∙ div-add-mod' b n

module _ {X : Type 0} (nothing : X) (days : List (ℕ × List X)) where
  -- what holds of the values of each day holds of those of a day that is there
  pub of_day : (P : List X → Type 0) → All P (values_of days) → (day : ℕ)
      → IsTrue (is_day_of days day) → P (values_of_day days day)
  of_day P all day there =
      by (lookup (nat_eq day) days) there (IfSome-lookup_from_All P (nat_eq day) days all)
    where
      by : (o : Option (List X)) → is_some o ≡ true → IfSome o P → P (unwrap_or o [])
      by None there found = cc there
      by (Some values) there found = found

  -- the values of each day, once those of one are others
  lookup-changed : (day q : ℕ) (values : List X) → IsTrue (is_day_of days day) →
      lookup (nat_eq q) (set_value (nat_eq day) days values)
      ≡ cond (nat_eq day q) (Some values) (lookup (nat_eq q) days)
  lookup-changed day q values there =
      lookup-set_value nat_eq_equiv (nat_eq day) (nat_eq_equiv.congr day) q values days there

  pub changed_day : (day : ℕ) (values : List X) → IsTrue (is_day_of days day)
      → values_of_day (set_value (nat_eq day) days values) day ≡ values
  changed_day day values there =
      ap (λ o. unwrap_or o []) (lookup-changed day day values there
      ∙ ap (λ b. cond b (Some values) (lookup (nat_eq day) days)) (nat_eq_equiv.refl day))

  -- no day comes and none goes
  pub days-changed : (day q : ℕ) (values : List X) → IsTrue (is_day_of days day) →
      is_day_of (set_value (nat_eq day) days values) q ≡ is_day_of days q
  days-changed day q values there = ap is_some (lookup-changed day q values there)
      ∙ by (eqb_tells day q)
    where
      by : ((nat_eq day q ≡ true) × (day ≡ q)) ⊎ ((nat_eq day q ≡ false) × (day ≢ q)) →
          is_some (cond (nat_eq day q) (Some values) (lookup (nat_eq q) days))
          ≡ is_some (lookup (nat_eq q) days)
      by (inl same) =
          rw same.0 (sym (subst (λ d. IsTrue (is_some (lookup (nat_eq d) days))) same.1 there))
      by (inr other) = rw other.0 refl

  -- the value of each slot, once that of one is another
  pub value_at-changed : (count slot : ℕ) (value : X) → IsTrue (is_day_of days (slot / count)) →
      slot % count < length (values_of_day days (slot / count)) → (k : ℕ) →
      value_at nothing count (set_value (nat_eq (slot / count)) days
      (slice_set (values_of_day days (slot / count)) (slot % count) value)) k
      ≡ (if k == slot then value else value_at nothing count days k)
  value_at-changed count slot value there within k =
      ap (λ o. slice_index_or (unwrap_or o []) (k % count) nothing) (lookup-changed (slot / count)
      (k / count) (slice_set (values_of_day days (slot / count)) (slot % count) value) there)
      ∙ by (eqb_tells (slot / count) (k / count)) (eqb_tells k slot)
    where
      by : ((nat_eq (slot / count) (k / count) ≡ true) × (slot / count ≡ k / count))
          ⊎ ((nat_eq (slot / count) (k / count) ≡ false) × (slot / count ≢ k / count)) →
          ((nat_eq k slot ≡ true) × (k ≡ slot)) ⊎ ((nat_eq k slot ≡ false) × (k ≢ slot)) →
          slice_index_or (unwrap_or (cond (nat_eq (slot / count) (k / count))
          (Some (slice_set (values_of_day days (slot / count)) (slot % count) value))
          (lookup (nat_eq (k / count)) days)) []) (k % count) nothing
          ≡ (if k == slot then value else value_at nothing count days k)
      by (inl same) (inl here) =
          rw (same.0, here.0)
          (ap (λ j. slice_index_or (slice_set (values_of_day days (slot / count)) (slot % count)
          value) (j % count) nothing) here.1
          ∙ get_or-set_same (values_of_day days (slot / count)) (slot % count) value nothing within)
      by (inl same) (inr elsewhere) =
          rw (same.0, elsewhere.0)
          (get_or-set_other (values_of_day days (slot / count)) (slot % count)
          (k % count) value nothing
          (λ places. elsewhere.1 (same_slot count k slot (sym same.1) places))
          ∙ ap (λ d. slice_index_or (values_of_day days d) (k % count) nothing) same.1)
      by (inr other) (inl here) = absurd (other.1 (ap (λ j. j / count) (sym here.1)))
      by (inr other) (inr elsewhere) = rw (other.0, elsewhere.0) refl

-- the slots of a day that was made ready
blank : {X : Type 0} (nothing : X) (n k : ℕ)
    → slice_index_or (replicate n nothing) k nothing ≡ nothing
blank nothing zero k = refl
blank nothing (suc n) zero = refl
blank nothing (suc n) (suc k) = blank nothing n k

-- a day without anything changes no value
pub value_at-added : {X : Type 0} (nothing : X) (days : List (ℕ × List X)) (day n q k : ℕ) →
    slice_index_or (values_of_day (days ++ (day, replicate n nothing) ∷ []) q) k nothing
    ≡ slice_index_or (values_of_day days q) k nothing
value_at-added {X} nothing [] day n q k = by (nat_eq q day)
  where
    by : (b : Bool) → slice_index_or (unwrap_or (cond b (Some (replicate n nothing)) None) []) k
        nothing ≡ nothing
    by true = blank nothing n k
    by false = refl
value_at-added {X} nothing (e ∷ es) day n q k =
    by (nat_eq q e.0) (value_at-added nothing es day n q k)
  where
    by : (b : Bool) → slice_index_or (values_of_day (es ++ (day, replicate n nothing) ∷ []) q) k
        nothing ≡ slice_index_or (values_of_day es q) k nothing →
        slice_index_or (unwrap_or (cond b (Some e.1)
        (lookup (nat_eq q) (es ++ (day, replicate n nothing) ∷ []))) []) k nothing
        ≡ slice_index_or (unwrap_or (cond b (Some e.1) (lookup (nat_eq q) es)) []) k nothing
    by true rest = refl
    by false rest = rest

pub values_of-push : {X : Type 0} (es : List (ℕ × List X)) (day : ℕ) (values : List X)
    → values_of (es ++ (day, values) ∷ []) ≡ values_of es ++ values ∷ []
values_of-push [] day values = refl
values_of-push (e ∷ es) day values = ap (λ l. e.1 ∷ l) (values_of-push es day values)

-- a day that was added is there, and no other comes
pub days-added : {X : Type 0} (days : List (ℕ × List X)) (day q : ℕ) (values : List X) →
    is_day_of (days ++ (day, values) ∷ []) q ≡ (is_day_of days q || q == day)
days-added {X} [] day q values = by (nat_eq q day)
  where
    by : (b : Bool) → is_some (cond b (Some values) None) ≡ b
    by true = refl
    by false = refl
days-added {X} (e ∷ es) day q values = by (nat_eq q e.0) (days-added es day q values)
  where
    by : (b : Bool) → is_day_of (es ++ (day, values) ∷ []) q ≡ (is_day_of es q || q == day) →
        is_some (cond b (Some e.1) (lookup (nat_eq q) (es ++ (day, values) ∷ [])))
        ≡ (is_some (cond b (Some e.1) (lookup (nat_eq q) es)) || q == day)
    by true rest = refl
    by false rest = rest
