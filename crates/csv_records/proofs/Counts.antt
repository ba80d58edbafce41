-- How many records and fields there can be.
use Rattle.std.proofs.Common.{◌≡◌, ◌≤◌, ◌<◌, ◌+◌, ◌++◌, ℕ, zero, suc, List, [], ◌∷◌, length, Some}
use Rattle.std.proofs.Common.{None, Option, IfSome, Bool, true, false, if◌then◌else◌, refl, subst}
use Rattle.std.proofs.Common.{arith, length-append}
use Rattle.std.specs.List.{AllByRecursion}
use Rattle.csv.specs.Machine.{Read, ends_at_end, field_after, fields_after, is_end, next_record}
use Rattle.csv.specs.Machine.{step}
use Rattle.csv.specs.declared.parser.Action.{Action}
use Rattle.csv.specs.declared.parser.Action.TheVariants as act
use Rattle.csv.specs.Reading.{default_config, records_from, records_next, strip_bom}
use Rattle.csv.specs.declared.parser.Config.{Config}
use Rattle.csv.specs.declared.parser.State.{State}
use Rattle.csv.specs.declared.parser.State.TheVariants as st
use Rattle.csv_records.specs.Records.{Fields, csv_records}
use Rattle.csv_records.specs.Left.{IsBetween}
use Rattle.csv_records.proofs.Rest.{leaves}

-- no more records than bytes, from a state between two records
few_from : (cfg : Config) (n : ℕ) (s : State) (xs : List ℕ) → IsBetween s
    → length (records_from cfg n s xs) ≤ length xs
unfolding records_from
few_from cfg zero s xs b = omega arith
few_from cfg (suc n) s xs b = by (next_record cfg s [] [] xs) refl (few_from cfg n)
  where
    by : (o : Option Read) → next_record cfg s [] [] xs ≡ o
        → ((s2 : State) (ys : List ℕ) → IsBetween s2
        → length (records_from cfg n s2 ys) ≤ length ys)
        → length (records_next (records_from cfg n) o) ≤ length xs
    by None e more = omega arith
    by (Some r) e more =
        let l = rw b at (leaves cfg s [] [] xs r e) in
        let m = more r.1 r.2 l.0 in
        omega arith

few_stripped : (xs : List ℕ) → length (strip_bom xs) ≤ length xs
unfolding strip_bom
few_stripped xs = grind arith

-- a text has no more records than bytes
pub csv_records-few : (bytes : List ℕ) → length (csv_records bytes) ≤ length bytes
csv_records-few bytes =
    let a = few_from default_config (length (strip_bom bytes) + 1) st.StartRecord
    (strip_bom bytes) refl in
    let b = few_stripped bytes in
    omega arith

-- the end of a record adds a field
ending : (a : Action) (fs : List (List ℕ)) (f : List ℕ) → is_end a ≡ true
    → 0 < length (fields_after a fs f)
ending act.EndField fs f e = omega (arith, length-append fs (f ∷ []))
ending act.Skip fs f e = cc e
ending act.Copy fs f e = cc e
ending act.EndRecord fs f e = omega (arith, length-append fs (f ∷ []))

-- a record has a field at least
pub next_record-some : (cfg : Config) (s : State) (fs : List (List ℕ)) (f : List ℕ) (xs : List ℕ)
    (p : Read) → next_record cfg s fs f xs ≡ Some p → 0 < length p.0
unfolding next_record
next_record-some cfg s fs f [] p e = by (ends_at_end s) e
  where
    by : (b : Bool) → (if b then Some (fs ++ (f ∷ []), st.StartRecord, []) else None) ≡ Some p
        → 0 < length p.0
    by true h = subst (λ (o : Option Read). IfSome o (λ q. 0 < length q.0)) h
        (omega (arith, length-append fs (f ∷ [])))
    by false h = cc h
next_record-some cfg s fs f (c ∷ rest) p e =
    by (is_end (step cfg s c).1) refl e (next_record-some cfg (step cfg s c).0
    (fields_after (step cfg s c).1 fs f) (field_after (step cfg s c).1 c f) rest p)
  where
    by : (b : Bool) → is_end (step cfg s c).1 ≡ b
        → (if b then Some (fields_after (step cfg s c).1 fs f, (step cfg s c).0, rest)
        else next_record cfg (step cfg s c).0 (fields_after (step cfg s c).1 fs f)
        (field_after (step cfg s c).1 c f) rest) ≡ Some p
        → (next_record cfg (step cfg s c).0 (fields_after (step cfg s c).1 fs f)
        (field_after (step cfg s c).1 c f) rest ≡ Some p → 0 < length p.0)
        → 0 < length p.0
    by true at h more = subst (λ (o : Option Read). IfSome o (λ q. 0 < length q.0)) h
        (ending (step cfg s c).1 fs f at)
    by false at h more = more h

some_from : (cfg : Config) (n : ℕ) (s : State) (xs : List ℕ)
    → AllByRecursion (λ r. 0 < length r) (records_from cfg n s xs)
unfolding records_from
some_from cfg zero s xs = tt
some_from cfg (suc n) s xs = by (next_record cfg s [] [] xs) refl (some_from cfg n)
  where
    by : (o : Option Read) → next_record cfg s [] [] xs ≡ o
        → ((s2 : State) (ys : List ℕ)
        → AllByRecursion (λ r. 0 < length r) (records_from cfg n s2 ys))
        → AllByRecursion (λ r. 0 < length r) (records_next (records_from cfg n) o)
    by None e more = tt
    by (Some r) e more = (next_record-some cfg s [] [] xs r e, more r.1 r.2)

-- each record of a text has a field at least
pub csv_records-some : (bytes : List ℕ)
    → AllByRecursion (λ (r : Fields). 0 < length r) (csv_records bytes)
csv_records-some bytes =
    some_from default_config (length (strip_bom bytes) + 1) st.StartRecord (strip_bom bytes)
