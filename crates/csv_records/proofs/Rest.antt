-- The records that are left of a text, from a state and the bytes after it.
use Rattle.std.proofs.Common.{◌≡◌, ◌<◌, ◌≤◌, ◌+◌, ℕ, zero, suc, List, [], ◌∷◌, length, Option, Some}
use Rattle.std.proofs.Common.{None, Bool, true, false, refl, ap, arith, ◌∙◌, if◌then◌else◌, ◌==◌}
use Rattle.std.proofs.Common.{◌&&◌, ◌++◌, subst, IfSome}
use Rattle.csv.specs.Machine.{Read, after_end, ends_at_end, ends_with, fields_after, field_after}
use Rattle.csv.specs.Machine.{in_field, is_byte, is_end, next_record, start_field, start_record}
use Rattle.csv.specs.Machine.{step}
use Rattle.csv.specs.Reading.{ReadRecord, Reached, default_config, records, records_from}
use Rattle.csv.specs.Reading.{records_next, source_of}
use Rattle.csv.specs.declared.reader.Reader.{Reader}
use Rattle.csv.proofs.ReadFacts.{rows-end, rows-more}
use Rattle.csv_records.specs.Left.{IsBetween, rest}
use Rattle.csv.specs.declared.parser.Config.{Config}
use Rattle.csv.specs.declared.parser.Terminator.{Terminator}
use Rattle.csv.specs.declared.parser.Terminator.TheVariants as term
use Rattle.csv.specs.declared.parser.State.{State}
use Rattle.csv.specs.declared.parser.State.TheVariants as st
use Rattle.csv.specs.declared.parser.Action.{Action}
use Rattle.csv.specs.declared.parser.Action.TheVariants as act

-- a step that ends a record leaves a state between two records
abbrev Ends : State × Action → Type 0
Ends p = is_end p.1 ≡ true → IsBetween p.0

if_ends : (b : Bool) (x y : State × Action) → Ends x → Ends y → Ends (if b then x else y)
if_ends true x y p q = p
if_ends false x y p q = q

if_between : (b : Bool) (x y : State) → IsBetween x → IsBetween y → IsBetween (if b then x else y)
if_between true x y p q = p
if_between false x y p q = q

after_end_between : (t : Terminator) (c : ℕ) → IsBetween (after_end t c)
after_end_between term.CRLF c = if_between (c == 13) st.AfterCr st.StartRecord refl refl
after_end_between (term.Any t) c = refl

in_field_ends : (cfg : Config) (c : ℕ) → Ends (in_field cfg c)
in_field_ends cfg c =
    if_ends (c == cfg.delimiter) (st.StartField, act.EndField) _ (λ e. cc e)
    (if_ends (ends_with cfg.terminator c) (after_end cfg.terminator c, act.EndRecord) (
      st.InField,
      act.Copy,
    ) (λ e. after_end_between cfg.terminator c) (λ e. cc e))

start_field_ends : (cfg : Config) (c : ℕ) → Ends (start_field cfg c)
start_field_ends cfg c = if_ends (cfg.quoting && (c == cfg.quote)) (
  st.InQuoted,
  act.Skip,
) _ (λ e. cc e) (in_field_ends cfg c)

start_record_ends : (cfg : Config) (c : ℕ) → Ends (start_record cfg c)
start_record_ends cfg c =
    if_ends (ends_with cfg.terminator c) (st.StartRecord, act.Skip) _ (λ e. cc e)
    (if_ends (is_byte cfg.comment c) (
      st.InComment,
      act.Skip,
    ) _ (λ e. cc e) (start_field_ends cfg c))

step_ends : (cfg : Config) (s : State) (c : ℕ) → Ends (step cfg s c)
step_ends cfg st.StartRecord c = start_record_ends cfg c
step_ends cfg st.StartField c = start_field_ends cfg c
step_ends cfg st.InField c = in_field_ends cfg c
step_ends cfg st.InQuoted c =
    if_ends (cfg.quoting && (c == cfg.quote)) (st.AfterQuote, act.Skip) _ (λ e. cc e)
    (if_ends (cfg.quoting && is_byte cfg.escape c) (st.InEscape, act.Skip) (
      st.InQuoted,
      act.Copy,
    ) (λ e. cc e) (λ e. cc e))
step_ends cfg st.InEscape c = λ e. cc e
step_ends cfg st.AfterQuote c =
    if_ends (cfg.quoting && cfg.double_quote && (c == cfg.quote)) (
      st.InQuoted,
      act.Copy,
    ) _ (λ e. cc e) (in_field_ends cfg c)
step_ends cfg st.InComment c = if_ends (c == 10) (st.StartRecord, act.Skip) (
  st.InComment,
  act.Skip,
) (λ e. cc e) (λ e. cc e)
step_ends cfg st.AfterCr c = if_ends (c == 10) (
  st.StartRecord,
  act.Skip,
) _ (λ e. cc e) (start_record_ends cfg c)

-- what a record takes of a text: one byte at least, or the end of the text inside a record
abbrev size : State → List ℕ → ℕ
size s xs = length xs + (if ends_at_end s then 1 else 0)

size_le : (s : State) (xs : List ℕ) → size s xs ≤ length xs + 1
size_le s xs = by (ends_at_end s)
  where
    by : (b : Bool) → length xs + (if b then 1 else 0) ≤ length xs + 1
    by true = omega arith
    by false = omega arith

-- a record leaves less, and a state between two records
abbrev Leaves : State → List ℕ → Read → Type 0
Leaves s xs p = IsBetween p.1 × (length p.2 < size s xs)

pub leaves : (cfg : Config) (s : State) (fs : List (List ℕ)) (f : List ℕ) (xs : List ℕ) (p : Read)
    → next_record cfg s fs f xs ≡ Some p → Leaves s xs p
unfolding next_record
leaves cfg s fs f [] p e = by (ends_at_end s) refl e
  where
    by : (b : Bool) → ends_at_end s ≡ b
        → (if b then Some (fs ++ (f ∷ []), st.StartRecord, []) else None) ≡ Some p → Leaves s [] p
    by true at h = subst (λ (o : Option Read). IfSome o (Leaves s [])) h (rw at (refl, omega arith))
    by false at h = cc h
leaves cfg s fs f (c ∷ rest) p e =
    by (is_end (step cfg s c).1) refl e (leaves cfg (step cfg s c).0
    (fields_after (step cfg s c).1 fs f) (field_after (step cfg s c).1 c f) rest p)
  where
    by : (b : Bool) → is_end (step cfg s c).1 ≡ b
        → (if b then Some (fields_after (step cfg s c).1 fs f, (step cfg s c).0, rest)
        else next_record cfg (step cfg s c).0 (fields_after (step cfg s c).1 fs f)
        (field_after (step cfg s c).1 c f) rest) ≡ Some p
        → (next_record cfg (step cfg s c).0 (fields_after (step cfg s c).1 fs f)
        (field_after (step cfg s c).1 c f) rest ≡ Some p → Leaves (step cfg s c).0 rest p)
        → Leaves s (c ∷ rest) p
    by true at h more = subst (λ (o : Option Read). IfSome o (Leaves s (c ∷ rest))) h
        (step_ends cfg s c at, omega arith)
    by false at h more =
        let m = more h in
        let few = size_le (step cfg s c).0 rest in
        (m.0, omega arith)

-- one number of turns is as good as another, where both are enough
fuel : (cfg : Config) (n m : ℕ) (s : State) (xs : List ℕ) → IsBetween s → length xs < n
    → length xs < m → records_from cfg n s xs ≡ records_from cfg m s xs
unfolding records_from
fuel cfg zero m s xs b p q = absurd (omega arith)
fuel cfg (suc n) zero s xs b p q = absurd (omega arith)
fuel cfg (suc n) (suc m) s xs b p q = by (next_record cfg s [] [] xs) refl (fuel cfg n m)
  where
    by : (o : Option Read) → next_record cfg s [] [] xs ≡ o
        → ((s2 : State) (ys : List ℕ) → IsBetween s2 → length ys < n → length ys < m
        → records_from cfg n s2 ys ≡ records_from cfg m s2 ys)
        → records_next (records_from cfg n) o ≡ records_next (records_from cfg m) o
    by None e more = refl
    by (Some r) e more =
        let l = rw b at (leaves cfg s [] [] xs r e) in
        ap (λ (t : List (List (List ℕ))). r.0 ∷ t) (more r.1 r.2 l.0 (omega arith) (omega arith))

-- all the records of a text
pub all_left : (cfg : Config) (xs : List ℕ) → records cfg xs ≡ rest cfg st.StartRecord xs
all_left cfg xs =
    fuel cfg (length xs + 1) (suc (length xs)) st.StartRecord xs refl (omega arith) (omega arith)

-- the next record, and then those after it
pub rest-some : (cfg : Config) (s : State) (xs : List ℕ) (p : Read) → IsBetween s
    → next_record cfg s [] [] xs ≡ Some p
    → IsBetween p.1 × (rest cfg s xs ≡ p.0 ∷ rest cfg p.1 p.2)
unfolding records_from
rest-some cfg s xs p b e =
    let l = rw b at (leaves cfg s [] [] xs p e) in (
      l.0,
      ap (records_next (records_from cfg (length xs))) e
          ∙ ap (λ (t : List (List (List ℕ))). p.0 ∷ t)
          (fuel cfg (length xs) (suc (length p.2)) p.1 p.2 l.0 (omega arith) (omega arith)),
    )

pub rest-none : (cfg : Config) (s : State) (xs : List ℕ) → next_record cfg s [] [] xs ≡ None
    → rest cfg s xs ≡ []
unfolding records_from
rest-none cfg s xs e = ap (records_next (records_from cfg (length xs))) e

-- the same, by the names of what was read
renamed : (s s2 : State) (y z : List ℕ) (f : List (List ℕ)) (p : Read) → f ≡ p.0
    → p.1 ≡ s2 → p.2 ≡ z
    → IsBetween p.1 × (rest default_config s y ≡ p.0 ∷ rest default_config p.1 p.2)
    → IsBetween s2 × (rest default_config s y ≡ f ∷ rest default_config s2 z)
renamed s s2 y z f p a b c h = rw (a, ← b, ← c) h

-- a read that found a record
pub row_step : {R : Type 0} (rem : R → Option (List ℕ)) (a b : Reader R)
    (f : List (List ℕ)) (y : List ℕ)
    → a.config ≡ default_config → source_of rem a ≡ Some y → IsBetween a.state
    → ReadRecord rem a b true f
    → IsBetween b.state × (z : List ℕ) × (source_of rem b ≡ Some z)
    × (rest default_config a.state y ≡ f ∷ rest default_config b.state z)
unfolding Reached
row_step rem a b f y config source between read =
    let (z, at_z, (p, next, fields, (state, bytes))) =
    rows-more rem a b f default_config a.state y y [] config source (refl, refl) read in
    let r = renamed a.state b.state y z f p fields state bytes
    (rest-some default_config a.state y p between next) in
    (r.0, z, at_z, r.1)

-- a read that found none
pub row_end : {R : Type 0} (rem : R → Option (List ℕ)) (a b : Reader R)
    (f : List (List ℕ)) (y : List ℕ)
    → a.config ≡ default_config → source_of rem a ≡ Some y → ReadRecord rem a b false f
    → rest default_config a.state y ≡ []
row_end rem a b f y config source read =
    rest-none default_config a.state y (rows-end rem a b f default_config y config source read)
