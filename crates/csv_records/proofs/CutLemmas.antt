-- The records of a text that is cut are those of its parts.
use Rattle.std.proofs.Common.{◌≡◌, ◌∙◌, ◌<◌, ◌++◌, ℕ, zero, suc, List, [], ◌∷◌, length, Option}
use Rattle.std.proofs.Common.{Some, None, Bool, true, false, refl, sym, ap, arith, if◌then◌else◌}
use Rattle.csv.specs.Machine.{Read, ends_at_end, fields_after, field_after, is_end, next_record}
use Rattle.csv.specs.Machine.{step}
use Rattle.csv.specs.Reading.{default_config, records_from, records_next, strip_bom}
use Rattle.csv.specs.declared.parser.State.{State}
use Rattle.csv.specs.declared.parser.State.TheVariants as st
use Rattle.csv.specs.declared.parser.Action.{Action}
use Rattle.csv.specs.declared.parser.Action.TheVariants as act
use Rattle.csv_records.specs.Records.{Fields, csv_records}
use Rattle.csv_records.specs.Left.{IsBetween, rest}
use Rattle.csv_records.proofs.Rest.{all_left, leaves}
use Rattle.csv_records.proofs.PlaceLemmas.{state_after}

-- the records of a text that has no byte order mark
abbrev pub plain_records : List ℕ → List Fields
plain_records bytes = rest default_config st.StartRecord bytes

-- the records of these bytes, behind a state with fields and a field at hand
abbrev go : State → List (List ℕ) → List ℕ → List ℕ → List Fields
go s fs f [] = if ends_at_end s then (fs ++ (f ∷ [])) ∷ [] else []
go s fs f (c ∷ r) =
    if is_end (step default_config s c).1 then fields_after (step default_config s c).1 fs f
    ∷ go (step default_config s c).0 [] [] r
    else go (step default_config s c).0 (fields_after (step default_config s c).1 fs f)
    (field_after (step default_config s c).1 c f) r

abbrev behind : Option Read → List Fields
behind None = []
behind (Some p) = p.0 ∷ go p.1 [] [] p.2

go_next : (s : State) (fs : List (List ℕ)) (f xs : List ℕ)
    → go s fs f xs ≡ behind (next_record default_config s fs f xs)
unfolding next_record
go_next s fs f [] = by (ends_at_end s)
  where
    by : (b : Bool) → (if b then (fs ++ (f ∷ [])) ∷ [] else [])
        ≡ behind (if b then Some (fs ++ (f ∷ []), st.StartRecord, []) else None)
    by true = refl
    by false = refl
go_next s fs f (c ∷ r) =
    by (is_end (step default_config s c).1)
    (go_next (step default_config s c).0 (fields_after (step default_config s c).1 fs f)
    (field_after (step default_config s c).1 c f) r)
  where
    by : (b : Bool)
        → go (step default_config s c).0 (fields_after (step default_config s c).1 fs f)
        (field_after (step default_config s c).1 c f) r
        ≡ behind (next_record default_config (step default_config s c).0
        (fields_after (step default_config s c).1 fs f)
        (field_after (step default_config s c).1 c f) r)
        → (if b then fields_after (step default_config s c).1 fs f
        ∷ go (step default_config s c).0 [] [] r
        else go (step default_config s c).0 (fields_after (step default_config s c).1 fs f)
        (field_after (step default_config s c).1 c f) r)
        ≡ behind (if b then Some (
          fields_after (step default_config s c).1 fs f,
          (step default_config s c).0,
          r,
        )
        else next_record default_config (step default_config s c).0
        (fields_after (step default_config s c).1 fs f)
        (field_after (step default_config s c).1 c f) r)
    by true h = refl
    by false h = h

from_go : (n : ℕ) (s : State) (xs : List ℕ) → IsBetween s → length xs < n
    → records_from default_config n s xs ≡ go s [] [] xs
unfolding records_from
from_go zero s xs b p = absurd (omega arith)
from_go (suc n) s xs b p = by (next_record default_config s [] [] xs) refl (go_next s [] [] xs)
    (from_go n)
  where
    by : (o : Option Read) → next_record default_config s [] [] xs ≡ o
        → go s [] [] xs ≡ behind (next_record default_config s [] [] xs)
        → ((s2 : State) (ys : List ℕ) → IsBetween s2 → length ys < n
        → records_from default_config n s2 ys ≡ go s2 [] [] ys)
        → records_next (records_from default_config n) o ≡ go s [] [] xs
    by None e g more = sym (g ∙ ap behind e)
    by (Some r) e g more =
        let l = rw b at (leaves default_config s [] [] xs r e) in
        ap (λ (t : List Fields). r.0 ∷ t) (more r.1 r.2 l.0 (omega arith)) ∙ sym (g ∙ ap behind e)

rest_go : (xs : List ℕ) → plain_records xs ≡ go st.StartRecord [] [] xs
rest_go xs = from_go (suc (length xs)) st.StartRecord xs refl (omega arith)

-- nothing is at hand in these states
abbrev is_clear : State → Bool
is_clear st.StartRecord = true
is_clear st.AfterCr = true
is_clear st.InComment = true
is_clear _ = false

clear_next : (s : State) (c : ℕ) → is_end (step default_config s c).1 ≡ false
    → is_clear (step default_config s c).0 ≡ true
    → (is_clear s ≡ true) × ((step default_config s c).1 ≡ act.Skip)
clear_next s c e h = grind arith

abbrev IsNeat : State → List (List ℕ) → List ℕ → Type 0
IsNeat s fs f = is_clear s ≡ true → (fs ≡ []) × (f ≡ [])

skipped : (a : Action) (c : ℕ) (fs : List (List ℕ)) (f : List ℕ) → a ≡ act.Skip
    → (fields_after a fs f ≡ fs) × (field_after a c f ≡ f)
skipped a c fs f e = rw e (refl, refl)

neat_next : (s : State) (c : ℕ) (fs : List (List ℕ)) (f : List ℕ) → IsNeat s fs f
    → is_end (step default_config s c).1 ≡ false
    → IsNeat (step default_config s c).0 (fields_after (step default_config s c).1 fs f)
    (field_after (step default_config s c).1 c f)
neat_next s c fs f neat e h =
    let n = clear_next s c e h in
    let k = skipped (step default_config s c).1 c fs f n.1 in
    let z = neat n.0 in
    (k.0 ∙ z.0, k.1 ∙ z.1)

joined : (s : State) (fs : List (List ℕ)) (f xs ys : List ℕ) → IsNeat s fs f
    → state_after s xs ≡ st.StartRecord
    → go s fs f (xs ++ ys) ≡ go s fs f xs ++ go st.StartRecord [] [] ys
joined s fs f [] ys neat e =
    let n = neat (ap is_clear e) in
    rw (e, n.0, n.1) refl
joined s fs f (c ∷ r) ys neat e =
    by (is_end (step default_config s c).1) refl
    (joined (step default_config s c).0 [] [] r ys (λ h. (refl, refl)) e)
    (λ at. joined (step default_config s c).0 (fields_after (step default_config s c).1 fs f)
    (field_after (step default_config s c).1 c f) r ys (neat_next s c fs f neat at) e)
  where
    by : (b : Bool) → is_end (step default_config s c).1 ≡ b
        → go (step default_config s c).0 [] [] (r ++ ys)
        ≡ go (step default_config s c).0 [] [] r ++ go st.StartRecord [] [] ys
        → (is_end (step default_config s c).1 ≡ false
        → go (step default_config s c).0 (fields_after (step default_config s c).1 fs f)
        (field_after (step default_config s c).1 c f) (r ++ ys)
        ≡ go (step default_config s c).0 (fields_after (step default_config s c).1 fs f)
        (field_after (step default_config s c).1 c f) r ++ go st.StartRecord [] [] ys)
        → (if b then fields_after (step default_config s c).1 fs f
        ∷ go (step default_config s c).0 [] [] (r ++ ys)
        else go (step default_config s c).0 (fields_after (step default_config s c).1 fs f)
        (field_after (step default_config s c).1 c f) (r ++ ys))
        ≡ (if b then fields_after (step default_config s c).1 fs f
        ∷ go (step default_config s c).0 [] [] r
        else go (step default_config s c).0 (fields_after (step default_config s c).1 fs f)
        (field_after (step default_config s c).1 c f) r) ++ go st.StartRecord [] [] ys
    by true at h k = ap (λ (t : List Fields). fields_after (step default_config s c).1 fs f ∷ t) h
    by false at h k = k at

-- the records of a text that is cut are those of its parts
pub records_cut : (xs ys : List ℕ) → state_after st.StartRecord xs ≡ st.StartRecord
    → plain_records (xs ++ ys) ≡ plain_records xs ++ plain_records ys
records_cut xs ys e =
    rest_go (xs ++ ys) ∙ joined st.StartRecord [] [] xs ys (λ h. (refl, refl)) e
    ∙ sym (rw (rest_go xs, rest_go ys) refl)

no_mark : (xs : List ℕ) → strip_bom (10 ∷ xs) ≡ 10 ∷ xs
unfolding strip_bom
no_mark [] = refl
no_mark (a ∷ []) = refl
no_mark (a ∷ b ∷ r) = refl

-- a line feed in front is no record, and no byte order mark
pub records_behind_feed : (xs : List ℕ) → csv_records (10 ∷ xs) ≡ plain_records xs
records_behind_feed xs =
    rw (no_mark xs) (all_left default_config (10 ∷ xs) ∙ rest_go (10 ∷ xs) ∙ sym (rest_go xs))

-- the records of a text are those behind its byte order mark
pub records_plain : (xs : List ℕ) → csv_records xs ≡ plain_records (strip_bom xs)
records_plain xs = all_left default_config (strip_bom xs)
