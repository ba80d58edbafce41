-- What is stored of rows gives them back.
use Rattle.std.proofs.Common.{◌≡◌, ◌≢◌, ◌∙◌, ℕ, zero, suc, ◌+◌, ◌*◌, ◌/◌, ◌%◌, ◌<◌, ◌≤◌, List, []}
use Rattle.std.proofs.Common.{◌∷◌, ◌++◌, length, set, replicate, slice_get, Some}
use Rattle.std.proofs.Common.{max, refl, ap, sym, subst, arith, length-set, length-append}
use Rattle.std.specs.List.{All}
use Rattle.std.proofs.lemmas.List.{length-replicate, get_or_push}
use Rattle.std.proofs.lemmas.List.Elements.{All-get_or, All-nil, All-push, All-set}
use Rattle.std.proofs.lemmas.Option.{get_or_from_slice_get, slice_get_within}
use Rattle.slice_method.specs.declared.Amount.{Amount}
use Rattle.slice_method.specs.declared.Amount.TheVariants as amounts
use Rattle.sample_book.specs.declared.stored.Form.{Form}
use Rattle.sample_book.specs.declared.stored.Form.TheVariants.{Events}
use Rattle.sample_book.specs.declared.stored.Numbers.{Numbers}
use Rattle.sample_book.specs.declared.stored.Stored.{Stored}
use Rattle.sample_book.specs.Stored.{AreStored, HasAmount, IsAmount, IsSetAt, amount_of, form_at}
use Rattle.sample_book.specs.Stored.{form_of, numbers_of, pair_of, rows_of, stored_as}

-- the numbers of an amount give it back with its form
amount_back : (amount : Amount)
    → amount_of (form_of amount) (pair_of amount).0 (pair_of amount).1 ≡ amount
amount_back (amounts.Counts part total) = refl
amount_back (amounts.Value value) =
    let whole : value / 1000000000 * 1000000000 + value % 1000000000 ≡ value = omega arith in
    ap (λ (n : ℕ). amounts.Value n) whole
amount_back amounts.Withdrawn = refl

-- and those of a row the row
stored_back : (stored : Stored) → stored_as (form_of stored.amount) (numbers_of stored) ≡ stored
stored_back stored =
    λ i. record { revision = stored.revision; amount = amount_back stored.amount i }

pub length-rows_of : (numbers : List Numbers) (form : ℕ → Form)
    → length (rows_of numbers form) ≡ length numbers
length-rows_of [] form = refl
length-rows_of (n ∷ numbers) form =
    ap suc (length-rows_of numbers (λ place. form (suc place)))

pub row_stored_at : (numbers : List Numbers) (form : ℕ → Form) (place : ℕ) (n : Numbers) →
    slice_get numbers place ≡ Some n →
    slice_get (rows_of numbers form) place ≡ Some (stored_as (form place) n)
row_stored_at [] form place n e = cc e
row_stored_at (m ∷ numbers) form zero n e =
    let same : m ≡ n = cc e in ap (λ (x : Numbers). Some (stored_as (form 0) x)) same
row_stored_at (m ∷ numbers) form (suc place) n e =
    row_stored_at numbers (λ place. form (suc place)) place n e

-- the forms of the rows behind the first one
set_behind : (old new : ℕ → Form) (place : ℕ) (form : Form) → IsSetAt old new (suc place) form
    → IsSetAt (λ k. old (suc k)) (λ k. new (suc k)) place form
set_behind old new place form h = record {
  there = h.there;
  others = λ k other. h.others (suc k) (λ e. other (same k place e));
}
  where
    same : (m n : ℕ) → suc m ≡ suc n → m ≡ n
    same m n e = omega (arith, e)

zero_suc : (n : ℕ) → zero ≢ suc n
zero_suc n e = omega (arith, e)

suc_zero : (n : ℕ) → suc n ≢ zero
suc_zero n e = omega (arith, e)

-- a row is put in the place of another
rows_set : (numbers : List Numbers) (old new : ℕ → Form) (place : ℕ) (n : Numbers) (form : Form) →
    IsSetAt old new place form →
    rows_of (set numbers place n) new ≡ set (rows_of numbers old) place (stored_as form n)
rows_set [] old new place n form h = refl
rows_set (m ∷ numbers) old new zero n form h =
    λ i. stored_as (h.there i) n
    ∷ rows_of numbers (λ k. h.others (suc k) (suc_zero k) i)
rows_set (m ∷ numbers) old new (suc place) n form h =
    λ i. stored_as (h.others zero (zero_suc place) i) m
    ∷ rows_set numbers (λ k. old (suc k)) (λ k. new (suc k)) place n form
    (set_behind old new place form h) i

-- or behind the others
rows_push : (numbers : List Numbers) (old new : ℕ → Form) (n : Numbers) (form : Form) →
    IsSetAt old new (length numbers) form →
    rows_of (numbers ++ n ∷ []) new ≡ rows_of numbers old ++ stored_as form n ∷ []
rows_push [] old new n form h = λ i. stored_as (h.there i) n ∷ []
rows_push (m ∷ numbers) old new n form h =
    λ i. stored_as (h.others zero (zero_suc (length numbers)) i) m
    ∷ rows_push numbers (λ k. old (suc k)) (λ k. new (suc k)) n form
    (set_behind old new (length numbers) form h) i

-- no rows are stored
pub none_stored : (numbers : List Numbers) (forms : List Form) (room : ℕ) → numbers ≡ []
    → forms ≡ [] → AreStored numbers forms room
none_stored numbers forms room e f =
    subst (λ (ns : List Numbers). AreStored ns forms room) (sym e)
    (subst (λ (fs : List Form). AreStored [] fs room) (sym f) (record {
      short = omega arith;
      ready = omega arith;
      decimals = All-nil HasAmount;
    }))

-- the amount of a stored row is one
pub amount_at : (numbers : List Numbers) (forms : List Form) (place : ℕ) (n : Numbers)
    (form : Form) →
    All HasAmount (rows_of numbers (form_at forms)) → slice_get numbers place ≡ Some n →
    form ≡ form_at forms place → IsAmount (amount_of form n.first n.second)
amount_at numbers forms place n form all at e =
    let rows = rows_of numbers (form_at forms) in
    let stored = stored_as (form_at forms place) n in
    let there : slice_get rows place ≡ Some stored =
    row_stored_at numbers (form_at forms) place n at in
    subst (λ (f : Form). IsAmount (amount_of f n.first n.second)) (sym e)
    (subst HasAmount (get_or_from_slice_get rows place stored stored there)
    (All-get_or HasAmount rows place stored (slice_get_within rows place stored there) all))

-- rows are stored as these
pub record AreKept (numbers : List Numbers) (forms : List Form) (room : ℕ)
    (rows : List Stored) : Type 0 where
  pub rows_are : rows_of numbers (form_at forms) ≡ rows
  pub stored : AreStored numbers forms room

-- a row is put in the place of another
pub kept_set : (numbers : List Numbers) (forms forms' : List Form) (place room room' : ℕ)
    (stored : Stored) →
    AreStored numbers forms room → place < length numbers →
    IsSetAt (form_at forms) (form_at forms') place (form_of stored.amount) →
    length forms' ≤ max (length forms) (place + 1) → room ≤ room' → HasAmount stored →
    AreKept (set numbers place (numbers_of stored)) forms' room'
    (set (rows_of numbers (form_at forms)) place stored)
kept_set numbers forms forms' place room room' stored kept below is few more amount =
    let rows = rows_of numbers (form_at forms) in
    let long = length-set numbers place (numbers_of stored) in
    let are : rows_of (set numbers place (numbers_of stored)) (form_at forms')
    ≡ set rows place stored
    = rows_set numbers (form_at forms) (form_at forms') place (numbers_of stored)
    (form_of stored.amount) is
    ∙ ap (λ (s : Stored). set rows place s) (stored_back stored) in
    record {
      rows_are = are;
      stored = record {
        short = omega (arith, long, few, below, kept.short);
        ready = omega (arith, long, more, kept.ready);
        decimals = subst (All HasAmount) (sym are)
            (All-set HasAmount rows place stored amount kept.decimals);
      };
    }

-- or behind the others
pub kept_push : (numbers : List Numbers) (forms forms' : List Form) (place room room' : ℕ)
    (stored : Stored) →
    AreStored numbers forms room → place ≡ length numbers → place < room →
    IsSetAt (form_at forms) (form_at forms') place (form_of stored.amount) →
    length forms' ≤ max (length forms) (place + 1) → room ≤ room' → HasAmount stored →
    AreKept (numbers ++ numbers_of stored ∷ []) forms' room'
    (rows_of numbers (form_at forms) ++ stored ∷ [])
kept_push numbers forms forms' place room room' stored kept behind below is few more amount =
    let rows = rows_of numbers (form_at forms) in
    let long = length-append numbers (numbers_of stored ∷ []) in
    let are : rows_of (numbers ++ numbers_of stored ∷ []) (form_at forms') ≡ rows ++ stored ∷ []
    = rows_push numbers (form_at forms) (form_at forms') (numbers_of stored) (form_of stored.amount)
    (subst (λ (n : ℕ). IsSetAt (form_at forms) (form_at forms') n (form_of stored.amount))
    behind is)
    ∙ ap (λ (s : Stored). rows ++ s ∷ []) (stored_back stored) in
    record {
      rows_are = are;
      stored = record {
        short = omega (arith, long, few, behind, kept.short);
        ready = omega (arith, long, more, behind, below);
        decimals = subst (All HasAmount) (sym are)
            (All-push HasAmount rows stored kept.decimals amount);
      };
    }

-- events are counted behind the last form
events_behind : (forms : List Form) (more place : ℕ)
    → form_at (forms ++ replicate more Events) place ≡ form_at forms place
events_behind [] zero place = refl
events_behind [] (suc more) zero = refl
events_behind [] (suc more) (suc place) = events_behind [] more place
events_behind (f ∷ forms) more zero = refl
events_behind (f ∷ forms) more (suc place) = events_behind forms more place

others_behind : (forms : List Form) (form : Form) (place : ℕ) → place ≢ length forms
    → form_at (forms ++ form ∷ []) place ≡ form_at forms place
others_behind [] form zero other = absurd (other refl)
others_behind [] form (suc place) other = refl
others_behind (f ∷ forms) form zero other = refl
others_behind (f ∷ forms) form (suc place) other =
    others_behind forms form place (λ e. other (ap suc e))

-- A form comes behind the others: the rows between count events.
pub form_added : (forms forms' : List Form) (more place : ℕ) (form : Form) →
    length forms + more ≡ place → forms' ≡ (forms ++ replicate more Events) ++ form ∷ [] →
    IsSetAt (form_at forms) (form_at forms') place form
form_added forms forms' more place form long e =
    let longer : List Form = forms ++ replicate more Events in
    let count : length longer ≡ place = omega (
      arith,
      length-append forms (replicate more Events),
      length-replicate more Events,
      long,
    ) in
    subst (λ (fs : List Form). IsSetAt (form_at forms) (form_at fs) place form) (sym e) (record {
      there = get_or_push longer form Events place count;
      others = λ k other. others_behind longer form k (λ same. other (same ∙ count))
          ∙ events_behind forms more k;
    })
