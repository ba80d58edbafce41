-- Current rows are accepted, so many at a time.
use Rattle.std.proofs.Common.{◌≡◌, ℕ, zero, suc, ◌+◌, ◌/◌, ◌==◌, ◌<◌, ◌≤◌, Bool, true, false, cond}
use Rattle.std.proofs.Common.{not, ◌||◌, List, [], ◌∷◌, ◌++◌, map, filter, refl, sym, ap}
use Rattle.std.proofs.Common.{◌∙◌, length, subst, arith, Option, Some, None, nat_lt, nat_le, take}
use Rattle.std.proofs.Common.{drop, append-nil, append_assoc, find, length-append, max}
use Rattle.std.specs.List.{AllByRecursion, IsDistinct, list_any}
use Rattle.std.proofs.lemmas.Bool.Decides.{nat_tests}
use Rattle.std.proofs.lemmas.Bool.{le-ltb}
use Rattle.std.proofs.lemmas.List.{take-append-drop}
use Rattle.std.proofs.Math.Nat.{mul-le-mul_left}
use Rattle.std.proofs.lemmas.List.Elements.{filter-append}
use Rattle.std.proofs.lemmas.List.Sums.{sum_by-cons}
use Rattle.slo_limits.specs.declared.TheConstants as most
use Rattle.slice_method.specs.declared.Amount.{Amount}
use Rattle.slice_method.specs.declared.Amount.TheVariants as amounts
use Rattle.slice_method.specs.declared.Reading.{Reading}
use Rattle.slice_method.specs.declared.Reading.TheVariants.{Good, Bad, Threshold, RawSuccess}
use Rattle.slice_method.specs.declared.Reading.TheVariants.{RawFailure}
use Rattle.slice_method.specs.Readings.{HasForm, IsSmall}
use Rattle.slo_terms.specs.Rows.{first_of_each}
use Rattle.object_terms.specs.declared.Object.{Object}
use Rattle.object_terms.specs.declared.Slo.{Slo}
use Rattle.object_terms.specs.Slo.{slo_in}
use Rattle.sample_book.specs.declared.Row.{Row}
use Rattle.sample_book.specs.declared.RowVerdict.{RowVerdict}
use Rattle.sample_book.specs.declared.RowVerdict.TheVariants.{New}
use Rattle.sample_book.specs.Counting.{is_of}
use Rattle.sample_book.specs.Exclusions.{Change}
use Rattle.sample_book.specs.History.{is_put}
use Rattle.sample_book.specs.Puts.{verdicts}
use Rattle.sample_book.specs.Rows.{current_rows, kept_of, same_cell, verdict_of, verdict_where}
use Rattle.slo_terms.proofs.CurrentLemmas.{current-of_distinct}
use Rattle.sample_book.proofs.StandingLemmas.{cell_laws}
use Rattle.record_form.specs.declared.Command.TheVariants.{Samples}
use Rattle.record_form.specs.declared.LimitName.TheVariants as limits
use Rattle.record_form.specs.declared.Refusal.{Refusal}
use Rattle.record_form.specs.declared.Refusal.TheVariants as refusals
use Rattle.office_history.specs.declared.Judgement.{Judgement}
use Rattle.office_history.specs.declared.Judgement.TheVariants.{Accepted, Same}
use Rattle.office_history.specs.Batches.{when, amount_fault, form_fault, conflict_fault, row_fault}
use Rattle.office_history.specs.Batches.{rows_faults, batch_fault, days_of, days_of_slo}
use Rattle.office_history.specs.Batches.{objective_days, batch_outcome}
use Rattle.office_history.specs.Catalog.{catalog_in}
use Rattle.office_history.specs.History.{Office, moment_of, present, end_of, accepted_rows, rows_in}
use Rattle.office_history.specs.Lists.{first_some}
use Rattle.office_history.specs.Verdicts.{unless_refused, accepted, samples_verdict}
use Rattle.office_history.specs.Versions.{is_upgraded, most_cells, most_rows}
use Rattle.office_derived.specs.Derived.{RowIsRead}
use Rattle.sample_changes.proofs.GoodRows.{IsTaken}
use Rattle.sample_changes.proofs.Tallies.{verdicts_each}
use Rattle.export_terms.specs.Parts.{parts_within}
use Rattle.export_laws.specs.Replay.{after, after_all, AreAccepted}
use Rattle.export_laws.proofs.Steps.{Stands, stands_after, may_follow}
use Rattle.export_laws.proofs.Definitions.{room_for_one}

-- DISTINCT CELLS

front_distinct : (xs ys : List Row) → IsDistinct same_cell (xs ++ ys) → IsDistinct same_cell xs
unfolding IsDistinct
front_distinct [] ys h = tt
front_distinct (x ∷ xs) ys h = (front xs h.0, front_distinct xs ys h.1)
  where
    front : (xs : List Row) → AllByRecursion (λ y. same_cell x y ≡ false) (xs ++ ys)
        → AllByRecursion (λ y. same_cell x y ≡ false) xs
    front [] k = tt
    front (y ∷ xs) k = (k.0, front xs k.1)

pub current_front : (xs ys : List Row) → IsDistinct same_cell (xs ++ ys) → current_rows xs ≡ xs
current_front xs ys h = current-of_distinct same_cell (λ (row : Row). row.revision) cell_laws xs
    (front_distinct xs ys h)

none_kept : (came rows : List Row) (row : Row) → IsDistinct same_cell (came ++ row ∷ rows)
    → kept_of came row ≡ None
unfolding IsDistinct
none_kept [] rows row h = refl
none_kept (c ∷ came) rows row h =
    ap (λ b. cond b (Some c) (find (same_cell row) came)) (cell_laws.symm row c ∙ among came h.0)
    ∙ none_kept came rows row h.1
  where
    among : (came : List Row)
        → AllByRecursion (λ y. same_cell c y ≡ false) (came ++ row ∷ rows) → same_cell c row ≡ false
    among [] k = k.0
    among (d ∷ came) k = among came k.1

-- each row is new
all_new : (came rows : List Row) → IsDistinct same_cell (came ++ rows)
    → AllByRecursion (λ v. v ≡ New) (verdicts came rows)
all_new came [] h = tt
all_new came (row ∷ rows) h = (
  ap (λ kept. verdict_of kept row) (current_front came (row ∷ rows) h)
      ∙ ap (λ o. verdict_where o row) (none_kept came rows row h),
  all_new (came ++ row ∷ []) rows
      (subst (IsDistinct same_cell) (sym (append_assoc came (row ∷ []) rows)) h),
)

-- NO FAULT

passes : (b : Bool) (refusal : Refusal) → b ≡ false → when b refusal ≡ None
passes b refusal h = ap (λ c. when c refusal) h

amount_passes : (reading : Reading) (amount : Amount) (number : ℕ) → HasForm reading amount
    → IsSmall amount → amount_fault reading amount number ≡ None
amount_passes Good (amounts.Counts part total) number h k =
    passes (nat_lt total part || nat_lt most.MAX_AMOUNT total) (refusals.Counts number)
    (grind (arith, nat_tests, h, k))
amount_passes Bad (amounts.Counts part total) number h k =
    passes (nat_lt total part || nat_lt most.MAX_AMOUNT total) (refusals.Counts number)
    (grind (arith, nat_tests, h, k))
amount_passes Threshold (amounts.Value measured) number h k = refl
amount_passes RawSuccess (amounts.Value measured) number h k =
    passes (nat_lt most.WHOLE measured) (refusals.Counts number) (grind (arith, nat_tests, h))
amount_passes RawFailure (amounts.Value measured) number h k =
    passes (nat_lt most.WHOLE measured) (refusals.Counts number) (grind (arith, nat_tests, h))
amount_passes reading amounts.Withdrawn number h k = refl
amount_passes Good (amounts.Value measured) number h k = absurd h
amount_passes Bad (amounts.Value measured) number h k = absurd h
amount_passes Threshold (amounts.Counts part total) number h k = absurd h
amount_passes RawSuccess (amounts.Counts part total) number h k = absurd h
amount_passes RawFailure (amounts.Counts part total) number h k = absurd h

-- a row that may be sent
pub record CanCome (upgraded : Bool) (origin now : ℕ) (members : List Object) (row : Row) :
    Type 0 where
  pub read : RowIsRead members row
  pub taken : IsTaken upgraded row.amount
  pub begun : origin ≤ row.minute
  pub over : row.minute < now

row_passes : (upgraded : Bool) (origin now moment : ℕ) (members : List Object) (row : Row)
    (v : RowVerdict)
    (number : ℕ) → CanCome upgraded origin now members row → now ≤ moment → v ≡ New
    → row_fault upgraded origin moment members row v number ≡ None
row_passes upgraded origin now moment members row v number can later new =
    let r = can.read in
    (λ i. first_some (
    form_fault upgraded (r.1 i) row number
    ∷ when (begun (nat_lt row.minute origin) refl i) (refusals.Early row.minute origin number)
    ∷ when (over (nat_le moment row.minute) refl i) (refusals.OpenMinute row.minute moment number)
    ∷ conflict_fault (new i) number
    ∷ []))
    ∙ (λ i. first_some (first_some (can.taken number i
    ∷ amount_passes r.0 row.amount number r.2 r.3 i ∷ []) ∷ None ∷ None ∷ None ∷ []))
  where
    begun : (b : Bool) → nat_lt row.minute origin ≡ b → b ≡ false
    begun false e = refl
    begun true e = absurd (grind (arith, nat_tests, can.begun, e))

    over : (b : Bool) → nat_le moment row.minute ≡ b → b ≡ false
    over false e = refl
    over true e = absurd (grind (arith, nat_tests, can.over, later, e))

no_faults : (upgraded : Bool) (origin now moment : ℕ) (members : List Object) (number : ℕ)
    (rows : List Row)
    (vs : List RowVerdict) → AllByRecursion (CanCome upgraded origin now members) rows
    → now ≤ moment
    → AllByRecursion (λ v. v ≡ New) vs
    → first_some (rows_faults upgraded origin moment members number rows vs) ≡ None
no_faults upgraded origin now moment members number [] vs can later new = refl
no_faults upgraded origin now moment members number (row ∷ rows) [] can later new = refl
no_faults upgraded origin now moment members number (row ∷ rows) (v ∷ vs) can later new =
    ap (λ f. first_some (f ∷ rows_faults upgraded origin moment members (number + 1) rows vs))
    (row_passes upgraded origin now moment members row v number can.0 later new.0)
    ∙ no_faults upgraded origin now moment members (number + 1) rows vs can.1 later new.1

-- LIMITS

filter_less : {A : Type 0} (p : A → Bool) (xs : List A) → length (filter p xs) ≤ length xs
filter_less p [] = omega arith
filter_less p (x ∷ xs) = by (p x) (filter_less p xs)
  where
    by : (b : Bool) → length (filter p xs) ≤ length xs
        → length (cond b (x ∷ filter p xs) (filter p xs)) ≤ length (x ∷ xs)
    by true h = omega (arith, h)
    by false h = omega (arith, h)

-- as many rows as there may be cells are no more than there may be rows
within_rows : (upgraded : Bool) (taken cells : ℕ) → taken ≤ cells → cells ≤ most_cells upgraded
    → taken ≤ most_rows upgraded
within_rows true taken cells h k = omega (arith, h, k)
within_rows false taken cells h k = omega (arith, h, k)

few_accepted : (rows : List Row) → accepted_rows rows ≤ length rows
few_accepted rows = omega (arith, filter_less is_put (verdicts [] rows), verdicts_each [] rows)

-- the firsts of a front are the front of the firsts
more_firsts : {A : Type 0} (same : A → A → Bool) (xs ys : List A)
    → (zs : List A) × (first_of_each same (xs ++ ys) ≡ first_of_each same xs ++ zs)
more_firsts same [] ys = (first_of_each same ys, refl)
more_firsts same (x ∷ xs) ys =
    let m = more_firsts same xs ys in (
      filter (λ later. not (same x later)) m.0,
      ap (λ fs. x ∷ filter (λ later. not (same x later)) fs) m.1
          ∙ ap (λ fs. x ∷ fs) (filter-append (λ later. not (same x later)) (first_of_each same xs)
          m.0),
    )

front_firsts : {A : Type 0} (same : A → A → Bool) (xs ys : List A)
    → length (first_of_each same xs) ≤ length (first_of_each same (xs ++ ys))
front_firsts same xs ys = let m = more_firsts same xs ys in
    omega (arith, ap length m.1, length-append (first_of_each same xs) m.0)

map_append : {A B : Type 0} (f : A → B) (xs ys : List A) → map f (xs ++ ys) ≡ map f xs ++ map f ys
map_append f [] ys = refl
map_append f (x ∷ xs) ys = ap (λ zs. f x ∷ zs) (map_append f xs ys)

abbrev day : Row → ℕ
day row = row.minute / most.MINUTES_A_DAY

fewer_days : (xs ys : List Row) (sli : List ℕ) → days_of xs sli ≤ days_of (xs ++ ys) sli
fewer_days xs ys sli =
    let all : map day (filter (is_of sli) (xs ++ ys))
    ≡ map day (filter (is_of sli) xs) ++ map day (filter (is_of sli) ys) =
    ap (map day) (filter-append (is_of sli) xs ys)
    ∙ map_append day (filter (is_of sli) xs) (filter (is_of sli) ys) in
    subst (λ (ds : List ℕ). days_of xs sli ≤ length (first_of_each (λ a b. a == b) ds)) (sym all)
    (front_firsts (λ a b. a == b) (map day (filter (is_of sli) xs))
    (map day (filter (is_of sli) ys)))

fewer_of_slo : (xs ys : List Row) (s : Option Slo) → days_of_slo xs s ≤ days_of_slo (xs ++ ys) s
fewer_of_slo xs ys None = omega arith
fewer_of_slo xs ys (Some slo) =
    mul-le-mul_left (length slo.objectives) (fewer_days xs ys slo.indicator)

pub fewer_pairs : (members : List Object) (xs ys : List Row)
    → objective_days members xs ≤ objective_days members (xs ++ ys)
fewer_pairs [] xs ys = omega arith
fewer_pairs (o ∷ os) xs ys = omega (
  arith,
  sum_by-cons (λ (p : Object). days_of_slo xs (slo_in p.body)) o os,
  sum_by-cons (λ (p : Object). days_of_slo (xs ++ ys) (slo_in p.body)) o os,
  fewer_of_slo xs ys (slo_in o.body),
  fewer_pairs os xs ys,
)

-- BATCHES

some_put : (v : RowVerdict) (vs : List RowVerdict) → v ≡ New → list_any is_put (v ∷ vs) ≡ true
some_put v vs e = ap (λ w. is_put w || list_any is_put vs) e

-- a batch of new rows, within all limits
batch_is_accepted : (upgraded : Bool) (origin now moment : ℕ) (members : List Object)
    (came : List Row) (entries : ℕ)
    (row : Row) (rows : List Row) → IsDistinct same_cell (came ++ row ∷ rows)
    → AllByRecursion (CanCome upgraded origin now members) (row ∷ rows) → now ≤ moment
    → length (row ∷ rows) ≤ most.MAX_BATCH_ROWS → length (came ++ row ∷ rows) ≤ most_cells upgraded
    → objective_days members (came ++ row ∷ rows) ≤ most.MAX_DAYS → entries < most.MAX_ENTRIES
    → Accepted ≡ samples_verdict upgraded origin moment members came entries (row ∷ rows)
batch_is_accepted upgraded origin now moment members came entries row rows distinct can later few
    cells days
    room =
    let all = came ++ row ∷ rows in
    let new = all_new came (row ∷ rows) distinct in
    let current : current_rows all ≡ all =
    current_front all [] (subst (IsDistinct same_cell) (sym (append-nil all)) distinct) in
    let taken : accepted_rows all ≤ most_rows upgraded =
    within_rows upgraded (accepted_rows all) (length all) (few_accepted all) cells in
    let otherwise : Judgement =
    cond (list_any is_put (verdicts came (row ∷ rows))) (accepted entries)
    (Same (batch_outcome (verdicts came (row ∷ rows)) None)) in
    sym (
    (λ i. unless_refused (first_some (
    when (nat_lt most.MAX_BATCH_ROWS (length (row ∷ rows))) (refusals.Limit limits.Rows)
    ∷ batch_fault upgraded origin moment members came (row ∷ rows)
    ∷ when (nat_lt (most_cells upgraded) (length (current i))) (refusals.Limit limits.Cells)
    ∷ when (nat_lt (most_rows upgraded) (accepted_rows all)) (refusals.Limit limits.Accepted)
    ∷ when (nat_lt most.MAX_DAYS (objective_days members (current i))) (refusals.Limit limits.Days)
    ∷ [])) otherwise)
    ∙ (λ i. unless_refused (first_some (
    when (le-ltb most.MAX_BATCH_ROWS (length (row ∷ rows)) few i) (refusals.Limit limits.Rows)
    ∷ no_faults upgraded origin now moment members 1 (row ∷ rows) (verdicts came (row ∷ rows)) can
    later
    new i
    ∷ when (le-ltb (most_cells upgraded) (length all) cells i) (refusals.Limit limits.Cells)
    ∷ when (le-ltb (most_rows upgraded) (accepted_rows all) taken i)
    (refusals.Limit limits.Accepted)
    ∷ when (le-ltb most.MAX_DAYS (objective_days members all) days i) (refusals.Limit limits.Days)
    ∷ [])) otherwise)
    ∙ ap (λ b. cond b (accepted entries) (Same (batch_outcome (verdicts came (row ∷ rows)) None)))
    (some_put (verdict_of (current_rows came) row) (verdicts (came ++ row ∷ []) rows) new.0)
    ∙ room_for_one entries room)

-- ONE BATCH AFTER ANOTHER

front_all : (P : Row → Type 0) (n : ℕ) (xs : List Row) → AllByRecursion P xs
    → AllByRecursion P (take n xs)
front_all P zero xs h = tt
front_all P (suc n) [] h = tt
front_all P (suc n) (x ∷ xs) h = (h.0, front_all P n xs h.1)

back_all : (P : Row → Type 0) (n : ℕ) (xs : List Row) → AllByRecursion P xs
    → AllByRecursion P (drop n xs)
back_all P zero xs h = h
back_all P (suc n) [] h = tt
back_all P (suc n) (x ∷ xs) h = back_all P n xs h.1

taken_few : (n : ℕ) (xs : List Row) → length (take n xs) ≤ n
taken_few zero xs = omega arith
taken_few (suc n) [] = omega arith
taken_few (suc n) (x ∷ xs) = omega (arith, taken_few n xs)

left_few : (n : ℕ) (xs : List Row) → length (drop n xs) ≤ length xs
left_few zero xs = omega arith
left_few (suc n) [] = omega arith
left_few (suc n) (x ∷ xs) = omega (arith, left_few n xs)

pub few_parts : (fuel size : ℕ) (xs : List Row) → length (parts_within fuel size xs) ≤ fuel
few_parts zero size xs = omega arith
few_parts (suc fuel) size [] = omega arith
few_parts (suc fuel) size (x ∷ xs) = omega (arith, few_parts fuel size (drop size (x ∷ xs)))

module _ (origin now : ℕ) (upgraded : Bool) (members : List Object) (kept : List (List ℕ × List ℕ))
    (changes : List Change) where
  ended : (o : Office) (came : List Row) (entries : ℕ)
      → Stands origin upgraded members kept came changes entries o
      → Stands origin upgraded members kept (came ++ []) changes (0 + entries) o
  ended o came entries s = subst (λ (p : List Row × ℕ). Stands origin upgraded members kept p.0
      changes p.1 o)
      (λ i. (sym (append-nil came) i, number i)) s
    where
      number : entries ≡ 0 + entries
      number = omega arith

  pub rows_accepted : (o : Office) (came todo : List Row) (fuel size : ℕ) (readings : List ℕ)
      (entries : ℕ) → Stands origin upgraded members kept came changes entries o
      → IsDistinct same_cell (came ++ todo) → AllByRecursion (CanCome upgraded origin now members)
      todo
      → length (came ++ todo) ≤ most_cells upgraded
      → objective_days members (came ++ todo) ≤ most.MAX_DAYS
      → length todo ≤ fuel → suc size ≤ most.MAX_BATCH_ROWS
      → length (parts_within fuel (suc size) todo) + entries ≤ most.MAX_ENTRIES
      → length readings ≡ length (parts_within fuel (suc size) todo)
      → AllByRecursion (λ r. now ≤ r) readings → AllByRecursion (λ r. r < end_of origin) readings
      → AreAccepted o (map Samples (parts_within fuel (suc size) todo)) readings
      × Stands origin upgraded members kept (came ++ todo) changes
      (length (parts_within fuel (suc size) todo) + entries)
      (after_all o (map Samples (parts_within fuel (suc size) todo)) readings)
  rows_accepted o came [] zero size [] entries s distinct can cells days fuelled small few as_many
      later below = (tt, ended o came entries s)
  rows_accepted o came [] zero size (r ∷ rs) entries s distinct can cells days fuelled small few
      as_many later below = absurd (omega (arith, as_many))
  rows_accepted o came (x ∷ xs) zero size rs entries s distinct can cells days fuelled small few
      as_many later below = absurd (omega (arith, fuelled))
  rows_accepted o came [] (suc fuel) size [] entries s distinct can cells days fuelled small few
      as_many later below = (tt, ended o came entries s)
  rows_accepted o came [] (suc fuel) size (r ∷ rs) entries s distinct can cells days fuelled small
      few as_many later below = absurd (omega (arith, as_many))
  rows_accepted o came (x ∷ xs) (suc fuel) size [] entries s distinct can cells days fuelled small
      few as_many later below = absurd (omega (arith, as_many))
  rows_accepted o came (x ∷ xs) (suc fuel) size (r ∷ rs) entries s distinct can cells days fuelled
      small few as_many later below =
      let batch : List Row = x ∷ take size xs in
      let rest : List Row = drop size xs in
      let whole : batch ++ rest ≡ x ∷ xs = ap (λ ys. x ∷ ys) (take-append-drop size xs) in
      let split : (came ++ batch) ++ rest ≡ came ++ x ∷ xs =
      append_assoc came batch rest ∙ ap (λ ys. came ++ ys) whole in
      let mine : IsDistinct same_cell (came ++ batch) =
      front_distinct (came ++ batch) rest (subst (IsDistinct same_cell) (sym split) distinct) in
      let few_cells : length (came ++ batch) ≤ most_cells upgraded =
      omega (arith, cells, ap length split, length-append (came ++ batch) rest) in
      let pairs : objective_days members (came ++ batch) ≤ objective_days members (came ++ x ∷ xs) =
      subst (λ rows. objective_days members (came ++ batch) ≤ objective_days members rows) split
      (fewer_pairs members (came ++ batch) rest) in
      let few_days : objective_days members (came ++ batch) ≤ most.MAX_DAYS =
      omega (arith, pairs, days) in
      let accepts : Accepted ≡ samples_verdict (is_upgraded o.history) o.origin (moment_of o r)
      (catalog_in o.history)
      (rows_in o.history) (length o.history) batch =
      batch_is_accepted upgraded origin now (moment_of o r) members came entries x (take size xs)
      mine
      (can.0, front_all (CanCome upgraded origin now members) size xs can.1)
      (later_than (present o) r now later.0) (omega (arith, small, taken_few size xs)) few_cells
      few_days (omega (arith, few))
      ∙ (λ i. samples_verdict (sym s.version_is i) (sym s.origin_is i) (moment_of o r)
      (sym s.catalog_is i)
      (sym s.rows_are i) (sym s.counted i) batch) in
      let then : Stands origin upgraded members kept (came ++ batch) changes (entries + 1)
      (after o r (Samples batch)) =
      subst (λ (p : List (List ℕ × List ℕ) × List Change). Stands origin upgraded members p.0
      (came ++ batch)
      p.1 (entries + 1) (after o r (Samples batch)))
      (λ i. (append-nil kept i, append-nil changes i))
      (stands_after origin upgraded members kept came changes entries o r (Samples batch) s below.0)
      in
      let more = rows_accepted (after o r (Samples batch)) (came ++ batch) rest fuel size rs
      (entries + 1) then (subst (IsDistinct same_cell) (sym split) distinct)
      (back_all (CanCome upgraded origin now members) size xs can.1)
      (subst (λ (rows : List Row). length rows ≤ most_cells upgraded) (sym split) cells)
      (subst (λ (rows : List Row). objective_days members rows ≤ most.MAX_DAYS) (sym split) days)
      (omega (arith, fuelled, left_few size xs)) small (omega (arith, few)) (omega (arith, as_many))
      later.1 below.1 in (
        (
          may_follow o origin r (Samples batch) s.origin_is s.in_range below.0 accepts,
          more.0,
        ),
        subst (λ (p : List Row × ℕ). Stands origin upgraded members kept p.0 changes p.1
            (after_all (after o r (Samples batch)) (map Samples (parts_within fuel (suc size) rest))
            rs)) (λ i. (split i, counted i)) more.1,
      )
    where
      counted : length (parts_within fuel (suc size) (drop size xs)) + (entries + 1)
          ≡ suc (length (parts_within fuel (suc size) (drop size xs))) + entries
      counted = omega arith

      later_than : (a b n : ℕ) → n ≤ b → n ≤ max a b
      later_than a b n h = grind (arith, nat_tests, h)
