-- Batches that come again.
use Rattle.std.proofs.Common.{◌≡◌, ℕ, ◌+◌, ◌≤◌, ◌<◌, ◌||◌, List, [], ◌∷◌, ◌++◌, Bool, true, false}
use Rattle.std.proofs.Common.{cond, nat_lt, nat_le, refl, ap, sym, ◌∙◌, subst, arith, max, length}
use Rattle.std.proofs.Common.{None, append_assoc, filter}
use Rattle.std.specs.List.{list_any, AllByRecursion}
use Rattle.std.proofs.lemmas.List.{append-nil}
use Rattle.std.proofs.lemmas.Bool.{le-ltb}
use Rattle.std.proofs.lemmas.Bool.Decides.{nat_tests}
use Rattle.slo_limits.specs.declared.TheConstants as most
use Rattle.slo_limits.specs.declared.TheConstants.{WHOLE, MAX_AMOUNT}
use Rattle.slice_method.specs.declared.Amount.{Amount}
use Rattle.slice_method.specs.declared.Amount.TheVariants as amounts
use Rattle.slice_method.specs.declared.Reading.{Reading}
use Rattle.slice_method.specs.declared.Reading.TheVariants.{Good, Bad, Threshold, RawSuccess}
use Rattle.slice_method.specs.declared.Reading.TheVariants.{RawFailure}
use Rattle.slice_method.specs.Readings.{HasForm, IsSmall}
use Rattle.sample_book.specs.declared.Row.{Row}
use Rattle.sample_book.specs.declared.RowVerdict.{RowVerdict}
use Rattle.sample_book.specs.declared.RowVerdict.TheVariants.{New, Newer, Repeated, Superseded}
use Rattle.sample_book.specs.declared.RowVerdict.TheVariants.{Conflict}
use Rattle.sample_book.specs.History.{is_put}
use Rattle.sample_book.specs.Puts.{is_settled, verdicts}
use Rattle.sample_book.specs.Rows.{current_rows, verdict_of}
use Rattle.sample_book.proofs.BatchLemmas.{settled-once, settled-stays}
use Rattle.sample_book.proofs.CameLemmas.{pass-current}
use Rattle.object_terms.specs.declared.Object.{Object}
use Rattle.record_form.specs.declared.Command.{Command}
use Rattle.record_form.specs.declared.Command.TheVariants.{Define, Remove, PutZone, Samples}
use Rattle.record_form.specs.declared.Command.TheVariants.{Exclude, Lift, Tick, Take, Upgrade}
use Rattle.record_form.specs.declared.Entry.{Entry}
use Rattle.record_form.specs.declared.Refusal.TheVariants as refusals
use Rattle.record_form.specs.declared.LimitName.TheVariants as limits
use Rattle.office_history.specs.declared.Judgement.TheVariants.{Accepted, Same}
use Rattle.office_history.specs.Lists.{first_some}
use Rattle.office_history.specs.Batches.{amount_fault, conflict_fault, count, form_fault}
use Rattle.office_history.specs.Batches.{batch_outcome, objective_days, row_fault, rows_faults}
use Rattle.office_history.specs.Batches.{when}
use Rattle.office_history.specs.Catalog.{catalog_in}
use Rattle.office_history.specs.History.{accepted_rows, present, rows_in, rows_of}
use Rattle.office_history.specs.Judges.{Judges}
use Rattle.office_history.specs.Legal.{IsLegal, empty, followed, office}
use Rattle.office_history.specs.Objectives.{reading_named}
use Rattle.office_history.specs.Verdicts.{accepted, samples_verdict, unless_refused}
use Rattle.office_history.specs.Versions.{is_upgrade, is_upgraded, most_cells, most_rows}
use Rattle.office_derived.specs.Derived.{RowIsRead}
use Rattle.office_derived.proofs.More.{present_more, rows_more, upgraded_more}
use Rattle.office_derived.proofs.Sound.{more_cells, more_rows}
use Rattle.sample_changes.specs.Once.{BatchActsOnce}
use Rattle.sample_changes.proofs.GoodRows.{IsTaken, clean_row, first_parts}
use Rattle.sample_changes.proofs.Judged.{accepted_keeps}
use Rattle.sample_changes.proofs.Tallies.{accepted-more, verdicts_each}

-- each of these rows came, and changes nothing more
abbrev Settled : List Row → List Row → Type 0
Settled came rows =
    AllByRecursion (λ (row : Row). is_settled (verdict_of (current_rows came) row) ≡ true) rows

settled-later : (came more rows : List Row) → Settled came rows → Settled (came ++ more) rows
settled-later came more [] h = tt
settled-later came more (row ∷ rows) h = (
  settled-stays came more row h.0,
  settled-later came more rows h.1,
)

-- the rows of a batch that breaks no rule are settled when it has come
batch-settled : (u : Bool) (origin m : ℕ) (members : List Object)
    (came : List Row) (number : ℕ) (rows : List Row) →
    first_some (rows_faults u origin m members number rows (verdicts came rows)) ≡ None →
    Settled (came ++ rows) rows
batch-settled u origin m members came number [] h = tt
batch-settled u origin m members came number (row ∷ rows) h =
    let parts =
    first_parts (row_fault u origin m members row (verdict_of (current_rows came) row) number)
    (rows_faults u origin m members (number + 1) rows (verdicts (came ++ row ∷ []) rows)) h in
    let clean =
    clean_row u origin m members row (verdict_of (current_rows came) row) number parts.0 in
    let one : is_settled (verdict_of (current_rows ((came ++ row ∷ []) ++ rows)) row) ≡ true =
    settled-stays (came ++ row ∷ []) rows row (settled-once came row clean.agrees) in
    let rest : Settled ((came ++ row ∷ []) ++ rows) rows =
    batch-settled u origin m members (came ++ row ∷ []) (number + 1) rows parts.1 in
    subst (λ (all : List Row). Settled all (row ∷ rows)) (append_assoc came (row ∷ []) rows) (
      one,
      rest,
    )

-- a row's minute is over, and not before the origin, and the office takes its amount
record IsOver (u : Bool) (origin m : ℕ) (row : Row) : Type 0 where
  begun : origin ≤ row.minute
  over : row.minute < m
  taken : IsTaken u row.amount

-- what an office takes it takes too when it is upgraded
taken_later : (u v : Bool) (amount : Amount) → IsTaken u amount → IsTaken (v || u) amount
taken_later u v (amounts.Counts part total) h = λ n. refl
taken_later u v (amounts.Value measured) h = λ n. refl
taken_later u true amounts.Withdrawn h = λ n. refl
taken_later u false amounts.Withdrawn h = h

over_later : (u v : Bool) (origin m m' : ℕ) (rows : List Row) → m ≤ m' →
    AllByRecursion (IsOver u origin m) rows → AllByRecursion (IsOver (v || u) origin m') rows
over_later u v origin m m' [] l h = tt
over_later u v origin m m' (row ∷ rows) l h = (
  record {
    begun = h.0.begun;
    over = omega (arith, h.0.over, l);
    taken = taken_later u v row.amount h.0.taken;
  },
  over_later u v origin m m' rows l h.1,
)

batch-over : (u : Bool) (origin m : ℕ) (members : List Object)
    (number : ℕ) (rows : List Row) (vs : List RowVerdict) → length vs ≡ length rows →
    first_some (rows_faults u origin m members number rows vs) ≡ None →
    AllByRecursion (IsOver u origin m) rows
batch-over u origin m members number [] vs each h = tt
batch-over u origin m members number (row ∷ rows) [] each h = absurd (omega (arith, each))
batch-over u origin m members number (row ∷ rows) (v ∷ vs) each h =
    let parts = first_parts (row_fault u origin m members row v number)
    (rows_faults u origin m members (number + 1) rows vs) h in
    let clean = clean_row u origin m members row v number parts.0 in (
      record { begun = clean.good.begun; over = clean.good.over; taken = clean.taken },
      batch-over u origin m members (number + 1) rows vs (omega (arith, each)) parts.1,
    )

-- what an entry leaves in all histories that go on from it
record HasCome (u : Bool) (origin m : ℕ) (came rows : List Row) : Type 0 where
  few : length rows ≤ most.MAX_BATCH_ROWS
  over : AllByRecursion (IsOver u origin m) rows
  settled : Settled came rows

abbrev Leaves : Bool → ℕ → ℕ → List Row → Command → Type 0
Leaves u origin m came (Samples rows) = HasCome u origin m came rows
Leaves u origin m came _ = Unit {0}

leaves-later : (u v : Bool) (origin m m' : ℕ) (came more : List Row) (c : Command) → m ≤ m'
    → Leaves u origin m came c → Leaves (v || u) origin m' (came ++ more) c
leaves-later u v origin m m' came more (Samples rows) l h = record {
  few = h.few;
  over = over_later u v origin m m' rows l h.over;
  settled = settled-later came more rows h.settled;
}
leaves-later u v origin m m' came more (Define text) l h = tt
leaves-later u v origin m m' came more (Remove kind name) l h = tt
leaves-later u v origin m m' came more (PutZone name bytes) l h = tt
leaves-later u v origin m m' came more (Exclude value) l h = tt
leaves-later u v origin m m' came more (Lift id) l h = tt
leaves-later u v origin m m' came more Tick l h = tt
leaves-later u v origin m m' came more (Take number) l h = tt
leaves-later u v origin m m' came more Upgrade l h = tt

abbrev AllLeave : Bool → ℕ → ℕ → List Row → List Entry → Type 0
AllLeave u origin m came h = AllByRecursion (λ (e : Entry). Leaves u origin m came e.command) h

leave-push : (u v : Bool) (origin m m' : ℕ) (came more : List Row) (h : List Entry) (e : Entry) →
    m ≤ m' → AllLeave u origin m came h → Leaves (v || u) origin m' (came ++ more) e.command →
    AllLeave (v || u) origin m' (came ++ more) (h ++ e ∷ [])
leave-push u v origin m m' came more [] e l all here = (here, tt)
leave-push u v origin m m' came more (x ∷ h) e l all here = (
  leaves-later u v origin m m' came more x.command l all.0,
  leave-push u v origin m m' came more h e l all.1 here,
)

new-leaves : (origin : ℕ) (h : List Entry) (m : ℕ) (c : Command)
    → Judges (office origin h) m c Accepted
    → Leaves (is_upgrade c || is_upgraded h) origin m (rows_in h ++ rows_of c) c
new-leaves origin h m (Samples rows) v =
    let u = is_upgraded h in
    let keeps = accepted_keeps u origin m (catalog_in h) (rows_in h) (length h) rows (sym v) in
    record {
      few = keeps.few;
      over = batch-over u origin m (catalog_in h) 1 rows (verdicts (rows_in h) rows)
          (verdicts_each (rows_in h) rows) keeps.clean;
      settled = batch-settled u origin m (catalog_in h) (rows_in h) 1 rows keeps.clean;
    }
new-leaves origin h m (Define text) v = tt
new-leaves origin h m (Remove kind name) v = tt
new-leaves origin h m (PutZone name bytes) v = tt
new-leaves origin h m (Exclude value) v = tt
new-leaves origin h m (Lift id) v = tt
new-leaves origin h m Tick v = tt
new-leaves origin h m (Take number) v = tt
new-leaves origin h m Upgrade v = tt

present-moved : (origin : ℕ) (h : List Entry) (e : Entry) → present (office origin h) ≤ e.moment
    → present (office origin (h ++ e ∷ [])) ≡ e.moment
present-moved origin h e later = present_more (office origin h) e
    ∙ greater (present (office origin h)) e.moment later
  where
    greater : (a b : ℕ) → a ≤ b → max a b ≡ b
    greater a b h = omega (arith, h)

legal-leaves : (origin : ℕ) (h : List Entry) → IsLegal origin h
    → AllLeave (is_upgraded h) origin (present (office origin h)) (rows_in h) h
legal-leaves origin _ empty = tt
legal-leaves origin _ (followed {h = h} e legal may) =
    subst (λ m. AllLeave (is_upgraded (h ++ e ∷ [])) origin m (rows_in (h ++ e ∷ [])) (h ++ e ∷ []))
    (sym (present-moved origin h e may.later))
    (subst (λ (rows : List Row). AllLeave (is_upgraded (h ++ e ∷ [])) origin e.moment rows
    (h ++ e ∷ [])) (sym (rows_more h e))
    (subst (λ (u : Bool). AllLeave u origin e.moment (rows_in h ++ rows_of e.command) (h ++ e ∷ []))
    (sym (upgraded_more h e))
    (leave-push (is_upgraded h) (is_upgrade e.command) origin (present (office origin h))
    e.moment (rows_in h) (rows_of e.command) h e may.later (legal-leaves origin h legal)
    (new-leaves origin h e.moment e.command may.accepted))))

leaves-at : (u : Bool) (origin m : ℕ) (came : List Row) (before after : List Entry) (e : Entry)
    → AllLeave u origin m came (before ++ e ∷ after) → Leaves u origin m came e.command
leaves-at u origin m came [] after e all = all.0
leaves-at u origin m came (x ∷ before) after e all = leaves-at u origin m came before after e all.1

-- the limits of a legal history
record IsWithin (u : Bool) (came : List Row) : Type 0 where
  cells : length (current_rows came) ≤ most_cells u
  taken : accepted_rows came ≤ most_rows u

-- a command that brings no rows keeps them, and so does the upgrade
within-still : (v u : Bool) (came : List Row) → IsWithin u came → IsWithin (v || u) (came ++ [])
within-still false u came w = subst (IsWithin u) (sym (append-nil came)) w
within-still true u came w = subst (IsWithin true) (sym (append-nil came)) (record {
  cells = omega (arith, w.cells, more_cells u);
  taken = omega (arith, w.taken, more_rows u);
})

within-after : (origin : ℕ) (h : List Entry) (m : ℕ) (c : Command)
    → IsWithin (is_upgraded h) (rows_in h) → Judges (office origin h) m c Accepted
    → IsWithin (is_upgrade c || is_upgraded h) (rows_in h ++ rows_of c)
within-after origin h m (Samples rows) w v =
    let keeps =
    accepted_keeps (is_upgraded h) origin m (catalog_in h) (rows_in h) (length h) rows (sym v) in
    record { cells = keeps.cells; taken = keeps.taken }
within-after origin h m (Define text) w v = within-still false (is_upgraded h) (rows_in h) w
within-after origin h m (Remove kind name) w v = within-still false (is_upgraded h) (rows_in h) w
within-after origin h m (PutZone name bytes) w v = within-still false (is_upgraded h) (rows_in h) w
within-after origin h m (Exclude value) w v = within-still false (is_upgraded h) (rows_in h) w
within-after origin h m (Lift id) w v = within-still false (is_upgraded h) (rows_in h) w
within-after origin h m Tick w v = within-still false (is_upgraded h) (rows_in h) w
within-after origin h m (Take number) w v = within-still false (is_upgraded h) (rows_in h) w
within-after origin h m Upgrade w v = within-still true (is_upgraded h) (rows_in h) w

legal-within : (origin : ℕ) (h : List Entry) → IsLegal origin h
    → IsWithin (is_upgraded h) (rows_in h)
legal-within origin _ empty = record { cells = omega arith; taken = omega arith }
legal-within origin _ (followed {h = h} e legal may) =
    subst (λ (u : Bool). IsWithin u (rows_in (h ++ e ∷ []))) (sym (upgraded_more h e))
    (subst (IsWithin (is_upgrade e.command || is_upgraded h)) (sym (rows_more h e))
    (within-after origin h e.moment e.command (legal-within origin h legal) may.accepted))

-- a batch whose rows are settled puts nothing
settled-put : (v : RowVerdict) → is_settled v ≡ true → is_put v ≡ false
settled-put Repeated h = refl
settled-put (Superseded revision) h = refl
settled-put New h = cc h
settled-put (Newer kept) h = cc h
settled-put (Conflict kept) h = cc h

settled-agrees : (v : RowVerdict) (number : ℕ) → is_settled v ≡ true
    → conflict_fault v number ≡ None
settled-agrees Repeated number h = refl
settled-agrees (Superseded revision) number h = refl
settled-agrees New number h = cc h
settled-agrees (Newer kept) number h = cc h
settled-agrees (Conflict kept) number h = cc h

all-settled : (came rows : List Row) → Settled came rows
    → AllByRecursion (λ (v : RowVerdict). is_settled v ≡ true) (verdicts came rows)
all-settled came [] h = tt
all-settled came (row ∷ rows) h =
    (h.0, all-settled (came ++ row ∷ []) rows (settled-later came (row ∷ []) rows h.1))

none-put : (vs : List RowVerdict) → AllByRecursion (λ (v : RowVerdict). is_settled v ≡ true) vs
    → list_any is_put vs ≡ false
none-put [] h = refl
none-put (v ∷ vs) h = λ i. settled-put v h.0 i || none-put vs h.1 i

no-puts : (vs : List RowVerdict) → AllByRecursion (λ (v : RowVerdict). is_settled v ≡ true) vs
    → count is_put vs ≡ 0
no-puts [] h = refl
no-puts (v ∷ vs) h = by (is_put v) (settled-put v h.0) (no-puts vs h.1)
  where
    by : (b : Bool) → b ≡ false → count is_put vs ≡ 0
        → length (cond b (v ∷ filter is_put vs) (filter is_put vs)) ≡ 0
    by true e rest = cc e
    by false e rest = rest

same-current : (came rows : List Row) → Settled came rows
    → current_rows (came ++ rows) ≡ current_rows came
same-current came [] h = ap current_rows (append-nil came)
same-current came (row ∷ rows) h =
    ap current_rows (sym (append_assoc came (row ∷ []) rows))
    ∙ same-current (came ++ row ∷ []) rows (settled-later came (row ∷ []) rows h.1)
    ∙ pass-current came row (settled-put (verdict_of (current_rows came) row) h.0)

-- a row that is read breaks no rule of form
no_form_fault : (reading : Reading) (amount : Amount) (number : ℕ) → HasForm reading amount
    → IsSmall amount → amount_fault reading amount number ≡ None
no_form_fault Good (amounts.Counts part total) number form small =
    ap (λ b. when b (refusals.Counts number)) (whole part total form small)
  where
    whole : (part total : ℕ) → part ≤ total → total ≤ WHOLE
        → (nat_lt total part || nat_lt MAX_AMOUNT total) ≡ false
    whole part total f s = grind (arith, nat_tests, f, s)
no_form_fault Bad (amounts.Counts part total) number form small =
    ap (λ b. when b (refusals.Counts number)) (whole part total form small)
  where
    whole : (part total : ℕ) → part ≤ total → total ≤ WHOLE
        → (nat_lt total part || nat_lt MAX_AMOUNT total) ≡ false
    whole part total f s = grind (arith, nat_tests, f, s)
no_form_fault Threshold (amounts.Counts part total) number form small = absurd form
no_form_fault RawSuccess (amounts.Counts part total) number form small = absurd form
no_form_fault RawFailure (amounts.Counts part total) number form small = absurd form
no_form_fault Good (amounts.Value measured) number form small = absurd form
no_form_fault Bad (amounts.Value measured) number form small = absurd form
no_form_fault Threshold (amounts.Value measured) number form small = refl
no_form_fault RawSuccess (amounts.Value measured) number form small =
    ap (λ b. when b (refusals.Counts number)) (le-ltb WHOLE measured form)
no_form_fault RawFailure (amounts.Value measured) number form small =
    ap (λ b. when b (refusals.Counts number)) (le-ltb WHOLE measured form)
no_form_fault reading amounts.Withdrawn number form small = refl

no_row_fault : (u : Bool) (origin m : ℕ) (members : List Object) (row : Row) (v : RowVerdict)
    (number : ℕ) → RowIsRead members row → IsOver u origin m row → is_settled v ≡ true
    → row_fault u origin m members row v number ≡ None
no_row_fault u origin m members row v number read over settled =
    λ i. first_some (
    form i
    ∷ when (early row.minute origin over.begun i) (refusals.Early row.minute origin number)
    ∷ when (late m row.minute over.over i) (refusals.OpenMinute row.minute m number)
    ∷ settled-agrees v number settled i
    ∷ [])
  where
    form : form_fault u (reading_named members row.sli) row number ≡ None
    form = ap (λ reading. form_fault u reading row number) read.1
        ∙ (λ i. first_some (over.taken number i
        ∷ no_form_fault read.0 row.amount number read.2 read.3 i ∷ []))

    early : (a b : ℕ) → b ≤ a → nat_lt a b ≡ false
    early a b h = grind (arith, nat_tests, h)

    late : (a b : ℕ) → b < a → nat_le a b ≡ false
    late a b h = grind (arith, nat_tests, h)

no_faults : (u : Bool) (origin m : ℕ) (members : List Object)
    (number : ℕ) (rows : List Row) (vs : List RowVerdict)
    → AllByRecursion (RowIsRead members) rows →
    AllByRecursion (IsOver u origin m) rows →
    AllByRecursion (λ (v : RowVerdict). is_settled v ≡ true) vs →
    first_some (rows_faults u origin m members number rows vs) ≡ None
no_faults u origin m members number [] vs read over settled = refl
no_faults u origin m members number (row ∷ rows) [] read over settled = refl
no_faults u origin m members number (row ∷ rows) (v ∷ vs) read over settled =
    ap (λ fault. first_some (fault ∷ rows_faults u origin m members (number + 1) rows vs))
    (no_row_fault u origin m members row v number read.0 over.0 settled.0)
    ∙ no_faults u origin m members (number + 1) rows vs read.1 over.1 settled.1

same_again : (u : Bool) (origin m : ℕ) (members : List Object) (came : List Row) (n : ℕ)
    (rows : List Row) → HasCome u origin m came rows → IsWithin u came →
    AllByRecursion (RowIsRead members) rows →
    objective_days members (current_rows came) ≤ most.MAX_DAYS →
    samples_verdict u origin m members came n rows ≡ Same (batch_outcome (verdicts came rows) None)
same_again u origin m members came n rows h w read days =
    let vs = all-settled came rows h.settled in
    let same = same-current came rows h.settled in
    let taken : accepted_rows (came ++ rows) ≤ most_rows u =
    omega (arith, accepted-more came rows, no-puts (verdicts came rows) vs, w.taken) in
    let cells : length (current_rows (came ++ rows)) ≤ most_cells u =
    omega (arith, ap length same, w.cells) in
    let few_days : objective_days members (current_rows (came ++ rows)) ≤ most.MAX_DAYS =
    omega (arith, ap (objective_days members) same, days) in
    λ i. unless_refused (first_some (
    when (le-ltb most.MAX_BATCH_ROWS (length rows) h.few i) (refusals.Limit limits.Rows)
    ∷ no_faults u origin m members 1 rows (verdicts came rows) read h.over vs i
    ∷ when (le-ltb (most_cells u) (length (current_rows (came ++ rows))) cells i)
    (refusals.Limit limits.Cells)
    ∷ when (le-ltb (most_rows u) (accepted_rows (came ++ rows)) taken i)
    (refusals.Limit limits.Accepted)
    ∷ when (le-ltb most.MAX_DAYS (objective_days members (current_rows (came ++ rows))) few_days i)
    (refusals.Limit limits.Days)
    ∷ []))
    (cond (none-put (verdicts came rows) vs i) (accepted n)
    (Same (batch_outcome (verdicts came rows) None)))

pub batch_once : BatchActsOnce
batch_once origin h before after e rows moment legal split is later read days =
    let u = is_upgraded h in
    let m = present (office origin h) in
    let all = legal-leaves origin h legal in
    let come : HasCome u origin m (rows_in h) rows =
    subst (Leaves u origin m (rows_in h)) is
    (leaves-at u origin m (rows_in h) before after e
    (subst (AllLeave u origin m (rows_in h)) split all)) in
    sym (same_again u origin moment (catalog_in h) (rows_in h) (length h) rows
    (record {
      few = come.few;
      over = over_later u false origin m moment rows later come.over;
      settled = come.settled;
    })
    (legal-within origin h legal) read days)
