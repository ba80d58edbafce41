-- A batch over what is kept is judged as over all rows that came, and what an accepted one keeps.
use Rattle.std.proofs.Common.{◌≡◌, ℕ, ◌+◌, ◌≤◌, ◌<◌, ◌++◌, List, [], ◌∷◌, Bool, true, false, cond}
use Rattle.std.proofs.Common.{nat_lt, refl, ap, sym, ◌∙◌, arith, length, Option, Some, None}
use Rattle.std.specs.List.{list_any}
use Rattle.std.proofs.lemmas.Bool.{ltb-true, ltb-false, le-ltb, lt-ltb}
use Rattle.slo_limits.specs.declared.TheConstants as most
use Rattle.sample_book.specs.declared.Row.{Row}
use Rattle.sample_book.specs.declared.RowVerdict.{RowVerdict}
use Rattle.sample_book.specs.History.{is_put}
use Rattle.sample_book.specs.Puts.{is_new, verdicts}
use Rattle.sample_book.specs.Rows.{current_rows}
use Rattle.sample_book.proofs.BatchLemmas.{current-append, length-verdicts, verdicts-over}
use Rattle.object_terms.specs.declared.Object.{Object}
use Rattle.record_form.specs.declared.Refusal.{Refusal}
use Rattle.record_form.specs.declared.Refusal.TheVariants as refusals
use Rattle.record_form.specs.declared.LimitName.TheVariants as limits
use Rattle.office_history.specs.declared.Judgement.{Judgement}
use Rattle.office_history.specs.declared.Judgement.TheVariants.{Accepted, Same, Refused}
use Rattle.office_history.specs.Lists.{first_some}
use Rattle.office_history.specs.History.{Office, accepted_rows, current_in, rows_in}
use Rattle.office_history.specs.Catalog.{catalog_in}
use Rattle.office_history.specs.Batches.{when, batch_fault, count, objective_days, rows_faults}
use Rattle.office_history.specs.Batches.{batch_outcome}
use Rattle.office_history.specs.Verdicts.{accepted, samples_verdict, unless_refused}
use Rattle.office_history.specs.Versions.{is_upgraded, most_cells, most_rows}
use Rattle.office_derived.specs.declared.Derived.{Derived}
use Rattle.office_derived.specs.Derived.{IsJudged, Reflects}
use Rattle.record_form.specs.declared.Command.TheVariants as commands
use Rattle.office_derived.specs.declared.Verdict.{Verdict}
use Rattle.office_derived.specs.declared.Verdict.TheVariants as judged
use Rattle.office_derived.specs.declared.BatchTally.{BatchTally}
use Rattle.office_derived.specs.declared.Work.{Work}
use Rattle.office_derived.specs.declared.Work.TheVariants as works
use Rattle.office_derived.specs.Tallies.{changes, tally_of, tally_outcome}
use Rattle.sample_changes.specs.Judging.{faultless_verdict, rows_fault, rows_verdict}
use Rattle.sample_changes.specs.Works.{ComesTo}
use Rattle.sample_changes.proofs.Tallies.{accepted-more, any_put, count_put}

-- the verdict by what is counted
abbrev by_parts : Bool → Option Refusal → ℕ → ℕ → ℕ → List RowVerdict → ℕ → Judgement
by_parts u fault cells taken days vs entries =
    unless_refused (first_some (
    fault
    ∷ when (nat_lt (most_cells u) cells) (refusals.Limit limits.Cells)
    ∷ when (nat_lt (most_rows u) taken) (refusals.Limit limits.Accepted)
    ∷ when (nat_lt most.MAX_DAYS days) (refusals.Limit limits.Days)
    ∷ []))
    (cond (list_any is_put vs) (accepted entries) (Same (batch_outcome vs None)))

abbrev with_rows : Bool → Bool → Option Refusal → ℕ → ℕ → ℕ → List RowVerdict → ℕ → Judgement
with_rows u many fault cells taken days vs entries =
    unless_refused (first_some (
    when many (refusals.Limit limits.Rows)
    ∷ fault
    ∷ when (nat_lt (most_cells u) cells) (refusals.Limit limits.Cells)
    ∷ when (nat_lt (most_rows u) taken) (refusals.Limit limits.Accepted)
    ∷ when (nat_lt most.MAX_DAYS days) (refusals.Limit limits.Days)
    ∷ []))
    (cond (list_any is_put vs) (accepted entries) (Same (batch_outcome vs None)))

over_current : (u : Bool) (origin m : ℕ) (members : List Object) (came : List Row) (n : ℕ)
    (rows : List Row) →
    rows_verdict u origin m members (current_rows came) (accepted_rows came) n rows
    ≡ by_parts u (batch_fault u origin m members came rows) (length (current_rows (came ++ rows)))
    (accepted_rows (came ++ rows)) (objective_days members (current_rows (came ++ rows)))
    (verdicts came rows) n
over_current u origin m members came n rows =
    λ i. by_parts u (first_some (rows_faults u origin m members 1 rows (verdicts-over came rows i)))
    (length (current-append came rows i)) (taken i)
    (objective_days members (current-append came rows i)) (verdicts-over came rows i) n
  where
    taken : accepted_rows came + count is_put (verdicts (current_rows came) rows)
        ≡ accepted_rows (came ++ rows)
    taken = ap (λ vs. accepted_rows came + count is_put vs) (verdicts-over came rows)
        ∙ sym (accepted-more came rows)

-- What is kept judges a batch as the history does.
pub verdict_seen : (d : Derived) (o : Office) (m : ℕ) (rows : List Row) → Reflects d o →
    length rows ≤ most.MAX_BATCH_ROWS →
    samples_verdict (is_upgraded o.history) o.origin m (catalog_in o.history) (rows_in o.history)
    (length o.history) rows
    ≡ rows_verdict d.upgraded d.origin m d.catalog d.book.rows d.accepted d.entries rows
verdict_seen d o m rows r few =
    let u = is_upgraded o.history in
    let came = rows_in o.history in
    ap (λ many. with_rows u many (batch_fault u o.origin m (catalog_in o.history) came rows)
    (length (current_rows (came ++ rows))) (accepted_rows (came ++ rows))
    (objective_days (catalog_in o.history) (current_rows (came ++ rows))) (verdicts came rows)
    (length o.history)) (le-ltb most.MAX_BATCH_ROWS (length rows) few)
    ∙ sym (over_current u o.origin m (catalog_in o.history) came (length o.history) rows)
    ∙ sym (λ i. rows_verdict (r.upgraded i) (r.origin i) m (r.catalog i) (r.rows i) (r.accepted i)
    (r.entries i) rows)

-- A batch of too many rows is refused for it.
pub too_many : (u : Bool) (origin m : ℕ) (members : List Object) (came : List Row) (n : ℕ)
    (rows : List Row) →
    most.MAX_BATCH_ROWS < length rows →
    samples_verdict u origin m members came n rows ≡ Refused (refusals.Limit limits.Rows)
too_many u origin m members came n rows h =
    ap (λ many. with_rows u many (batch_fault u origin m members came rows)
    (length (current_rows (came ++ rows))) (accepted_rows (came ++ rows))
    (objective_days members (current_rows (came ++ rows))) (verdicts came rows) n)
    (lt-ltb most.MAX_BATCH_ROWS (length rows) h)

-- What an accepted batch keeps.
pub record IsAccepted (u : Bool) (origin m : ℕ) (members : List Object) (came : List Row) (n : ℕ)
    (rows : List Row) : Type 0 where
  pub few : length rows ≤ most.MAX_BATCH_ROWS
  pub clean : batch_fault u origin m members came rows ≡ None
  pub cells : length (current_rows (came ++ rows)) ≤ most_cells u
  pub taken : accepted_rows (came ++ rows) ≤ most_rows u
  pub room : n < most.MAX_ENTRIES

pub accepted_keeps : (u : Bool) (origin m : ℕ) (members : List Object) (came : List Row) (n : ℕ)
    (rows : List Row) → samples_verdict u origin m members came n rows ≡ Accepted →
    IsAccepted u origin m members came n rows
accepted_keeps u origin m members came n rows h =
    by (nat_lt most.MAX_BATCH_ROWS (length rows)) (batch_fault u origin m members came rows)
    (nat_lt (most_cells u) (length (current_rows (came ++ rows))))
    (nat_lt (most_rows u) (accepted_rows (came ++ rows)))
    (nat_lt most.MAX_DAYS (objective_days members (current_rows (came ++ rows))))
    (list_any is_put (verdicts came rows)) (nat_lt n most.MAX_ENTRIES) refl refl refl refl refl h
  where
    by : (a : Bool) (f : Option Refusal) (b c d p q : Bool) →
        nat_lt most.MAX_BATCH_ROWS (length rows) ≡ a →
        batch_fault u origin m members came rows ≡ f →
        nat_lt (most_cells u) (length (current_rows (came ++ rows))) ≡ b →
        nat_lt (most_rows u) (accepted_rows (came ++ rows)) ≡ c →
        nat_lt n most.MAX_ENTRIES ≡ q →
        unless_refused (first_some (
        when a (refusals.Limit limits.Rows) ∷ f ∷ when b (refusals.Limit limits.Cells)
        ∷ when c (refusals.Limit limits.Accepted) ∷ when d (refusals.Limit limits.Days) ∷ []))
        (cond p (cond q Accepted (Refused (refusals.Limit limits.Entries)))
        (Same (batch_outcome (verdicts came rows) None))) ≡ Accepted
        → IsAccepted u origin m members came n rows
    by true f b c d p q ea ef eb ec eq h = cc h
    by false (Some r) b c d p q ea ef eb ec eq h = cc h
    by false None true c d p q ea ef eb ec eq h = cc h
    by false None false true d p q ea ef eb ec eq h = cc h
    by false None false false true p q ea ef eb ec eq h = cc h
    by false None false false false false q ea ef eb ec eq h = cc h
    by false None false false false true false ea ef eb ec eq h = cc h
    by false None false false false true true ea ef eb ec eq h = record {
      few = ltb-false most.MAX_BATCH_ROWS (length rows) ea;
      clean = ef;
      cells = ltb-false (most_cells u) (length (current_rows (came ++ rows))) eb;
      taken = ltb-false (most_rows u) (accepted_rows (came ++ rows)) ec;
      room = ltb-true n most.MAX_ENTRIES eq;
    }

-- the first fault of a batch, by what is counted
abbrev fault_by : Bool → Option Refusal → ℕ → ℕ → ℕ → Option Refusal
fault_by u fault cells taken days = first_some (
    fault
    ∷ when (nat_lt (most_cells u) cells) (refusals.Limit limits.Cells)
    ∷ when (nat_lt (most_rows u) taken) (refusals.Limit limits.Accepted)
    ∷ when (nat_lt most.MAX_DAYS days) (refusals.Limit limits.Days)
    ∷ [])

pub over_cells : (u : Bool) (fault : Option Refusal) (cells taken days : ℕ) → fault ≡ None
    → most_cells u < cells → Some (refusals.Limit limits.Cells) ≡ fault_by u fault cells taken days
over_cells u fault cells taken days e h =
    sym (λ i. first_some (
    e i ∷ when (lt-ltb (most_cells u) cells h i) (refusals.Limit limits.Cells)
    ∷ when (nat_lt (most_rows u) taken) (refusals.Limit limits.Accepted)
    ∷ when (nat_lt most.MAX_DAYS days) (refusals.Limit limits.Days) ∷ []))

pub over_taken : (u : Bool) (fault : Option Refusal) (cells taken days : ℕ) → fault ≡ None →
    cells ≤ most_cells u → most_rows u < taken →
    Some (refusals.Limit limits.Accepted) ≡ fault_by u fault cells taken days
over_taken u fault cells taken days e f h =
    sym (λ i. first_some (
    e i ∷ when (le-ltb (most_cells u) cells f i) (refusals.Limit limits.Cells)
    ∷ when (lt-ltb (most_rows u) taken h i) (refusals.Limit limits.Accepted)
    ∷ when (nat_lt most.MAX_DAYS days) (refusals.Limit limits.Days) ∷ []))

by_days : (u : Bool) (fault : Option Refusal) (cells taken days : ℕ) (b : Bool) → fault ≡ None →
    cells ≤ most_cells u → taken ≤ most_rows u → nat_lt most.MAX_DAYS days ≡ b →
    first_some (when b (refusals.Limit limits.Days) ∷ []) ≡ fault_by u fault cells taken days
by_days u fault cells taken days b e f g h =
    sym (λ i. first_some (
    e i ∷ when (le-ltb (most_cells u) cells f i) (refusals.Limit limits.Cells)
    ∷ when (le-ltb (most_rows u) taken g i) (refusals.Limit limits.Accepted)
    ∷ when (h i) (refusals.Limit limits.Days) ∷ []))

-- how many cells there are then, and how many rows were accepted
pub batch_cells : (kept rows : List Row) (tally : BatchTally) → current_rows kept ≡ kept → tally
    ≡ tally_of (verdicts kept rows) → length (current_rows (kept ++ rows)) ≡ length kept + tally.new
batch_cells kept rows tally current e = length-verdicts kept rows
    ∙ (λ i. length (current i) + count is_new (verdicts kept rows))
    ∙ ap (λ (t : BatchTally). length kept + t.new) (sym e)

pub batch_taken : (taken : ℕ) (kept rows : List Row) (tally : BatchTally)
    → tally ≡ tally_of (verdicts kept rows)
    → taken + count is_put (verdicts kept rows) ≡ taken + (tally.new + tally.newer)
batch_taken taken kept rows tally e = ap (λ n. taken + n) (count_put (verdicts kept rows))
    ∙ ap (λ (t : BatchTally). taken + (t.new + t.newer)) (sym e)

-- a batch without a fault
pub batch_clean : (u : Bool) (origin m : ℕ) (members : List Object) (kept rows : List Row)
    (vs : List RowVerdict) (found : Option Refusal) → vs ≡ verdicts kept rows →
    found ≡ first_some (rows_faults u origin m members 1 rows vs) → found ≡ None →
    batch_fault u origin m members kept rows ≡ None
batch_clean u origin m members kept rows vs found judged is none =
    ap (λ vs. first_some (rows_faults u origin m members 1 rows vs)) (sym judged) ∙ sym is ∙ none

-- the limit of days decides on a batch that keeps all rules before it
pub days_decide : (d : Derived) (moment : ℕ) (rows : List Row) (vs : List RowVerdict)
    (tally : BatchTally) (found : Option Refusal) (passes : Bool) → vs ≡ verdicts d.book.rows rows →
    tally ≡ tally_of vs → current_rows d.book.rows ≡ d.book.rows →
    found ≡ first_some (rows_faults d.upgraded d.origin moment d.catalog 1 rows vs) → found ≡ None →
    length d.book.rows + tally.new ≤ most_cells d.upgraded →
    d.accepted + (tally.new + tally.newer) ≤ most_rows d.upgraded →
    nat_lt most.MAX_DAYS (objective_days d.catalog (current_rows (d.book.rows ++ rows))) ≡ passes →
    first_some (when passes (refusals.Limit limits.Days) ∷ [])
    ≡ rows_fault d.upgraded d.origin moment d.catalog d.book.rows d.accepted rows
days_decide d moment rows vs tally found passes judged counted current is none few taken days =
    let tallied : tally ≡ tally_of (verdicts d.book.rows rows) = counted ∙ ap tally_of judged in
    by_days d.upgraded (batch_fault d.upgraded d.origin moment d.catalog d.book.rows rows)
    (length (current_rows (d.book.rows ++ rows)))
    (d.accepted + count is_put (verdicts d.book.rows rows))
    (objective_days d.catalog (current_rows (d.book.rows ++ rows))) passes
    (batch_clean d.upgraded d.origin moment d.catalog d.book.rows rows vs found judged is none)
    (omega (arith, batch_cells d.book.rows rows tally current tallied, few))
    (omega (arith, batch_taken d.accepted d.book.rows rows tally tallied, taken))
    days

pub refused_by : (fault : Option Refusal) (refusal : Refusal) (otherwise : Judgement)
    → fault ≡ Some refusal → Refused refusal ≡ unless_refused fault otherwise
refused_by fault refusal otherwise e = ap (λ f. unless_refused f otherwise) (sym e)

pub passed_by : (fault : Option Refusal) (otherwise : Judgement) → fault ≡ None
    → otherwise ≡ unless_refused fault otherwise
passed_by fault otherwise e = ap (λ f. unless_refused f otherwise) (sym e)

pub faultless_by : (vs : List RowVerdict) (tally : BatchTally) (n : ℕ) → tally ≡ tally_of vs
    → cond (changes tally) (accepted n) (Same (tally_outcome tally None)) ≡ faultless_verdict vs n
faultless_by vs tally n e =
    (λ i. cond (changes (e i)) (accepted n) (Same (tally_outcome (e i) None)))
    ∙ ap (λ b. cond b (accepted n) (Same (batch_outcome vs None))) (sym (any_put vs))

-- what the judging comes to is what the history says
pub comes_to : (d : Derived) (o : Office) (m : ℕ) (rows batch : List Row) (j : Judgement)
    (tally : BatchTally) (each : List RowVerdict) (x : Verdict Work) → Reflects d o → batch ≡ rows →
    length batch ≤ most.MAX_BATCH_ROWS → j ≡ rows_verdict d.upgraded d.origin m d.catalog
    d.book.rows d.accepted d.entries batch → tally ≡ tally_of (verdicts d.book.rows batch) →
    each ≡ verdicts d.book.rows batch → ComesTo j batch tally each x →
    IsJudged o m (commands.Samples rows) x
comes_to d o m rows batch j tally each x r same few is counted judged_each h = by x h
  where
    seen : samples_verdict (is_upgraded o.history) o.origin m (catalog_in o.history)
        (rows_in o.history) (length o.history) rows ≡ j
    seen =
        ap (λ rows. samples_verdict (is_upgraded o.history) o.origin m (catalog_in o.history)
        (rows_in o.history) (length o.history) rows) (sym same)
        ∙ verdict_seen d o m batch r few ∙ sym is

    all : (copy : List Row) → copy ≡ batch
        → verdicts d.book.rows batch ≡ verdicts (rows_in o.history) copy
    all copy e = (λ i. verdicts (r.rows i) batch) ∙ verdicts-over (rows_in o.history) batch
        ∙ ap (verdicts (rows_in o.history)) (sym e)

    over : (copy : List Row) → copy ≡ batch → verdicts d.book.rows batch ≡ verdicts
        (current_in o.history) copy
    over copy e = (λ i. verdicts (r.rows i) batch) ∙ ap (verdicts (current_in o.history)) (sym e)

    by : (x : Verdict Work) → ComesTo j batch tally each x → IsJudged o m (commands.Samples rows) x
    by (judged.Ready (works.Samples copy found becomes)) h = (
      sym (seen ∙ h.0),
      ap commands.Samples (h.1 ∙ same),
      (h.2 ∙ counted ∙ ap tally_of (all copy h.1), h.3 ∙ judged_each ∙ over copy h.1),
    )
    by (judged.Ready (works.Define text catalog applied plan)) h = absurd h
    by (judged.Ready (works.Remove kind name catalog plan)) h = absurd h
    by (judged.Ready (works.PutZone name bytes zone)) h = absurd h
    by (judged.Ready (works.Exclude value)) h = absurd h
    by (judged.Ready (works.Lift id)) h = absurd h
    by (judged.Ready (works.Tick states told)) h = absurd h
    by (judged.Ready (works.Take number)) h = absurd h
    by (judged.Ready works.Upgrade) h = absurd h
    by (judged.Same outcome) h = sym (seen ∙ h)
    by (judged.Refused refusal) h = sym (seen ∙ h)
    by judged.NoMemory h = tt
