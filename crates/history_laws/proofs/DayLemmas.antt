-- In a legal history the days of its objectives stay within their limit.
use Rattle.std.proofs.Common.{◌≡◌, ℕ, ◌≤◌, Bool, true, false, cond, nat_lt, not, List, [], ◌∷◌}
use Rattle.std.proofs.Common.{◌++◌, Option, Some, None, refl, sym, subst, fold, filter, length}
use Rattle.std.proofs.Common.{sum_by, arith}
use Rattle.std.specs.List.{list_any}
use Rattle.std.proofs.lemmas.Bool.{ltb-false}
use Rattle.std.proofs.lemmas.List.{append-nil}
use Rattle.std.proofs.lemmas.List.Sums.{sum_by-cons}
use Rattle.slo_limits.specs.declared.TheConstants as most
use Rattle.sample_book.specs.declared.Row.{Row}
use Rattle.sample_book.specs.History.{is_put}
use Rattle.sample_book.specs.Puts.{verdicts}
use Rattle.sample_book.specs.Rows.{current_rows}
use Rattle.object_terms.specs.declared.kind.Kind.{Kind}
use Rattle.object_terms.specs.declared.Object.{Object}
use Rattle.object_terms.specs.Slo.{slo_in}
use Rattle.catalog_terms.specs.Catalog.{with_members, without}
use Rattle.catalog_terms.specs.Keys.{is_key}
use Rattle.record_form.specs.declared.Command.{Command}
use Rattle.record_form.specs.declared.Command.TheVariants.{Define, Remove, PutZone, Samples}
use Rattle.record_form.specs.declared.Command.TheVariants.{Exclude, Lift, Tick, Take, Upgrade}
use Rattle.record_form.specs.declared.Entry.{Entry}
use Rattle.record_form.specs.declared.LimitName.TheVariants as limits
use Rattle.record_form.specs.declared.Outcome.TheVariants.{Defined}
use Rattle.record_form.specs.declared.Refusal.{Refusal}
use Rattle.record_form.specs.declared.Refusal.TheVariants as refusals
use Rattle.office_history.specs.Definitions.{Known}
use Rattle.office_history.specs.declared.Judgement.{Judgement}
use Rattle.office_history.specs.declared.Judgement.TheVariants.{Accepted, Same}
use Rattle.office_history.specs.Batches.{batch_fault, batch_outcome, days_of_slo, objective_days}
use Rattle.office_history.specs.Batches.{when}
use Rattle.office_history.specs.Catalog.{catalog_in, definitions_of, members_after, text_objects}
use Rattle.office_history.specs.History.{accepted_rows, current_in, rows_in, rows_of}
use Rattle.office_history.specs.Judges.{Judges, JudgesText, defined, refused, known_of}
use Rattle.office_history.specs.Legal.{empty, followed, office}
use Rattle.office_history.specs.Lists.{first_some}
use Rattle.office_history.specs.Verdicts.{accepted, samples_verdict, unless_refused}
use Rattle.office_history.specs.Versions.{is_upgraded, most_cells, most_rows}
use Rattle.office_derived.proofs.More.{catalog_more, rows_more}
use Rattle.catalog_changes.proofs.DefineLemmas.{changes_put, made_of_text}
use Rattle.history_laws.specs.Kept.{DaysAreFew}

-- LIMITS

-- what is accepted behind a limit of days is within it
within : (days : ℕ) (rest : Judgement) →
    unless_refused (when (nat_lt most.MAX_DAYS days) (refusals.Limit limits.Days)) rest ≡ Accepted →
    days ≤ most.MAX_DAYS
within days rest e = by (nat_lt most.MAX_DAYS days) refl e
  where
    by : (b : Bool) → nat_lt most.MAX_DAYS days ≡ b →
        unless_refused (when b (refusals.Limit limits.Days)) rest ≡ Accepted → days ≤ most.MAX_DAYS
    by true f g = cc g
    by false f g = ltb-false most.MAX_DAYS days f

last_within : (a b c d : Option Refusal) (days : ℕ) (rest : Judgement) →
    unless_refused (first_some (a ∷ b ∷ c ∷ d
    ∷ when (nat_lt most.MAX_DAYS days) (refusals.Limit limits.Days) ∷ [])) rest ≡ Accepted →
    days ≤ most.MAX_DAYS
last_within (Some r) b c d days rest e = cc e
last_within None (Some r) c d days rest e = cc e
last_within None None (Some r) d days rest e = cc e
last_within None None None (Some r) days rest e = cc e
last_within None None None None days rest e = by (nat_lt most.MAX_DAYS days) refl e
  where
    by : (b : Bool) → nat_lt most.MAX_DAYS days ≡ b →
        unless_refused (first_some (when b (refusals.Limit limits.Days) ∷ [])) rest ≡ Accepted →
        days ≤ most.MAX_DAYS
    by true f g = cc g
    by false f g = ltb-false most.MAX_DAYS days f

-- COMMANDS

text_days : (known : Known) (entries : ℕ) (text : List ℕ) (j : Judgement) →
    JudgesText known entries text j → j ≡ Accepted →
    objective_days (with_members (text_objects text) known.members) known.rows ≤ most.MAX_DAYS
text_days known entries text _ (refused h) e = cc e
text_days known entries text _ (defined {made = made} h) e =
    subst (λ (members : List Object). objective_days members known.rows ≤ most.MAX_DAYS)
    (made_of_text known text made h).catalog_is
    (within (objective_days made.catalog known.rows)
    (cond made.same (Same (Defined made.objects None)) (accepted entries)) e)

batch_days : (u : Bool) (origin m : ℕ) (members : List Object) (came : List Row) (entries : ℕ)
    (rows : List Row) → samples_verdict u origin m members came entries rows ≡ Accepted →
    objective_days members (current_rows (came ++ rows)) ≤ most.MAX_DAYS
batch_days u origin m members came entries rows e =
    last_within (when (nat_lt most.MAX_BATCH_ROWS (length rows)) (refusals.Limit limits.Rows))
    (batch_fault u origin m members came rows)
    (when (nat_lt (most_cells u) (length (current_rows (came ++ rows))))
    (refusals.Limit limits.Cells))
    (when (nat_lt (most_rows u) (accepted_rows (came ++ rows)))
    (refusals.Limit limits.Accepted))
    (objective_days members (current_rows (came ++ rows)))
    (cond (list_any is_put (verdicts came rows)) (accepted entries)
    (Same (batch_outcome (verdicts came rows) None))) e

-- objects that are left come to no more than all
fewer : (f : Object → ℕ) (p : Object → Bool) (os : List Object) →
    sum_by f (filter p os) ≤ sum_by f os
fewer f p [] = omega arith
fewer f p (o ∷ os) = by (p o) (fewer f p os)
  where
    by : (b : Bool) → sum_by f (filter p os) ≤ sum_by f os →
        sum_by f (cond b (o ∷ filter p os) (filter p os)) ≤ sum_by f (o ∷ os)
    by true h = omega (arith, sum_by-cons f o os, sum_by-cons f o (filter p os), h)
    by false h = omega (arith, sum_by-cons f o os, h)

fewer_days : (members : List Object) (rows : List Row) (kind : Kind) (name : List ℕ) →
    objective_days (without kind name members) rows ≤ objective_days members rows
fewer_days members rows kind name =
    fewer (λ (o : Object). days_of_slo rows (slo_in o.body)) (λ o. not (is_key kind name o)) members

same_days : (members : List Object) (came : List Row) →
    objective_days members (current_rows came) ≤ most.MAX_DAYS →
    objective_days members (current_rows (came ++ [])) ≤ most.MAX_DAYS
same_days members came h =
    subst (λ (rows : List Row). objective_days members (current_rows rows) ≤ most.MAX_DAYS)
    (sym (append-nil came)) h

-- an accepted command leaves few days
days_after : (origin : ℕ) (h : List Entry) (m : ℕ) (c : Command) →
    objective_days (catalog_in h) (current_in h) ≤ most.MAX_DAYS →
    Judges (office origin h) m c Accepted →
    objective_days (fold members_after (catalog_in h) (definitions_of c))
    (current_rows (rows_in h ++ rows_of c)) ≤ most.MAX_DAYS
days_after origin h m (Define text) few v =
    subst (λ (members : List Object). objective_days members (current_rows (rows_in h ++ []))
    ≤ most.MAX_DAYS) (sym (changes_put (text_objects text) (catalog_in h)))
    (same_days (with_members (text_objects text) (catalog_in h)) (rows_in h)
    (text_days (known_of (office origin h)) (length h) text Accepted v refl))
days_after origin h m (Remove kind name) few v =
    same_days (without kind name (catalog_in h)) (rows_in h)
    (let fewer = fewer_days (catalog_in h) (current_in h) kind name in omega (arith, fewer, few))
days_after origin h m (Samples rows) few v =
    batch_days (is_upgraded h) origin m (catalog_in h) (rows_in h) (length h) rows (sym v)
days_after origin h m (PutZone name bytes) few v = same_days (catalog_in h) (rows_in h) few
days_after origin h m (Exclude value) few v = same_days (catalog_in h) (rows_in h) few
days_after origin h m (Lift id) few v = same_days (catalog_in h) (rows_in h) few
days_after origin h m Tick few v = same_days (catalog_in h) (rows_in h) few
days_after origin h m (Take number) few v = same_days (catalog_in h) (rows_in h) few
days_after origin h m Upgrade few v = same_days (catalog_in h) (rows_in h) few

-- HISTORIES

pub days_are_few : DaysAreFew
days_are_few origin _ empty = omega arith
days_are_few origin _ (followed {h = h} e legal may) =
    subst (λ (p : List Object × List Row). objective_days p.0 (current_rows p.1) ≤ most.MAX_DAYS)
    (λ i. (sym (catalog_more h e) i, sym (rows_more h e) i))
    (days_after origin h e.moment e.command (days_are_few origin h legal) may.accepted)
