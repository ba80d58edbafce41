-- An accepted command has a record: its numbers are within the ranges of records.
use Rattle.std.proofs.Common.{◌≡◌, ℕ, suc, ◌+◌, ◌<◌, ◌≤◌, ◌&&◌, Bool, true, false, cond, not}
use Rattle.std.proofs.Common.{is_none, nat_lt, nat_le, List, [], ◌∷◌, ◌++◌, refl, ap, sym, length}
use Rattle.std.proofs.Common.{Option, Some, None, arith}
use Rattle.std.proofs.lemmas.Bool.Decides.{nat_tests}
use Rattle.std.specs.List.{AllByRecursion}
use Rattle.std.specs.Str.{bytes_eq}
use Rattle.slo_limits.specs.declared.TheConstants as most
use Rattle.sample_book.specs.declared.Row.{Row}
use Rattle.sample_book.specs.declared.RowVerdict.{RowVerdict}
use Rattle.sample_book.specs.declared.Exclusion.{Exclusion}
use Rattle.sample_book.specs.Exclusions.{exclusion_of}
use Rattle.sample_book.specs.Puts.{verdicts}
use Rattle.object_terms.specs.declared.Object.{Object}
use Rattle.office_history.specs.Definitions.{Known}
use Rattle.record_form.specs.declared.fields.TheConstants.{MAX_EXCLUDED_MINUTE}
use Rattle.record_form.specs.declared.Command.{Command}
use Rattle.record_form.specs.declared.Command.TheVariants.{Define, Remove, PutZone, Samples}
use Rattle.record_form.specs.declared.Command.TheVariants.{Exclude, Lift, Tick, Take, Upgrade}
use Rattle.record_form.specs.declared.Outcome.{Outcome}
use Rattle.record_form.specs.declared.Refusal.{Refusal}
use Rattle.record_form.specs.declared.Refusal.TheVariants as refusals
use Rattle.record_form.specs.declared.LimitName.TheVariants as limits
use Rattle.record_form.specs.Ranges.{AreRowsInRange, IsEntryInRange, IsExclusionInRange, IsInRange}
use Rattle.record_form.specs.Ranges.{IsRowInRange}
use Rattle.office_history.specs.declared.Judgement.{Judgement}
use Rattle.office_history.specs.declared.Judgement.TheVariants.{Accepted, Same, Refused}
use Rattle.office_history.specs.Lists.{first_some}
use Rattle.office_history.specs.History.{Office, rows_in, exclusions_in}
use Rattle.office_history.specs.Catalog.{catalog_in}
use Rattle.office_history.specs.Zones.{utc, bytes_named, zones_in}
use Rattle.office_history.specs.Batches.{when, form_fault, conflict_fault, row_fault, rows_faults}
use Rattle.office_history.specs.Batches.{batch_fault}
use Rattle.office_history.specs.Objectives.{reading_named, slo_named}
use Rattle.office_history.specs.Verdicts.{accepted, exclude_verdict, exclude_verdict_beside}
use Rattle.office_history.specs.Verdicts.{is_range, samples_verdict, unless_refused, zone_verdict}
use Rattle.office_history.specs.Versions.{is_upgraded}
use Rattle.office_history.specs.Verdicts.{zone_verdict_beside}
use Rattle.office_history.specs.Judges.{JudgesText, Judges, known_of, refused, defined}
use Rattle.office_core.specs.Machine.{HasRevision, HasRevisions}

-- a text that is defined is small
small_text : (known : Known) (entries : ℕ) (text : List ℕ) (j : Judgement)
    → JudgesText known entries text j → j ≡ Accepted → length text ≤ most.MAX_TEXT_BYTES
small_text known entries text j (refused is) e = cc e
small_text known entries text j (defined is) e = is.stands.small

-- a zone that is put is small
small_zone : (name bytes : List ℕ) (reserved large : Bool) (j : Judgement) →
    nat_lt most.MAX_ZONE_BYTES (length bytes) ≡ large →
    unless_refused (first_some (when reserved (refusals.ReservedZone name)
    ∷ when large (refusals.Limit limits.ZoneBytes) ∷ [])) j ≡ Accepted →
    length bytes ≤ most.MAX_ZONE_BYTES
small_zone name bytes true large j is e = cc e
small_zone name bytes false true j is e = cc e
small_zone name bytes false false j is e = grind (arith, is)

-- an exclusion that is made lies in the office's range
in_office : (origin : ℕ) (value : Exclusion) (missing outside : Bool) (full : Bool)
    (j : Judgement) → not (is_range origin value) ≡ outside →
    unless_refused (first_some (when missing (refusals.NoSuchSlo
    Rattle.object_terms.specs.declared.kind.Kind.TheVariants.Slo value.slo) ∷ when outside
    refusals.Range ∷ when full (refusals.Limit limits.Exclusions) ∷ [])) j ≡ Accepted →
    is_range origin value ≡ true
in_office origin value true outside full j is e = cc e
in_office origin value false true full j is e = cc e
in_office origin value false false full j is e = by (is_range origin value) is
  where
    by : (b : Bool) → not b ≡ false → b ≡ true
    by true h = refl
    by false h = cc h

-- the minute of a row without a fault is over
minute_over : (u : Bool) (origin moment : ℕ) (members : List Object) (row : Row)
    (verdict : RowVerdict) (number : ℕ) →
    row_fault u origin moment members row verdict number ≡ None → row.minute < moment
minute_over u origin moment members row verdict number e =
    by (form_fault u (reading_named members row.sli) row number) (nat_lt row.minute origin)
    (nat_le moment row.minute) refl e
  where
    by : (form : Option Refusal) (early now : Bool) → nat_le moment row.minute ≡ now →
        first_some (form ∷ when early (refusals.Early row.minute origin number)
        ∷ when now (refusals.OpenMinute row.minute moment number)
        ∷ conflict_fault verdict number ∷ []) ≡ None →
        row.minute < moment
    by (Some refusal) early now is h = cc h
    by None true now is h = cc h
    by None false true is h = cc h
    by None false false is h = grind (arith, is)

as_many : (came rows : List Row) → length (verdicts came rows) ≡ length rows
as_many came [] = refl
as_many came (row ∷ rows) = ap suc (as_many (came ++ row ∷ []) rows)

minutes_over : (u : Bool) (origin moment : ℕ) (members : List Object) (number : ℕ)
    (rows : List Row)
    (vs : List RowVerdict) → length vs ≡ length rows →
    first_some (rows_faults u origin moment members number rows vs) ≡ None →
    AllByRecursion (λ (row : Row). row.minute < moment) rows
minutes_over u origin moment members number [] vs len e = tt
minutes_over u origin moment members number (row ∷ rows) [] len e = cc len
minutes_over u origin moment members number (row ∷ rows) (v ∷ vs) len e =
    by (row_fault u origin moment members row v number) refl e
    (minutes_over u origin moment members (number + 1) rows vs (omega (arith, len)))
  where
    by : (fault : Option Refusal) → row_fault u origin moment members row v number ≡ fault →
        first_some (fault ∷ rows_faults u origin moment members (number + 1) rows vs) ≡ None →
        (first_some (rows_faults u origin moment members (number + 1) rows vs) ≡ None
        → AllByRecursion (λ (row : Row). row.minute < moment) rows) →
        AllByRecursion (λ (row : Row). row.minute < moment) (row ∷ rows)
    by (Some refusal) is h rest = cc h
    by None is h rest = (minute_over u origin moment members row v number is, rest h)

rows_fit : (moment : ℕ) (rows : List Row) → moment ≤ most.MAX_MINUTE
    → AllByRecursion (λ (row : Row). row.minute < moment) rows → AllByRecursion HasRevision rows
    → AllByRecursion IsRowInRange rows
rows_fit moment [] few over revised = tt
rows_fit moment (row ∷ rows) few over revised = (
  record {
    minute = omega (arith, over.0, few);
    first_revision = revised.0.first;
    last_revision = revised.0.last;
  },
  rows_fit moment rows few over.1 revised.1,
)

batch_fits : (u : Bool) (origin moment : ℕ) (members : List Object) (came rows : List Row)
    (many : Bool) (others : List (Option Refusal)) (j : Judgement) → moment ≤ most.MAX_MINUTE →
    AllByRecursion HasRevision rows →
    nat_lt most.MAX_BATCH_ROWS (length rows) ≡ many →
    unless_refused (first_some (when many (refusals.Limit limits.Rows)
    ∷ batch_fault u origin moment members came rows ∷ others)) j ≡ Accepted → AreRowsInRange rows
batch_fits u origin moment members came rows true others j few revised is e = cc e
batch_fits u origin moment members came rows false others j few revised is e = (
  grind (arith, is),
  rows_fit moment rows few (minutes_over u origin moment members 1 rows (verdicts came rows)
      (as_many came rows) (none (batch_fault u origin moment members came rows) e)) revised,
)
  where
    none : (fault : Option Refusal) → unless_refused (first_some (fault ∷ others)) j ≡ Accepted
        → fault ≡ None
    none None h = refl
    none (Some refusal) h = cc h

excluded_in : (origin : ℕ) (members : List Object)
    (made entries : ℕ) (value : Exclusion) (kept : Option (Exclusion × Bool)) →
    exclude_verdict_beside kept origin members made entries value ≡ Accepted →
    is_range origin value ≡ true
excluded_in origin members made entries value None e =
    in_office origin value (is_none (slo_named members value.slo)) (not (is_range origin value))
    (nat_le most.MAX_EXCLUSIONS made) (accepted entries) refl e
excluded_in origin members made entries value (Some kept) e =
    by kept.1 (Rattle.office_history.specs.Verdicts.same_content kept.0 value) e
  where
    by : (live same : Bool) → cond
        live (cond same (Same (Rattle.record_form.specs.declared.Outcome.TheVariants.Changed None))
        (Refused (refusals.ExclusionConflict kept.0.from kept.0.slo kept.0.to)))
        (Refused (refusals.Withdrawn value.id)) ≡ Accepted →
        is_range origin value ≡ true
    by true true h = cc h
    by true false h = cc h
    by false same h = cc h

zone_fits : (zones : List (List ℕ × List ℕ)) (entries : ℕ) (name bytes : List ℕ)
    → zone_verdict zones entries name bytes ≡ Accepted → length bytes ≤ most.MAX_ZONE_BYTES
zone_fits zones entries name bytes e =
    small_zone name bytes (bytes_eq name utc) (nat_lt most.MAX_ZONE_BYTES (length bytes))
    (zone_verdict_beside (bytes_named zones name) (length zones) entries name bytes) refl e

samples_fit : (u : Bool) (origin moment : ℕ) (members : List Object) (came : List Row)
    (entries : ℕ) (rows : List Row) → moment ≤ most.MAX_MINUTE → AllByRecursion HasRevision rows →
    samples_verdict u origin moment members came entries rows ≡ Accepted → AreRowsInRange rows
samples_fit u origin moment members came entries rows few revised e =
    batch_fits u origin moment members came rows (nat_lt most.MAX_BATCH_ROWS (length rows)) _ _ few
    revised refl e

in_bounds : (origin from to : ℕ) → origin ≤ most.MAX_MINUTE
    → (nat_le origin from && (nat_lt from to && nat_le to (origin + most.RANGE_MINUTES))) ≡ true
    → (from ≤ MAX_EXCLUDED_MINUTE) × (to ≤ MAX_EXCLUDED_MINUTE)
in_bounds origin from to few range = (
  grind (arith, nat_tests, range, few),
  grind (arith, nat_tests, range, few),
)

exclusion_fits : (origin : ℕ) (members : List Object)
    (made : List (Exclusion × Bool)) (entries : ℕ) (value : Exclusion) → origin ≤ most.MAX_MINUTE
    → exclude_verdict origin members made entries value ≡ Accepted → IsExclusionInRange value
exclusion_fits origin members made entries value few e =
    let bounds = in_bounds origin value.from value.to few
    (excluded_in origin members (length made) entries value (exclusion_of made value.id) e) in
    record { from = bounds.0; to = bounds.1 }

fits : (o : Office) (moment : ℕ) (c : Command) → o.origin ≤ most.MAX_MINUTE
    → moment ≤ most.MAX_MINUTE → HasRevisions c → Judges o moment c Accepted → IsInRange c
fits o moment (Define text) origin few revised judged =
    small_text (known_of o) (length o.history) text Accepted judged refl
fits o moment (Remove kind name) origin few revised judged = tt
fits o moment (PutZone name bytes) origin few revised judged =
    zone_fits (zones_in o.history) (length o.history) name bytes (sym judged)
fits o moment (Samples rows) origin few revised judged =
    samples_fit (is_upgraded o.history) o.origin moment (catalog_in o.history) (rows_in o.history)
    (length o.history) rows few revised (sym judged)
fits o moment (Exclude value) origin few revised judged =
    exclusion_fits o.origin (catalog_in o.history) (exclusions_in o.history) (length o.history)
    value origin (sym judged)
fits o moment (Lift id) origin few revised judged = tt
fits o moment Tick origin few revised judged = tt
fits o moment (Take number) origin few revised judged = tt
fits o moment Upgrade origin few revised judged = tt

-- What is accepted has a record.
pub in_range : (o : Office) (moment : ℕ) (c : Command) → o.origin ≤ most.MAX_MINUTE →
    moment ≤ most.MAX_MINUTE → HasRevisions c → Judges o moment c Accepted →
    IsEntryInRange (record { moment = moment; command = c })
in_range o moment c origin few revised judged = record {
  moment = few;
  command = fits o moment c origin few revised judged;
}
