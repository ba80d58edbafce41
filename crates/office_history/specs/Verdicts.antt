-- What becomes of a command over a history: the first refusal, in the order in which they are
-- tried; that all stays the same; or that it is accepted.
use Rattle.std.specs.Prelude.{ℕ, ◌+◌, ◌&&◌, ◌||◌, ◌==◌, Bool, true, false, not, cond, is_none}
use Rattle.std.specs.Prelude.{nat_lt, nat_le, List, [], ◌∷◌, ◌++◌, length, Option, Some, None}
use Rattle.std.specs.Prelude.{Result, Ok, Err}
use Rattle.std.specs.List.{list_any}
use Rattle.std.specs.Str.{bytes_eq}
use Rattle.slo_limits.specs.declared.TheConstants as most
use Rattle.sample_book.specs.declared.Row.{Row}
use Rattle.sample_book.specs.declared.Exclusion.{Exclusion}
use Rattle.sample_book.specs.Counting.{first_of}
use Rattle.sample_book.specs.Exclusions.{exclusion_of}
use Rattle.sample_book.specs.History.{is_put}
use Rattle.sample_book.specs.Puts.{verdicts}
use Rattle.sample_book.specs.Rows.{current_rows}
use Rattle.object_terms.specs.declared.kind.Kind.{Kind}
use Rattle.object_terms.specs.declared.kind.Kind.TheVariants as kinds
use Rattle.object_terms.specs.declared.Object.{Object}
use Rattle.catalog_terms.specs.declared.RemoveFault.{RemoveFault}
use Rattle.catalog_terms.specs.declared.RemoveFault.TheVariants as removal
use Rattle.catalog_terms.specs.Remove.{remaining_members}
use Rattle.zone_calendar.specs.ZoneBytes.{zone_of}
use Rattle.notice_box.specs.declared.Notice.{Notice}
use Rattle.record_form.specs.declared.Outcome.TheVariants.{Changed}
use Rattle.record_form.specs.declared.Refusal.{Refusal}
use Rattle.record_form.specs.declared.Refusal.TheVariants as refusals
use Rattle.record_form.specs.declared.LimitName.TheVariants as limits
use Rattle.office_history.specs.declared.judgement.Judgement.{Judgement}
use Rattle.office_history.specs.declared.judgement.Judgement.TheVariants.{Accepted, Same, Refused}
use Rattle.office_history.specs.Lists.{first_some}
use Rattle.office_history.specs.History.{end_of, accepted_rows}
use Rattle.office_history.specs.Zones.{utc, bytes_named}
use Rattle.office_history.specs.Objectives.{slo_named}
use Rattle.office_history.specs.Notices.{waiting}
use Rattle.office_history.specs.Batches.{when, batch_fault, batch_outcome, objective_days}
use Rattle.office_history.specs.Versions.{most_cells, most_rows}

-- the first refusal of a table, or else this
abbrev pub unless_refused : Option Refusal → Judgement → Judgement
unless_refused None otherwise = otherwise
unless_refused (Some refusal) otherwise = Refused refusal

-- the last of the limits, over a history of so many entries
abbrev pub accepted : ℕ → Judgement
accepted entries =
    cond (nat_lt entries most.MAX_ENTRIES) Accepted (Refused (refusals.Limit limits.Entries))

-- Samples: rows that come over those that came, whose indicators are members, to an office that is
-- upgraded or not
abbrev pub samples_fault : Bool → ℕ → ℕ → List Object → List Row → List Row → Option Refusal
samples_fault upgraded origin moment members came rows = first_some (
    when (nat_lt most.MAX_BATCH_ROWS (length rows)) (refusals.Limit limits.Rows)
    ∷ batch_fault upgraded origin moment members came rows
    ∷ when (nat_lt (most_cells upgraded) (length (current_rows (came ++ rows))))
    (refusals.Limit limits.Cells)
    ∷ when (nat_lt (most_rows upgraded) (accepted_rows (came ++ rows)))
    (refusals.Limit limits.Accepted)
    ∷ when (nat_lt most.MAX_DAYS (objective_days members (current_rows (came ++ rows))))
    (refusals.Limit limits.Days)
    ∷ [])

abbrev pub samples_verdict : Bool → ℕ → ℕ → List Object → List Row → ℕ → List Row → Judgement
samples_verdict upgraded origin moment members came entries rows =
    unless_refused (samples_fault upgraded origin moment members came rows)
    (cond (list_any is_put (verdicts came rows)) (accepted entries)
    (Same (batch_outcome (verdicts came rows) None)))

-- Remove: an object that no other refers to, and no sample if it is an indicator
abbrev pub removal_fault : RemoveFault → Refusal
removal_fault removal.NotFound = refusals.NotFound
removal_fault (removal.InUse by_kind by_name) = refusals.InUse by_kind by_name

abbrev pub is_sli : Kind → Bool
is_sli kinds.Sli = true
is_sli _ = false

abbrev pub first_row_of : List Row → Kind → List ℕ → Option Row
first_row_of rows kind name = cond (is_sli kind) (first_of rows name) None

abbrev pub unless_sampled : Option Row → Judgement → Judgement
unless_sampled None otherwise = otherwise
unless_sampled (Some row) otherwise = Refused (refusals.HasSamples row.minute row.sli row.source)

abbrev pub unless_removal : Result (List Object) RemoveFault → Judgement → Judgement
unless_removal (Ok members) otherwise = otherwise
unless_removal (Err fault) otherwise = Refused (removal_fault fault)

abbrev pub remove_verdict : List Object → List Row → ℕ → Kind → List ℕ → Judgement
remove_verdict members rows entries kind name =
    unless_removal (remaining_members members kind name)
    (unless_sampled (first_row_of rows kind name) (accepted entries))

-- PutZone: bytes that are a zone, under a name that has no other bytes
abbrev pub new_zone_fault : ℕ → List ℕ → List ℕ → Option Refusal
new_zone_fault kept name bytes = first_some (
    when (is_none (zone_of bytes)) (refusals.BadZone name)
    ∷ when (nat_le most.MAX_ZONES kept) (refusals.Limit limits.Zones)
    ∷ [])

abbrev pub zone_verdict_beside : Option (List ℕ) → ℕ → ℕ → List ℕ → List ℕ → Judgement
zone_verdict_beside None kept entries name bytes =
    unless_refused (new_zone_fault kept name bytes) (accepted entries)
zone_verdict_beside (Some old) kept entries name bytes =
    cond (bytes_eq old bytes) (Same (Changed None)) (Refused (refusals.ZoneDiffers name))

abbrev pub zone_verdict : List (List ℕ × List ℕ) → ℕ → List ℕ → List ℕ → Judgement
zone_verdict zones entries name bytes =
    unless_refused (first_some (
    when (bytes_eq name utc) (refusals.ReservedZone name)
    ∷ when (nat_lt most.MAX_ZONE_BYTES (length bytes)) (refusals.Limit limits.ZoneBytes)
    ∷ []))
    (zone_verdict_beside (bytes_named zones name) (length zones) entries name bytes)

-- Exclude: a stretch of an SLO's minutes, under an id of its own
abbrev pub same_content : Exclusion → Exclusion → Bool
same_content a b = bytes_eq a.slo b.slo && (a.from == b.from && a.to == b.to)

abbrev pub is_range : ℕ → Exclusion → Bool
is_range origin value =
    nat_le origin value.from && (nat_lt value.from value.to && nat_le value.to (end_of origin))

abbrev pub new_exclusion_fault : ℕ → List Object → ℕ → Exclusion → Option Refusal
new_exclusion_fault origin members made value = first_some (
    when (is_none (slo_named members value.slo)) (refusals.NoSuchSlo kinds.Slo value.slo)
    ∷ when (not (is_range origin value)) refusals.Range
    ∷ when (nat_le most.MAX_EXCLUSIONS made) (refusals.Limit limits.Exclusions)
    ∷ [])

abbrev pub exclude_verdict_beside : Option (Exclusion × Bool) → ℕ → List Object → ℕ → ℕ
    → Exclusion → Judgement
exclude_verdict_beside None origin members made entries value =
    unless_refused (new_exclusion_fault origin members made value) (accepted entries)
exclude_verdict_beside (Some kept) origin members made entries value =
    cond kept.1
    (cond (same_content kept.0 value) (Same (Changed None))
    (Refused (refusals.ExclusionConflict kept.0.from kept.0.slo kept.0.to)))
    (Refused (refusals.Withdrawn value.id))

abbrev pub exclude_verdict : ℕ → List Object → List (Exclusion × Bool) → ℕ → Exclusion → Judgement
exclude_verdict origin members made entries value =
    exclude_verdict_beside (exclusion_of made value.id) origin members (length made) entries value

-- Lift: an exclusion that was made
abbrev pub lift_verdict_of : Option (Exclusion × Bool) → ℕ → Judgement
lift_verdict_of None entries = Refused refusals.NotFound
lift_verdict_of (Some kept) entries = cond kept.1 (accepted entries) (Same (Changed None))

abbrev pub lift_verdict : List (Exclusion × Bool) → ℕ → List ℕ → Judgement
lift_verdict made entries id = lift_verdict_of (exclusion_of made id) entries

-- Tick, which would tell so many changes
abbrev pub tick_verdict : List (Notice × Bool) → ℕ → ℕ → Judgement
tick_verdict made entries told =
    unless_refused (when (nat_lt most.MAX_NOTICES (waiting made + told))
    (refusals.Limit limits.Notices)) (accepted entries)

-- Take: a notice that was made
abbrev pub is_waiting : List (Notice × Bool) → ℕ → Bool
is_waiting made number = list_any (λ kept. (kept.0.number == number) && kept.1) made

abbrev pub take_verdict : List (Notice × Bool) → ℕ → ℕ → Judgement
take_verdict made entries number =
    cond (number == 0 || nat_lt (length made) number)
    (Refused (refusals.UnknownNotice (length made) number))
    (cond (is_waiting made number) (accepted entries) (Same (Changed None)))

-- Upgrade: once
abbrev pub upgrade_verdict : Bool → ℕ → Judgement
upgrade_verdict upgraded entries = cond upgraded (Same (Changed None)) (accepted entries)
