-- Which judgement a command gets over a history.
use Rattle.std.specs.Prelude.{◌≡◌, ℕ, cond, nat_lt, List, length, map, None}
use Rattle.slo_limits.specs.declared.TheConstants.{MAX_DAYS}
use Rattle.office_history.specs.Definitions.{Definition, Known, known, IsDefinition, IsRefused}
use Rattle.record_form.specs.declared.LimitName.TheVariants as limits
use Rattle.record_form.specs.declared.Outcome.TheVariants.{Defined}
use Rattle.record_form.specs.declared.Refusal.{Refusal}
use Rattle.record_form.specs.declared.Refusal.TheVariants as refusals
use Rattle.record_form.specs.declared.Command.{Command}
use Rattle.record_form.specs.declared.Command.TheVariants.{Define, Remove, PutZone, Samples}
use Rattle.record_form.specs.declared.Command.TheVariants.{Exclude, Lift, Tick, Take, Upgrade}
use Rattle.office_history.specs.declared.judgement.Judgement.{Judgement}
use Rattle.office_history.specs.declared.judgement.Judgement.TheVariants.{Same, Refused}
use Rattle.office_history.specs.Batches.{when, objective_days}
use Rattle.office_history.specs.History.{Office, end_of, rows_in, current_in, exclusions_in}
use Rattle.office_history.specs.Catalog.{catalog_in}
use Rattle.office_history.specs.Zones.{zones_in}
use Rattle.office_history.specs.Notices.{told_at, notices_in}
use Rattle.office_history.specs.Verdicts.{unless_refused, accepted, samples_verdict, remove_verdict}
use Rattle.office_history.specs.Verdicts.{zone_verdict, exclude_verdict, lift_verdict, tick_verdict}
use Rattle.office_history.specs.Verdicts.{take_verdict, upgrade_verdict}
use Rattle.office_history.specs.Versions.{is_upgraded}

-- what an office keeps, as far as a definition is judged by it
abbrev pub known_of : Office → Known
known_of o = known (catalog_in o.history) (map (λ kept. kept.0) (zones_in o.history))
    (current_in o.history) (end_of o.origin)

-- Define: the last of its own limits is that of the days; a catalog that stays as it is
-- adds no entry
abbrev pub defined_verdict : Known → ℕ → Definition → Judgement
defined_verdict known entries made =
    unless_refused (when (nat_lt MAX_DAYS (objective_days made.catalog known.rows))
    (refusals.Limit limits.Days))
    (cond made.same (Same (Defined made.objects None)) (accepted entries))

pub data JudgesText (known : Known) (entries : ℕ) (text : List ℕ) : Judgement → Type 0 where
  refused : {refusal : Refusal} → IsRefused known text refusal
      → JudgesText known entries text (Refused refusal)
  defined : {made : Definition} → IsDefinition known text made
      → JudgesText known entries text (defined_verdict known entries made)

-- what becomes of a command that comes at a moment
abbrev pub Judges : Office → ℕ → Command → Judgement → Type 0
Judges o moment (Define text) j = JudgesText (known_of o) (length o.history) text j
Judges o moment (Remove kind name) j =
    j ≡ remove_verdict (catalog_in o.history) (current_in o.history) (length o.history) kind name
Judges o moment (PutZone name bytes) j =
    j ≡ zone_verdict (zones_in o.history) (length o.history) name bytes
Judges o moment (Samples rows) j = j ≡ samples_verdict (is_upgraded o.history) o.origin moment
    (catalog_in o.history) (rows_in o.history) (length o.history) rows
Judges o moment (Exclude value) j = j ≡ exclude_verdict o.origin (catalog_in o.history)
    (exclusions_in o.history) (length o.history) value
Judges o moment (Lift id) j = j ≡ lift_verdict (exclusions_in o.history) (length o.history) id
Judges o moment Tick j = j ≡ tick_verdict (notices_in o) (length o.history)
    (length (told_at o (record { moment = moment; command = Tick })))
Judges o moment (Take number) j = j ≡ take_verdict (notices_in o) (length o.history) number
Judges o moment Upgrade j = j ≡ upgrade_verdict (is_upgraded o.history) (length o.history)
