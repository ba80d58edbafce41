-- The answer to each outcome.
use Rattle.std.specs.Prelude.{ℕ, [], ◌∷◌, Bool, true, false, codes}
use Rattle.serde_json.specs.Data.{Data, string}
use Rattle.record_form.specs.Words.{reply_of}
use Rattle.record_form.specs.declared.outcome.Outcome.{Outcome}
use Rattle.record_form.specs.declared.outcome.Outcome.TheVariants.{Defined, Sampled, Changed}
use Rattle.record_form.specs.declared.outcome.Outcome.TheVariants.{Ticked, ObjectList, ObjectText}
use Rattle.record_form.specs.declared.outcome.Outcome.TheVariants.{Budgets, Burn, Timeline, Notices}
use Rattle.record_form.specs.declared.outcome.Outcome.TheVariants.{Feed, Row, Exclusions, Zones}
use Rattle.record_form.specs.declared.outcome.Outcome.TheVariants.{Status, Sums, Windows}
use Rattle.record_form.specs.declared.outcome.Outcome.TheVariants.{Refused, ClockRange, DiskFault}
use Rattle.record_form.specs.declared.outcome.Outcome.TheVariants.{JournalFull, NoMemory}
use Rattle.wire_terms.specs.declared.no_request.Allow.TheVariants.{None}
use Rattle.wire_replies.specs.declared.reply.Form.TheVariants.{Octets, Yaml}
use Rattle.wire_replies.specs.Answers.{Answer, error_data, json, no_memory_answer, object_of, whole}
use Rattle.wire_replies.specs.Bodies.{budgets_data, burn_data, changed_data, defined_data}
use Rattle.wire_replies.specs.Bodies.{exclusions_data, found_row_data, notices_data, objects_data}
use Rattle.wire_replies.specs.Bodies.{sampled_data, status_data, sums_data, ticked_data}
use Rattle.wire_replies.specs.Bodies.{timeline_data, windows_data, zones_data}
use Rattle.wire_replies.specs.Refusals.{refusal_data}

-- {"end":2097152,"error":"clock_range","reading":2097152}
abbrev pub clock_range_data : ℕ → ℕ → Data
clock_range_data end reading =
    object_of ((codes "end", whole end) ∷ (
      codes "error",
      string (codes "clock_range"),
    ) ∷ (codes "reading", whole reading) ∷ [])

-- {"error":"journal_full","needed":268435457,"tail":268435440}
abbrev pub journal_full_data : ℕ → ℕ → Data
journal_full_data needed tail =
    object_of ((codes "error", string (codes "journal_full")) ∷ (
      codes "needed",
      whole needed,
    ) ∷ (codes "tail", whole tail) ∷ [])

-- the answer to an outcome
abbrev pub answer_of : Outcome → Answer
answer_of (Defined applied entry) = json 200 (defined_data applied entry)
answer_of (Sampled entry new newer repeated superseded) =
    json 200 (sampled_data entry new newer repeated superseded)
answer_of (Changed entry) = json 200 (changed_data entry)
answer_of (Ticked entry notices) = json 200 (ticked_data entry notices)
answer_of (ObjectList entries objects) = json 200 (objects_data entries objects)
answer_of (ObjectText text) = record { status = 200; form = Yaml; allow = None; body = text }
answer_of (Budgets at budgets entries) = json 200 (budgets_data at budgets entries)
answer_of (Burn at burn den entries num) = json 200 (burn_data at burn den entries num)
answer_of (Timeline entries intervals state) = json 200 (timeline_data entries intervals state)
answer_of (Notices entries notices) = json 200 (notices_data entries notices)
answer_of (Feed feed) = record { status = 200; form = Octets; allow = None; body = feed }
answer_of (Row entries row) = json 200 (found_row_data entries row)
answer_of (Exclusions entries exclusions) = json 200 (exclusions_data entries exclusions)
answer_of (Zones entries zones) = json 200 (zones_data entries zones)
answer_of (Status status) = json 200 (status_data status)
answer_of (Sums at entries sums) = json 200 (sums_data at entries sums)
answer_of (Windows at entries windows) = json 200 (windows_data at entries windows)
answer_of (Refused refusal) = json (reply_of refusal).0 (refusal_data refusal)
answer_of (ClockRange end reading) = json 500 (clock_range_data end reading)
answer_of DiskFault = json 500 (error_data (codes "disk_fault"))
answer_of (JournalFull needed tail) = json 507 (journal_full_data needed tail)
answer_of NoMemory = no_memory_answer

-- the outcomes that may come after a change was made: their answers take no memory
abbrev pub is_short : Outcome → Bool
is_short (Defined applied entry) = true
is_short (Sampled entry new newer repeated superseded) = true
is_short (Changed entry) = true
is_short (Ticked entry notices) = true
is_short (ClockRange end reading) = true
is_short DiskFault = true
is_short (JournalFull needed tail) = true
is_short (ObjectList entries objects) = false
is_short (ObjectText text) = false
is_short (Budgets at budgets entries) = false
is_short (Burn at burn den entries num) = false
is_short (Timeline entries intervals state) = false
is_short (Notices entries notices) = false
is_short (Feed feed) = false
is_short (Row entries row) = false
is_short (Exclusions entries exclusions) = false
is_short (Zones entries zones) = false
is_short (Status status) = false
is_short (Sums at entries sums) = false
is_short (Windows at entries windows) = false
is_short (Refused refusal) = false
is_short NoMemory = false
