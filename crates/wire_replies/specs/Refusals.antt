-- The bodies of refusals. Each has the member `error`, which is the refusal's word.
use Rattle.std.specs.Prelude.{ℕ, List, [], ◌∷◌, ◌++◌, codes, decimal}
use Rattle.serde_json.specs.Data.{Data, string}
use Rattle.exact_fraction.specs.DecimalText.{decimal_text}
use Rattle.record_form.specs.Words.{limit_word, reply_of, yaml_word}
use Rattle.record_form.specs.declared.refusal.Refusal.{Refusal}
use Rattle.record_form.specs.declared.refusal.Refusal.TheVariants as refusals
use Rattle.slice_method.specs.declared.amount.Amount.{Amount}
use Rattle.slice_method.specs.declared.amount.Amount.TheVariants.{Counts, Value, Withdrawn}
use Rattle.object_terms.specs.Rules.{rule_word}
use Rattle.object_terms.specs.Scalars.{kind_word}
use Rattle.wire_replies.specs.Answers.{error_data, object_of, whole}

-- an amount as it is told: "9990,10000", or a decimal, or "withdrawn"
abbrev pub amount_text : Amount → List ℕ
amount_text (Counts part total) = decimal part ++ (codes "," ++ decimal total)
amount_text (Value value) = decimal_text value
amount_text Withdrawn = codes "withdrawn"

-- {"error":"limit","which":"rows"}
abbrev pub limit_data : List ℕ → List ℕ → Data
limit_data error which =
    object_of ((codes "error", string error) ∷ (codes "which", string which) ∷ [])

-- {"error":"yaml","line":33,"which":"too_deep"}
abbrev pub yaml_data : List ℕ → ℕ → List ℕ → Data
yaml_data error line which =
    object_of ((codes "error", string error) ∷ (codes "line", whole line) ∷ (
      codes "which",
      string which,
    ) ∷ [])

-- {"document":1,"error":"object","field":"kind","rule":"bad_kind"}
abbrev pub field_data : ℕ → List ℕ → List ℕ → List ℕ → Data
field_data document error field rule =
    object_of ((codes "document", whole document) ∷ (codes "error", string error)
    ∷ (codes "field", string field) ∷ (codes "rule", string rule) ∷ [])

-- {"error":"reserved","name":"UTC"}
abbrev pub name_data : List ℕ → List ℕ → Data
name_data error name = object_of ((codes "error", string error) ∷ (codes "name", string name) ∷ [])

-- {"error":"duplicate","kind":"Service","name":"shop"}
abbrev pub object_name_data : List ℕ → List ℕ → List ℕ → Data
object_name_data error kind name =
    object_of ((codes "error", string error) ∷ (codes "kind", string kind) ∷ (
      codes "name",
      string name,
    ) ∷ [])

-- {"error":"unresolved","from_kind":"SLO","from_name":"shop-slo","kind":"Service","name":"shop"}
abbrev pub unresolved_data : List ℕ → List ℕ → List ℕ → List ℕ → List ℕ → Data
unresolved_data error from_kind from_name kind name =
    object_of ((codes "error", string error) ∷ (
      codes "from_kind",
      string from_kind,
    ) ∷ (codes "from_name", string from_name)
    ∷ (codes "kind", string kind) ∷ (codes "name", string name) ∷ [])

-- {"error":"needs_op","objective":0,"slo":"shop-slo"}
abbrev pub needs_op_data : List ℕ → ℕ → List ℕ → Data
needs_op_data error objective slo =
    object_of ((codes "error", string error) ∷ (codes "objective", whole objective) ∷ (
      codes "slo",
      string slo,
    ) ∷ [])

-- {"error":"has_samples","minute":999,"name":"shop-good","source":"web"}
abbrev pub has_samples_data : List ℕ → ℕ → List ℕ → List ℕ → Data
has_samples_data error minute name source =
    object_of ((codes "error", string error) ∷ (codes "minute", whole minute)
    ∷ (codes "name", string name) ∷ (codes "source", string source) ∷ [])

-- {"by_kind":"SLO","by_name":"shop-slo","error":"in_use"}
abbrev pub in_use_data : List ℕ → List ℕ → List ℕ → Data
in_use_data by_kind by_name error =
    object_of ((codes "by_kind", string by_kind) ∷ (
      codes "by_name",
      string by_name,
    ) ∷ (codes "error", string error) ∷ [])

-- {"error":"unknown_sli","name":"nope","row":1}
abbrev pub unknown_sli_data : List ℕ → List ℕ → ℕ → Data
unknown_sli_data error name row =
    object_of ((codes "error", string error) ∷ (codes "name", string name) ∷ (
      codes "row",
      whole row,
    ) ∷ [])

-- {"error":"wrong_kind","row":1}
abbrev pub row_data : List ℕ → ℕ → Data
row_data error row = object_of ((codes "error", string error) ∷ (codes "row", whole row) ∷ [])

-- {"error":"early","minute":9,"origin":10,"row":1}
abbrev pub early_data : List ℕ → ℕ → ℕ → ℕ → Data
early_data error minute origin row =
    object_of ((codes "error", string error) ∷ (codes "minute", whole minute)
    ∷ (codes "origin", whole origin) ∷ (codes "row", whole row) ∷ [])

-- {"error":"open_minute","minute":1000,"moment":1000,"row":1}
abbrev pub open_minute_data : List ℕ → ℕ → ℕ → ℕ → Data
open_minute_data error minute moment row =
    object_of ((codes "error", string error) ∷ (codes "minute", whole minute)
    ∷ (codes "moment", whole moment) ∷ (codes "row", whole row) ∷ [])

-- {"amount":"9990,10000","error":"conflict","revision":1,"row":2}
abbrev pub conflict_data : List ℕ → List ℕ → ℕ → ℕ → Data
conflict_data amount error revision row =
    object_of ((codes "amount", string amount) ∷ (codes "error", string error)
    ∷ (codes "revision", whole revision) ∷ (codes "row", whole row) ∷ [])

-- {"error":"withdrawn","id":"m1"}
abbrev pub withdrawn_data : List ℕ → List ℕ → Data
withdrawn_data error id = object_of ((codes "error", string error) ∷ (codes "id", string id) ∷ [])

-- {"error":"conflict","from":100,"slo":"shop-slo","to":101}
abbrev pub exclusion_data : List ℕ → ℕ → List ℕ → ℕ → Data
exclusion_data error from slo to =
    object_of ((codes "error", string error) ∷ (codes "from", whole from)
    ∷ (codes "slo", string slo) ∷ (codes "to", whole to) ∷ [])

-- {"error":"unknown_notice","made":4,"number":5}
abbrev pub unknown_notice_data : List ℕ → ℕ → ℕ → Data
unknown_notice_data error made number =
    object_of ((codes "error", string error) ∷ (codes "made", whole made) ∷ (
      codes "number",
      whole number,
    ) ∷ [])

-- {"at":99,"error":"no_window"}
abbrev pub no_window_data : ℕ → List ℕ → Data
no_window_data at error = object_of ((codes "at", whole at) ∷ (codes "error", string error) ∷ [])

-- the body of a refusal, by its word
abbrev pub refusal_body : List ℕ → Refusal → Data
refusal_body error (refusals.Limit which) = limit_data error (limit_word which)
refusal_body error (refusals.Yaml line which) = yaml_data error line (yaml_word which)
refusal_body error (refusals.Object document field rule) =
    field_data document error field (rule_word rule)
refusal_body error (refusals.ReservedPolicy name) = name_data error name
refusal_body error (refusals.ReservedZone name) = name_data error name
refusal_body error (refusals.Duplicate kind name) = object_name_data error (kind_word kind) name
refusal_body error (refusals.Unresolved from_kind from_name kind name) =
    unresolved_data error (kind_word from_kind) from_name (kind_word kind) name
refusal_body error (refusals.NoSuchSlo kind name) = object_name_data error (kind_word kind) name
refusal_body error (refusals.NeedsOp objective slo) = needs_op_data error objective slo
refusal_body error (refusals.UnknownZone name) = name_data error name
refusal_body error (refusals.HasSamples minute name source) =
    has_samples_data error minute name source
refusal_body error refusals.NotFound = error_data error
refusal_body error (refusals.InUse by_kind by_name) = in_use_data (kind_word by_kind) by_name error
refusal_body error (refusals.ZoneDiffers name) = name_data error name
refusal_body error (refusals.BadZone name) = name_data error name
refusal_body error (refusals.UnknownSli name row) = unknown_sli_data error name row
refusal_body error (refusals.Version row) = row_data error row
refusal_body error (refusals.WrongKind row) = row_data error row
refusal_body error (refusals.Counts row) = row_data error row
refusal_body error (refusals.Early minute origin row) = early_data error minute origin row
refusal_body error (refusals.OpenMinute minute moment row) =
    open_minute_data error minute moment row
refusal_body error (refusals.RowConflict amount revision row) =
    conflict_data (amount_text amount) error revision row
refusal_body error (refusals.Withdrawn id) = withdrawn_data error id
refusal_body error (refusals.ExclusionConflict from slo to) = exclusion_data error from slo to
refusal_body error refusals.Range = error_data error
refusal_body error (refusals.UnknownNotice made number) = unknown_notice_data error made number
refusal_body error (refusals.NoWindow at) = no_window_data at error

-- the body of a refusal
abbrev pub refusal_data : Refusal → Data
refusal_data refusal = refusal_body (reply_of refusal).1 refusal
