-- The bodies of the answers of status 200, but for an object's text.
use Rattle.std.specs.Prelude.{ℕ, Bool, List, [], ◌∷◌, map, Option, Some, None, codes}
use Rattle.serde_json.specs.Data.{Data, null, boolean, string, array}
use Rattle.serde_json.specs.View.{items_of}
use Rattle.burn_core.specs.Alert.{state_word}
use Rattle.burn_core.specs.declared.alert.State.{State}
use Rattle.exact_fraction.specs.DecimalText.{decimal_text}
use Rattle.exact_fraction.specs.Ratio.{Ratio, fraction_text}
use Rattle.exact_fraction.specs.declared.leaf.Leaf.{Leaf}
use Rattle.notice_box.specs.declared.notice.Notice.{Notice}
use Rattle.record_form.specs.declared.budget_row.BudgetRow.{BudgetRow}
use Rattle.record_form.specs.declared.status.OfficeStatus.{OfficeStatus}
use Rattle.record_form.specs.declared.status.Used.{Used}
use Rattle.record_form.specs.declared.window_row.WindowRow.{WindowRow}
use Rattle.sample_book.specs.declared.exclusions.Exclusion.{Exclusion}
use Rattle.sample_book.specs.declared.row.Row.{Row}
use Rattle.slice_method.specs.declared.amount.Amount.{Amount}
use Rattle.slice_method.specs.declared.amount.Amount.TheVariants.{Counts, Value, Withdrawn}
use Rattle.object_terms.specs.Scalars.{kind_word}
use Rattle.object_terms.specs.declared.kind.Kind.{Kind}
use Rattle.wire_replies.specs.Answers.{object_of, whole}

-- a list of what is said of each
abbrev pub list_of : {T : Type 0} → (T → Data) → List T → Data
list_of content items = array (items_of (map content items))

-- a number, or null where there is none
abbrev pub entry_data : Option ℕ → Data
entry_data None = null
entry_data (Some n) = whole n

-- a fraction as a text, as "-499/1", or null where there is none
abbrev pub fraction_data : Option Ratio → Data
fraction_data None = null
fraction_data (Some r) = string (fraction_text r)

-- {"applied":5,"entry":1}
abbrev pub defined_data : ℕ → Option ℕ → Data
defined_data applied entry =
    object_of ((codes "applied", whole applied) ∷ (codes "entry", entry_data entry) ∷ [])

-- {"entry":2,"new":1,"newer":0,"repeated":0,"superseded":0}
abbrev pub sampled_data : Option ℕ → ℕ → ℕ → ℕ → ℕ → Data
sampled_data entry new newer repeated superseded =
    object_of ((codes "entry", entry_data entry) ∷ (
      codes "new",
      whole new,
    ) ∷ (codes "newer", whole newer)
    ∷ (codes "repeated", whole repeated) ∷ (codes "superseded", whole superseded) ∷ [])

-- {"entry":3}
abbrev pub changed_data : Option ℕ → Data
changed_data entry = object_of ((codes "entry", entry_data entry) ∷ [])

-- {"entry":3,"notices":2}
abbrev pub ticked_data : ℕ → ℕ → Data
ticked_data entry notices =
    object_of ((codes "entry", whole entry) ∷ (codes "notices", whole notices) ∷ [])

-- {"kind":"Service","name":"shop"}
abbrev pub object_data : Kind × List ℕ → Data
object_data o = object_of ((codes "kind", string (kind_word o.0)) ∷ (codes "name", string o.1) ∷ [])

-- {"entries":2,"objects":[..]}
abbrev pub objects_data : ℕ → List (Kind × List ℕ) → Data
objects_data entries objects =
    object_of ((codes "entries", whole entries) ∷ (
      codes "objects",
      list_of object_data objects,
    ) ∷ [])

-- {"burn":"500/1","den":20,"error":"1/2","from":0,"num":10,"objective":0,"remaining":"-499/1"}
abbrev pub budget_data : BudgetRow → Data
budget_data row =
    object_of ((codes "burn", fraction_data row.burn) ∷ (
      codes "den",
      whole row.den,
    ) ∷ (codes "error", fraction_data row.error)
    ∷ (codes "from", whole row.from) ∷ (codes "num", whole row.num) ∷ (
      codes "objective",
      whole row.objective,
    )
    ∷ (codes "remaining", fraction_data row.remaining) ∷ [])

-- {"at":200,"budgets":[..],"entries":3}
abbrev pub budgets_data : ℕ → List BudgetRow → ℕ → Data
budgets_data at budgets entries =
    object_of ((codes "at", whole at) ∷ (
      codes "budgets",
      list_of budget_data budgets,
    ) ∷ (codes "entries", whole entries) ∷ [])

-- {"at":200,"burn":"1/2","den":20,"entries":3,"num":10}
abbrev pub burn_data : ℕ → Option Ratio → ℕ → ℕ → ℕ → Data
burn_data at burn den entries num =
    object_of ((codes "at", whole at) ∷ (
      codes "burn",
      fraction_data burn,
    ) ∷ (codes "den", whole den)
    ∷ (codes "entries", whole entries) ∷ (codes "num", whole num) ∷ [])

-- [1006,1061]
abbrev pub interval_data : ℕ × ℕ → Data
interval_data i = array (items_of (whole i.0 ∷ whole i.1 ∷ []))

-- {"entries":3,"intervals":[[1006,1061]],"state":"no_data"}
abbrev pub timeline_data : ℕ → List (ℕ × ℕ) → State → Data
timeline_data entries intervals state =
    object_of ((codes "entries", whole entries) ∷ (
      codes "intervals",
      list_of interval_data intervals,
    )
    ∷ (codes "state", string (state_word state)) ∷ [])

-- {"at":1010,"number":1,"objective":0,"policy":"shop-alerts","slo":"shop-slo","state":"breaching"}
abbrev pub notice_data : Notice → Data
notice_data n =
    object_of ((codes "at", whole n.at) ∷ (codes "number", whole n.number) ∷ (
      codes "objective",
      whole n.objective,
    )
    ∷ (codes "policy", string n.policy) ∷ (codes "slo", string n.slo) ∷ (
      codes "state",
      string (state_word n.state),
    ) ∷ [])

-- {"entries":3,"notices":[..]}
abbrev pub notices_data : ℕ → List Notice → Data
notices_data entries notices =
    object_of ((codes "entries", whole entries) ∷ (
      codes "notices",
      list_of notice_data notices,
    ) ∷ [])

-- {"amount":9990,"revision":1,"total":10000}: two numbers for counts; a value as a decimal, and
-- null; null and null for a withdrawn row
abbrev pub amount_data : ℕ → Amount → Data
amount_data revision (Counts part total) =
    object_of ((codes "amount", whole part) ∷ (codes "revision", whole revision) ∷ (
      codes "total",
      whole total,
    ) ∷ [])
amount_data revision (Value value) =
    object_of ((codes "amount", string (decimal_text value)) ∷ (
      codes "revision",
      whole revision,
    ) ∷ (codes "total", null) ∷ [])
amount_data revision Withdrawn =
    object_of ((codes "amount", null) ∷ (codes "revision", whole revision) ∷ (
      codes "total",
      null,
    ) ∷ [])

-- what a row says of its cell, or null where there is none
abbrev pub sample_data : Option Row → Data
sample_data None = null
sample_data (Some row) = amount_data row.revision row.amount

-- {"entries":3,"row":{"amount":9990,"revision":1,"total":10000}}
abbrev pub found_row_data : ℕ → Option Row → Data
found_row_data entries row =
    object_of ((codes "entries", whole entries) ∷ (codes "row", sample_data row) ∷ [])

-- {"from":100,"id":"m1","live":true,"slo":"shop-slo","to":101}
abbrev pub kept_exclusion_data : Exclusion × Bool → Data
kept_exclusion_data x =
    object_of ((codes "from", whole x.0.from) ∷ (codes "id", string x.0.id) ∷ (
      codes "live",
      boolean x.1,
    )
    ∷ (codes "slo", string x.0.slo) ∷ (codes "to", whole x.0.to) ∷ [])

-- {"entries":4,"exclusions":[..]}
abbrev pub exclusions_data : ℕ → List (Exclusion × Bool) → Data
exclusions_data entries exclusions =
    object_of ((codes "entries", whole entries) ∷ (
      codes "exclusions",
      list_of kept_exclusion_data exclusions,
    ) ∷ [])

-- {"entries":4,"zones":["America/New_York"]}
abbrev pub zones_data : ℕ → List (List ℕ) → Data
zones_data entries zones =
    object_of ((codes "entries", whole entries) ∷ (codes "zones", list_of string zones) ∷ [])

-- [1,200]
abbrev pub used_data : Used → Data
used_data used = array (items_of (whole used.count ∷ whole used.limit ∷ []))

-- {"accepted":[1,4000000],"at":1000,..,"version":1,"zones":[0,50]}
abbrev pub status_data : OfficeStatus → Data
status_data s =
    object_of ((codes "accepted", used_data s.accepted) ∷ (codes "at", whole s.at)
    ∷ (codes "bindings", used_data s.bindings) ∷ (codes "bytes", used_data s.bytes)
    ∷ (codes "cells", used_data s.cells) ∷ (codes "days", used_data s.days)
    ∷ (codes "entries", whole s.entries) ∷ (codes "exclusions", used_data s.exclusions)
    ∷ (codes "last", entry_data s.last) ∷ (codes "notices", used_data s.notices)
    ∷ (codes "objects", used_data s.objects) ∷ (codes "origin", whole s.origin)
    ∷ (codes "slis", used_data s.slis) ∷ (codes "slos", used_data s.slos)
    ∷ (codes "version", whole s.version) ∷ (codes "zones", used_data s.zones) ∷ [])

-- [9990,10000]
abbrev pub sum_data : Leaf → Data
sum_data sum = array (items_of (whole sum.num ∷ whole sum.den ∷ []))

-- {"at":1000,"entries":3,"sums":[[9990,10000]]}
abbrev pub sums_data : ℕ → ℕ → List Leaf → Data
sums_data at entries sums =
    object_of ((codes "at", whole at) ∷ (codes "entries", whole entries) ∷ (
      codes "sums",
      list_of sum_data sums,
    ) ∷ [])

-- {"budgets":[..],"from":0,"to":44640}
abbrev pub window_data : WindowRow → Data
window_data w =
    object_of ((codes "budgets", list_of budget_data w.budgets) ∷ (
      codes "from",
      whole w.from,
    ) ∷ (codes "to", entry_data w.to) ∷ [])

-- {"at":1000,"entries":3,"windows":[..]}
abbrev pub windows_data : ℕ → ℕ → List WindowRow → Data
windows_data at entries windows =
    object_of ((codes "at", whole at) ∷ (codes "entries", whole entries) ∷ (
      codes "windows",
      list_of window_data windows,
    ) ∷ [])
