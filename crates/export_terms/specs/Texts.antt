-- Changes of the office as requests.
use Rattle.std.specs.Prelude.{ℕ, List, [], ◌∷◌, ◌++◌, codes, decimal}
use Rattle.std.specs.List.{flat_map}
use Rattle.exact_fraction.specs.DecimalText.{decimal_text}
use Rattle.slice_method.specs.declared.Amount.{Amount}
use Rattle.slice_method.specs.declared.Amount.TheVariants.{Counts, Value, Withdrawn}
use Rattle.sample_book.specs.declared.Exclusion.{Exclusion}
use Rattle.sample_book.specs.declared.Row.{Row}
use Rattle.object_terms.specs.Scalars.{kind_word}
use Rattle.record_form.specs.declared.Command.{Command}
use Rattle.record_form.specs.declared.Command.TheVariants.{Define, Remove, PutZone, Samples}
use Rattle.record_form.specs.declared.Command.TheVariants.{Exclude, Lift, Tick, Take, Upgrade}
use Rattle.request_texts.specs.Requests.{request}

-- The last two fields of a sample: the part and the total of counted events, or a value and no
-- total; a withdrawn one has neither. A comma (44) stands between them, a line feed (10) behind.
abbrev pub amount_fields : Amount → List ℕ
amount_fields (Counts part total) = decimal part ++ (44 ∷ (decimal total ++ 10 ∷ []))
amount_fields (Value value) = decimal_text value ++ (44 ∷ 10 ∷ [])
amount_fields Withdrawn = 44 ∷ 10 ∷ []

-- a sample as a record of CSV
abbrev pub row_line : Row → List ℕ
row_line r =
    r.sli ++ (44 ∷ (r.source ++ (44 ∷ (decimal r.minute ++ (44 ∷ (decimal r.revision
    ++ (44 ∷ amount_fields r.amount)))))))

-- {"from":1000,"slo":"shop-slo","to":1060}
abbrev pub exclusion_text : Exclusion → List ℕ
exclusion_text x =
    codes "{\"from\":" ++ (decimal x.from ++ (codes ",\"slo\":\"" ++ (x.slo ++ (codes "\",\"to\":"
    ++ (decimal x.to ++ codes "}")))))

-- the method and the target of a change's request
abbrev pub target_of : Command → List ℕ
target_of (Define text) = codes "POST /objects"
target_of (Remove kind name) = codes "DELETE /objects/" ++ (kind_word kind ++ (47 ∷ name))
target_of (PutZone name bytes) = codes "PUT /zones/" ++ name
target_of (Samples rows) = codes "POST /samples"
target_of (Exclude x) = codes "PUT /exclusions/" ++ x.id
target_of (Lift id) = codes "DELETE /exclusions/" ++ id
target_of Tick = codes "POST /tick"
target_of (Take number) = codes "POST /notices/" ++ (decimal number ++ codes "/take")
target_of Upgrade = codes "POST /upgrade"

-- its body
abbrev pub body_of : Command → List ℕ
body_of (Define text) = text
body_of (PutZone name bytes) = bytes
body_of (Samples rows) = flat_map row_line rows
body_of (Exclude x) = exclusion_text x
body_of _ = []

-- The request of a change.
abbrev pub text_of : Command → List ℕ
text_of c = request (target_of c) (body_of c)
