-- The records of entries. Numbers have their greatest byte first; nothing stands between fields,
-- and nothing behind a record.
use Rattle.std.specs.Prelude.{ℕ, nat_le, ◌&&◌, ◌==◌, cond, List, [], ◌∷◌, Option, Some, None}
use Rattle.std.specs.Prelude.{slice_get}
use Rattle.std.specs.Int.{w16, w32, w64}
use Rattle.exact_fraction.specs.Label.{is_label}
use Rattle.exact_fraction.specs.ZoneName.{is_zone_name}
use Rattle.slice_method.specs.declared.amount.Amount.{Amount}
use Rattle.slice_method.specs.declared.amount.Amount.TheVariants.{Counts, Value, Withdrawn}
use Rattle.sample_book.specs.declared.row.Row.{Row}
use Rattle.sample_book.specs.declared.exclusions.Exclusion.{Exclusion}
use Rattle.slo_limits.specs.declared.TheConstants.{MAX_BATCH_ROWS, MAX_DECIMAL, MAX_MINUTE}
use Rattle.slo_limits.specs.declared.TheConstants.{MAX_REVISION, MAX_TEXT_BYTES, MAX_ZONE_BYTES}
use Rattle.object_terms.specs.Scalars.{all_kinds}
use Rattle.object_terms.specs.declared.kind.Kind.{Kind}
use Rattle.object_terms.specs.declared.kind.Kind.TheVariants as kinds
use Rattle.record_form.specs.declared.fields.TheConstants.{MAX_EXCLUDED_MINUTE}
use Rattle.record_form.specs.declared.command.Command.{Command}
use Rattle.record_form.specs.declared.command.Command.TheVariants.{Define, Remove, PutZone, Samples}
use Rattle.record_form.specs.declared.command.Command.TheVariants.{Exclude, Lift, Tick, Take}
use Rattle.record_form.specs.declared.command.Command.TheVariants.{Upgrade}
use Rattle.record_form.specs.declared.entry.Entry.{Entry}
use Rattle.record_form.specs.Form.{Form, and_then, first_byte, byte, number, text, passing, ◌then◌}
use Rattle.record_form.specs.Form.{form_by_parts, form_of_list, reading_as}

-- a number of 32 bits within bounds
unfoldable pub number_within : ℕ → ℕ → Form ℕ
number_within least most = passing (λ n. nat_le least n && nat_le n most) (number w32)

-- a byte of length, and the name
unfoldable pub label : Form (List ℕ)
label = passing is_label (text byte)

-- the same for the name of a time zone
unfoldable pub zone_name : Form (List ℕ)
zone_name = passing is_zone_name (text byte)

-- four bytes of length, and that many bytes, `most` of them at most
unfoldable pub text_within : ℕ → Form (List ℕ)
text_within most = text (number_within 0 most)

-- a minute since 1970-01-01T00:00Z
abbrev pub minute : Form ℕ
minute = number_within 0 MAX_MINUTE

-- a kind of objects, as its place among the seven
abbrev pub kind_byte : Kind → ℕ
kind_byte kinds.DataSource = 0
kind_byte kinds.Service = 1
kind_byte kinds.Sli = 2
kind_byte kinds.Slo = 3
kind_byte kinds.AlertPolicy = 4
kind_byte kinds.AlertCondition = 5
kind_byte kinds.AlertNotificationTarget = 6

-- the kind at a place among the seven
abbrev pub kind_of_byte : ℕ → Option Kind
kind_of_byte n = slice_get all_kinds n

-- the byte of a kind
unfoldable pub kind : Form Kind
kind = record {
  write = λ k rest. kind_byte k ∷ rest;
  read =
      λ bytes. and_then (first_byte bytes) (λ n. and_then (kind_of_byte n.0) (λ k. Some (k, n.1)));
}

-- part and total of counted events
abbrev pub counts : Form (ℕ × ℕ)
counts = number w32 then number w32

-- the billionths of a value
abbrev pub billionths : Form ℕ
billionths = passing (λ n. nat_le n MAX_DECIMAL) (number w64)

-- a form byte, and the amount in that form; nothing follows the byte of a withdrawn one
abbrev pub amount_spelling : Amount → List ℕ → List ℕ
amount_spelling (Counts part total) rest = 0 ∷ counts.write (part, total) rest
amount_spelling (Value value) rest = 1 ∷ billionths.write value rest
amount_spelling Withdrawn rest = 2 ∷ rest

-- the amount behind a form byte
abbrev pub amount_reading : ℕ → List ℕ → Option (Amount × List ℕ)
amount_reading form bytes =
    cond (form == 0) (reading_as (λ p. Counts p.0 p.1) counts bytes)
    (cond (form == 1) (reading_as Value billionths bytes)
    (cond (form == 2) (Some (Withdrawn, bytes))
    None))

-- an amount
unfoldable pub amount : Form Amount
amount = record {
  write = amount_spelling;
  read = λ bytes. and_then (first_byte bytes) (λ form. amount_reading form.0 form.1);
}

-- a row, field by field
unfoldable pub row : Form Row
row = form_by_parts
    (λ p. record {
      sli = p.0;
      source = p.1.0;
      minute = p.1.1.0;
      revision = p.1.1.1.0;
      amount = p.1.1.1.1;
    })
    (λ r. (r.sli, (r.source, (r.minute, (r.revision, r.amount)))))
    (label then label then minute then number_within 1 MAX_REVISION then amount)

-- two bytes of how many, and the rows
unfoldable pub rows : Form (List Row)
rows = form_of_list (passing (λ n. nat_le n MAX_BATCH_ROWS) (number w16)) row

-- an exclusion, field by field
unfoldable pub exclusion : Form Exclusion
exclusion = form_by_parts
    (λ p. record { id = p.0; slo = p.1.0; from = p.1.1.0; to = p.1.1.1 })
    (λ x. (x.id, (x.slo, (x.from, x.to))))
    (label then label then number_within 0 MAX_EXCLUDED_MINUTE
    then number_within 0 MAX_EXCLUDED_MINUTE)

-- a kind byte, and the fields of a command of that kind
abbrev pub command_spelling : Command → List ℕ → List ℕ
command_spelling (Define documents) rest = 1 ∷ (text_within MAX_TEXT_BYTES).write documents rest
command_spelling (Remove k name) rest = 2 ∷ (kind then label).write (k, name) rest
command_spelling (PutZone name bytes) rest =
    3 ∷ (zone_name then text_within MAX_ZONE_BYTES).write (name, bytes) rest
command_spelling (Samples batch) rest = 4 ∷ rows.write batch rest
command_spelling (Exclude value) rest = 5 ∷ exclusion.write value rest
command_spelling (Lift id) rest = 6 ∷ label.write id rest
command_spelling Tick rest = 7 ∷ rest
command_spelling (Take number_taken) rest = 8 ∷ (number w32).write number_taken rest
command_spelling Upgrade rest = 9 ∷ rest

-- the command of a kind, from its fields
abbrev pub fields_reading : ℕ → List ℕ → Option (Command × List ℕ)
fields_reading k bytes =
    cond (k == 1) (reading_as Define (text_within MAX_TEXT_BYTES) bytes)
    (cond (k == 2) (reading_as (λ p. Remove p.0 p.1) (kind then label) bytes)
    (cond (k == 3) (reading_as (λ p. PutZone p.0 p.1)
    (zone_name then text_within MAX_ZONE_BYTES) bytes)
    (cond (k == 4) (reading_as Samples rows bytes)
    (cond (k == 5) (reading_as Exclude exclusion bytes)
    (cond (k == 6) (reading_as Lift label bytes)
    (cond (k == 7) (Some (Tick, bytes))
    (cond (k == 8) (reading_as Take (number w32) bytes)
    (cond (k == 9) (Some (Upgrade, bytes))
    None))))))))

-- a command
unfoldable pub command : Form Command
command = record {
  write = command_spelling;
  read = λ bytes. and_then (first_byte bytes) (λ k. fields_reading k.0 k.1);
}

-- the moment, and the command
unfoldable pub entry : Form Entry
entry = form_by_parts (λ p. record { moment = p.0; command = p.1 }) (λ e. (e.moment, e.command))
    (minute then command)

-- the record of an entry
abbrev pub record_of : Entry → List ℕ
record_of e = entry.write e []

-- the entry at the front, where nothing follows it
abbrev pub whole : Option (Entry × List ℕ) → Option Entry
whole None = None
whole (Some (e, [])) = Some e
whole (Some (e, first ∷ rest)) = None

-- the entry whose record the bytes are
abbrev pub entry_of : List ℕ → Option Entry
entry_of bytes = whole (entry.read bytes)
