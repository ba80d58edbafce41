-- How long records are.
use Rattle.std.proofs.Common.{◌≡◌, ℕ, suc, ◌+◌, ◌*◌, ◌≤◌, List, [], ◌∷◌, ◌++◌, length, refl, ap}
use Rattle.std.proofs.Common.{◌∙◌, arith, length-append, slice_get, Some}
use Rattle.std.specs.Prelude.{IsTrue}
use Rattle.std.specs.List.{AllByRecursion}
use Rattle.std.proofs.lemmas.Bool.Decides.{nat_tests}
use Rattle.exact_fraction.specs.Label.{is_label}
use Rattle.exact_fraction.specs.ZoneName.{is_zone_name}
use Rattle.slice_method.specs.declared.amount.Amount.{Amount}
use Rattle.slice_method.specs.declared.amount.Amount.TheVariants.{Counts, Value, Withdrawn}
use Rattle.sample_book.specs.declared.row.Row.{Row}
use Rattle.sample_book.specs.declared.exclusions.Exclusion.{Exclusion}
use Rattle.object_terms.specs.declared.kind.Kind.{Kind}
use Rattle.slo_limits.specs.declared.TheConstants.{MAX_RECORD_BYTES, MAX_TEXT_BYTES, MAX_ZONE_BYTES}
use Rattle.record_form.specs.declared.command.Command.{Command}
use Rattle.record_form.specs.declared.command.Command.TheVariants.{Define, Remove, PutZone, Samples}
use Rattle.record_form.specs.declared.command.Command.TheVariants.{Exclude, Lift, Tick, Take}
use Rattle.record_form.specs.declared.command.Command.TheVariants.{Upgrade}
use Rattle.record_form.specs.declared.entry.Entry.{Entry}
use Rattle.record_form.specs.Form.{spelling_of_each}
use Rattle.record_form.specs.Records.{number_within, label, zone_name, text_within, kind, amount}
use Rattle.record_form.specs.Records.{row, rows, exclusion, command, entry}
use Rattle.record_form.specs.Laws.{UpgradesHaveTheirKind}
use Rattle.record_form.specs.Ranges.{FitsRow, FitsExclusion, Fits, FitsRecord}

-- numerals as they are counted
two : (n : ℕ) → suc (suc n) ≡ 2 + n
two n = omega arith

four : (n : ℕ) → suc (suc (suc (suc n))) ≡ 4 + n
four n = omega arith

nine : (n : ℕ) → suc (suc (suc (suc (suc (suc (suc (suc (suc n)))))))) ≡ 9 + n
nine n = omega arith

label_length : (name rest : List ℕ)
    → length (label.write name rest) ≡ suc (length name + length rest)
unfolding label
label_length name rest = ap suc (length-append name rest)

short_label : (name : List ℕ) → IsTrue (is_label name) → length name ≤ 63
short_label name h = grind (arith, nat_tests)

zone_length : (name rest : List ℕ)
    → length (zone_name.write name rest) ≡ suc (length name + length rest)
unfolding zone_name
zone_length name rest = ap suc (length-append name rest)

short_zone : (name : List ℕ) → IsTrue (is_zone_name name) → length name ≤ 63
short_zone name h = grind (arith, nat_tests)

number_length : (least most n : ℕ) (rest : List ℕ)
    → length ((number_within least most).write n rest) ≡ 4 + length rest
unfolding number_within
number_length least most n rest = four (length rest)

text_length : (most : ℕ) (bytes rest : List ℕ)
    → length ((text_within most).write bytes rest) ≡ 4 + (length bytes + length rest)
unfolding text_within
text_length most bytes rest = number_length 0 most (length bytes) (bytes ++ rest)
    ∙ ap (λ (n : ℕ). 4 + n) (length-append bytes rest)

amount_length : (x : Amount) (rest : List ℕ) → length (amount.write x rest) ≤ 9 + length rest
unfolding amount
amount_length (Counts part total) rest = omega (arith, nine (length rest))
amount_length (Value value) rest = omega (arith, nine (length rest))
amount_length Withdrawn rest = omega arith

kind_length : (k : Kind) (rest : List ℕ) → length (kind.write k rest) ≡ suc (length rest)
unfolding kind
kind_length k rest = refl

rows_length : (rs : List Row) → length (rows.write rs []) ≡ 2 + length (spelling_of_each row rs [])
unfolding rows
rows_length rs = two (length (spelling_of_each row rs []))

exclusion_length : (x : Exclusion) (rest : List ℕ) → FitsExclusion x
    → length (exclusion.write x rest) ≤ 136 + length rest
unfolding exclusion
exclusion_length x rest fits =
    let to_end = (number_within 0 134217727).write x.to rest in
    let from_end = (number_within 0 134217727).write x.from to_end in
    omega (
      arith,
      label_length x.id (label.write x.slo from_end),
      short_label x.id fits.id,
      label_length x.slo from_end,
      short_label x.slo fits.slo,
      number_length 0 134217727 x.from to_end,
      number_length 0 134217727 x.to rest,
    )

row_length : (r : Row) (rest : List ℕ) → FitsRow r → length (row.write r rest) ≤ 145 + length rest
unfolding row
row_length r rest fits =
    let amount_end = amount.write r.amount rest in
    let revision_end = (number_within 1 1000000000).write r.revision amount_end in
    let minute_end = (number_within 0 67108863).write r.minute revision_end in
    omega (
      arith,
      label_length r.sli (label.write r.source minute_end),
      short_label r.sli fits.sli,
      label_length r.source minute_end,
      short_label r.source fits.source,
      number_length 0 67108863 r.minute revision_end,
      number_length 1 1000000000 r.revision amount_end,
      amount_length r.amount rest,
    )

each_length : (rs : List Row) → AllByRecursion FitsRow rs
    → length (spelling_of_each row rs []) ≤ 145 * length rs
each_length [] h = omega arith
each_length (r ∷ rs) h =
    omega (arith, row_length r (spelling_of_each row rs []) h.0, each_length rs h.1)

-- the kind byte at least, and at most the greatest text
most_command : (c : Command) → Fits c → length (command.write c []) ≤ 1048581
unfolding command
most_command (Define documents) h = omega (arith, text_length MAX_TEXT_BYTES documents [], h)
most_command (Remove k name) h = omega (
  arith,
  kind_length k (label.write name []),
  label_length name [],
  short_label name h,
)
most_command (PutZone name bytes) h =
    omega (
      arith,
      zone_length name ((text_within MAX_ZONE_BYTES).write bytes []),
      short_zone name h.0,
      text_length MAX_ZONE_BYTES bytes [],
      h.1,
    )
most_command (Samples rs) h = omega (arith, rows_length rs, each_length rs h.1, h.0)
most_command (Exclude x) h = omega (arith, exclusion_length x [] h)
most_command (Lift id) h = omega (arith, label_length id [], short_label id h)
most_command Tick h = omega arith
most_command (Take n) h = omega arith
most_command Upgrade h = omega arith

least_command : (c : Command) → 1 ≤ length (command.write c [])
unfolding command
least_command (Define documents) = omega arith
least_command (Remove k name) = omega arith
least_command (PutZone name bytes) = omega arith
least_command (Samples rs) = omega arith
least_command (Exclude x) = omega arith
least_command (Lift id) = omega arith
least_command Tick = omega arith
least_command (Take n) = omega arith
least_command Upgrade = omega arith

entry_length : (e : Entry) → length (entry.write e []) ≡ 4 + length (command.write e.command [])
unfolding entry
entry_length e = number_length 0 67108863 e.moment (command.write e.command [])

pub least_record : (e : Entry) → 5 ≤ length (entry.write e [])
least_record e = omega (arith, entry_length e, least_command e.command)

pub most_record : (e : Entry) → FitsRecord e → length (entry.write e []) ≤ MAX_RECORD_BYTES
most_record e fits = omega (arith, entry_length e, most_command e.command fits.command)

-- the kind stands behind the moment
kind_behind : (m : ℕ) (c : Command) → c ≡ Upgrade
    → slice_get ((number_within 0 67108863).write m (command.write c [])) 4 ≡ Some 9
unfolding number_within command
kind_behind m c is =
    ap (λ (c : Command). slice_get ((number_within 0 67108863).write m (command.write c [])) 4) is

pub upgrades_have_their_kind : UpgradesHaveTheirKind
unfolding entry
upgrades_have_their_kind e is = kind_behind e.moment e.command is
