-- The form of each field and of each command is exact, and so is that of entries.
use Rattle.std.proofs.Common.{◌≡◌, ℕ, zero, suc, ◌^◌, ◌<◌, ◌≤◌, Bool, true, false, ◌&&◌, cond}
use Rattle.std.proofs.Common.{nat_le, nat_eq, List, [], ◌∷◌, ◌++◌, length, Option, Some, None, refl}
use Rattle.std.proofs.Common.{ap, subst, arith, inl, inr}
use Rattle.std.specs.Prelude.{IsTrue}
use Rattle.std.proofs.lemmas.Bool.{leb-true, le-leb}
use Rattle.std.proofs.lemmas.Bool.Decides.{nat_tests}
use Rattle.std.specs.Int.{w16, w32, w64}
use Rattle.exact_fraction.specs.Label.{is_label}
use Rattle.exact_fraction.specs.ZoneName.{is_zone_name}
use Rattle.slice_method.specs.declared.amount.Amount.{Amount}
use Rattle.slice_method.specs.declared.amount.Amount.TheVariants.{Counts, Value, Withdrawn}
use Rattle.sample_book.specs.declared.row.Row.{Row}
use Rattle.sample_book.specs.declared.exclusions.Exclusion.{Exclusion}
use Rattle.slo_limits.specs.declared.TheConstants.{MAX_BATCH_ROWS, MAX_DECIMAL, MAX_MINUTE}
use Rattle.slo_limits.specs.declared.TheConstants.{MAX_REVISION, MAX_TEXT_BYTES, MAX_ZONE_BYTES}
use Rattle.object_terms.specs.declared.kind.Kind.{Kind}
use Rattle.object_terms.specs.declared.kind.Kind.TheVariants as kinds
use Rattle.record_form.specs.declared.fields.TheConstants.{MAX_EXCLUDED_MINUTE}
use Rattle.record_form.specs.declared.command.Command.{Command}
use Rattle.record_form.specs.declared.command.Command.TheVariants.{Define, Remove, PutZone, Samples}
use Rattle.record_form.specs.declared.command.Command.TheVariants.{Exclude, Lift, Tick, Take}
use Rattle.record_form.specs.declared.command.Command.TheVariants.{Upgrade}
use Rattle.record_form.specs.Form.{and_then, byte, number, text, passing, ◌then◌, reading_as}
use Rattle.record_form.specs.Records.{number_within, label, zone_name, text_within, minute}
use Rattle.record_form.specs.Records.{kind_byte, kind_of_byte, kind, counts, billionths, amount}
use Rattle.record_form.specs.Records.{row, rows, exclusion, command, entry}
use Rattle.record_form.specs.Ranges.{FitsAmount, FitsRow, FitsRows, FitsExclusion, Fits, FitsRecord}
use Rattle.record_form.proofs.FormLemmas.{IsBytes, IsBytes-rest, IsExact, Stands, some_is}
use Rattle.record_form.proofs.FormLemmas.{and_then_some, byte_exact, exact16, exact32, exact64}
use Rattle.record_form.proofs.FormLemmas.{passing_exact, told_exact, then_exact, made_exact}
use Rattle.record_form.proofs.FormLemmas.{text_exact, counted_exact, arm, tagged}

both : (a b : Bool) → (a && b) ≡ true → (a ≡ true) × (b ≡ true)
both true b e = (refl, e)
both false b e = absurd cc

and_both : (a b : Bool) → a ≡ true → b ≡ true → (a && b) ≡ true
and_both true true e f = refl
and_both true false e f = absurd cc
and_both false b e f = absurd cc

within_exact : (least most : ℕ) → most < 2 ^ 32
    → IsExact (number_within least most) (λ n. (least ≤ n) × (n ≤ most))
unfolding number_within
within_exact least most below =
    told_exact (passing within (number w32))
    (λ n. (n < 2 ^ 32) × IsTrue (within n)) (λ n. (least ≤ n) × (n ≤ most))
    (passing_exact within (number w32) (λ n. n < 2 ^ 32) exact32) to from
  where
    within : ℕ → Bool
    within n = nat_le least n && nat_le n most

    to : (n : ℕ) → (n < 2 ^ 32) × IsTrue (within n) → (least ≤ n) × (n ≤ most)
    to n h = let b = both (nat_le least n) (nat_le n most) h.1 in
        (leb-true least n b.0, leb-true n most b.1)

    from : (n : ℕ) → (least ≤ n) × (n ≤ most) → (n < 2 ^ 32) × IsTrue (within n)
    from n h = (
      omega (arith, below, h.1),
      and_both (nat_le least n) (nat_le n most) (le-leb least n h.0) (le-leb n most h.1),
    )

up_to_exact : (most : ℕ) → most < 2 ^ 32 → IsExact (number_within 0 most) (λ n. n ≤ most)
up_to_exact most below = told_exact (number_within 0 most) (λ n. (0 ≤ n) × (n ≤ most))
    (λ n. n ≤ most) (within_exact 0 most below) (λ n h. h.1) (λ n h. (omega arith, h))

label_exact : IsExact label (λ name. IsTrue (is_label name))
unfolding label
label_exact =
    told_exact (passing is_label (text byte)) (λ name. (length name < 256) × IsTrue (is_label name))
    (λ name. IsTrue (is_label name)) (passing_exact is_label (text byte)
    (λ name. length name < 256) (text_exact byte (λ n. n < 256) byte_exact))
    (λ name h. h.1) (λ name h. (short name h, h))
  where
    short : (name : List ℕ) → IsTrue (is_label name) → length name < 256
    short name h = grind (arith, nat_tests)

zone_exact : IsExact zone_name (λ name. IsTrue (is_zone_name name))
unfolding zone_name
zone_exact =
    told_exact (passing is_zone_name (text byte)) (λ name. (length name < 256) × IsTrue
    (is_zone_name name)) (λ name. IsTrue (is_zone_name name)) (passing_exact is_zone_name
    (text byte) (λ name. length name < 256) (text_exact byte (λ n. n < 256) byte_exact))
    (λ name h. h.1) (λ name h. (short name h, h))
  where
    short : (name : List ℕ) → IsTrue (is_zone_name name) → length name < 256
    short name h = grind (arith, nat_tests)

long_exact : (most : ℕ) → most < 2 ^ 32 → IsExact (text_within most) (λ bytes. length bytes ≤ most)
unfolding text_within
long_exact most below = text_exact (number_within 0 most) (λ n. n ≤ most) (up_to_exact most below)

kind_byte_is : (n : ℕ) (k : Kind) → kind_of_byte n ≡ Some k → n ≡ kind_byte k
kind_byte_is zero k e = ap kind_byte (some_is kinds.DataSource k e)
kind_byte_is (suc zero) k e = ap kind_byte (some_is kinds.Service k e)
kind_byte_is (suc (suc zero)) k e = ap kind_byte (some_is kinds.Sli k e)
kind_byte_is (suc (suc (suc zero))) k e = ap kind_byte (some_is kinds.Slo k e)
kind_byte_is (suc (suc (suc (suc zero)))) k e = ap kind_byte (some_is kinds.AlertPolicy k e)
kind_byte_is (suc (suc (suc (suc (suc zero))))) k e =
    ap kind_byte (some_is kinds.AlertCondition k e)
kind_byte_is (suc (suc (suc (suc (suc (suc zero)))))) k e =
    ap kind_byte (some_is kinds.AlertNotificationTarget k e)
kind_byte_is (suc (suc (suc (suc (suc (suc (suc n))))))) k e = absurd cc

kind_of_its_byte : (k : Kind) → kind_of_byte (kind_byte k) ≡ Some k
kind_of_its_byte kinds.DataSource = refl
kind_of_its_byte kinds.Service = refl
kind_of_its_byte kinds.Sli = refl
kind_of_its_byte kinds.Slo = refl
kind_of_its_byte kinds.AlertPolicy = refl
kind_of_its_byte kinds.AlertCondition = refl
kind_of_its_byte kinds.AlertNotificationTarget = refl

abbrev AnyKind : Kind → Type 0
AnyKind k = Unit {0}

kind_exact : IsExact kind AnyKind
unfolding kind
kind_exact = record {
  again = λ k rest h. ap (λ (o : Option Kind). and_then o (λ (found : Kind). Some (found, rest)))
      (kind_of_its_byte k);
  only = only;
  front = λ k a b. refl;
}
  where
    only : (bytes : List ℕ) (found : Kind × List ℕ) → IsBytes bytes → kind.read bytes ≡ Some found
        → Stands kind AnyKind bytes found
    only [] found fits e = absurd cc
    only (n ∷ bytes) found fits e =
        let k = and_then_some (kind_of_byte n) (λ (k : Kind). Some (k, bytes)) found e in
        subst (Stands kind AnyKind (n ∷ bytes)) (some_is (k.0, bytes) found k.2)
        (record {
          spelled = ap (λ (m : ℕ). m ∷ bytes) (kind_byte_is n k.0 k.1);
          fits = tt;
          rest = IsBytes-rest n bytes fits;
        })

counts_exact : IsExact counts (λ p. (p.0 < 2 ^ 32) × (p.1 < 2 ^ 32))
counts_exact =
    then_exact (number w32) (number w32) (λ n. n < 2 ^ 32) (λ n. n < 2 ^ 32) exact32 exact32

billionths_exact : IsExact billionths (λ n. n ≤ MAX_DECIMAL)
billionths_exact =
    told_exact billionths (λ n. (n < 2 ^ 64) × IsTrue (nat_le n MAX_DECIMAL)) (λ n. n ≤ MAX_DECIMAL)
    (passing_exact (λ n. nat_le n MAX_DECIMAL) (number w64) (λ n. n < 2 ^ 64) exact64)
    (λ n h. leb-true n MAX_DECIMAL h.1) (λ n h. (omega (arith, h), le-leb n MAX_DECIMAL h))

amount_exact : IsExact amount FitsAmount
unfolding amount
amount_exact = record { again = again; only = only; front = front }
  where
    again : (x : Amount) (rest : List ℕ) → FitsAmount x
        → amount.read (amount.write x rest) ≡ Some (x, rest)
    again (Counts part total) rest h = rw (counts_exact.again (part, total) rest h) refl
    again (Value value) rest h = rw (billionths_exact.again value rest h) refl
    again Withdrawn rest h = refl

    only : (bytes : List ℕ) (found : Amount × List ℕ) → IsBytes bytes
        → amount.read bytes ≡ Some found → Stands amount FitsAmount bytes found
    only [] found fits e = absurd cc
    only (form ∷ bytes) found fits e =
        elim (arm form 0 (reading_as (λ p. Counts p.0 p.1) counts bytes)
        (cond (nat_eq form 1) (reading_as Value billionths bytes)
        (cond (nat_eq form 2) (Some (Withdrawn, bytes)) None)) found e) [
          | inl h ↦ tagged amount FitsAmount 0 (λ p. Counts p.0 p.1) counts (λ p. (p.0 < 2 ^ 32)
              × (p.1 < 2 ^ 32)) counts_exact (λ p rest. refl) (λ p h. h) form bytes found fits h
          | inr e ↦ elim (arm form 1 (reading_as Value billionths bytes) _ found e) [
            | inl h ↦ tagged amount FitsAmount 1 Value billionths (λ n. n ≤ MAX_DECIMAL)
                billionths_exact (λ n rest. refl) (λ n h. h) form bytes found fits h
            | inr e ↦ elim (arm form 2 (Some (Withdrawn, bytes)) _ found e) [
              | inl h ↦ subst (Stands amount FitsAmount (form ∷ bytes)) (some_is (
                Withdrawn,
                bytes,
              ) found h.1) (record {
                spelled = ap (λ (n : ℕ). n ∷ bytes) h.0;
                fits = tt;
                rest = IsBytes-rest form bytes fits;
              })
              | inr e ↦ absurd cc
            ]
          ]
        ]

    front : (x : Amount) (a b : List ℕ) → amount.write x (a ++ b) ≡ amount.write x a ++ b
    front (Counts part total) a b =
        ap (λ (bytes : List ℕ). 0 ∷ bytes) (counts_exact.front (part, total) a b)
    front (Value value) a b = ap (λ (bytes : List ℕ). 1 ∷ bytes) (billionths_exact.front value a b)
    front Withdrawn a b = refl

pub row_exact : IsExact row FitsRow
unfolding row
row_exact = told_exact row Parts FitsRow
    (made_exact
    (λ p. record {
      sli = p.0;
      source = p.1.0;
      minute = p.1.1.0;
      revision = p.1.1.1.0;
      amount = p.1.1.1.1;
    })
    (λ r. (r.sli, (r.source, (r.minute, (r.revision, r.amount)))))
    (label then label then minute then number_within 1 MAX_REVISION then amount)
    (λ p. IsTrue (is_label p.0) × (IsTrue (is_label p.1.0) × ((p.1.1.0 ≤ MAX_MINUTE)
    × (((1 ≤ p.1.1.1.0) × (p.1.1.1.0 ≤ MAX_REVISION)) × FitsAmount p.1.1.1.1))))
    (λ p. refl) (λ r. refl) fields)
    (λ r h. record {
      sli = h.0;
      source = h.1.0;
      range = record {
        minute = h.1.1.0;
        first_revision = h.1.1.1.0.0;
        last_revision = h.1.1.1.0.1;
      };
      amount = h.1.1.1.1;
    })
    (λ r h. (
      h.sli,
      (
        h.source,
        (h.range.minute, ((h.range.first_revision, h.range.last_revision), h.amount)),
      ),
    ))
  where
    Parts : Row → Type 0
    Parts r = IsTrue (is_label r.sli) × (IsTrue (is_label r.source) × ((r.minute ≤ MAX_MINUTE)
        × (((1 ≤ r.revision) × (r.revision ≤ MAX_REVISION)) × FitsAmount r.amount)))

    fields : IsExact (label then label then minute then number_within 1 MAX_REVISION then amount)
        (λ p. IsTrue (is_label p.0) × (IsTrue (is_label p.1.0) × ((p.1.1.0 ≤ MAX_MINUTE)
        × (((1 ≤ p.1.1.1.0) × (p.1.1.1.0 ≤ MAX_REVISION)) × FitsAmount p.1.1.1.1))))
    fields =
        then_exact label (label then minute then number_within 1 MAX_REVISION then amount)
        (λ name. IsTrue (is_label name)) _ label_exact
        (then_exact label (minute then number_within 1 MAX_REVISION then amount)
        (λ name. IsTrue (is_label name)) _ label_exact
        (then_exact minute (number_within 1 MAX_REVISION then amount) (λ n. n ≤ MAX_MINUTE) _
        (up_to_exact MAX_MINUTE (omega arith))
        (then_exact (number_within 1 MAX_REVISION) amount (λ n. (1 ≤ n) × (n ≤ MAX_REVISION))
        FitsAmount (within_exact 1 MAX_REVISION (omega arith)) amount_exact)))

rows_exact : IsExact rows FitsRows
unfolding rows
rows_exact = counted_exact (passing (λ n. nat_le n MAX_BATCH_ROWS) (number w16))
    (λ n. n ≤ MAX_BATCH_ROWS) row FitsRow few row_exact
  where
    few : IsExact (passing (λ n. nat_le n MAX_BATCH_ROWS) (number w16)) (λ n. n ≤ MAX_BATCH_ROWS)
    few =
        told_exact (passing (λ n. nat_le n MAX_BATCH_ROWS) (number w16))
        (λ n. (n < 2 ^ 16) × IsTrue (nat_le n MAX_BATCH_ROWS)) (λ n. n ≤ MAX_BATCH_ROWS)
        (passing_exact (λ n. nat_le n MAX_BATCH_ROWS) (number w16) (λ n. n < 2 ^ 16) exact16)
        (λ n h. leb-true n MAX_BATCH_ROWS h.1)
        (λ n h. (omega (arith, h), le-leb n MAX_BATCH_ROWS h))

exclusion_exact : IsExact exclusion FitsExclusion
unfolding exclusion
exclusion_exact = told_exact exclusion Parts FitsExclusion
    (made_exact
    (λ p. record { id = p.0; slo = p.1.0; from = p.1.1.0; to = p.1.1.1 })
    (λ x. (x.id, (x.slo, (x.from, x.to))))
    (label then label then number_within 0 MAX_EXCLUDED_MINUTE
    then number_within 0 MAX_EXCLUDED_MINUTE)
    (λ p. IsTrue (is_label p.0) × (IsTrue (is_label p.1.0)
    × ((p.1.1.0 ≤ MAX_EXCLUDED_MINUTE) × (p.1.1.1 ≤ MAX_EXCLUDED_MINUTE))))
    (λ p. refl) (λ x. refl) fields)
    (λ x h. record { id = h.0; slo = h.1.0; range = record { from = h.1.1.0; to = h.1.1.1 } })
    (λ x h. (h.id, (h.slo, (h.range.from, h.range.to))))
  where
    Parts : Exclusion → Type 0
    Parts x = IsTrue (is_label x.id) × (IsTrue (is_label x.slo)
        × ((x.from ≤ MAX_EXCLUDED_MINUTE) × (x.to ≤ MAX_EXCLUDED_MINUTE)))

    bound : IsExact (number_within 0 MAX_EXCLUDED_MINUTE) (λ n. n ≤ MAX_EXCLUDED_MINUTE)
    bound = up_to_exact MAX_EXCLUDED_MINUTE (omega arith)

    fields : IsExact (label then label then number_within 0 MAX_EXCLUDED_MINUTE
        then number_within 0 MAX_EXCLUDED_MINUTE)
        (λ p. IsTrue (is_label p.0) × (IsTrue (is_label p.1.0)
        × ((p.1.1.0 ≤ MAX_EXCLUDED_MINUTE) × (p.1.1.1 ≤ MAX_EXCLUDED_MINUTE))))
    fields =
        then_exact label (label then number_within 0 MAX_EXCLUDED_MINUTE
        then number_within 0 MAX_EXCLUDED_MINUTE) (λ name. IsTrue (is_label name)) _ label_exact
        (then_exact label (number_within 0 MAX_EXCLUDED_MINUTE
        then number_within 0 MAX_EXCLUDED_MINUTE) (λ name. IsTrue (is_label name)) _ label_exact
        (then_exact (number_within 0 MAX_EXCLUDED_MINUTE) (number_within 0 MAX_EXCLUDED_MINUTE)
        (λ n. n ≤ MAX_EXCLUDED_MINUTE) (λ n. n ≤ MAX_EXCLUDED_MINUTE) bound bound))

define_exact : IsExact (text_within MAX_TEXT_BYTES) (λ documents. length documents ≤ MAX_TEXT_BYTES)
define_exact = long_exact MAX_TEXT_BYTES (omega arith)

remove_exact : IsExact (kind then label) (λ p. AnyKind p.0 × IsTrue (is_label p.1))
remove_exact = then_exact kind label AnyKind (λ name. IsTrue (is_label name)) kind_exact label_exact

put_zone_exact : IsExact (zone_name then text_within MAX_ZONE_BYTES)
    (λ p. IsTrue (is_zone_name p.0) × (length p.1 ≤ MAX_ZONE_BYTES))
put_zone_exact = then_exact zone_name (text_within MAX_ZONE_BYTES)
    (λ name. IsTrue (is_zone_name name)) (λ bytes. length bytes ≤ MAX_ZONE_BYTES) zone_exact
    (long_exact MAX_ZONE_BYTES (omega arith))

command_again : (c : Command) (rest : List ℕ) → Fits c
    → command.read (command.write c rest) ≡ Some (c, rest)
unfolding command
command_again (Define documents) rest h = rw (define_exact.again documents rest h) refl
command_again (Remove k name) rest h = rw (remove_exact.again (k, name) rest (tt, h)) refl
command_again (PutZone name bytes) rest h = rw (put_zone_exact.again (name, bytes) rest h) refl
command_again (Samples batch) rest h = rw (rows_exact.again batch rest h) refl
command_again (Exclude value) rest h = rw (exclusion_exact.again value rest h) refl
command_again (Lift id) rest h = rw (label_exact.again id rest h) refl
command_again Tick rest h = refl
command_again (Take n) rest h = rw (exact32.again n rest h) refl
command_again Upgrade rest h = refl

command_front : (c : Command) (a b : List ℕ) → command.write c (a ++ b) ≡ command.write c a ++ b
unfolding command
command_front (Define documents) a b =
    ap (λ (bytes : List ℕ). 1 ∷ bytes) (define_exact.front documents a b)
command_front (Remove k name) a b =
    ap (λ (bytes : List ℕ). 2 ∷ bytes) (remove_exact.front (k, name) a b)
command_front (PutZone name bytes) a b =
    ap (λ (all : List ℕ). 3 ∷ all) (put_zone_exact.front (name, bytes) a b)
command_front (Samples batch) a b = ap (λ (bytes : List ℕ). 4 ∷ bytes) (rows_exact.front batch a b)
command_front (Exclude value) a b =
    ap (λ (bytes : List ℕ). 5 ∷ bytes) (exclusion_exact.front value a b)
command_front (Lift id) a b = ap (λ (bytes : List ℕ). 6 ∷ bytes) (label_exact.front id a b)
command_front Tick a b = refl
command_front (Take n) a b = ap (λ (bytes : List ℕ). 8 ∷ bytes) (exact32.front n a b)
command_front Upgrade a b = refl

command_only : (bytes : List ℕ) (got : Command × List ℕ) → IsBytes bytes
    → command.read bytes ≡ Some got → Stands command Fits bytes got
unfolding command
command_only [] got fits e = absurd cc
command_only (k ∷ bytes) got fits e =
    elim (arm k 1 (reading_as Define (text_within MAX_TEXT_BYTES) bytes) _ got e) [
      | inl h ↦ tagged command Fits 1 Define (text_within MAX_TEXT_BYTES) (λ documents. length
          documents ≤ MAX_TEXT_BYTES) define_exact (λ x rest. refl) (λ x h. h) k bytes got fits h
      | inr e ↦ elim (arm k 2 (reading_as (λ p. Remove p.0 p.1) (kind then label) bytes) _ got e) [
        | inl h ↦ tagged command Fits 2 (λ p. Remove p.0 p.1) (kind then label) (λ p. AnyKind p.0
            × IsTrue (is_label p.1)) remove_exact (λ x rest. refl) (λ x h. h.1) k bytes got fits h
        | inr e ↦ elim (arm k 3 (reading_as (λ p. PutZone p.0 p.1)
            (zone_name then text_within MAX_ZONE_BYTES) bytes) _ got e) [
              | inl h ↦ tagged command Fits 3 (λ p. PutZone p.0 p.1) (zone_name then text_within
                  MAX_ZONE_BYTES) (λ p. IsTrue (is_zone_name p.0) × (length p.1 ≤ MAX_ZONE_BYTES))
                  put_zone_exact (λ x rest. refl) (λ x h. h) k bytes got fits h
              | inr e ↦ elim (arm k 4 (reading_as Samples rows bytes) _ got e) [
                | inl h ↦ tagged command Fits 4 Samples rows FitsRows rows_exact (λ x rest. refl)
                    (λ x h. h) k bytes got fits h
                | inr e ↦ elim (arm k 5 (reading_as Exclude exclusion bytes) _ got e) [
                  | inl h ↦ tagged command Fits 5 Exclude exclusion FitsExclusion exclusion_exact
                      (λ x rest. refl) (λ x h. h) k bytes got fits h
                  | inr e ↦ elim (arm k 6 (reading_as Lift label bytes) _ got e) [
                    | inl h ↦ tagged command Fits 6 Lift label (λ name. IsTrue (is_label name))
                        label_exact (λ x rest. refl) (λ x h. h) k bytes got fits h
                    | inr e ↦ elim (arm k 7 (Some (Tick, bytes)) _ got e) [
                      | inl h ↦ subst (Stands command Fits (k ∷ bytes)) (some_is (
                        Tick,
                        bytes,
                      ) got h.1) (record {
                        spelled = ap (λ (n : ℕ). n ∷ bytes) h.0;
                        fits = tt;
                        rest = IsBytes-rest k bytes fits;
                      })
                      | inr e ↦ elim (arm k 8 (reading_as Take (number w32) bytes) _ got e) [
                        | inl h ↦ tagged command Fits 8 Take (number w32) (λ n. n < 2 ^ 32) exact32
                            (λ x rest. refl) (λ x h. h) k bytes got fits h
                        | inr e ↦ elim (arm k 9 (Some (Upgrade, bytes)) _ got e) [
                          | inl h ↦ subst (Stands command Fits (k ∷ bytes)) (some_is (
                            Upgrade,
                            bytes,
                          ) got h.1) (record {
                            spelled = ap (λ (n : ℕ). n ∷ bytes) h.0;
                            fits = tt;
                            rest = IsBytes-rest k bytes fits;
                          })
                          | inr e ↦ absurd cc
                        ]
                      ]
                    ]
                  ]
                ]
              ]
            ]
      ]
    ]

command_exact : IsExact command Fits
command_exact = record { again = command_again; only = command_only; front = command_front }

pub entry_exact : IsExact entry FitsRecord
unfolding entry
entry_exact = told_exact entry (λ e. (e.moment ≤ MAX_MINUTE) × Fits e.command) FitsRecord
    (made_exact
    (λ p. record { moment = p.0; command = p.1 }) (λ e. (e.moment, e.command)) (minute then command)
    (λ p. (p.0 ≤ MAX_MINUTE) × Fits p.1) (λ p. refl) (λ e. refl)
    (then_exact minute command (λ n. n ≤ MAX_MINUTE) Fits (up_to_exact MAX_MINUTE (omega arith))
    command_exact))
    (λ e h. record { moment = h.0; command = h.1 })
    (λ e h. (h.moment, h.command))
