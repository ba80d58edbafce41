-- What a pass has seen, read back from records.
use Rattle.std.proofs.Common.{◌≡◌, ◌≤◌, ℕ, List, [], ◌∷◌, refl, sym, ap, ◌∙◌}
use Rattle.std.proofs.Common.{append-nil, arith, map}
use Rattle.std.proofs.lemmas.List.{map-append}
use Rattle.std.proofs.lemmas.Nat.{from_be_bytes-to_be_bytes_4}
use Rattle.std.specs.List.{AllByRecursion}
use Rattle.atomic_table.specs.Seated.{TableId}
use Rattle.slo_limits.specs.declared.TheConstants.{MAX_MINUTE}
use Rattle.turn_desk.specs.Histories.{Extends as Begins}
use Rattle.turn_desk.specs.Ledgers.{Ledger}
use Rattle.turn_desk.specs.Passes.{PassState, newcomer}
use Rattle.record_form.specs.declared.Entry.{Entry}
use Rattle.record_form.specs.Laws.{EntriesAreReadBack}
use Rattle.record_form.specs.Ranges.{FitsRecord}
use Rattle.record_form.specs.Records.{entry, record_of, whole}
use Rattle.office_history.specs.History.{Office}
use Rattle.office_counter.specs.Laws.{Extends}
use Rattle.office_keep.specs.Files.{OfficeIsWhole, records}
use Rattle.turn_counter.specs.Seen.{entry_in, entry_or_tick, office_seen, origin_in, root_of}

pub entry_back : EntriesAreReadBack → (e : Entry) → FitsRecord e → entry_in (record_of e) ≡ e
entry_back back e fits =
    ap (λ found. entry_or_tick (whole found))
    (ap entry.read (sym (append-nil (record_of e))) ∙ back e [] fits)

pub history_back : EntriesAreReadBack → (history : List Entry) → AllByRecursion FitsRecord history
    → map entry_in (records history) ≡ history
history_back back [] fit = refl
history_back back (e ∷ es) (here, rest) =
    ap (λ (f : Entry). f ∷ map entry_in (records es)) (entry_back back e here)
    ∙ ap (λ (fs : List Entry). e ∷ fs) (history_back back es rest)

pub origin_back : (origin : ℕ) → origin ≤ MAX_MINUTE → origin_in (root_of origin) ≡ origin
origin_back origin within = from_be_bytes-to_be_bytes_4 origin (omega (arith, within))

pub sees_beginning : EntriesAreReadBack → (p : PassState) (o : Office) → OfficeIsWhole o
    → o.origin ≤ MAX_MINUTE → p.root ≡ root_of o.origin → Begins p.seen (records o.history)
    → Extends (office_seen p) o
sees_beginning back p o whole within root begins = record {
  origin = sym (ap origin_in root ∙ origin_back o.origin within);
  more = map entry_in begins.0;
  history = sym (history_back back o.history whole.fit) ∙ ap (map entry_in) begins.1
      ∙ map-append entry_in p.seen begins.0;
}

-- a pass with this root and these records has seen this office
pub sees_office : EntriesAreReadBack → (root : List ℕ) (o : Office) → OfficeIsWhole o
    → o.origin ≤ MAX_MINUTE → root ≡ root_of o.origin
    → record { origin = origin_in root; history = map entry_in (records o.history) } ≡ o
sees_office back root o whole within is =
    ap (λ (origin : ℕ). record { origin = origin; history = map entry_in (records o.history) })
    (ap origin_in is ∙ origin_back o.origin within)
    ∙ ap (λ (history : List Entry). record { origin = o.origin; history = history })
    (history_back back o.history whole.fit)

pub new_sees_all : EntriesAreReadBack → (desk : TableId) (ledger : Ledger) (passes : ℕ)
    (o : Office) → OfficeIsWhole o → o.origin ≤ MAX_MINUTE → ledger.root ≡ root_of o.origin
    → ledger.history ≡ records o.history → office_seen (newcomer desk ledger passes) ≡ o
new_sees_all back desk ledger passes o whole within root history =
    ap (λ (h : List (List ℕ)). record { origin = origin_in ledger.root; history = map entry_in h })
    history
    ∙ sees_office back ledger.root o whole within root
