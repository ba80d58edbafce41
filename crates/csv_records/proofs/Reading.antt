-- What one read does to a reader of a text.
use Rattle.std.proofs.Common.{Bor, ◌≡◌, ◌∙◌, ℕ, List, [], ◌∷◌, Some, true, false, inl, refl, sym}
use Rattle.std.proofs.Common.{ap, ◌<◌, length}
use Rattle.csv.specs.Reading.{ReadRecord, Reached, default_config}
use Rattle.csv.proofs.ReadFacts.{rows-more}
use Rattle.csv.specs.declared.reader.Reader.{Reader}
use Rattle.csv_records.specs.Records.{Fields}
use Rattle.csv_records.specs.Left.{IsReading, left_of, records_of_unread}
use Rattle.csv_records.proofs.Counts.{next_record-some}
use Rattle.csv_records.proofs.Rest.{row_end, row_step}

-- a read that found a record leaves a reader that reads on, and took the first of those left
pub took : (a b : Reader (Bor (List ℕ))) (f : Fields) → IsReading a
    → ReadRecord (λ (s : Bor (List ℕ)). Some s.now) a b true f
    → b.first ≡ true → b.flexible ≡ a.flexible
    → IsReading b × (left_of false a ≡ f ∷ left_of false b)
took a b f h read first flexible =
    let (y, source) = h.told in
    let (between, z, at_z, more) =
    row_step (λ (s : Bor (List ℕ)). Some s.now) a b f y h.config source h.between read in (
      record {
        trim = read.3 ∙ h.trim;
        ready = inl first;
        config = read.2 ∙ h.config;
        flexible = flexible ∙ h.flexible;
        between = between;
        told = (z, at_z);
      },
      ap (records_of_unread a.state) source ∙ more
          ∙ ap (λ (t : List Fields). f ∷ t) (sym (ap (records_of_unread b.state) at_z)),
    )

-- the record that a read found has a field
pub took_some : (a b : Reader (Bor (List ℕ))) (f : Fields) → IsReading a
    → ReadRecord (λ (s : Bor (List ℕ)). Some s.now) a b true f → 0 < length f
unfolding Reached
took_some a b f h read =
    let (y, source) = h.told in
    let (z, at_z, (p, next, fields, rest)) = rows-more (λ (s : Bor (List ℕ)). Some s.now) a b f
    default_config a.state y y [] h.config source (refl, refl) read in
    rw fields (next_record-some default_config a.state [] [] y p next)

-- a read that found none had none left
pub found_none : (a b : Reader (Bor (List ℕ))) (f : Fields) → IsReading a
    → ReadRecord (λ (s : Bor (List ℕ)). Some s.now) a b false f
    → left_of false a ≡ []
found_none a b f h read =
    let (y, source) = h.told in
    ap (records_of_unread a.state) source
    ∙ row_end (λ (s : Bor (List ℕ)). Some s.now) a b f y h.config source read
