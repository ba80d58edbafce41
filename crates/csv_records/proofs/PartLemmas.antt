-- The parts of a text.
use Rattle.std.proofs.Common.{◌≡◌, ◌∙◌, ◌<◌, ◌≤◌, ◌+◌, ◌-◌, ◌++◌, ℕ, List, [], ◌∷◌, refl, sym, ap}
use Rattle.std.proofs.Common.{subst}
use Rattle.std.proofs.Common.{arith, append_assoc, drop, false, get_or, length, take}
use Rattle.std.proofs.lemmas.List.{append-nil, take-append-drop, take_more}
use Rattle.std.proofs.lemmas.List.Sums.{fold-append}
use Rattle.csv.specs.Reading.{strip_bom}
use Rattle.csv_records.specs.Records.{Fields, csv_records}
use Rattle.csv_records.specs.Parts.{EndsWithRecord, PartsAreRead}
use Rattle.csv_records.specs.Places.{IsCut, in_quotes, next_place, place_after}
use Rattle.csv_records.specs.declared.places.Place.{Place}
use Rattle.csv_records.specs.declared.places.Place.TheVariants as place
use Rattle.csv_records.proofs.CutLemmas.{plain_records, records_behind_feed, records_cut}
use Rattle.csv_records.proofs.CutLemmas.{records_plain}
use Rattle.csv_records.proofs.PlaceLemmas.{ends, strip_more}

-- a line feed outside quotes ends a record
pub feed_ends_record : (text : List ℕ) → in_quotes (place_after place.TextStart text) ≡ false
    → EndsWithRecord (text ++ 10 ∷ [])
feed_ends_record text outside = λ more.
    records_plain ((text ++ 10 ∷ []) ++ more)
    ∙ ap plain_records (strip_more text more)
    ∙ records_cut (strip_bom (text ++ 10 ∷ [])) more (ends text outside)
    ∙ ap (λ (rows : List Fields). rows ++ plain_records more)
    (sym (records_plain (text ++ 10 ∷ [])))
    ∙ ap (λ (rows : List Fields). csv_records (text ++ 10 ∷ []) ++ rows)
    (sym (records_behind_feed more))

-- the bytes before a cut and the line feed
cut_parts : (bytes : List ℕ) (count : ℕ) → 0 < count → count ≤ length bytes
    → get_or bytes (count - 1) 0 ≡ 10 → take count bytes ≡ take (count - 1) bytes ++ 10 ∷ []
cut_parts bytes count some within feed =
    let one : count - 1 + 1 ≡ count = omega arith in
    ap (λ (n : ℕ). take n bytes) (sym one) ∙ take_more bytes (count - 1) 0 (omega arith) ∙ ap
    (λ (c : ℕ). take (count - 1) bytes ++ c ∷ []) feed

-- a text that waited, up to a cut in the next piece
pub cut_ends_record : (waiting piece : List ℕ) (count : ℕ) → 0 < count → count ≤ length piece
    → IsCut (place_after place.TextStart waiting) piece count
    → EndsWithRecord (waiting ++ take count piece)
cut_ends_record waiting piece count some within cut =
    let front = take (count - 1) piece in
    let split : waiting ++ take count piece ≡ (waiting ++ front) ++ 10 ∷ [] =
    ap (λ (p : List ℕ). waiting ++ p) (cut_parts piece count some within cut.feed) ∙ sym
    (append_assoc waiting front (10 ∷ [])) in
    let outside : in_quotes (place_after place.TextStart (waiting ++ front)) ≡ false =
    ap in_quotes (fold-append next_place place.TextStart waiting front) ∙ cut.outside in
    subst EndsWithRecord (sym split) (feed_ends_record (waiting ++ front) outside)

-- and the place there
pub cut_place : (from : Place) (piece : List ℕ) (count : ℕ) → 0 < count → count ≤ length piece
    → IsCut from piece count
    → place_after from (take count piece) ≡ place.FieldStart
cut_place from piece count some within cut =
    ap (place_after from) (cut_parts piece count some within cut.feed)
    ∙ fold-append next_place from (take (count - 1) piece) (10 ∷ [])
    ∙ by (place_after from (take (count - 1) piece)) cut.outside
  where
    by : (at : Place) → in_quotes at ≡ false → next_place at 10 ≡ place.FieldStart
    by at outside = grind arith

-- At the start nothing was taken, and nothing waits.
pub read_none : PartsAreRead [] [] []
read_none = λ more. refl

-- A piece joins what waits.
pub read_more : (seen : List ℕ) (records : List Fields) (waiting piece : List ℕ)
    → PartsAreRead seen records waiting → PartsAreRead (seen ++ piece) records (waiting ++ piece)
read_more seen records waiting piece read = λ more.
    ap csv_records (append_assoc seen piece more) ∙ read (piece ++ more)
    ∙ ap (λ (text : List ℕ). records ++ csv_records text) (sym (append_assoc waiting piece more))

-- The records of a part are taken, and the rest waits behind a line feed.
pub read_part : (seen : List ℕ) (records : List Fields) (waiting : List ℕ)
    → PartsAreRead seen records waiting → EndsWithRecord waiting
    → PartsAreRead seen (records ++ csv_records waiting) (10 ∷ [])
read_part seen records waiting read ends = λ more.
    read more ∙ ap (λ (rows : List Fields). records ++ rows) (ends more)
    ∙ sym (append_assoc records (csv_records waiting) (csv_records (10 ∷ more)))

-- A piece with an end of a record in it.
pub read_piece : (seen : List ℕ) (records : List Fields) (waiting piece : List ℕ) (count : ℕ)
    → PartsAreRead seen records waiting
    → EndsWithRecord (waiting ++ take count piece)
    → PartsAreRead (seen ++ piece) (records ++ csv_records (waiting ++ take count piece))
    (10 ∷ drop count piece)
read_piece seen records waiting piece count read ends =
    let front = take count piece in
    let back = drop count piece in
    let whole : (seen ++ front) ++ back ≡ seen
    ++ piece = append_assoc seen front back ∙ ap (λ (p : List ℕ). seen ++ p)
    (take-append-drop count piece) in
    let part = read_part (seen ++ front) records (waiting ++ front)
    (read_more seen records waiting front read) ends in
    subst (λ (s : List ℕ). PartsAreRead s (records ++ csv_records (waiting ++ front))
    (10 ∷ back)) whole
    (read_more (seen ++ front) (records ++ csv_records (waiting ++ front)) (10 ∷ []) back part)

-- At the end of the text.
pub read_all : (seen : List ℕ) (records : List Fields) (waiting : List ℕ)
    → PartsAreRead seen records waiting → csv_records seen ≡ records ++ csv_records waiting
read_all seen records waiting read =
    ap csv_records (sym (append-nil seen)) ∙ read [] ∙ ap
    (λ (text : List ℕ). records ++ csv_records text) (append-nil waiting)
