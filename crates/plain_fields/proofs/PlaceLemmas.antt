-- Where lines begin in a text.
use Rattle.std.proofs.Common.{◌≡◌, ◌≢◌, ◌∙◌, ◌<◌, ◌+◌, ◌-◌, ◌∷◌, ℕ, false, List, [], ap}
use Rattle.std.proofs.Common.{arith, drop, get_or, length, refl, sym}
use Rattle.std.specs.Prelude.{◌==◌}
use Rattle.std.proofs.Math.Seq.{drop-length}
use Rattle.std.proofs.lemmas.Bool.Decides.{nat_tests}
use Rattle.std.proofs.lemmas.List.{drop_more}
use Rattle.csv.specs.Reading.{strip_bom}
use Rattle.csv.proofs.OnLiterals.{csv_on_literals}
use Rattle.csv_records.specs.Records.{csv_records}
use Rattle.csv_records.proofs.CutLemmas.{plain_records, records_behind_feed, records_plain}
use Rattle.plain_fields.specs.Lines.{IsLineStart, StandsBehindFeed}

-- a text from the line feed before a place on
pub feed_first : (text : List ℕ) (at : ℕ) → StandsBehindFeed text at
    → drop (at - 1) text ≡ 10 ∷ drop at text
feed_first text at behind =
    let within : at - 1 < length text = omega (arith, behind.some, behind.within) in
    let next : at - 1 + 1 ≡ at = omega (arith, behind.some) in
    drop_more text (at - 1) 0 within
    ∙ ap (λ (byte : ℕ). byte ∷ drop (at - 1 + 1) text) behind.feed
    ∙ ap (λ (n : ℕ). 10 ∷ drop n text) next

-- a line feed alone has no record
feed_alone : csv_records (10 ∷ []) ≡ []
unfolding csv_on_literals
feed_alone = refl

-- at the end of a text no record is left
pub none_left : (text : List ℕ) (at : ℕ) → at ≡ length text → csv_records (10 ∷ drop at text) ≡ []
none_left text at e =
    ap (λ (n : ℕ). csv_records (10 ∷ drop n text)) e
    ∙ ap (λ (rest : List ℕ). csv_records (10 ∷ rest)) (drop-length text) ∙ feed_alone

-- a text that begins with another byte than a byte order mark has none
no_mark : (text : List ℕ) → get_or text 0 0 ≢ 239 → strip_bom text ≡ text
unfolding strip_bom
no_mark [] other = refl
no_mark (a ∷ []) other = refl
no_mark (a ∷ b ∷ []) other = refl
no_mark (a ∷ b ∷ c ∷ rest) other =
    let differs : (a == 239) ≡ false = grind (arith, nat_tests) in
    rw differs refl

-- so its first line is read as one behind a line feed
pub first_line : (text : List ℕ) → get_or text 0 0 ≢ 239 → IsLineStart text 0
first_line text other = record {
  first = λ zero.
      records_plain text ∙ ap plain_records (no_mark text other) ∙ sym (records_behind_feed text);
  later = λ some. absurd (omega (arith, some));
}

-- a line begins behind each line feed
pub later_line : (text : List ℕ) (at : ℕ) → StandsBehindFeed text at → IsLineStart text at
later_line text at behind = record {
  first = λ zero. absurd (omega (arith, zero, behind.some));
  later = λ some. behind;
}

-- from the start on all of a text is left
pub all_left_at : (text : List ℕ) (at : ℕ) → IsLineStart text at → at ≡ 0
    → csv_records text ≡ csv_records (10 ∷ drop at text)
all_left_at text at start zero =
    start.first zero ∙ ap (λ (n : ℕ). csv_records (10 ∷ drop n text)) (sym zero)
