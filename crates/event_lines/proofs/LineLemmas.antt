-- Lines of a source and four numbers.
use Rattle.std.proofs.Common.{◌≡◌, ◌∙◌, ◌<◌, ◌≤◌, ◌+◌, ◌-◌, ◌∷◌, ℕ, Bool, true, false, List, []}
use Rattle.std.proofs.Common.{Some}
use Rattle.std.proofs.Common.{Ok, ap, arith, drop, get_or, length, length-drop, length-take, refl}
use Rattle.std.proofs.Common.{set, suc, subst, sym, take, zero}
use Rattle.std.proofs.lemmas.Bool.Decides.{nat_tests}
use Rattle.std.proofs.lemmas.List.{get_or-drop, get_or-take}
use Rattle.std.proofs.lemmas.List.Folds.{list_all_at}
use Rattle.std.specs.Char.{is_ascii_digit}
use Rattle.std.specs.List.{list_all}
use Rattle.csv_records.specs.Records.{csv_records}
use Rattle.exact_fraction.specs.Digits.{number_of, number_within}
use Rattle.exact_fraction.specs.Label.{is_label_byte, label_of}
use Rattle.event_fields.specs.Events.{counts_of, event_of, minute_of, revision_of}
use Rattle.plain_fields.specs.Lines.{AreFive, StandsBehindFeed, is_mark}
use Rattle.plain_fields.proofs.ReadLemmas.{HasRead, byte_read, end_put, five_from, last_put}
use Rattle.plain_fields.proofs.ReadLemmas.{nothing_read}
use Rattle.slo_limits.specs.declared.TheConstants.{MAX_MINUTE, MAX_REVISION}
use Rattle.event_lines.specs.Lines.{AreNumbersAt, IsEventLine, IsNumberAt, KeepRules}
use Rattle.event_lines.specs.declared.line.EventLine.{EventLine}
use Rattle.event_lines.specs.declared.number.Numbers.{Numbers}

-- no byte of so many from a place on is a mark
abbrev pub HasNoMark : List ℕ → ℕ → ℕ → Type 0
HasNoMark text at count = (i : ℕ) → i < count → is_mark (get_or text (at + i) 0) ≡ false

digit_apart : (byte : ℕ) → is_ascii_digit byte ≡ true → is_mark byte ≡ false
digit_apart byte digit = grind (arith, nat_tests)

label_apart : (byte : ℕ) → is_label_byte byte ≡ true → is_mark byte ≡ false
label_apart byte letter = grind (arith, nat_tests)

true_unless : (b c : Bool) → c ≡ true → (b ≡ false → c ≡ false) → b ≡ true
true_unless true c is not = refl
true_unless false c is not = sym (not refl) ∙ is

-- each byte of a stretch that all pass
byte_passes : (p : ℕ → Bool) (text : List ℕ) (at count i : ℕ) → at + count ≤ length text → i < count
    → list_all p (take count (drop at text)) ≡ true → p (get_or text (at + i) 0) ≡ true
byte_passes p text at count i inside less all =
    let piece = take count (drop at text) in
    let short : i < length piece =
    omega (arith, less, inside, length-take count (drop at text), length-drop at text) in
    let is : get_or piece i 0 ≡ get_or text (at + i) 0 =
    get_or-take count (drop at text) i 0 less ∙ get_or-drop at text i 0 in
    ap p (sym is)
    ∙ true_unless (p (get_or piece i 0)) (list_all p piece) all (list_all_at p piece i 0 short)

-- so bytes which are no marks by themselves have none among them
no_mark : (p : ℕ → Bool) → ((byte : ℕ) → p byte ≡ true → is_mark byte ≡ false)
    → (text : List ℕ) (at count : ℕ) → at + count ≤ length text
    → list_all p (take count (drop at text)) ≡ true → HasNoMark text at count
no_mark p apart text at count inside all = λ i less.
    apart (get_or text (at + i) 0) (byte_passes p text at count i inside less all)

-- reading on over bytes that are no marks
reads_on : (text : List ℕ) (from : ℕ) (ends : List ℕ) (at count : ℕ) → HasRead text from ends at
    → at + count ≤ length text → HasNoMark text at count → HasRead text from ends (at + count)
reads_on text from ends at zero read inside plain =
    let same : at + zero ≡ at = omega arith in subst (HasRead text from ends) (sym same) read
reads_on text from ends at (suc n) read inside plain =
    let next : at + suc n ≡ at + n + 1 = omega arith in
    let before = reads_on text from ends at n read (omega (arith, inside))
    (λ i less. plain i (omega (arith, less))) in
    subst (HasRead text from ends) (sym next)
    (byte_read text from ends (at + n) before (omega (arith, inside)) (plain n (omega arith)))

-- the digits of a number
reads_number : (text : List ℕ) (from : ℕ) (ends : List ℕ) (at next mark value : ℕ)
    (number : IsNumberAt text at next mark value) → HasRead text from ends at
    → HasRead text from ends (at + number.digits)
reads_number text from ends at next mark value number read =
    let inside : at + number.digits ≤ length text = omega (arith, number.inside) in
    reads_on text from ends at number.digits read inside
    (no_mark is_ascii_digit digit_apart text at number.digits inside number.are)

-- a number with the comma behind it
puts_number : (text : List ℕ) (from : ℕ) (ends : List ℕ) (count at next value : ℕ)
    (number : IsNumberAt text at next 44 value) → HasRead text from (take count ends) at
    → count < length ends
    → HasRead text from (take (count + 1) (set ends count (at + number.digits))) next
puts_number text from ends count at next value number read few =
    subst (HasRead text from (take (count + 1) (set ends count (at + number.digits))))
    (sym number.next_is)
    (end_put text from ends count (at + number.digits)
    (reads_number text from (take count ends) at next 44 value number read) few number.inside
    number.behind)

-- where the fields end
abbrev pub ends_at : (text : List ℕ) (comma next : ℕ) (numbers : Numbers)
    → AreNumbersAt text (comma + 1) next numbers → ℕ × ℕ × ℕ × ℕ × ℕ
ends_at text comma next numbers are = (
  comma,
  comma + 1 + are.minute.digits,
  are.second + are.revision.digits,
  are.third + are.good.digits,
  are.fourth + are.total.digits,
)

-- a source, a comma and four numbers are a line of five fields
pub five_read : (text : List ℕ) (from count next : ℕ) (numbers : Numbers)
    → from + count < length text → get_or text (from + count) 0 ≡ 44 → HasNoMark text from count
    → (are : AreNumbersAt text (from + count + 1) next numbers)
    → AreFive text from (ends_at text (from + count) next numbers are)
five_read text from count next numbers inside comma plain are =
    let first = from + count in
    let second = first + 1 + are.minute.digits in
    let third = are.second + are.revision.digits in
    let fourth = are.third + are.good.digits in
    let last = are.fourth + are.total.digits in
    let none : List ℕ = 0 ∷ 0 ∷ 0 ∷ 0 ∷ 0 ∷ [] in
    let one : List ℕ = first ∷ 0 ∷ 0 ∷ 0 ∷ 0 ∷ [] in
    let two : List ℕ = first ∷ second ∷ 0 ∷ 0 ∷ 0 ∷ [] in
    let three : List ℕ = first ∷ second ∷ third ∷ 0 ∷ 0 ∷ [] in
    let four : List ℕ = first ∷ second ∷ third ∷ fourth ∷ 0 ∷ [] in
    let at_none : HasRead text from (take 0 none) first =
    reads_on text from [] from count (nothing_read text from [] refl)
    (omega (arith, inside)) plain in
    let at_one : HasRead text from (take 1 one) (first + 1) =
    end_put text from none 0 first at_none (omega arith) inside comma in
    let at_two : HasRead text from (take 2 two) are.second =
    puts_number text from one 1 (first + 1) are.second numbers.minute are.minute at_one
    (omega arith) in
    let at_three : HasRead text from (take 3 three) are.third =
    puts_number text from two 2 are.second are.third numbers.revision are.revision at_two
    (omega arith) in
    let at_four : HasRead text from (take 4 four) are.fourth =
    puts_number text from three 3 are.third are.fourth numbers.good are.good at_three
    (omega arith) in
    five_from text from (last + 1) (first ∷ second ∷ third ∷ fourth ∷ last ∷ []) refl
    (last_put text from four 4 last
    (reads_number text from (take 4 four) are.fourth next 10 numbers.total are.total at_four)
    (omega arith) refl are.total.inside are.total.behind)

-- a number of digits alone, within a limit
within_of : (most value : ℕ) (text : List ℕ) → 0 < length text
    → list_all is_ascii_digit text ≡ true → value ≡ number_of text → value ≤ most
    → number_within most text ≡ Some value
within_of most value text some all is few = grind (arith, nat_tests)

-- the number between two places
number_read : (most : ℕ) (text : List ℕ) (from next mark value : ℕ)
    (number : IsNumberAt text from next mark value) (start end : ℕ) → start ≡ from
    → end ≡ from + number.digits → value ≤ most
    → number_within most (take (end - start) (drop start text)) ≡ Some value
number_read most text from next mark value number start end begins ends few =
    let digits : end - start ≡ number.digits = omega (arith, begins, ends) in
    let some : 0 < length (take number.digits (drop from text)) =
    omega (
      arith,
      number.some,
      number.inside,
      length-take number.digits (drop from text),
      length-drop from text,
    ) in
    ap (λ (n : ℕ). number_within most (take n (drop start text))) digits
    ∙ ap (λ (n : ℕ). number_within most (take number.digits (drop n text))) begins
    ∙ within_of most value (take number.digits (drop from text)) some number.are number.value_is few

revision_read : (text : List ℕ) (value : ℕ) → number_within MAX_REVISION text ≡ Some value
    → 1 ≤ value → revision_of text ≡ Some value
revision_read text value is some = grind (arith, nat_tests)

counts_read : (most : ℕ) (good_text total_text : List ℕ) (good total : ℕ)
    → number_within most good_text ≡ Some good → number_within most total_text ≡ Some total
    → good ≤ total → counts_of most good_text total_text ≡ Some (good, total)
counts_read most good_text total_text good total good_is total_is part = grind (arith, nat_tests)

-- the event of five fields
event_read : (most : ℕ) (a b c d e source : List ℕ) (numbers : Numbers)
    → label_of a ≡ Some source → minute_of b ≡ Some numbers.minute
    → revision_of c ≡ Some numbers.revision
    → counts_of most d e ≡ Some (numbers.good, numbers.total)
    → event_of most (a ∷ b ∷ c ∷ d ∷ e ∷ []) ≡ Ok (record {
      source = source;
      minute = numbers.minute;
      revision = numbers.revision;
      good = numbers.good;
      total = numbers.total;
    })
event_read most a b c d e source numbers label minute revision counts =
    rw (label, minute, revision, counts) refl

label_letters : (text source : List ℕ) → label_of text ≡ Some source
    → list_all is_label_byte text ≡ true
label_letters text source is = grind (arith, nat_tests)

-- the numbers of a line
abbrev pub numbers_of : EventLine → Numbers
numbers_of line = record {
  minute = line.minute;
  revision = line.revision;
  good = line.good;
  total = line.total;
}

-- a source, a comma and four numbers are the line of an event
pub event_line : (most : ℕ) (text : List ℕ) (from count : ℕ) (line : EventLine) (source : List ℕ)
    → from + count < length text → get_or text (from + count) 0 ≡ 44
    → AreNumbersAt text (from + count + 1) line.end (numbers_of line)
    → KeepRules most (numbers_of line)
    → label_of (take (from + count - from) (drop from text)) ≡ Some source
    → IsEventLine most text from line source
event_line most text from count line source inside comma are rules label =
    let numbers = numbers_of line in
    let next = line.end in
    let first = from + count in
    let size : first - from ≡ count = omega arith in
    let letters = label_letters (take (first - from) (drop from text)) source label in
    let plain : HasNoMark text from count =
    no_mark is_label_byte label_apart text from count (omega (arith, inside))
    (subst (λ (n : ℕ). list_all is_label_byte (take n (drop from text)) ≡ true) size letters) in
    let five = five_read text from count next numbers inside comma plain are in
    let ends = ends_at text first next numbers are in
    let last : ends.4 + 1 ≡ next = sym are.total.next_is in
    let field = λ (start end : ℕ). take (end - start) (drop start text) in
    let revision = number_read MAX_REVISION text are.second are.third 44 numbers.revision
    are.revision (ends.1 + 1) ends.2 (sym are.minute.next_is) refl rules.revision in
    let good = number_read most text are.third are.fourth 44 numbers.good are.good (ends.2 + 1)
    ends.3 (sym are.revision.next_is) refl (omega (arith, rules.part, rules.few)) in
    let total = number_read most text are.fourth next 10 numbers.total are.total (ends.3 + 1)
    ends.4 (sym are.good.next_is) refl rules.few in
    record {
      fields = field from first ∷ field (first + 1) ends.1 ∷ field (ends.1 + 1) ends.2
          ∷ field (ends.2 + 1) ends.3 ∷ field (ends.3 + 1) ends.4 ∷ [];
      records = subst (λ (n : ℕ). csv_records (10 ∷ drop from text)
          ≡ (field from first ∷ field (first + 1) ends.1 ∷ field (ends.1 + 1) ends.2
          ∷ field (ends.2 + 1) ends.3 ∷ field (ends.3 + 1) ends.4 ∷ [])
          ∷ csv_records (10 ∷ drop n text)) last five.records;
      behind = subst (StandsBehindFeed text) last five.behind;
      event = event_read most (field from first) (field (first + 1) ends.1)
          (field (ends.1 + 1) ends.2) (field (ends.2 + 1) ends.3) (field (ends.3 + 1) ends.4)
          source numbers label
          (number_read MAX_MINUTE text (first + 1) are.second 44 numbers.minute are.minute
          (first + 1) ends.1 refl refl rules.minute)
          (revision_read (field (ends.1 + 1) ends.2) numbers.revision revision rules.counted)
          (counts_read most (field (ends.2 + 1) ends.3) (field (ends.3 + 1) ends.4) numbers.good
          numbers.total good total rules.part);
    }
