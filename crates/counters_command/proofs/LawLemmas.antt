-- The rows of records are the differences of their readings.
use Rattle.std.proofs.Common.{◌≡◌, ℕ, List, [], ◌∷◌, ◌++◌, Option, map, refl, ap, ap₂, ◌∙◌, subst}
use Rattle.std.specs.Prelude.{Ok, Result}
use Rattle.csv_records.specs.Records.{Fields, csv_records}
use Rattle.event_fields.specs.declared.EventFault.{EventFault}
use Rattle.counter_book.proofs.FrontLemmas as fronts
use Rattle.counter_book.proofs.LawLemmas.{given-is}
use Rattle.counter_book.specs.Laws.{HoldsReadings, IsFront}
use Rattle.counter_book.specs.declared.CounterReading.{CounterReading}
use Rattle.counters_command.specs.Answer.{EndsOver}
use Rattle.counters_command.specs.Laws.{AreDifferences, BeginsWithRows, GainsDifferences}
use Rattle.counters_command.specs.Rows.{rows_of}
use Rattle.counters_command.specs.Taking.{GivesRows, reading_of}
use Rattle.counters_command.specs.declared.fault.CountersEnd.TheVariants.{Done}
use Rattle.counters_command.proofs.RowLemmas.{rows-append}

pub rows-are : (sli : List ℕ) (records : List Fields) (text : List ℕ) → GivesRows sli records text
    → AreDifferences sli records text
rows-are sli records text g = record {
  came = g.taken.came;
  given = g.given;
  read = g.taken.read;
  text_is = g.text_is;
  current = given-is g.taken.came g.given g.book g.taken.holds;
}

pub done-is : (sli bytes : List ℕ) (old new : Option (List ℕ)) → EndsOver sli bytes Done old new
    → GainsDifferences sli bytes old new
done-is sli bytes old new (small, gains) = record {
  small = small;
  text = gains.text;
  rows = gains.rows;
  differences = rows-are sli (csv_records bytes) gains.text gains.rows;
  gained = gains.gained;
}

-- the readings of a front of records are a front of the readings
record IsCut (records : List Fields) (came : List CounterReading) : Type 0 where
  first : List CounterReading
  last : List CounterReading
  parted : came ≡ first ++ last
  read : map reading_of records ≡ map Ok first

abbrev Read : Type 0
Read = Result CounterReading EventFault

cut : (records more : List Fields) (came : List CounterReading)
    → map reading_of (records ++ more) ≡ map Ok came → IsCut records came
cut [] more came e = record { first = []; last = came; parted = refl; read = refl }
cut (r ∷ rs) more [] e = cc e
cut (r ∷ rs) more (c ∷ cs) e =
    let head : reading_of r ≡ Ok c = cc e in
    let tail : map reading_of (rs ++ more) ≡ map Ok cs = cc e in
    let go = cut rs more cs tail in
    record {
      first = c ∷ go.first;
      last = go.last;
      parted = ap (λ (xs : List CounterReading). c ∷ xs) go.parted;
      read = ap₂ (λ (x : Read) (xs : List Read). x ∷ xs) head go.read;
    }

pub front-is : (sli : List ℕ) (records more : List Fields) (text : List ℕ)
    → GivesRows sli (records ++ more) text → BeginsWithRows sli records text
front-is sli records more text g =
    let c = cut records more g.taken.came g.taken.read in
    let holds : HoldsReadings (c.first ++ c.last) g.given g.book =
    subst (λ (xs : List CounterReading). HoldsReadings xs g.given g.book) c.parted g.taken.holds in
    let f : IsFront c.first g.given = fronts.front-is c.first c.last g.given g.book holds in
    record {
      front = rows_of sli f.front;
      rest = rows_of sli f.rest;
      rows = record {
        given = f.front;
        book = f.book;
        taken = record { came = c.first; read = c.read; holds = f.holds };
        text_is = refl;
      };
      parted = g.text_is ∙ ap (rows_of sli) f.parted ∙ rows-append sli f.front f.rest;
    }
