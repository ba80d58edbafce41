-- Records that a book takes, one behind another.
use Rattle.std.proofs.Common.{◌≡◌, List, [], ◌∷◌, ◌++◌, map, refl, ap, sym, ◌∙◌, subst}
use Rattle.std.specs.Prelude.{Ok, Result}
use Rattle.std.proofs.lemmas.List.{map-append}
use Rattle.csv_records.specs.Records.{Fields}
use Rattle.event_fields.specs.declared.EventFault.{EventFault}
use Rattle.counter_book.specs.Book.{Book, no_readings}
use Rattle.counter_book.specs.Laws.HoldsReadings.{empty, put}
use Rattle.counter_book.specs.Puts.{listed}
use Rattle.counter_book.specs.declared.Changes.{Changes}
use Rattle.counter_book.specs.declared.CounterReading.{CounterReading}
use Rattle.counter_book.specs.declared.Difference.{Difference}
use Rattle.counters_command.specs.Taking.{AreTaken, TakesRecord, reading_of}

pub taken-none : (book : Book) → book ≡ no_readings → AreTaken [] [] book
taken-none book e = subst (AreTaken [] []) (sym e) (record {
  came = [];
  read = refl;
  holds = empty;
})

pub taken-more : (records : List Fields) (given : List Difference) (book after : Book)
    (fields : Fields) (changes : Changes) → AreTaken records given book
    → TakesRecord book fields changes after
    → AreTaken (records ++ fields ∷ []) (given ++ listed changes) after
taken-more records given book after fields changes t r = record {
  came = t.came ++ r.reading ∷ [];
  read = map-append reading_of records (fields ∷ [])
      ∙ ap (λ (xs : List (Result CounterReading EventFault)). xs ++ reading_of fields ∷ []) t.read
      ∙ ap (λ (x : Result CounterReading EventFault). map Ok t.came ++ x ∷ []) r.read
      ∙ sym (map-append Ok t.came (r.reading ∷ []));
  holds = put r.reading changes t.holds r.put;
}
