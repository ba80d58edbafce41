-- A run from its beginning, over one record after another, to its end.
use Rattle.std.proofs.Common.{◌≡◌, ℕ, ◌+◌, List, [], ◌∷◌, ◌++◌, Option, refl, ap, sym, ◌∙◌}
use Rattle.std.proofs.Common.{Some, None, inl, inr}
use Rattle.std.proofs.Common.{subst, arith, append_assoc, length-append}
use Rattle.std.proofs.lemmas.List.{append-nil}
use Rattle.csv_records.specs.Records.{Fields, csv_records}
use Rattle.office_outside.specs.Told.{Gained, GainedPrefix}
use Rattle.counter_book.specs.Book.{Book, no_readings}
use Rattle.counter_book.specs.Puts.{listed}
use Rattle.counter_book.specs.declared.Changes.{Changes}
use Rattle.counters_command.specs.Answer.{EndsCounters, EndsRecords, GainsBefore, GainsFront}
use Rattle.counters_command.specs.Answer.{GainsRows}
use Rattle.counters_command.specs.Rows.{rows_of}
use Rattle.counters_command.specs.Running.{EndsPage, IsUnderway}
use Rattle.counters_command.specs.Taking.{Breaks, GivesRows, TakesRecord}
use Rattle.counters_command.specs.declared.fault.CountersEnd.{CountersEnd}
use Rattle.counters_command.specs.declared.fault.CountersEnd.TheVariants as ends
use Rattle.counters_command.specs.declared.fault.CountersFault.TheVariants.{BadRecord}
use Rattle.counters_command.specs.declared.fault.ReadingFault.{ReadingFault}
use Rattle.counters_command.proofs.GainLemmas.{gained-front, gained-more, gained-none, gained-part}
use Rattle.counters_command.proofs.RowLemmas.{rows-append}
use Rattle.counters_command.proofs.TakingLemmas.{taken-more, taken-none}

module _ (sli : List ℕ) (records : List Fields) where
  -- before the first record
  pub begins : (left : List Fields) (book : Book) (page : List ℕ) (x : Option (List ℕ))
      → left ≡ records → book ≡ no_readings → page ≡ []
      → IsUnderway sli records left 1 book page x x
  begins left book page x l b p = record {
    before = [];
    given = [];
    written = [];
    parted = sym l;
    numbered = refl;
    taken = taken-none book b;
    rows = sym p;
    gained = gained-none x;
  }

  module _ (left : List Fields) (number : ℕ) (book : Book) (page : List ℕ)
      (old now : Option (List ℕ)) (u : IsUnderway sli records left number book page old now) where
    -- one more record is taken, and its rows are on the page
    pub goes_on : (fields : Fields) (rest : List Fields) (changes : Changes) (after : Book)
        (longer : List ℕ) → left ≡ fields ∷ rest → TakesRecord book fields changes after
        → longer ≡ page ++ rows_of sli (listed changes)
        → IsUnderway sli records rest (number + 1) after longer old now
    goes_on fields rest changes after longer l t p = record {
      before = u.before ++ fields ∷ [];
      given = u.given ++ listed changes;
      written = u.written;
      parted = u.parted ∙ ap (λ (xs : List Fields). u.before ++ xs) l
          ∙ sym (append_assoc u.before (fields ∷ []) rest);
      numbered = (let n = length-append u.before (fields ∷ []) in let m = u.numbered in
          omega arith);
      taken = taken-more u.before u.given book after fields changes u.taken t;
      rows = rows-append sli u.given (listed changes)
          ∙ ap (λ (xs : List ℕ). xs ++ rows_of sli (listed changes)) u.rows
          ∙ append_assoc u.written page (rows_of sli (listed changes))
          ∙ ap (λ (xs : List ℕ). u.written ++ xs) (sym p);
      gained = u.gained;
    }

    -- the page is written
    pub turns : (empty : List ℕ) (new : Option (List ℕ)) → empty ≡ [] → Gained page now new
        → IsUnderway sli records left number book empty old new
    turns empty new e g = record {
      before = u.before;
      given = u.given;
      written = u.written ++ page;
      parted = u.parted;
      numbered = u.numbered;
      taken = u.taken;
      rows = u.rows ∙ sym (ap (λ (xs : List ℕ). (u.written ++ page) ++ xs) e
          ∙ append-nil (u.written ++ page));
      gained = gained-more u.written page old now new u.gained g;
    }

    text_rows : GivesRows sli u.before (u.written ++ page)
    text_rows = record { given = u.given; book = book; taken = u.taken; text_is = sym u.rows }

    -- no record is left, and the last page is written
    pub ends-done : (new : Option (List ℕ)) → left ≡ [] → Gained page now new
        → GainsRows sli records old new
    ends-done new l g = record {
      text = u.written ++ page;
      rows = subst (λ (rs : List Fields). GivesRows sli rs (u.written ++ page))
          (sym (u.parted ∙ ap (λ (xs : List Fields). u.before ++ xs) l ∙ append-nil u.before))
          text_rows;
      gained = gained-more u.written page old now new u.gained g;
    }

    -- the next record isn't taken, and the last page is written
    pub ends-broken : (fields : Fields) (rest : List Fields) (fault : ReadingFault)
        (new : Option (List ℕ)) → left ≡ fields ∷ rest → Breaks book fields fault
        → Gained page now new → GainsBefore sli records number fault old new
    ends-broken fields rest fault new l b g = record {
      text = u.written ++ page;
      rows = record {
        before = u.before;
        broken = fields;
        after = rest;
        given = u.given;
        book = book;
        parted = u.parted ∙ ap (λ (xs : List Fields). u.before ++ xs) l;
        numbered = u.numbered;
        taken = u.taken;
        breaks = b;
        text_is = sym u.rows;
      };
      gained = gained-more u.written page old now new u.gained g;
    }

    -- a prefix of the page is written
    pub ends-part : (new : Option (List ℕ)) → GainedPrefix page now new
        → GainsFront sli records old new
    ends-part new g = record {
      before = u.before;
      after = left;
      text = u.written ++ page;
      parted = u.parted;
      rows = text_rows;
      gained = gained-part u.written page old now new u.gained g;
    }

    -- the page isn't written
    pub ends-early : GainsFront sli records old now
    ends-early = record {
      before = u.before;
      after = left;
      text = u.written ++ page;
      parted = u.parted;
      rows = text_rows;
      gained = gained-front u.written page old now u.gained;
    }

    -- no record is left, and the run ends with its last page
    pub page-done : (end : CountersEnd) (new : Option (List ℕ)) (before after : ℕ) → left ≡ []
        → EndsPage page ends.Done end now new before after → EndsRecords sli records end old new
    page-done end new before after l (inl (is, g)) =
        subst (λ (e : CountersEnd). EndsRecords sli records e old new) (sym is)
        (ends-done new l g)
    page-done end new before after l (inr (is, part, rose)) =
        subst (λ (e : CountersEnd). EndsRecords sli records e old new) (sym is)
        (ends-part new part)

    -- the next record isn't taken, and the run ends with the last page
    pub page-broken : (fields : Fields) (rest : List Fields) (fault : ReadingFault)
        (end : CountersEnd) (new : Option (List ℕ)) (before after : ℕ) → left ≡ fields ∷ rest
        → Breaks book fields fault
        → EndsPage page (ends.Refused (BadRecord number fault)) end now new before after
        → EndsRecords sli records end old new
    page-broken fields rest fault end new before after l b (inl (is, g)) =
        subst (λ (e : CountersEnd). EndsRecords sli records e old new) (sym is)
        (ends-broken fields rest fault new l b g)
    page-broken fields rest fault end new before after l b (inr (is, part, rose)) =
        subst (λ (e : CountersEnd). EndsRecords sli records e old new) (sym is)
        (ends-part new part)

-- nothing is written where memory runs out before the bytes are read
pub unread : (sli : List ℕ) (left held : Option (List ℕ))
    → EndsCounters sli left ends.NoMemory held held
unread sli None held = tt
unread sli (Some bytes) held =
    ends-early sli (csv_records bytes) (csv_records bytes) 1 no_readings [] held held
    (begins sli (csv_records bytes) (csv_records bytes) no_readings [] held refl refl refl)
