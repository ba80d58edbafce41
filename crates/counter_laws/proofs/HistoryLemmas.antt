-- What the rows that `counters` wrote count for in a history.
use Rattle.std.proofs.Common.{◌≡◌, ◌∙◌, ℕ, List, false, filter, map, ap, cond, sym}
use Rattle.csv_records.specs.Records.{Fields}
use Rattle.slice_method.specs.declared.Counts.{Counts}
use Rattle.slice_method.specs.declared.Reading.{Reading}
use Rattle.slice_method.specs.declared.Reading.TheVariants.{Good}
use Rattle.sample_book.specs.Counting.{counts_of_minute, is_of}
use Rattle.sample_book.specs.Exclusions.{is_excluded}
use Rattle.office_history.specs.Counts.{counts_at}
use Rattle.office_history.specs.History.{current_in, exclusions_in, rows_in}
use Rattle.office_history.specs.Notices.{samples_in}
use Rattle.office_history.specs.declared.Measure.{Measure}
use Rattle.record_form.specs.declared.Entry.{Entry}
use Rattle.counters_command.specs.Taking.{GivesRows}
use Rattle.counter_laws.specs.Counted.{sums_of_differences}
use Rattle.counter_laws.specs.Samples.{sample_of}
use Rattle.counter_laws.proofs.SumLemmas.{counts-are}

pub history-counts : (history : List Entry) (measure : Measure) (records : List Fields)
    (text : List ℕ) (written : GivesRows measure.sli records text)
    → filter (is_of measure.sli) (rows_in history) ≡ map (sample_of measure.sli) written.given
    → measure.reading ≡ Good → (minute : ℕ)
    → is_excluded (exclusions_in history) measure.slo minute ≡ false
    → counts_at (samples_in history) measure minute
    ≡ sums_of_differences written.taken.came minute
history-counts history measure records text written rows ratio minute counted =
    let own : Reading → Counts = λ reading.
    counts_of_minute reading measure.op measure.value (current_in history) measure.sli minute in
    let none : Counts = record { good = 0; total = 0 } in
    ap (λ b. cond b none (own measure.reading)) counted
    ∙ ap own ratio
    ∙ counts-are measure.sli (rows_in history) written.taken.came written.given written.book
    written.taken.holds rows measure.op measure.value minute
