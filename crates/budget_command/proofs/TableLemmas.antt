-- One more row behind those that came.
use Rattle.std.proofs.Common.{◌≡◌, ◌≤◌, ◌+◌, ◌∙◌, ℕ, List, [], ◌∷◌, ◌++◌, Bool, Err, Ok, Result}
use Rattle.std.proofs.Common.{length, ap, append_assoc, arith, length-append, refl, sym}
use Rattle.std.specs.List.{count_by}
use Rattle.std.proofs.lemmas.List.{append-nil}
use Rattle.std.proofs.lemmas.List.Sums.{sum_by_push}
use Rattle.csv_records.specs.Records.{Fields}
use Rattle.slo_terms.specs.Judged.{judged_from, judged_next}
use Rattle.sample_book.specs.declared.Row.{Row}
use Rattle.sample_book.specs.declared.RowVerdict.{RowVerdict}
use Rattle.sample_book.specs.declared.RowVerdict.TheVariants.{New, Newer, Repeated, Superseded}
use Rattle.sample_book.specs.declared.RowVerdict.TheVariants.{Conflict}
use Rattle.sample_book.specs.Rows.{current_rows, verdict_of}
use Rattle.sample_book.proofs.CameLemmas.{after-current}
use Rattle.budget_command.specs.Records.{is_newer, is_repeated, is_superseded, outcome}
use Rattle.budget_command.specs.Records.{outcome_over}
use Rattle.budget_command.specs.Records.{verdicts, verdicts_from}
use Rattle.budget_command.specs.Tables.{AreAll, HasTaken, HasTakenRecord, IsEmpty, IsSoFar, one_if}
use Rattle.budget_command.specs.Tables.{rows_after, tallies_in}
use Rattle.budget_command.specs.declared.fault.RecordFault.{RecordFault}
use Rattle.budget_command.specs.declared.table.Table.{Table}

-- a pass over records goes on behind one that keeps the rules
judged_from-one : (came : List Row) (number : ℕ) (fields : Fields) (rest : List Fields) (row : Row)
    → outcome came fields ≡ Ok row →
    judged_from outcome came number (fields ∷ rest)
    ≡ judged_from outcome (came ++ row ∷ []) (number + 1) rest
judged_from-one came number fields rest row e = ap
    (judged_next (λ more. judged_from outcome more (number + 1) rest) came number) e

after-came : (came : List Row) (row : Row)
    → rows_after (current_rows came) row ≡ current_rows (came ++ row ∷ [])
after-came came row = after-current came row

verdicts-push : (before rows : List Row) (row : Row) →
    verdicts_from before (rows ++ row ∷ [])
    ≡ verdicts_from before rows ++ verdict_of (current_rows (before ++ rows)) row ∷ []
verdicts-push before [] row = ap (λ rows. verdict_of (current_rows rows) row ∷ [])
    (sym (append-nil before))
verdicts-push before (first ∷ rows) row =
    ap (λ more. verdict_of (current_rows before) first ∷ more)
    (verdicts-push (before ++ first ∷ []) rows row
    ∙ ap (λ came. verdicts_from (before ++ first ∷ []) rows ++ verdict_of (current_rows came) row
    ∷ []) (append_assoc before (first ∷ []) rows))

-- what became of the rows that came, and of one more
count-more : (p : RowVerdict → Bool) (came : List Row) (row : Row) (verdict : RowVerdict)
    (count : ℕ) →
    count ≡ count_by p (verdicts came) → verdict ≡ verdict_of (current_rows came) row →
    count + one_if (p verdict) ≡ count_by p (verdicts (came ++ row ∷ []))
count-more p came row verdict count e v =
    ap (λ n. n + one_if (p verdict)) e
    ∙ sym (sum_by_push (λ verdict. one_if (p verdict)) (verdicts came) verdict)
    ∙ ap (λ v. count_by p (verdicts came ++ v ∷ [])) v
    ∙ ap (count_by p) (sym (verdicts-push [] came row))

one_at_most : (verdict : RowVerdict) → one_if (is_newer verdict) + one_if (is_repeated verdict)
    + one_if (is_superseded verdict) ≤ 1
one_at_most New = omega arith
one_at_most (Newer old) = omega arith
one_at_most Repeated = omega arith
one_at_most (Superseded revision) = omega arith
one_at_most (Conflict kept) = omega arith

-- A record that keeps the rules is judged, and its row kept.
pub so_far-push : (records left : List Fields) (number : ℕ) (old new : Table) (fields : Fields)
    (rest : List Fields) →
    IsSoFar records left number old.book.rows old.corrected old.repeated old.superseded
    → left ≡ fields ∷ rest → HasTakenRecord fields old new →
    IsSoFar records rest (number + 1) new.book.rows new.corrected new.repeated new.superseded
so_far-push records left number old new fields rest so_far is record_taken =
    let kept = so_far.kept in
    let row = record_taken.row in
    let taken = record_taken.taken in
    let verdict : RowVerdict = verdict_of old.book.rows row in
    let over : outcome so_far.came fields ≡ Ok row = ap (λ rows. outcome_over rows fields)
    (sym kept.current) ∙ record_taken.judged in
    let stands : verdict ≡ verdict_of (current_rows so_far.came) row = ap
    (λ rows. verdict_of rows row) kept.current in
    record {
      came = so_far.came ++ row ∷ [];
      kept = record {
        current = taken.rows ∙ ap (λ rows. rows_after rows row) kept.current ∙ after-came
            so_far.came row;
        newer = taken.newer ∙ count-more is_newer so_far.came row verdict old.corrected kept.newer
            stands;
        again = taken.again ∙ count-more is_repeated so_far.came row verdict old.repeated kept.again
            stands;
        older = taken.older ∙ count-more is_superseded so_far.came row verdict old.superseded
            kept.older stands;
      };
      judged = so_far.judged ∙ ap (judged_from outcome so_far.came number) is ∙ judged_from-one
          so_far.came number fields rest row over;
      numbered = omega (arith, so_far.numbered, length-append so_far.came (row ∷ []));
      shorter = (let one = one_at_most verdict in omega (
        arith,
        so_far.shorter,
        one,
        taken.newer,
        taken.again,
        taken.older,
        length-append
            so_far.came (row ∷ []),
      ));
    }

-- Before the first record nothing came.
pub so_far-none : (records left : List Fields) (table : Table) → left ≡ records → IsEmpty table →
    IsSoFar records left 1 table.book.rows table.corrected table.repeated table.superseded
so_far-none records left table all empty = record {
  came = [];
  kept = record {
    current = empty.rows;
    newer = empty.newer;
    again = empty.again;
    older = empty.older;
  };
  judged = ap (judged_from outcome [] 1) (sym all);
  numbered = refl;
  shorter = omega (arith, empty.newer, empty.again, empty.older);
}

-- A pass over records goes on behind others that keep the rules.
judged_from-behind : (items : List Row) (number : ℕ) (records more : List Fields) (all : List Row)
    → number ≡ length items + 1 →
    judged_from outcome items number records ≡ Ok all
    → judged_from outcome items number (records ++ more)
    ≡ judged_from outcome all (length all + 1) more
judged_from-behind items number [] more all n e =
    let same : items ≡ all = cc e in
    rw (n, same) refl
judged_from-behind items number (next ∷ records) more all n e =
    by (outcome items next) e (λ row. judged_from-behind (items ++ row ∷ []) (number + 1) records
    more
    all (omega (arith, n, length-append items (row ∷ []))))
  where
    by : (r : Result Row RecordFault) → judged_next
        (λ rows. judged_from outcome rows (number + 1) records) items number r ≡ Ok all →
        ((row : Row) → judged_from outcome (items ++ row ∷ []) (number + 1) records ≡ Ok all →
        judged_from outcome (items ++ row ∷ []) (number + 1) (records ++ more)
        ≡ judged_from outcome all (length all + 1) more) →
        judged_next (λ rows. judged_from outcome rows (number + 1) (records ++ more)) items number r
        ≡ judged_from outcome all (length all + 1) more
    by (Ok row) ends behind = behind row ends
    by (Err fault) ends behind = cc ends

-- Behind the first that breaks one, no record matters.
judged_from-broken : (items : List Row) (number : ℕ) (records more : List Fields)
    (broken : ℕ × RecordFault) →
    judged_from outcome items number records ≡ Err broken
    → judged_from outcome items number (records ++ more) ≡ Err broken
judged_from-broken items number [] more broken e = cc e
judged_from-broken items number (next ∷ records) more broken e =
    by (outcome items next) e (λ row. judged_from-broken (items ++ row ∷ []) (number + 1) records
    more
    broken)
  where
    by : (r : Result Row RecordFault) → judged_next
        (λ rows. judged_from outcome rows (number + 1) records) items number r ≡ Err broken →
        ((row : Row) → judged_from outcome (items ++ row ∷ []) (number + 1) records ≡ Err broken →
        judged_from outcome (items ++ row ∷ []) (number + 1) (records ++ more) ≡ Err broken) →
        judged_next (λ rows. judged_from outcome rows (number + 1) (records ++ more)) items number r
        ≡ Err broken
    by (Ok row) ends behind = behind row ends
    by (Err fault) ends behind = ends

pub broken-behind : (records more : List Fields) (at : ℕ) (fault : RecordFault) →
    judged_from outcome [] 1 records ≡ Err (at, fault)
    → judged_from outcome [] 1 (records ++ more) ≡ Err (at, fault)
broken-behind records more at fault e = judged_from-broken [] 1 records more (at, fault) e

-- Behind records that are all kept the next ones are left.
pub so_far-behind : (before more left : List Fields) (number : ℕ) (table : Table) → left ≡ more
    → AreAll before number table →
    IsSoFar (before ++ more) left number table.book.rows table.corrected table.repeated
    table.superseded
so_far-behind before more left number table all kept =
    let n : length kept.came + 1 ≡ number = sym kept.numbered in
    record {
      came = kept.came;
      kept = kept.kept;
      judged =
          judged_from-behind [] 1 before more kept.came refl kept.judged
          ∙ ap (λ n. judged_from outcome kept.came n more) n
          ∙ ap (judged_from outcome kept.came number) (sym all);
      numbered = kept.numbered;
      shorter = kept.shorter;
    }

-- A record that breaks a rule is the first.
pub so_far-broken : (records left : List Fields) (number : ℕ) (old : Table) (fields : Fields)
    (rest : List Fields) (fault : RecordFault) →
    IsSoFar records left number old.book.rows old.corrected old.repeated old.superseded
    → left ≡ fields ∷ rest →
    outcome_over old.book.rows fields ≡ Err fault
    → judged_from outcome [] 1 records ≡ Err (number, fault)
so_far-broken records left number old fields rest fault so_far is broken =
    so_far.judged ∙ ap (judged_from outcome so_far.came number) is
    ∙ ap (judged_next (λ more. judged_from outcome more (number + 1) rest) so_far.came number)
    (ap (λ rows. outcome_over rows fields) (sym so_far.kept.current) ∙ broken)

-- What was counted is one more at most.
pub tallied-more : (old new : Table) (row : Row) → HasTaken row old new
    → tallies_in new ≤ tallies_in old + 1
tallied-more old new row taken =
    let one = one_at_most (verdict_of old.book.rows row) in
    omega (arith, one, taken.newer, taken.again, taken.older)
