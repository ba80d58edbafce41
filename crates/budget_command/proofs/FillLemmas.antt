-- The lines of a part, and the records behind them.
use Rattle.std.proofs.Common.{◌≡◌, ◌∙◌, ◌≤◌, ◌+◌, ◌++◌, ◌∷◌, ℕ, List, [], All, Err, Ok}
use Rattle.std.proofs.Common.{ap, append_assoc, arith, drop, length, refl}
use Rattle.std.proofs.Common.{subst, sym}
use Rattle.std.specs.Prelude.{Result, IfOk}
use Rattle.std.proofs.lemmas.List.{append-nil}
use Rattle.csv_records.specs.Records.{Fields, csv_records}
use Rattle.event_fields.specs.Events.{event_of}
use Rattle.event_fields.specs.declared.Event.{Event}
use Rattle.event_fields.specs.declared.EventFault.{EventFault}
use Rattle.event_lines.specs.Lines.{IsEventLine, event_with}
use Rattle.event_lines.specs.declared.EventLine.{EventLine}
use Rattle.plain_fields.specs.Lines.{StandsBehindFeed}
use Rattle.plain_fields.proofs.PlaceLemmas.{feed_first, none_left}
use Rattle.sample_book.specs.declared.Row.{Row}
use Rattle.slo_limits.specs.declared.TheConstants.{MAX_AMOUNT, MAX_CELLS}
use Rattle.slo_terms.specs.Judged.{judged_from}
use Rattle.budget_command.specs.Records.{IsCounted, of_row, outcome, outcome_over, row_read}
use Rattle.budget_command.specs.Tables.{AreAll, BreaksRule, HasTaken, HasTakenLine}
use Rattle.budget_command.specs.Tables.{HasTakenRecord, HaveTakenLines, IsBroken, IsDraft, IsFit}
use Rattle.budget_command.specs.Tables.{tallies_in}
use Rattle.budget_command.specs.declared.fault.RecordFault.{RecordFault}
use Rattle.budget_command.specs.declared.table.Table.{Table}
use Rattle.budget_command.proofs.CurrentLemmas.{after-holds}
use Rattle.budget_command.proofs.TableLemmas.{so_far-behind, so_far-broken, so_far-push}
use Rattle.budget_command.proofs.TableLemmas.{tallied-more}

-- where no record is left, all are taken
pub all-none : (part : List ℕ) (at number : ℕ) (table : Table) (before : List Fields)
    → at ≡ length part → AreAll before number table
    → AreAll (before ++ csv_records (10 ∷ drop at part)) number table
all-none part at number table before e all =
    subst (λ (records : List Fields). AreAll (before ++ records) number table)
    (sym (none_left part at e))
    (subst (λ (records : List Fields). AreAll records number table) (sym (append-nil before)) all)

-- what follows from what holds of a value
pub if_ok-then : {A E : Type 0} (P Q : A → Type 0) (result : Result A E) → IfOk result P
    → ((value : A) → P value → Q value) → IfOk result Q
if_ok-then P Q (Ok value) holds then = then value holds
if_ok-then P Q (Err error) holds then = tt

-- the same error of a call that gives something else
pub other_err : {A B E : Type 0} (x y : E) → ◌≡◌ {A = Result A E} (Err x) (Err y)
    → ◌≡◌ {A = Result B E} (Err x) (Err y)
other_err x y e = let same : x ≡ y = cc e in ap Err same

-- before the first line
pub lines-none : (part : List ℕ) (number : ℕ) (table : Table) → StandsBehindFeed part 1
    → IsFit table.book.rows → tallies_in table + 1 ≤ number
    → HaveTakenLines part number table 1 number table
lines-none part number table behind fit tallied = record {
  behind = behind;
  records = [];
  split = ap csv_records (feed_first part 1 behind);
  all = λ before all. subst (λ (records : List Fields). AreAll records number table)
      (sym (append-nil before)) all;
  fit = fit;
  tallied = tallied;
  numbered = (let all = ap (λ (text : List ℕ). length (csv_records text))
      (feed_first part 1 behind) in omega (arith, all));
}

-- one more record behind others that keep the rules
all-more : (records : List Fields) (next : ℕ) (old new : Table) (fields : Fields)
    → HasTakenRecord fields old new → AreAll records next old
    → AreAll (records ++ fields ∷ []) (next + 1) new
all-more records next old new fields taken all =
    so_far-push (records ++ fields ∷ []) (fields ∷ []) next old new fields []
    (so_far-behind records (fields ∷ []) (fields ∷ []) next old refl all) refl taken

-- one more line
pub lines-more : (part : List ℕ) (number : ℕ) (first old new : Table) (at end next : ℕ)
    (fields : Fields) → HaveTakenLines part number first at next old
    → csv_records (10 ∷ drop at part) ≡ fields ∷ csv_records (10 ∷ drop end part)
    → StandsBehindFeed part end → HasTakenRecord fields old new → IsFit new.book.rows
    → HaveTakenLines part number first end (next + 1) new
lines-more part number first old new at end next fields lines is behind taken fit = record {
  behind = behind;
  records = lines.records ++ fields ∷ [];
  split = lines.split ∙ ap (λ (left : List Fields). lines.records ++ left) is
      ∙ sym (append_assoc lines.records (fields ∷ []) (csv_records (10 ∷ drop end part)));
  all = λ before all. subst (λ (records : List Fields). AreAll records (next + 1) new)
      (append_assoc before lines.records (fields ∷ []))
      (all-more (before ++ lines.records) next old new fields taken (lines.all before all));
  fit = fit;
  tallied = (let more = tallied-more old new taken.row taken.taken in
      omega (arith, more, lines.tallied));
  numbered = (let fewer = ap (λ (rs : List Fields). length rs) is in
      omega (arith, fewer, lines.numbered));
}

-- the rows of a table with one more
pub fit-more : (old new : Table) (fields : Fields) → IsFit old.book.rows
    → HasTakenRecord fields old new → length new.book.rows ≤ MAX_CELLS → IsFit new.book.rows
fit-more old new fields fit taken few = record {
  counted = subst (All IsCounted) (sym taken.taken.rows)
      (after-holds IsCounted old.book.rows taken.row fit.counted taken.counted);
  few = few;
}

-- what comes of the records that are left comes of all
behind_lines : (part : List ℕ) (number : ℕ) (first old : Table) (at next : ℕ)
    (lines : HaveTakenLines part number first at next old) (before : List Fields)
    → (before ++ lines.records) ++ csv_records (10 ∷ drop at part) ≡ before ++ csv_records part
behind_lines part number first old at next lines before =
    append_assoc before lines.records (csv_records (10 ∷ drop at part))
    ∙ ap (λ (all : List Fields). before ++ all) (sym lines.split)

pub lines-broken : (part : List ℕ) (number : ℕ) (first old : Table) (at next : ℕ) (place : ℕ)
    (fault : RecordFault) → HaveTakenLines part number first at next old
    → IsBroken (10 ∷ drop at part) next old place fault → IsBroken part number first place fault
lines-broken part number first old at next place fault lines broken = (
  λ before all. ap (judged_from outcome [] 1)
      (sym (behind_lines part number first old at next lines before))
      ∙ broken.0 (before ++ lines.records) (lines.all before all),
  omega (arith, broken.1, lines.numbered),
)

-- the next line breaks a rule
pub line-broken : (part : List ℕ) (at end next : ℕ) (table : Table) (fields : Fields)
    (fault : RecordFault) → csv_records (10 ∷ drop at part) ≡ fields ∷ csv_records
    (10 ∷ drop end part) → outcome_over table.book.rows fields ≡ Err fault
    → IsBroken (10 ∷ drop at part) next table next fault
line-broken part at end next table fields fault is broken = (
  λ before all. so_far-broken (before ++ csv_records (10 ∷ drop at part))
      (csv_records (10 ∷ drop at part)) next table fields (csv_records (10 ∷ drop end part)) fault
      (so_far-behind before (csv_records (10 ∷ drop at part)) (csv_records (10 ∷ drop at part))
      next table refl all) is broken,
  omega arith,
)

-- the records behind the lines keep the rules
pub lines-all : (part : List ℕ) (number : ℕ) (first old new : Table) (at next last : ℕ)
    → HaveTakenLines part number first at next old
    → ((before : List Fields) → AreAll before next old
    → AreAll (before ++ csv_records (10 ∷ drop at part)) last new)
    → (before : List Fields) → AreAll before number first
    → AreAll (before ++ csv_records part) last new
lines-all part number first old new at next last lines goes before all =
    subst (λ (records : List Fields). AreAll records last new)
    (behind_lines part number first old at next lines before)
    (goes (before ++ lines.records) (lines.all before all))

-- what a line's record comes to is what comes of its drafted row
judged_draft : (line : EventLine) (row : Row) (rows : List Row) (draft : IsDraft line row)
    (fields : Fields) → event_of MAX_AMOUNT fields ≡ Ok (event_with draft.label line)
    → outcome_over rows fields ≡ of_row rows (Ok row)
judged_draft line row rows draft fields event =
    ap (λ (read : Result Event EventFault). of_row rows (row_read read)) event
    ∙ ap (λ (r : Row). of_row rows (Ok r)) (sym draft.row_is)

-- a line whose drafted row is taken
pub draft-taken : (part : List ℕ) (at : ℕ) (line : EventLine) (row : Row) (old new : Table)
    → (draft : IsDraft line row) → IsEventLine MAX_AMOUNT part at line draft.label
    → of_row old.book.rows (Ok row) ≡ Ok row → HasTaken row old new
    → HasTakenLine part at line.end old new
draft-taken part at line row old new draft event kept taken = record {
  fields = event.fields;
  line = event.records;
  behind = event.behind;
  taken = record {
    row = row;
    judged = judged_draft line row old.book.rows draft event.fields event.event ∙ kept;
    counted = draft.counted;
    taken = taken;
  };
}

-- a line whose drafted row breaks a rule
pub draft-broken : (part : List ℕ) (at : ℕ) (line : EventLine) (row : Row) (old : Table)
    (fault : RecordFault) → (draft : IsDraft line row)
    → IsEventLine MAX_AMOUNT part at line draft.label
    → of_row old.book.rows (Ok row) ≡ Err fault → BreaksRule part at old fault
draft-broken part at line row old fault draft event broken = record {
  fields = event.fields;
  end = line.end;
  line = event.records;
  broken = judged_draft line row old.book.rows draft event.fields event.event ∙ broken;
}
