-- The records of one more part of a text, and of one more piece.
use Rattle.std.proofs.Common.{◌≡◌, ◌+◌, ◌++◌, ◌≤◌, ℕ, List, [], ◌∷◌, All, Err, arith, ap, drop}
use Rattle.std.proofs.Common.{length, length-append, refl, subst, sym, take}
use Rattle.std.specs.Prelude.{Option, Some, None, Result, Ok, OnOk, false, is_err}
use Rattle.std.proofs.lemmas.List.{length-take}
use Rattle.std.proofs.lemmas.List.Elements.{All-nil}
use Rattle.csv_records.specs.Parts.{EndsWithRecord, PartsAreRead}
use Rattle.csv_records.proofs.PartLemmas.{read_all, read_more, read_piece}
use Rattle.csv_records.specs.Records.{Fields, csv_records}
use Rattle.csv_records.proofs.Counts.{csv_records-few}
use Rattle.slo_terms.specs.Judged.{judged_from}
use Rattle.budget_command.specs.Records.{IsCounted, outcome}
use Rattle.budget_command.specs.Tables.{AreAll, CanGoOn, ComesTo, HasJudged, HasJudgedTo, IsEmpty}
use Rattle.budget_command.specs.declared.drafts.Drafts.{Drafts}
use Rattle.budget_command.specs.declared.fault.RecordFault.{RecordFault}
use Rattle.budget_command.specs.declared.judging.Judging.{Judging}
use Rattle.budget_command.specs.declared.table.Table.{Table}
use Rattle.budget_command.proofs.TableLemmas.{broken-behind, so_far-none}

-- What holds where a call succeeds.
pub on_ok-then : {T E : Type 0} (P Q : Type 0) (result : Result T E) → (P → Q) → OnOk result P
    → OnOk result Q
on_ok-then P Q (Ok value) then holds = then holds
on_ok-then P Q (Err error) then holds = tt

pub on_ok-holds : {T E : Type 0} (P : Type 0) (result : Result T E) → is_err result ≡ false
    → OnOk result P → P
on_ok-holds P (Ok value) e holds = holds
on_ok-holds P (Err error) e holds = cc e

-- nothing was judged
pub judged-none : (table : Table) (drafts : Drafts) → IsEmpty table
    → HasJudged [] (record { table = table; number = 1; fault = None; drafts = drafts })
judged-none table drafts empty = record {
  comes = so_far-none [] [] table refl empty;
  going = λ unbroken. record {
    fit = record {
      counted = subst (All IsCounted) (sym empty.rows) (All-nil IsCounted);
      few = (let none = ap length empty.rows in omega (arith, none));
    };
    tallied = omega (arith, empty.newer, empty.again, empty.older);
  };
  numbered = omega arith;
}

-- Behind a fault nothing more is judged.
pub judged-broken : (before more : List Fields) (judging : Judging) (fault : RecordFault)
    → judging.fault ≡ Some fault →
    HasJudged before judging → HasJudged (before ++ more) judging
judged-broken before more judging fault is judged = record {
  comes =
      subst (λ (f : Option RecordFault). ComesTo (before ++ more) f judging.number judging.table)
      (sym is)
      (broken-behind before more judging.number fault
      (subst (λ (f : Option RecordFault). ComesTo before f judging.number judging.table) is
      judged.comes));
  going = judged.going;
  numbered = omega (arith, judged.numbered, length-append before more);
}

-- A part whose records keep the rules, and one with a record that breaks one.
pub judged-more : (before more : List Fields) (old : Judging) (table : Table) (drafts : Drafts)
    (next : ℕ) → old.fault ≡ None → HasJudged before old →
    (AreAll before old.number old.table → AreAll (before ++ more) next table) → CanGoOn table next
    → next ≤ old.number + length more →
    HasJudged (before ++ more)
    (record { table = table; number = next; fault = old.fault; drafts = drafts })
judged-more before more old table drafts next unbroken judged goes going few = record {
  comes = subst (λ (f : Option RecordFault). ComesTo (before ++ more) f next table) (sym unbroken)
      (goes (subst (λ (f : Option RecordFault). ComesTo before f old.number old.table) unbroken
      judged.comes));
  going = λ e. going;
  numbered = omega (arith, judged.numbered, few, length-append before more);
}

pub judged-fault : (before more : List Fields) (old : Judging) (table : Table) (drafts : Drafts)
    (at : ℕ) (fault : RecordFault) → old.fault ≡ None → HasJudged before old →
    (AreAll before old.number old.table → judged_from outcome [] 1 (before ++ more)
    ≡ Err (at, fault))
    → at ≤ old.number + length more →
    HasJudged (before ++ more)
    (record { table = table; number = at; fault = Some fault; drafts = drafts })
judged-fault before more old table drafts at fault unbroken judged goes few = record {
  comes = goes (subst (λ (f : Option RecordFault). ComesTo before f old.number old.table) unbroken
      judged.comes);
  going = λ e. absurd (cc e);
  numbered = omega (arith, judged.numbered, few, length-append before more);
}

-- the next part's records are as many as its bytes leave room for
pub few-records : (seen : List ℕ) (records : List Fields) (waiting piece : List ℕ) (count : ℕ)
    → PartsAreRead seen records waiting →
    length records + length (csv_records (waiting ++ take count piece)) ≤ length seen + length piece
few-records seen records waiting piece count read =
    let front = take count piece in
    let all = ap (λ (rs : List Fields). length rs)
    (read_all (seen ++ front) records (waiting ++ front)
    (read_more seen records waiting front read)) in
    let few = csv_records-few (seen ++ front) in
    omega (
      arith,
      all,
      few,
      length-append records (csv_records (waiting ++ front)),
      length-append
          seen front,
      length-take count piece,
    )

-- a piece in which no record ends
pub judged_to-more : (seen waiting piece : List ℕ) (judging : Judging)
    → HasJudgedTo seen waiting judging → HasJudgedTo (seen ++ piece) (waiting ++ piece) judging
judged_to-more seen waiting piece judging to = record {
  records = to.records;
  read = read_more seen to.records waiting piece to.read;
  judged = to.judged;
}

-- a piece in which one does
pub judged_to-part : (seen waiting piece : List ℕ) (count : ℕ) (old new : Judging)
    → EndsWithRecord (waiting ++ take count piece) →
    ((before : List Fields) → HasJudged before old
    → HasJudged (before ++ csv_records (waiting ++ take count piece)) new) →
    HasJudgedTo seen waiting old → HasJudgedTo (seen ++ piece) (10 ∷ drop count piece) new
judged_to-part seen waiting piece count old new ends judges to = record {
  records = to.records ++ csv_records (waiting ++ take count piece);
  read = read_piece seen to.records waiting piece count to.read ends;
  judged = judges to.records to.judged;
}
