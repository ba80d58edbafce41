use Rattle.std.proofs.Common.{◌+◌, ◌≤◌, ◌++◌, ℕ, List, length, subst}
use Rattle.std.specs.Prelude.{IfOk}
use Rattle.csv_records.specs.Records.{Fields, csv_records}
use Rattle.budget_command.specs.Tables.{AreAll, IsBroken}
use Rattle.budget_command.proofs.FillLemmas.{all-none}
use Rattle.budget_command.proofs.table.fill_rest.Goals as goal

pub returns-then-at-part-clause-ok : goal.returns-then-at-part-clause-ok
returns-then-at-part-clause-ok c = λ before all.
    all-none c.args.part.now c.args.at c.args.number c.args.table.now before c.if-at-part.true all

pub returns : goal.returns
returns c =
    let is = c.text_behind-rest.ensures in
    let old = c.args.table.now in
    let new = c.fill_records.new.table in
    let done = c.fill_records.ensures in
    record {
      ok = subst (λ (text : List ℕ). IfOk c.fill_records.result (λ next.
          (before : List Fields) → AreAll before c.args.number old
          → AreAll (before ++ csv_records text) next new)) is done.ok;
      fit = done.fit;
      tallied = done.tallied;
      numbered = subst (λ (text : List ℕ). IfOk c.fill_records.result
          (λ next. next ≤ c.args.number + length (csv_records text))) is done.numbered;
      broken = λ place fault e. subst
          (λ (text : List ℕ). IsBroken text c.args.number old place fault) is
          (done.broken place fault e);
    }
