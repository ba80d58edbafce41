use Rattle.std.proofs.Common.{◌≡◌, ◌∙◌, ◌++◌, ◌∷◌, [], List, suc, ap, sym, subst, arith, length}
use Rattle.std.proofs.Common.{add-one}
use Rattle.std.specs.List.{IsDistinct}
use Rattle.std.proofs.lemmas.List.{length-append}
use Rattle.sample_book.specs.declared.stored.Stored.{Stored}
use Rattle.sample_book.specs.Rows.{same_cell}
use Rattle.sample_book.specs.Standing.{rows_stored}
use Rattle.sample_book.proofs.ArriveLemmas.{appended}
use Rattle.sample_book.proofs.current_rows.append.Goals as goal

pub push-requires : goal.push-requires
push-requires c =
    let within = (appended c.args.cells.now c.args.stored.now.rows c.args.row.now
    c.requires.step.apart c.requires.first c.requires.absent).within in
    omega (arith, within, c.requires.step.ready)

-- what is stored grew by the row
grown : (c : goal.After-push) → c.push.new.self.rows ≡ c.args.stored.now.rows
    ++ record { revision = c.args.row.now.revision; amount = c.args.row.now.amount } ∷ []
grown c = c.push.ensures.rows
    ∙ ap (λ (s : Stored). c.args.stored.now.rows ++ s ∷ []) c.stored_of.ensures

longer : (c : goal.After-push)
    → length c.push.new.self.rows ≡ suc (length c.args.stored.now.rows)
longer c = ap length (grown c)
    ∙ length-append c.args.stored.now.rows (record {
      revision = c.args.row.now.revision;
      amount = c.args.row.now.amount;
    } ∷ []) ∙ add-one (length c.args.stored.now.rows)

pub returns-clause-new : goal.returns-clause-new
returns-clause-new c = (appended c.args.cells.now c.args.stored.now.rows c.args.row.now
    c.requires.step.apart c.requires.first c.requires.absent).new

pub returns-clause-count : goal.returns-clause-count
returns-clause-count c = ap length (grown c)
    ∙ length-append c.args.stored.now.rows (record {
      revision = c.args.row.now.revision;
      amount = c.args.row.now.amount;
    } ∷ [])

pub returns-clause-rows : goal.returns-clause-rows
returns-clause-rows c = ap (rows_stored c.args.cells.now) (grown c)
    ∙ (appended c.args.cells.now c.args.stored.now.rows c.args.row.now c.requires.step.apart
    c.requires.first c.requires.absent).taken

pub returns-clause-step : goal.returns-clause-step
returns-clause-step c =
    let within = (appended c.args.cells.now c.args.stored.now.rows c.args.row.now
    c.requires.step.apart c.requires.first c.requires.absent).within in
    record {
      within = omega (arith, within, longer c);
      ready = omega (arith, c.requires.step.ready, c.push.ensures.capacity);
      few = c.requires.step.few;
      apart =
          subst (λ (rows : List Stored). IsDistinct same_cell (rows_stored c.args.cells.now rows))
          (sym (grown c)) (appended c.args.cells.now c.args.stored.now.rows c.args.row.now
          c.requires.step.apart c.requires.first c.requires.absent).distinct;
    }
