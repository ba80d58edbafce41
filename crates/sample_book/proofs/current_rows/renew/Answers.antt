use Rattle.std.proofs.Common.{◌≡◌, ◌≢◌, ◌∙◌, ap, sym, subst, arith, length, set, List}
use Rattle.std.specs.List.{IsDistinct}
use Rattle.std.proofs.lemmas.List.{length-set}
use Rattle.sample_book.specs.declared.stored.Stored.{Stored}
use Rattle.sample_book.specs.History.{is_put}
use Rattle.sample_book.specs.Rows.{same_cell, verdict_of}
use Rattle.sample_book.specs.declared.row.RowVerdict.TheVariants.{New}
use Rattle.sample_book.specs.Standing.{rows_stored}
use Rattle.sample_book.proofs.ArriveLemmas.{Renewed, renewed}
use Rattle.sample_book.proofs.StandingLemmas.{newer_verdict}
use Rattle.sample_book.proofs.current_rows.renew.Goals as goal
use Rattle.sample_book.proofs.current_rows.renew.Goals.{After-row_stored-kept, After-set}

-- what comes of the row where this one is kept
over : (c : After-row_stored-kept) → Renewed c.args.cells.now c.args.stored.now.rows
    c.args.row.now c.row_stored-kept.result c.args.place
over c = renewed c.args.cells.now c.args.stored.now.rows c.args.row.now c.args.place c.at.result
    c.at-2.result c.row_stored-kept.result c.requires.step.apart c.requires.there c.at.ensures
    c.at-2.ensures c.row_stored-kept.ensures

-- what is stored with the row in its place
same : (c : After-set) → c.set.new.self.rows ≡ set c.args.stored.now.rows c.args.place (record {
  revision = c.args.row.now.revision;
  amount = c.args.row.now.amount;
})
same c = c.set.ensures.rows
    ∙ ap (λ (s : Stored). set c.args.stored.now.rows c.args.place s) c.stored_of.ensures

-- the cell has a row
known : (c : After-row_stored-kept)
    → verdict_of (rows_stored c.args.cells.now c.args.stored.now.rows) c.args.row.now ≢ New
known c = λ new. newer_verdict c.row_stored-kept.result c.args.row.now ((over c).stands ∙ new)

pub returns-then-is_put-clause-verdict : goal.returns-then-is_put-clause-verdict
returns-then-is_put-clause-verdict c = c.verdict_on-verdict.ensures
    ∙ (over (goal.at.returns-then-is_put-clause-verdict c).After-row_stored-kept).stands

pub returns-then-is_put-clause-known : goal.returns-then-is_put-clause-known
returns-then-is_put-clause-known c =
    known (goal.at.returns-then-is_put-clause-known c).After-row_stored-kept

pub returns-then-is_put-clause-count : goal.returns-then-is_put-clause-count
returns-then-is_put-clause-count c = ap length c.set.ensures.rows
    ∙ length-set c.args.stored.now.rows c.args.place c.stored_of.result

pub returns-then-is_put-clause-rows : goal.returns-then-is_put-clause-rows
returns-then-is_put-clause-rows c =
    let at = goal.at.returns-then-is_put-clause-rows c in
    ap (rows_stored c.args.cells.now) (same at.After-set)
    ∙ (over at.After-row_stored-kept).taken
    (sym (ap is_put c.verdict_on-verdict.ensures) ∙ sym c.is_put.ensures ∙ c.if-is_put.true)

pub returns-then-is_put-clause-step : goal.returns-then-is_put-clause-step
returns-then-is_put-clause-step c =
    let at = goal.at.returns-then-is_put-clause-step c in
    record {
      within = omega (
        arith,
        c.requires.step.within,
        ap length c.set.ensures.rows,
        length-set c.args.stored.now.rows c.args.place c.stored_of.result,
      );
      ready = omega (arith, c.requires.step.ready, c.set.ensures.capacity);
      few = c.requires.step.few;
      apart = subst (λ (rows : List Stored). IsDistinct same_cell
          (rows_stored c.args.cells.now rows)) (sym (same at.After-set))
          ((over at.After-row_stored-kept).distinct
          (sym (ap is_put c.verdict_on-verdict.ensures) ∙ sym c.is_put.ensures ∙ c.if-is_put.true));
    }

pub returns-else-is_put-clause-verdict : goal.returns-else-is_put-clause-verdict
returns-else-is_put-clause-verdict c = c.verdict_on-verdict.ensures
    ∙ (over (goal.at.returns-else-is_put-clause-verdict c).After-row_stored-kept).stands

pub returns-else-is_put-clause-known : goal.returns-else-is_put-clause-known
returns-else-is_put-clause-known c =
    known (goal.at.returns-else-is_put-clause-known c).After-row_stored-kept

pub returns-else-is_put-clause-rows : goal.returns-else-is_put-clause-rows
returns-else-is_put-clause-rows c =
    (over (goal.at.returns-else-is_put-clause-rows c).After-row_stored-kept).passed
    (sym (ap is_put c.verdict_on-verdict.ensures) ∙ sym c.is_put.ensures ∙ c.if-is_put.false)
