use Rattle.std.proofs.Common.{◌≡◌, ◌≤◌, ◌*◌, ◌∙◌, Some, ap, arith, length, slice_get, sum_by, sym}
use Rattle.std.proofs.lemmas.List.{take_all}
use Rattle.std.proofs.lemmas.Option.{slice_get_within}
use Rattle.slo_terms.specs.Sums.{share_within}
use Rattle.sample_book.specs.declared.Row.{Row}
use Rattle.budget_command.specs.Records.{good_of, total_of}
use Rattle.budget_command.proofs.EventLemmas.{sum-more, past}
use Rattle.budget_command.proofs.text.events_within.Goals as goal

pub rows-preserved : goal.rows-preserved
rows-preserved c =
    let rows = c.args.book.now.rows in
    let found : slice_get rows c.rows.place
    ≡ Some c.in-Some.row = sym c.at.ensures ∙ c.in-Some.is in
    let within = slice_get_within rows c.rows.place c.in-Some.row found in
    record {
      place = omega (arith, within);
      good = sum-more (share_within (λ r. r.minute) good_of c.args.from c.args.to) rows c.rows.place
          c.in-Some.row c.rows.good _ found c.rows.invariant.good c.share-events.ensures.good;
      total = sum-more (share_within (λ r. r.minute) total_of c.args.from c.args.to) rows
          c.rows.place c.in-Some.row c.rows.total _ found c.rows.invariant.total
          c.share-events.ensures.total;
      part = omega (arith, c.rows.invariant.part, c.share-events.ensures.part);
      bound = omega (arith, c.rows.invariant.bound, c.share-events.ensures.few);
    }

pub returns-clause-cells : goal.returns-clause-cells
returns-clause-cells c =
    let past = past c.args.book.now.rows c.rows.place (sym c.at.ensures ∙ c.in_default.is) in
    omega (arith, past, c.rows.invariant.place)

pub returns-clause-good : goal.returns-clause-good
returns-clause-good c =
    c.rows.invariant.good ∙ ap (sum_by (share_within (λ (r : Row). r.minute) good_of c.args.from
    c.args.to)) (take_all c.rows.place c.args.book.now.rows
    (past c.args.book.now.rows c.rows.place (sym c.at.ensures ∙ c.in_default.is)))

pub returns-clause-total : goal.returns-clause-total
returns-clause-total c =
    c.rows.invariant.total ∙ ap (sum_by (share_within (λ (r : Row). r.minute) total_of c.args.from
    c.args.to)) (take_all c.rows.place c.args.book.now.rows
    (past c.args.book.now.rows c.rows.place (sym c.at.ensures ∙ c.in_default.is)))

-- as many rows as a table has, at the greatest amount, are within the greatest sum
pub returns-clause-bound : goal.returns-clause-bound
returns-clause-bound c =
    let bound : c.rows.total ≤ c.rows.place * 1_000_000_000 = c.rows.invariant.bound in
    let few : length c.args.book.now.rows ≤ 2_000_000 = c.requires.few in
    let sum : c.rows.total ≤ 4_000_000_000_000_000 = omega
    (arith, bound, few, c.rows.invariant.place) in
    sum
