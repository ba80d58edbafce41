use Rattle.std.proofs.Common.{◌∙◌, ◌++◌, ap, subst}
use Rattle.office_history.specs.History.{Office}
use Rattle.office_report.specs.Rows.{AreSloLines}
use Rattle.office_report.proofs.LineLemmas.{all_told, one_more}
use Rattle.office_report.proofs.budgets.lines_of.Goals as goal

pub loop-name-preserved : goal.loop-name-preserved
loop-name-preserved c = record {
  office = c.in_ok-more.ensures.office ∙ c.loop-name.invariant.office;
  pending = c.in_ok-more.ensures.pending ∙ c.loop-name.invariant.pending;
  told =
      one_more c.args.states.now c.args.core.now.office c.args.at c.args.names.now
      c.loop-name.name-index c.name-item.result c.loop-name.lines.items c.in_ok-more.more.items
      c.extend_from_slice.new.self.items c.loop-name-test.true c.name-item.is
      c.loop-name.invariant.told
      (subst (λ (o : Office). AreSloLines c.args.states.now o c.args.at c.name-item.result
      c.in_ok-more.more.items) c.loop-name.invariant.office
      c.in_ok-more.ensures.lines)
      (c.in_ok-extend_from_slice.ensures.items
      ∙ ap (λ xs. c.loop-name.lines.items ++ xs) c.deref.ensures.value);
}

pub returns-clause-lines : goal.returns-clause-lines
returns-clause-lines c =
    all_told c.args.states.now c.args.core.now.office c.args.at c.args.names.now
    c.loop-name.name-index c.loop-name.lines.items c.loop-name-test.false c.loop-name.invariant.told
