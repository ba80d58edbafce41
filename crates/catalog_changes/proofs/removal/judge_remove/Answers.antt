use Rattle.std.proofs.Common.{◌≡◌}
use Rattle.office_history.specs.declared.Judgement.{Judgement}
use Rattle.office_history.specs.Verdicts.{remove_verdict}
use Rattle.record_form.specs.declared.Command.TheVariants.{Remove}
use Rattle.catalog_changes.specs.Judging.{IsRemoval}
use Rattle.catalog_changes.proofs.ChangeLemmas.{judged_over, removal_over, removal_found}
use Rattle.catalog_changes.proofs.removal.judge_remove.Goals as goal

pub returns : goal.returns
returns c o r =
    let d = c.args.derived.now in
    judged_over o c.args.moment (Remove c.args.kind c.args.name) (λ (j : Judgement).
    j ≡ remove_verdict d.catalog d.book.rows d.entries c.args.kind c.args.name)
    (IsRemoval d c.args.kind c.args.name) c.judged_removal.result
    (removal_over d o c.args.moment c.args.kind c.args.name r)
    (removal_found d o c.args.moment c.args.kind c.args.name r) c.judged_removal.ensures
