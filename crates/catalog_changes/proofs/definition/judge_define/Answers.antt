use Rattle.office_history.specs.Judges.{JudgesText}
use Rattle.record_form.specs.declared.Command.TheVariants.{Define}
use Rattle.catalog_changes.specs.Judging.{IsTextWork, known_by}
use Rattle.catalog_changes.proofs.ChangeLemmas.{judged_over, text_over, text_found}
use Rattle.catalog_changes.proofs.definition.judge_define.Goals as goal

pub returns : goal.returns
returns c o r =
    let d = c.args.derived.now in
    let text = c.args.text.now in
    judged_over o c.args.moment (Define text) (JudgesText (known_by d) d.entries text)
    (IsTextWork d text) c.judged_text.result
    (text_over d o c.args.moment text r) (text_found d o c.args.moment text r) c.judged_text.ensures
