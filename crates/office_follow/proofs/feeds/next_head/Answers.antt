use Rattle.std.proofs.Common.{Ok, ap, ◌∙◌}
use Rattle.office_follow.specs.Heads.{head_of}
use Rattle.office_follow.proofs.HeadLemmas.{heads_lack, heads_read}
use Rattle.office_follow.proofs.feeds.next_head.Goals as goal

pub returns-in-Ok-true-clause-read : goal.returns-in-Ok-true-clause-read
returns-in-Ok-true-clause-read g c =
    let is = c.in-Ok-true.is ∙ ap Ok c.in-Ok-true.field-0-test in
    heads_read c.args.core.now.office c.args.at c.take_piece.new.out.items _ _ c.head_of.result
    (c.take_piece.ensures.taken is) (c.take_piece.ensures.whole is).0
    (c.head_of.ensures ∙ ap (head_of c.args.core.now.office c.args.at) c.deref.ensures.value)

pub returns-in-Ok-true-clause-lacks : goal.returns-in-Ok-true-clause-lacks
returns-in-Ok-true-clause-lacks g c =
    let is = c.in-Ok-true.is ∙ ap Ok c.in-Ok-true.field-0-test in
    heads_lack c.args.core.now.office c.args.at c.take_piece.new.out.items _
    (g.S.Source.left c.take_piece.new.input) c.head_of.result
    (c.take_piece.ensures.taken is) (c.take_piece.ensures.whole is).0
    (c.head_of.ensures ∙ ap (head_of c.args.core.now.office c.args.at) c.deref.ensures.value)
