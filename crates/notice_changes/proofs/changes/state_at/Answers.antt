use Rattle.std.proofs.Common.{◌≡◌, ◌∙◌, Some, ap, slice_get, sym}
use Rattle.std.specs.Option.{option_copied}
use Rattle.notice_changes.proofs.StateLemmas.{state_there}
use Rattle.notice_changes.proofs.changes.state_at.Goals as goal

pub returns-then-same_binding : goal.returns-then-same_binding
returns-then-same_binding c = λ one_each.
    let there : slice_get c.args.states.now c.args.place ≡ Some c.in-Some.kept.now =
    sym c.kept_at.ensures ∙ ap option_copied c.in-Some.is in
    state_there c.args.states.now c.args.place c.in-Some.kept.now c.args.binding.now there
    (sym c.same_binding.ensures ∙ c.if-same_binding.true) one_each
