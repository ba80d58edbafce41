use Rattle.std.proofs.Common.{◌∙◌, ◌++◌, List, ap, map, refl}
use Rattle.burn_core.specs.declared.State.{State}
use Rattle.catalog_terms.specs.declared.Binding.{Binding}
use Rattle.kept_lines.specs.States.{with_state}
use Rattle.kept_lines.specs.Sums.{samples_of}
use Rattle.kept_lines.proofs.KnownLemmas.{all_know, know_on}
use Rattle.kept_lines.proofs.StateLemmas.{next_state}
use Rattle.kept_lines.proofs.states.states_of.Goals as goal

pub loop-binding-init : goal.loop-binding-init
loop-binding-init c = record {
  states =
      ap (λ (states : List (Binding × State)). states
      ++ map (with_state c.args.derived.now c.args.minute) c.args.bindings.now)
      c.in_ok-states.ensures.items;
  lines = c.requires.lines;
  watches = refl;
  know = all_know c.args.lines.now.kept;
  hint = c.new-hint.ensures (samples_of c.args.derived.now.book) c.args.minute;
  spare = refl;
}

pub returns-in_err-states-clause-know : goal.returns-in_err-states-clause-know
returns-in_err-states-clause-know c = all_know c.args.lines.now.kept

pub returns-in_err-push-clause-know : goal.returns-in_err-push-clause-know
returns-in_err-push-clause-know c =
    know_on c.args.lines.now.kept c.loop-binding.lines.kept
    c.state_of_binding-state.new.lines.kept c.loop-binding.invariant.know
    c.state_of_binding-state.ensures.know

pub loop-binding-preserved : goal.loop-binding-preserved
loop-binding-preserved c = record {
  states =
      next_state c.args.derived.now c.args.minute c.args.bindings.now
      c.loop-binding.binding-index c.binding-item.result c.state_of_binding-state.result
      c.loop-binding.states.items c.push.new.self.items c.loop-binding-test.true
      c.binding-item.is c.state_of_binding-state.ensures.value c.loop-binding.invariant.states
      c.in_ok-push.ensures.items;
  lines = c.state_of_binding-state.ensures.lines;
  watches = c.state_of_binding-state.ensures.watches ∙ c.loop-binding.invariant.watches;
  know =
      know_on c.args.lines.now.kept c.loop-binding.lines.kept
      c.state_of_binding-state.new.lines.kept c.loop-binding.invariant.know
      c.state_of_binding-state.ensures.know;
  hint = c.state_of_binding-state.ensures.hint;
  spare = c.state_of_binding-state.ensures.spare ∙ c.loop-binding.invariant.spare;
}
