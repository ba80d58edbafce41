use Rattle.std.proofs.Common.{◌∙◌, Option, ap, sym}
use Rattle.office_history.specs.Alerts.{Watch, state_if}
use Rattle.kept_lines.specs.Sums.{samples_of}
use Rattle.kept_lines.proofs.KnownLemmas.{all_know}
use Rattle.kept_lines.proofs.LineLemmas.{bound_there, watched_there}
use Rattle.kept_lines.proofs.states.state_of_binding.Goals as goal

pub state_in-requires-clause-there : goal.state_in-requires-clause-there
state_in-requires-clause-there c =
    let members = c.args.derived.now.catalog in
    let kept = c.args.lines.now.kept in
    let found = bound_there members kept c.args.hint.now.line c.args.binding.now
    c.requires.lines.bound (c.remembers.ensures c.if-remembers.true) in (
      found.0,
      found.1,
      watched_there members kept c.args.hint.now.line found.0 c.requires.lines.only found.1,
    )

pub returns-then-remembers-clause-value : goal.returns-then-remembers-clause-value
returns-then-remembers-clause-value c =
    let d = c.args.derived.now in
    let found = bound_there d.catalog c.args.lines.now.kept c.args.hint.now.line
    c.args.binding.now c.requires.lines.bound (c.remembers.ensures c.if-remembers.true) in
    c.state_in.ensures.value found.0 found.1
    ∙ ap (λ (w : Option Watch). state_if d.origin (samples_of d.book) c.args.minute w)
    (sym found.2)

pub state_anew-requires-clause-watched : goal.state_anew-requires-clause-watched
state_anew-requires-clause-watched c = record {
  binding = c.args.binding.now;
  among = c.requires.among;
  watches = sym c.watch_of.ensures.value ∙ c.in-Some.is;
}

pub returns-in-None-clause-know : goal.returns-in-None-clause-know
returns-in-None-clause-know c = all_know c.args.lines.now.kept
