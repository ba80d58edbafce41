use Rattle.std.proofs.Common.{◌∙◌, sym}
use Rattle.kept_lines.proofs.BindingLemmas.{bound_watched, not_watched}
use Rattle.kept_lines.proofs.WatchLemmas.{watched_is}
use Rattle.kept_lines.proofs.watch.watched.Goals as goal

pub returns-then-not-is_bound-clause-value : goal.returns-then-not-is_bound-clause-value
returns-then-not-is_bound-clause-value c =
    not_watched c.args.catalog.now c.args.binding.now
    (sym c.is_bound.ensures ∙ c.if-not-is_bound.true)

pub returns-clause-value : goal.returns-clause-value
returns-clause-value c =
    bound_watched c.args.catalog.now c.args.binding.now c.watch_of.result
    (sym c.is_bound.ensures ∙ c.if-not-is_bound.false) c.watch_of.ensures.value

pub returns-clause-watched : goal.returns-clause-watched
returns-clause-watched c =
    watched_is c.args.catalog.now c.args.binding.now c.watch_of.result
    (bound_watched c.args.catalog.now c.args.binding.now c.watch_of.result
    (sym c.is_bound.ensures ∙ c.if-not-is_bound.false) c.watch_of.ensures.value)
