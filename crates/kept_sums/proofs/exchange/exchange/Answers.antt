use Rattle.std.proofs.Common.{ap, subst, sym, ◌∙◌}
use Rattle.slice_method.specs.Leaves.{leaf}
use Rattle.slo_terms.specs.Sums.{AreFew}
use Rattle.window_sums.specs.Shares.{IsSumOf, slice_counts}
use Rattle.window_sums.specs.Slices.{counts_after, slice_of}
use Rattle.kept_sums.specs.Replacing.{among}
use Rattle.kept_sums.proofs.ReplaceLemmas.{after-other, good-there, other_counts, same_counts}
use Rattle.kept_sums.proofs.ReplaceLemmas.{sound-then, sum-exchanged, total-there}
use Rattle.kept_sums.proofs.exchange.exchange.Goals as goal

pub change-requires-clause-day : goal.change-requires-clause-day
change-requires-clause-day c =
    c.requires.day (other_counts c.args.old c.args.new (sym c.if-ne.true ∙ c.ne.ensures))

pub change-requires-clause-good : goal.change-requires-clause-good
change-requires-clause-good c = let k = c.requires.may in
    good-there c.args.sums.now k.0 k.1 c.args.minute c.args.old c.args.new k.2

pub change-requires-clause-total : goal.change-requires-clause-total
change-requires-clause-total c = let k = c.requires.may in
    total-there c.args.sums.now k.0 k.1 c.args.minute c.args.old c.args.new k.2

pub change-requires-clause-part : goal.change-requires-clause-part
change-requires-clause-part c =
    let k = c.requires.may in
    (sound-then c.args.sums.now k.0 k.1 c.args.minute c.args.old c.args.new k.2).parts
    (slice_of c.args.sums.now.method c.args.minute)

pub change-requires-clause-events : goal.change-requires-clause-events
change-requires-clause-events c =
    let k = c.requires.may in
    let few : AreFew (λ slice.
    (counts_after c.args.sums.now c.args.minute c.args.old c.args.new slice).total) =
    (sound-then c.args.sums.now k.0 k.1 c.args.minute c.args.old c.args.new k.2).events in
    few

pub change-requires-clause-leaves : goal.change-requires-clause-leaves
change-requires-clause-leaves c =
    let k = c.requires.may in
    let few : AreFew (λ slice. (leaf c.args.sums.now.method
    (counts_after c.args.sums.now c.args.minute c.args.old c.args.new slice)).den) =
    (sound-then c.args.sums.now k.0 k.1 c.args.minute c.args.old c.args.new k.2).leaves in
    few

pub returns-then-ne-clause-counted : goal.returns-then-ne-clause-counted
returns-then-ne-clause-counted c = λ before after counted slice.
    c.change.ensures.counts slice
    ∙ sum-exchanged c.args.sums.now before after c.args.minute c.args.old c.args.new counted slice
    ∙ ap (λ m. slice_counts m (among before c.args.minute c.args.new after) slice)
    (sym c.change.ensures.method)

pub returns-else-ne-clause-counted : goal.returns-else-ne-clause-counted
returns-else-ne-clause-counted c = λ before after counted.
    subst (λ n. IsSumOf c.args.sums.now (among before c.args.minute n after))
    (same_counts c.args.old c.args.new (sym c.if-ne.false ∙ c.ne.ensures)) counted

pub returns-then-ne-clause-touched : goal.returns-then-ne-clause-touched
returns-then-ne-clause-touched c = λ slice other.
    c.change.ensures.counts slice
    ∙ after-other c.args.sums.now c.args.minute c.args.old c.args.new slice other

pub returns-then-ne-clause-same : goal.returns-then-ne-clause-same
returns-then-ne-clause-same c =
    λ same. absurd (other_counts c.args.old c.args.new (sym c.if-ne.true ∙ c.ne.ensures) same)
