use Rattle.office_export.proofs.WalkLemmas.{exclusions_on}
use Rattle.office_export.proofs.listing.push_exclusions.Goals as goal

pub loop-place-preserved : goal.loop-place-preserved
loop-place-preserved c =
    exclusions_on c.args.catalog.now c.loop-place.place c.args.book.now.exclusions _
    c.loop-place.steps.items c.push_exclusion_at.new.steps.items
    c.in_ok-push_exclusion_at.ensures c.loop-place.invariant
