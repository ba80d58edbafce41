use Rattle.slo_journal.proofs.Fronts.{laid_any, raised_stands, founding}
use Rattle.slo_journal.proofs.making.found.Goals as goal

pub returns-in_default-raise-clause-any_moment : goal.returns-in_default-raise-clause-any_moment
returns-in_default-raise-clause-any_moment g c all =
    founding c.args.origin c.args.header.now c.requires.origin c.requires.header
    (c.lay.ensures.closed all)
    (c.raise.ensures.either c.args.header.now
    (laid_any c.args.header.now _ (c.in-Ok.ensures.laid all)))

pub returns-clause-any_moment : goal.returns-clause-any_moment
returns-clause-any_moment g c all =
    founding c.args.origin c.args.header.now c.requires.origin c.requires.header
    (c.lay.ensures.closed all)
    (c.raise.ensures.either c.args.header.now
    (laid_any c.args.header.now _ (c.in-Ok.ensures.laid all)))

pub returns-clause-stands : goal.returns-clause-stands
returns-clause-stands g c all =
    raised_stands c.args.origin c.args.header.now
    _ c.requires.origin c.requires.header (c.in-Ok-raise.ensures.raised c.args.header.now
    (laid_any c.args.header.now _ (c.in-Ok.ensures.laid all)))
