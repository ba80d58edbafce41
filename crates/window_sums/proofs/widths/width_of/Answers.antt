use Rattle.window_sums.proofs.WidthFacts.{width-few, width-named, width-some}
use Rattle.window_sums.proofs.widths.width_of.Goals as goal

pub returns-in-Timeslices-clause-some : goal.returns-in-Timeslices-clause-some
returns-in-Timeslices-clause-some c =
    width-some c.in-Timeslices.width
    (width-named c.args.method.now c.in-Timeslices.width c.in-Timeslices.is c.requires)

pub returns-in-Timeslices-clause-few : goal.returns-in-Timeslices-clause-few
returns-in-Timeslices-clause-few c =
    width-few c.in-Timeslices.width
    (width-named c.args.method.now c.in-Timeslices.width c.in-Timeslices.is c.requires)

pub returns-in-Timeslices-2-clause-some : goal.returns-in-Timeslices-2-clause-some
returns-in-Timeslices-2-clause-some c =
    width-some c.in-Timeslices.width
    (width-named c.args.method.now c.in-Timeslices.width c.in-Timeslices.is c.requires)

pub returns-in-Timeslices-2-clause-few : goal.returns-in-Timeslices-2-clause-few
returns-in-Timeslices-2-clause-few c =
    width-few c.in-Timeslices.width
    (width-named c.args.method.now c.in-Timeslices.width c.in-Timeslices.is c.requires)
