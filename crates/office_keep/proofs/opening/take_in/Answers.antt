use Rattle.std.proofs.Common.{◌≤◌, ◌<◌, ap, rules}
use Rattle.record_form.specs.Ranges.{IsRecord}
use Rattle.office_history.specs.History.{Office, end_of, present}
use Rattle.office_keep.proofs.opening.take_in.Goals as goal

pub returns-in-Ready-clause-taken : goal.returns-in-Ready-clause-taken
returns-in-Ready-clause-taken c done =
    let o = c.args.core.now.office in
    let e = c.in-Some.entry in
    let is_record : IsRecord c.args.bytes.now e = search rules in
    let in_range : e.moment < end_of o.origin = search rules in
    let later : present o ≤ e.moment = search rules in (
      e,
      is_record,
      record { in_range = in_range; later = later; accepted = c.in-Ready.ensures.added.0 },
      c.in-Ready.ensures.added.1,
    )

pub returns-in-Ready-clause-origin : goal.returns-in-Ready-clause-origin
returns-in-Ready-clause-origin c = ap (λ (o : Office). o.origin) c.in-Ready.ensures.added.1

pub returns-in-Same-clause-origin : goal.returns-in-Same-clause-origin
returns-in-Same-clause-origin c = ap (λ (o : Office). o.origin) c.in-Same.ensures.added.1

pub returns-in-Refused-clause-origin : goal.returns-in-Refused-clause-origin
returns-in-Refused-clause-origin c = ap (λ (o : Office). o.origin) c.in-Refused.ensures.added.1

pub returns-in-NoMemory-clause-origin : goal.returns-in-NoMemory-clause-origin
returns-in-NoMemory-clause-origin c = ap (λ (o : Office). o.origin) c.in-NoMemory.ensures.added
