-- What the lines of alerts know once a query is answered.
use Rattle.std.specs.Prelude.{ℕ, List, Option, Some}
use Rattle.object_terms.specs.declared.Object.{Object}
use Rattle.record_form.specs.declared.Outcome.{Outcome}
use Rattle.record_form.specs.declared.Outcome.TheVariants as outcomes
use Rattle.record_form.specs.declared.Query.{Query}
use Rattle.record_form.specs.declared.Query.TheVariants as queries
use Rattle.office_history.specs.Alerts.{Watch, watched}
use Rattle.kept_lines.specs.Known.{LineKnows}
use Rattle.kept_lines.specs.declared.WatchLine.{WatchLine}

-- where a timeline of [from, to) was given, the line of what is watched knows each of its minutes
abbrev pub KnowsGiven : List WatchLine → ℕ → ℕ → Outcome → Option Watch → Type 0
KnowsGiven kept from to (outcomes.Timeline entries spans state) (Some w) = LineKnows kept w from to
KnowsGiven kept from to _ _ = Unit {0}

-- so it is where a query asked for one
abbrev pub KnowsAnswered : List Object → List WatchLine → Query → Outcome → Type 0
KnowsAnswered members kept (queries.Timeline slo objective policy from to) outcome =
    KnowsGiven kept from to outcome
    (watched members (record { slo = slo; objective = objective; policy = policy }))
KnowsAnswered members kept _ outcome = Unit {0}
