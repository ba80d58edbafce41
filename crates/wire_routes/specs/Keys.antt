-- The keys of the routes: `at`, `from`, `to` and `step` are numbers below 2^32, `lookback` is a
-- duration.
use Rattle.std.specs.Prelude.{ℕ, List, Option, Some, None, option_map, option_and_then, codes}
use Rattle.std.specs.Result.{result_ok}
use Rattle.slo_duration.specs.declared.duration.Duration.{Duration}
use Rattle.slo_duration.specs.Reading.{duration_of}
use Rattle.wire_routes.specs.Cuts.{number32}
use Rattle.wire_routes.specs.Queries.{key_values}

-- a duration in OpenSLO's shorthand
abbrev pub lookback_of : List ℕ → Option Duration
lookback_of text = result_ok (duration_of text)

-- a minute that may be left out
abbrev pub minute_or_none : Option (List ℕ) → Option (Option ℕ)
minute_or_none None = Some None
minute_or_none (Some digits) = option_map (λ n. Some n) (number32 digits)

-- the key `at`, which may be left out
abbrev pub budgets_keys : Option (List ℕ) → Option (Option ℕ)
budgets_keys query = option_and_then (λ p. minute_or_none p.0)
    (key_values query (codes "at") (codes "at") (codes "at"))

-- the keys `lookback`, which is needed, and `at`, which may be left out
abbrev pub burn_of : Option (List ℕ) → Option (List ℕ) → Option (Duration × Option ℕ)
burn_of lookback at = option_and_then (λ d. option_map (λ m. (d, m)) (minute_or_none at))
    (option_and_then lookback_of lookback)

abbrev pub burns_keys : Option (List ℕ) → Option (Duration × Option ℕ)
burns_keys query = option_and_then (λ p. burn_of p.0 p.1)
    (key_values query (codes "lookback") (codes "at") (codes "at"))

-- the keys `from` and `to`, which are needed
abbrev pub stretch_of : Option (List ℕ) → Option (List ℕ) → Option (ℕ × ℕ)
stretch_of from to = option_and_then (λ f. option_map (λ t. (f, t)) (option_and_then number32 to))
    (option_and_then number32 from)

abbrev pub stretch_keys : Option (List ℕ) → Option (ℕ × ℕ)
stretch_keys query = option_and_then (λ p. stretch_of p.0 p.1)
    (key_values query (codes "from") (codes "to") (codes "to"))

-- the keys `from`, `to` and `step`, which are needed
abbrev pub stretches_of : Option (List ℕ) → Option (List ℕ) → Option (List ℕ) → Option (ℕ × ℕ × ℕ)
stretches_of from to step =
    option_and_then (λ f. option_and_then (λ t. option_map (λ s. (f, t, s))
    (option_and_then number32 step)) (option_and_then number32 to)) (option_and_then number32 from)

abbrev pub sums_keys : Option (List ℕ) → Option (ℕ × ℕ × ℕ)
sums_keys query = option_and_then (λ p. stretches_of p.0 p.1 p.2)
    (key_values query (codes "from") (codes "to") (codes "step"))

-- the key `from` of a feed, a position, which is needed
abbrev pub entries_keys : Option (List ℕ) → Option ℕ
entries_keys query = option_and_then (λ p. option_and_then number32 p.0)
    (key_values query (codes "from") (codes "from") (codes "from"))
