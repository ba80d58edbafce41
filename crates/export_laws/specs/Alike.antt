-- What an equal office says like the first one.
use Rattle.std.specs.Prelude.{◌≡◌, ℕ, is_some, length, true}
use Rattle.record_form.specs.declared.Outcome.{Outcome}
use Rattle.record_form.specs.declared.Outcome.TheVariants.{ObjectList, Budgets, Burn, Timeline, Row}
use Rattle.record_form.specs.declared.Outcome.TheVariants.{Zones, Sums, Windows}
use Rattle.record_form.specs.declared.Query.{Query}
use Rattle.record_form.specs.declared.Query.TheVariants as queries
use Rattle.office_history.specs.declared.Measure.{Measure}
use Rattle.office_history.specs.Alerts.{Watch, is_watch_active, state_at}
use Rattle.office_history.specs.Answers.{Answers}
use Rattle.office_history.specs.Counts.{sum_between}
use Rattle.office_history.specs.Catalog.{catalog_in}
use Rattle.office_history.specs.History.{Office}
use Rattle.office_history.specs.Notices.{samples_in}
use Rattle.office_history.specs.Objectives.{slo_named}
use Rattle.export_terms.specs.Moves.{moves}
use Rattle.export_laws.specs.Replay.{IsEqualOffice}

-- an equal office has the same moves
abbrev pub SameMoves : Type 0
SameMoves = (old new : Office) → IsEqualOffice old new → moves new ≡ moves old

-- sums, alerts and states of the SLOs of the catalog are the same at each minute
abbrev pub SameSums : Type 0
SameSums = (old new : Office) (m : Measure) (from to : ℕ) → IsEqualOffice old new
    → is_some (slo_named (catalog_in old.history) m.slo) ≡ true
    → sum_between (samples_in new.history) m from to
    ≡ sum_between (samples_in old.history) m from to

abbrev pub SameAlerts : Type 0
SameAlerts = (old new : Office) (w : Watch) (minute : ℕ) → IsEqualOffice old new
    → is_some (slo_named (catalog_in old.history) w.measure.slo) ≡ true
    → is_watch_active new.origin (samples_in new.history) w minute
    ≡ is_watch_active old.origin (samples_in old.history) w minute

abbrev pub SameStates : Type 0
SameStates = (old new : Office) (w : Watch) (minute : ℕ) → IsEqualOffice old new
    → is_some (slo_named (catalog_in old.history) w.measure.slo) ≡ true
    → state_at new.origin (samples_in new.history) w minute
    ≡ state_at old.origin (samples_in old.history) w minute

-- an answer over a history of so many entries
abbrev pub with_entries : ℕ → Outcome → Outcome
with_entries n (ObjectList entries objects) = ObjectList n objects
with_entries n (Budgets at budgets entries) = Budgets at budgets n
with_entries n (Burn at burn den entries num) = Burn at burn den n num
with_entries n (Timeline entries intervals state) = Timeline n intervals state
with_entries n (Row entries row) = Row n row
with_entries n (Zones entries zones) = Zones n zones
with_entries n (Sums at entries sums) = Sums at n sums
with_entries n (Windows at entries windows) = Windows at n windows
with_entries n outcome = outcome

-- notices and earlier rows aren't sent, of the exclusions only those of the catalog's SLOs, and the
-- entries are others
abbrev pub AsksWhatIsSent : Query → Type 0
AsksWhatIsSent queries.Notices = ⊥
AsksWhatIsSent (queries.Entries from) = ⊥
AsksWhatIsSent queries.Exclusions = ⊥
AsksWhatIsSent queries.Status = ⊥
AsksWhatIsSent _ = Unit {0}

-- an equal office answers each other query alike, but for the count of its entries
abbrev pub SameAnswers : Type 0
SameAnswers = (old new : Office) (moment : ℕ) (query : Query) (outcome : Outcome)
    → IsEqualOffice old new → AsksWhatIsSent query
    → (Answers old moment query outcome
    → Answers new moment query (with_entries (length new.history) outcome))
    × (Answers new moment query outcome
    → Answers old moment query (with_entries (length old.history) outcome))
