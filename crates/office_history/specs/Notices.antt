-- What ticks tell: the changes of states since the tick before, each tick over its own history.
use Rattle.std.specs.Prelude.{ℕ, ◌+◌, ◌&&◌, ◌==◌, Bool, true, false, not, cond, List, [], ◌∷◌, ◌++◌}
use Rattle.std.specs.Prelude.{map, filter, length, Option, Some, None, option_map, unwrap_or}
use Rattle.std.specs.List.{flat_map, find, list_any}
use Rattle.burn_core.specs.declared.State.{State}
use Rattle.burn_core.specs.declared.State.TheVariants.{Quiet, NoData, Breaching}
use Rattle.burn_core.specs.Alert.{flag_of}
use Rattle.notice_box.specs.declared.Notice.{Notice}
use Rattle.catalog_terms.specs.declared.Binding.{Binding}
use Rattle.object_terms.specs.declared.Object.{Object}
use Rattle.record_form.specs.declared.Command.{Command}
use Rattle.record_form.specs.declared.Command.TheVariants.{Tick, Take}
use Rattle.record_form.specs.declared.Entry.{Entry}
use Rattle.office_history.specs.Lists.{with_before, last_of}
use Rattle.office_history.specs.History.{Office, with_entry, current_in, exclusions_in}
use Rattle.office_history.specs.Catalog.{catalog_in}
use Rattle.office_history.specs.Counts.{Samples}
use Rattle.office_history.specs.Alerts.{same_binding, states_at, flags_named}

-- what stands of a history's samples
abbrev pub samples_in : List Entry → Samples
samples_in history = record { rows = current_in history; exclusions = exclusions_in history }

-- each binding of an office with its state at a minute
abbrev pub states_over : Office → ℕ → List (Binding × State)
states_over o minute = states_at o.origin (catalog_in o.history) (samples_in o.history) minute

abbrev pub is_tick : Command → Bool
is_tick Tick = true
is_tick _ = false

abbrev pub tick_of : ℕ → List Entry → Entry → List (Office × ℕ)
tick_of origin before e = cond (is_tick e.command)
    ((record { origin = origin; history = before ++ e ∷ [] }, e.moment) ∷ []) []

-- each tick: the office whose history ends with it, and its moment
abbrev pub ticks_in : Office → List (Office × ℕ)
ticks_in o = flat_map (λ p. tick_of o.origin p.0 p.1) (with_before o.history)

abbrev pub states_of_tick : Option (Office × ℕ) → List (Binding × State)
states_of_tick None = []
states_of_tick (Some tick) = states_over tick.0 tick.1

-- the states at the last tick, over the history up to it; none where there was no tick
abbrev pub last_states : Office → List (Binding × State)
last_states o = states_of_tick (last_of (ticks_in o))

-- the state of a binding among these; Quiet where it isn't among them
abbrev pub state_among : List (Binding × State) → Binding → State
state_among states b =
    unwrap_or (option_map (λ s. s.1) (find (λ s. same_binding s.0 b) states)) Quiet

abbrev pub state_eq : State → State → Bool
state_eq Quiet Quiet = true
state_eq NoData NoData = true
state_eq Breaching Breaching = true
state_eq _ _ = false

-- a binding's state is told where it is another than before, and the policy's flag of it is set
abbrev pub is_told : List Object → List (Binding × State) → Binding × State → Bool
is_told members before now = not (state_eq (state_among before now.0) now.1)
    && flag_of (flags_named members now.0.policy) now.1

-- the bindings whose change is told, with their new states
abbrev pub changes : List Object → List (Binding × State) → List (Binding × State)
    → List (Binding × State)
changes members before now = filter (is_told members before) now

-- a change that is told: the moment of its tick, the binding and its new state
abbrev pub Told : Type 0
Told = ℕ × (Binding × State)

-- what a tick at a moment tells over an office whose history it ends
abbrev pub tick_changes : List (Binding × State) → Office → ℕ → List (Binding × State)
tick_changes before o moment = changes (catalog_in o.history) before (states_over o moment)

abbrev pub told_at : Office → Entry → List Told
told_at o e = cond (is_tick e.command)
    (map (λ c. (e.moment, c)) (tick_changes (last_states o) (with_entry o e) e.moment)) []

-- what the ticks of a history tell, each over the entries before it
abbrev pub told_in : Office → List Told
told_in o = flat_map (λ p. told_at (record { origin = o.origin; history = p.0 }) p.1)
    (with_before o.history)

-- the notice of a change
abbrev pub notice_of : ℕ → Told → Notice
notice_of number t = record {
  number = number;
  at = t.0;
  slo = t.1.0.slo;
  objective = t.1.0.objective;
  policy = t.1.0.policy;
  state = t.1.1;
}

-- the notices of what was told, numbered from a number on
abbrev pub notices_from : ℕ → List Told → List Notice
notices_from number [] = []
notices_from number (t ∷ ts) = notice_of number t ∷ notices_from (number + 1) ts

-- whether a command takes the notice of a number
abbrev pub is_taking : ℕ → Command → Bool
is_taking number (Take n) = number == n
is_taking number _ = false

-- whether a history takes the notice of a number
abbrev pub is_taken : List Entry → ℕ → Bool
is_taken history number = list_any (λ (e : Entry). is_taking number e.command) history

-- The notices of an office, numbered from 1, each waiting unless it was taken.
abbrev pub notices_in : Office → List (Notice × Bool)
notices_in o = map (λ n. (n, not (is_taken o.history n.number))) (notices_from 1 (told_in o))

-- how many of these wait
abbrev pub waiting : List (Notice × Bool) → ℕ
waiting made = length (filter (λ kept. kept.1) made)
