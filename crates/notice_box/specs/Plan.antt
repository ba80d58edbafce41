-- Which changes of states a tick gives notice of.
use Rattle.std.specs.Prelude.{ℕ, Bool, true, false, not, ◌&&◌, List, length, map, filter}
use Rattle.std.specs.Prelude.{slice_index_or}
use Rattle.std.specs.List.{range_with_len}
use Rattle.burn_core.specs.declared.alert.State.{State}
use Rattle.burn_core.specs.declared.alert.State.TheVariants.{Quiet, NoData, Breaching}
use Rattle.burn_core.specs.declared.alert.Flags.{Flags}
use Rattle.burn_core.specs.Alert.{flag_of}

-- whether two states are one
abbrev pub same_state : State → State → Bool
same_state Quiet Quiet = true
same_state NoData NoData = true
same_state Breaching Breaching = true
same_state _ _ = false

-- there is a notice where the state is another than before and the policy's flag of the new
-- one is set
abbrev pub is_due : State → State → Flags → Bool
is_due before now flags = not (same_state before now) && flag_of flags now

-- flags that are all off
abbrev pub no_flags : Flags
no_flags = record { breaching = false; resolved = false; no_data = false }

-- whether a notice is due at a place of the three lists
abbrev pub is_due_at : List State → List State → List Flags → ℕ → Bool
is_due_at before now flags place = is_due (slice_index_or before place Quiet)
    (slice_index_or now place Quiet) (slice_index_or flags place no_flags)

-- each place with its new state, those at which a notice is due
abbrev pub plan_of : List State → List State → List Flags → List (ℕ × State)
plan_of before now flags =
    filter (λ change. is_due_at before now flags change.0)
    (map (λ place. (place, slice_index_or now place Quiet)) (range_with_len 0 (length now)))
