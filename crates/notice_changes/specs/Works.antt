-- The notices of a tick.
use Rattle.std.specs.Prelude.{ℕ, ◌+◌, ◌≤◌, Bool, true, List, [], ◌∷◌, length}
use Rattle.slo_limits.specs.declared.TheConstants.{MAX_NOTICES}
use Rattle.burn_core.specs.declared.State.{State}
use Rattle.notice_box.specs.declared.Notice.{Notice}
use Rattle.catalog_terms.specs.declared.Binding.{Binding}
use Rattle.office_history.specs.Notices.{notice_of}
use Rattle.office_derived.specs.declared.Work.{Work}
use Rattle.office_derived.specs.declared.Work.TheVariants as works

-- the notices of changes that are told at a moment, numbered from a number on; all wait
abbrev pub new_notices : ℕ → ℕ → List (Binding × State) → List (Notice × Bool)
new_notices at number [] = []
new_notices at number (change ∷ told) =
    (notice_of number (at, change), true) ∷ new_notices at (number + 1) told

-- what is to be done tells no more changes than notices may wait
abbrev pub TellsFew : Work → Type 0
TellsFew (works.Tick states told) = length told.items ≤ MAX_NOTICES
TellsFew _ = Unit {0}
