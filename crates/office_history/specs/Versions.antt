-- Whether an office is upgraded. From then on it takes withdrawn rows, and more of all rows.
use Rattle.std.specs.Prelude.{ℕ, Bool, true, false, cond, List}
use Rattle.std.specs.List.{list_any}
use Rattle.slo_limits.specs.declared.TheConstants.{MAX_ACCEPTED_ROWS, MAX_CELLS}
use Rattle.slo_limits.specs.declared.TheConstants.{MAX_UPGRADED_CELLS, MAX_UPGRADED_ROWS}
use Rattle.record_form.specs.declared.Command.{Command}
use Rattle.record_form.specs.declared.Command.TheVariants.{Upgrade}
use Rattle.record_form.specs.declared.Entry.{Entry}

-- whether a command is the upgrade
abbrev pub is_upgrade : Command → Bool
is_upgrade Upgrade = true
is_upgrade _ = false

-- an office is upgraded where its history has an upgrade
abbrev pub is_upgraded : List Entry → Bool
is_upgraded history = list_any (λ (e : Entry). is_upgrade e.command) history

-- the version of a history, by whether its office is upgraded
abbrev pub version_of : Bool → ℕ
version_of upgraded = cond upgraded 2 1

-- the most cells
abbrev pub most_cells : Bool → ℕ
most_cells upgraded = cond upgraded MAX_UPGRADED_CELLS MAX_CELLS

-- the most rows that are new to their cell or newer than its row when they come
abbrev pub most_rows : Bool → ℕ
most_rows upgraded = cond upgraded MAX_UPGRADED_ROWS MAX_ACCEPTED_ROWS
