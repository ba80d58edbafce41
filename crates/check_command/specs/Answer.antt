-- What `check` answers on the bytes of its input.
use Rattle.std.specs.Prelude.{◌≡◌, ℕ, List, [], Result, Ok, Err}
use Rattle.slo_limits.specs.declared.TheConstants.{MAX_MINUTE}
use Rattle.office_history.specs.Definitions.{Definition, IsDefinition, IsRefused, Known, known}
use Rattle.record_form.specs.declared.Refusal.{Refusal}
use Rattle.check_command.specs.Lines.{check_lines}

-- An office that keeps nothing: no members, no zone beside `UTC`, no samples, and calendars up to
-- the clock's last minute.
abbrev pub nothing_known : Known
nothing_known = known [] [] [] MAX_MINUTE

-- How many documents the text stands for, one for each that has a node, and how many objects these
-- stand for, where these can be defined together; or why they can't.
abbrev pub IsCheckAnswer : List ℕ → Result (List ℕ) Refusal → Type 0
IsCheckAnswer bytes (Ok text) =
    (made : Definition) × IsDefinition nothing_known bytes made
    × (text ≡ check_lines made.documents made.objects)
IsCheckAnswer bytes (Err refusal) = IsRefused nothing_known bytes refusal
