-- How much of its input a command takes.
use Rattle.std.specs.Prelude.{ℕ, ◌+◌, Option, Some, None}
use Rattle.slo_limits.specs.declared.TheConstants.{MAX_TEXT_BYTES}
use Rattle.budget_command.specs.declared.TheConstants.{MAX_INPUT_BYTES}
use Rattle.command_words.specs.declared.InputCommand.{InputCommand}
use Rattle.command_words.specs.declared.InputCommand.TheVariants.{Budget, Check}

-- the most bytes that an input of a command may have
abbrev pub most_bytes : InputCommand → ℕ
most_bytes (Budget order) = MAX_INPUT_BYTES
most_bytes Check = MAX_TEXT_BYTES

-- How many bytes a run takes of its source at most: of an input that is too large one more byte
-- than it may have, and none where the words are no form of a command.
abbrev pub most_taken : Option InputCommand → ℕ
most_taken None = 0
most_taken (Some command) = most_bytes command + 1
