-- What a buffer takes of its source.
use Rattle.std.specs.Prelude.{◌≡◌, ℕ, ◌≤◌, List, ◌++◌, Option}
use Rattle.office_outside.specs.Told.{Lost}
use Rattle.message_heads.specs.declared.reading.TheConstants.{MAX_MESSAGE_BYTES}

-- a window into the whole room
pub record IsWindow (room start end : ℕ) : Type 0 where
  pub whole : room ≡ MAX_MESSAGE_BYTES
  pub ordered : start ≤ end
  pub within : end ≤ room

-- The waiting bytes grew at their end by what the source lost.
pub record Fills (old new : List ℕ) (left_old left_new : Option (List ℕ)) : Type 0 where
  pub taken : List ℕ
  pub lost : Lost taken left_old left_new
  pub grown : new ≡ old ++ taken
