-- Values of JSON in memory.
use Rattle.std.specs.Prelude.{◌≡◌, false}
use Rattle.serde_json.specs.Data.{Data}
use Rattle.serde_json.specs.View.{view}
use Rattle.serde_json.specs.Written.{has_float}
use Rattle.serde_json.specs.declared.value.Value.{Value}

-- the value is this data, and all its numbers are whole
pub record IsValue (d : Data) (v : Value) : Type 0 where
  pub same : view v ≡ d
  pub whole : has_float d ≡ false
