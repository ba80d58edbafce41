-- A message stands for one answer.
use Rattle.std.specs.Prelude.{◌≡◌}
use Rattle.message_heads.specs.Streams.{Said}
use Rattle.wire_routes.specs.Requests.{Answer, StandsFor}

abbrev pub OneAnswer : Type 0
OneAnswer = (said : Said) (answer other : Answer) → StandsFor said answer → StandsFor said other
    → answer ≡ other

abbrev pub SomeAnswer : Type 0
SomeAnswer = (said : Said) → (answer : Answer) × StandsFor said answer
