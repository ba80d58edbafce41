-- What a source comes to.
use Rattle.std.specs.Prelude.{ℕ, List, Option}
use Rattle.office_outside.specs.Told.{HasNothingLeft}
use Rattle.message_heads.specs.Hearing.{Hears}
use Rattle.message_heads.specs.declared.message.Heard.{Heard}
use Rattle.message_heads.specs.declared.message.Heard.TheVariants.{Whole, Bad, More}

-- something is heard in the waiting bytes, or the source ended before
abbrev pub Concludes : List ℕ → Option (List ℕ) → Heard → Type 0
Concludes waiting left (Whole message n) = Hears waiting (Whole message n)
Concludes waiting left (Bad status) = Hears waiting (Bad status)
Concludes waiting left More = Hears waiting More × HasNothingLeft left
