-- Bytes that are heard as changes.
use Rattle.std.specs.Prelude.{◌≡◌, ℕ, false, List, [], ◌∷◌, ◌++◌, Ok}
use Rattle.message_heads.specs.Streams.{AreMessages, IsStream, Said, open_rest}
use Rattle.record_form.specs.declared.Command.{Command}
use Rattle.record_form.specs.declared.Request.TheVariants.{Change}
use Rattle.wire_routes.specs.Requests.{Answer, StandsFor}

-- the message stands for the change and for nothing else, and keeps its connection open
pub record IsRequestOf (said : Said) (change : Command) : Type 0 where
  pub stands : StandsFor said (Ok (Change change))
  pub alone : (answer : Answer) → StandsFor said answer → answer ≡ Ok (Change change)
  pub stays : said.close ≡ false

-- as many messages as changes, each the request of its own
abbrev pub AreRequestsOf : List Said → List Command → Type 0
AreRequestsOf [] [] = Unit {0}
AreRequestsOf (said ∷ saids) (change ∷ changes) =
    IsRequestOf said change × AreRequestsOf saids changes
AreRequestsOf _ _ = ⊥

-- The bytes are a stream of messages from their front to their end, with nothing left over, and so
-- they stay where other bytes follow. Each message is the request of its change, in order.
pub record AreHeardAs (bytes : List ℕ) (changes : List Command) : Type 0 where
  pub saids : List Said
  pub stream : IsStream bytes saids (open_rest [])
  pub followed : (more : List ℕ) → AreMessages (bytes ++ more) saids more
  pub requests : AreRequestsOf saids changes
