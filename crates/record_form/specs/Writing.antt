-- What a writer leaves.
use Rattle.std.specs.Prelude.{◌≡◌, ◌++◌, ℕ, List, []}
use Rattle.record_form.specs.Form.{Form}

-- the spelling of the value stands behind what was there
abbrev pub Writes : {X : Type 0} → Form X → X → List ℕ → List ℕ → Type 0
Writes form x before after = after ≡ before ++ form.write x []
