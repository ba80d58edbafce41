-- What a run does, from what its command does.
use Rattle.std.proofs.Common.{◌≡◌, ◌∙◌, ℕ, subst, sym, inr}
use Rattle.std.specs.Prelude.{Option, Some}
use Rattle.office_outside.specs.Senses.{DiskSenses}
use Rattle.office_run.specs.Worlds.{Does, Runs, World}
use Rattle.command_words.specs.declared.Invocation.{Invocation}
use Rattle.command_words.specs.declared.Invocation.TheVariants.{Serve}

-- the words ask for one port
pub port_asked : (asked : Option Invocation) (given port : ℕ) → asked ≡ Some (Serve given)
    → asked ≡ Some (Serve port) → given ≡ port
port_asked asked given port is asks =
    let same : Some (Serve given) ≡ Some (Serve port) = sym is ∙ asks in
    cc same

module _ {D : Type 0} (S : DiskSenses D) (asked : Option Invocation) (status : ℕ)
    (before after : World D) where
  pub done_as : (wanted : Option Invocation) → asked ≡ wanted
      → Does S wanted status before after → Runs S asked status before after
  done_as wanted is does =
      let P : Option Invocation → Type 0 = λ a. Runs S a status before after in
      subst P (sym is) (inr does)
