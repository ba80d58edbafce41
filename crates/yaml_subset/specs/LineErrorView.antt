-- What contracts see of a mark or a line that isn't taken.
use Rattle.std.specs.Prelude.{⊤}
use Rattle.yaml_terms.specs.declared.ProfileFault.{ProfileFault}
use Rattle.yaml_subset.specs.declared.open.LineError.{LineError}
use Rattle.yaml_subset.specs.declared.open.LineError.TheVariants.{Fault, NoMemory}

-- a fact of the fault that is named; want of memory says nothing
abbrev pub Refuses : LineError → (ProfileFault → Type 0) → Type 0
Refuses (Fault w) P = P w
Refuses NoMemory P = ⊤
