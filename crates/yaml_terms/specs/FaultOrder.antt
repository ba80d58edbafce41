-- The order of the refusal table: of several faults that a line has, the first is named.
use Rattle.std.specs.Prelude.{ℕ, nat_le, Option, Some, None, cond}
use Rattle.yaml_terms.specs.declared.profile_fault.ProfileFault.{ProfileFault}
use Rattle.yaml_terms.specs.declared.profile_fault.ProfileFault.TheVariants.{Control, Tab, LeftOut}
use Rattle.yaml_terms.specs.declared.profile_fault.ProfileFault.TheVariants.{Indent}
use Rattle.yaml_terms.specs.declared.profile_fault.ProfileFault.TheVariants.{Quote}
use Rattle.yaml_terms.specs.declared.profile_fault.ProfileFault.TheVariants.{Escape, FlowForm}
use Rattle.yaml_terms.specs.declared.profile_fault.ProfileFault.TheVariants.{Colon}
use Rattle.yaml_terms.specs.declared.profile_fault.ProfileFault.TheVariants.{DuplicateKey, TooDeep}

-- the place of a fault in the table
abbrev pub place : ProfileFault → ℕ
place Control = 0
place Tab = 1
place LeftOut = 2
place Indent = 3
place Quote = 4
place Escape = 5
place FlowForm = 6
place Colon = 7
place DuplicateKey = 8
place TooDeep = 9

-- the earlier of two faults, each perhaps not there
abbrev pub earlier : Option ProfileFault → Option ProfileFault → Option ProfileFault
earlier None b = b
earlier (Some a) None = Some a
earlier (Some a) (Some b) = cond (nat_le (place a) (place b)) (Some a) (Some b)
