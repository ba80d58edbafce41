-- The words of the faults of the refusal table.
use Rattle.std.specs.Prelude.{ℕ, List, codes}
use Rattle.yaml_terms.specs.declared.profile_fault.ProfileFault.{ProfileFault}
use Rattle.yaml_terms.specs.declared.profile_fault.ProfileFault.TheVariants.{Control, Tab, LeftOut}
use Rattle.yaml_terms.specs.declared.profile_fault.ProfileFault.TheVariants.{Indent}
use Rattle.yaml_terms.specs.declared.profile_fault.ProfileFault.TheVariants.{Quote}
use Rattle.yaml_terms.specs.declared.profile_fault.ProfileFault.TheVariants.{Escape, FlowForm}
use Rattle.yaml_terms.specs.declared.profile_fault.ProfileFault.TheVariants.{Colon}
use Rattle.yaml_terms.specs.declared.profile_fault.ProfileFault.TheVariants.{DuplicateKey, TooDeep}

abbrev pub word : ProfileFault → List ℕ
word Control = codes "control"
word Tab = codes "tab"
word LeftOut = codes "left_out"
word Indent = codes "indent"
word Quote = codes "quote"
word Escape = codes "escape"
word FlowForm = codes "flow_form"
word Colon = codes "colon"
word DuplicateKey = codes "duplicate_key"
word TooDeep = codes "too_deep"
