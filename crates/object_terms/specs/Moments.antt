-- What scalars stand for: civil moments.
use Rattle.std.specs.Prelude.{List, Result, ℕ}
use Rattle.yaml_terms.specs.Spelling.{quoted}
use Rattle.zone_calendar.specs.CivilText.{civil_text}
use Rattle.zone_calendar.specs.CivilRead.{civil_read}
use Rattle.zone_calendar.specs.declared.civil.Civil.{Civil}
use Rattle.object_terms.specs.declared.fault.Rule.{Rule}
use Rattle.object_terms.specs.declared.fault.Rule.TheVariants as rules
use Rattle.object_terms.specs.Form.{Form, scalar_form}
use Rattle.object_terms.specs.Scalars.{found_or}

unfoldable pub moment_value : List ℕ → Result Civil Rule
moment_value bytes = found_or rules.NotMoment (civil_read bytes)

abbrev pub moment : Form Civil
moment = scalar_form rules.NotMoment moment_value (λ m. quoted (civil_text m))
