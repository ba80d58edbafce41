-- The words of the rules of fields.
use Rattle.std.specs.Prelude.{ℕ, List, codes}
use Rattle.object_terms.specs.declared.fault.Rule.{Rule}
use Rattle.object_terms.specs.declared.fault.Rule.TheVariants as rules

abbrev pub rule_word : Rule → List ℕ
rule_word rules.Missing = codes "missing"
rule_word rules.NotMap = codes "not_map"
rule_word rules.NotList = codes "not_list"
rule_word rules.NotText = codes "not_text"
rule_word rules.NotNumber = codes "not_number"
rule_word rules.NotBool = codes "not_bool"
rule_word rules.NotDuration = codes "not_duration"
rule_word rules.NotMoment = codes "not_moment"
rule_word rules.OutOfRange = codes "out_of_range"
rule_word rules.BadName = codes "bad_name"
rule_word rules.BadVersion = codes "bad_version"
rule_word rules.BadKind = codes "bad_kind"
rule_word rules.BadWord = codes "bad_word"
rule_word rules.Both = codes "both"
rule_word rules.Neither = codes "neither"
rule_word rules.UnknownField = codes "unknown_field"
rule_word rules.ListLength = codes "list_length"
rule_word rules.TooLong = codes "too_long"
rule_word rules.Repeated = codes "repeated"
