-- What is wrong with a text of documents.
use Rattle.std.specs.Prelude.{◌≡◌, ℕ, List}
use Rattle.yaml_terms.specs.NamedFault.{NamesFault}
use Rattle.yaml_terms.specs.declared.YamlFault.TheVariants as faults
use Rattle.record_form.specs.declared.YamlWord.{YamlWord}
use Rattle.record_form.specs.declared.YamlWord.TheVariants.{TooLarge, NotUtf8, Form}

-- The fault of a text as a refusal names it: by its line and what is wrong there. Line 0 speaks of
-- the whole text.
abbrev pub IsYamlFault : List ℕ → ℕ → YamlWord → Type 0
IsYamlFault text line TooLarge = (line ≡ 0) × NamesFault text faults.TooLarge
IsYamlFault text line NotUtf8 = (line ≡ 0) × ((at : ℕ) × NamesFault text (faults.NotUtf8 at))
IsYamlFault text line (Form which) = NamesFault text (faults.Form line which)
