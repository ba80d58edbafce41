-- The fault of a text, as it is named.
use Rattle.std.specs.Prelude.{ℕ, ◌<◌, ◌≤◌, List, length, ⊤}
use Rattle.std.specs.Str.{IsUtf8}
use Rattle.std.specs.Str.Lines.{lines}
use Rattle.slo_limits.specs.declared.TheConstants.{MAX_TEXT_BYTES}
use Rattle.yaml_terms.specs.Text.{without_mark}
use Rattle.yaml_terms.specs.BadPlace.{IsBadPlace}
use Rattle.yaml_terms.specs.Fault.{IsFault}
use Rattle.yaml_terms.specs.declared.yaml_fault.YamlFault.{YamlFault}
use Rattle.yaml_terms.specs.declared.yaml_fault.YamlFault.TheVariants.{TooLarge, NotUtf8, Form}
use Rattle.yaml_terms.specs.declared.yaml_fault.YamlFault.TheVariants.{NoMemory}

-- the fault of lines
abbrev pub NamesLine : List (List ℕ) → YamlFault → Type 0
NamesLine ls (Form line which) = IsFault ls line which
NamesLine ls NoMemory = ⊤
NamesLine ls _ = ⊥

-- The fault of a text: it has too many bytes, else isn't UTF-8, which its first bad byte shows,
-- else has a line that is no text of the profile with those before it. Want of memory says nothing.
abbrev pub NamesFault : List ℕ → YamlFault → Type 0
NamesFault text TooLarge = MAX_TEXT_BYTES < length text
NamesFault text (NotUtf8 at) = (length text ≤ MAX_TEXT_BYTES) × ¬ (IsUtf8 (without_mark text))
    × IsBadPlace text at
NamesFault text (Form line which) = (length text ≤ MAX_TEXT_BYTES) × IsUtf8 (without_mark text)
    × IsFault (lines (without_mark text)) line which
NamesFault text NoMemory = ⊤
