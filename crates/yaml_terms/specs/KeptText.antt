-- How a text is kept.
use Rattle.std.specs.Prelude.{ℕ, List}
use Rattle.yaml_terms.specs.declared.text.Kept.{Kept}
use Rattle.yaml_terms.specs.declared.text.Kept.TheVariants.{Short, Long}

-- the bytes of a text, wherever they are kept
abbrev pub kept_bytes : Kept → List ℕ
kept_bytes (Short text) = text
kept_bytes (Long bytes) = bytes.items
