-- A text has one fault at most, and none where it stands for documents.
use Rattle.std.proofs.Common.{◌≡◌, ◌∙◌, ℕ, List, ap, arith, refl, sym}
use Rattle.std.specs.Str.Lines.{lines}
use Rattle.yaml_terms.specs.Tree.{Tree}
use Rattle.yaml_terms.specs.Text.{StandsFor, without_mark}
use Rattle.yaml_subset.proofs.FaultLemmas.{never_both, one_fault}
use Rattle.record_form.specs.declared.YamlWord.{YamlWord}
use Rattle.record_form.specs.declared.YamlWord.TheVariants as yaml
use Rattle.office_history.specs.Texts.{IsYamlFault}

-- a text has one fault at most
pub one_yaml_fault : (text : List ℕ) (j k : ℕ) (v w : YamlWord) → IsYamlFault text j v
    → IsYamlFault text k w → (j ≡ k) × (v ≡ w)
one_yaml_fault text j k yaml.TooLarge yaml.TooLarge a b = (a.0 ∙ sym b.0, refl)
one_yaml_fault text j k yaml.TooLarge yaml.NotUtf8 a b = absurd (omega (arith, a.1, b.1.1.0))
one_yaml_fault text j k yaml.TooLarge (yaml.Form w) a b = absurd (omega (arith, a.1, b.0))
one_yaml_fault text j k yaml.NotUtf8 yaml.TooLarge a b = absurd (omega (arith, a.1.1.0, b.1))
one_yaml_fault text j k yaml.NotUtf8 yaml.NotUtf8 a b = (a.0 ∙ sym b.0, refl)
one_yaml_fault text j k yaml.NotUtf8 (yaml.Form w) a b = absurd (a.1.1.1 b.1)
one_yaml_fault text j k (yaml.Form v) yaml.TooLarge a b = absurd (omega (arith, a.0, b.1))
one_yaml_fault text j k (yaml.Form v) yaml.NotUtf8 a b = absurd (b.1.1.1 a.1)
one_yaml_fault text j k (yaml.Form v) (yaml.Form w) a b =
    let same = one_fault (lines (without_mark text)) j k v w a.2 b.2 in
    (same.0, ap yaml.Form same.1)

-- a text that stands for documents has no fault
pub no_yaml_fault : (text : List ℕ) (nodes : List Tree) (line : ℕ) (word : YamlWord)
    → StandsFor text nodes → IsYamlFault text line word → ⊥
no_yaml_fault text nodes line yaml.TooLarge stands b = omega (arith, stands.small, b.1)
no_yaml_fault text nodes line yaml.NotUtf8 stands b = b.1.1.1 stands.utf8
no_yaml_fault text nodes line (yaml.Form w) stands b =
    never_both (lines (without_mark text)) nodes line w stands.nodes b.2
