-- The refusals of `check` in words: the name of the refusal, and then what it says, parted by
-- spaces.
use Rattle.std.specs.Prelude.{ℕ, List, [], ◌++◌, codes}
use Rattle.std.specs.Fmt.{decimal}
use Rattle.yaml_terms.specs.Words as which
use Rattle.object_terms.specs.Rules.{rule_word}
use Rattle.object_terms.specs.Scalars.{kind_word}
use Rattle.record_form.specs.declared.LimitName.{LimitName}
use Rattle.record_form.specs.declared.LimitName.TheVariants as limits
use Rattle.record_form.specs.declared.YamlWord.{YamlWord}
use Rattle.record_form.specs.declared.YamlWord.TheVariants as yaml
use Rattle.record_form.specs.declared.Refusal.{Refusal}
use Rattle.record_form.specs.declared.Refusal.TheVariants as refusals

-- the word for what is wrong with a text of documents
abbrev pub word_of_yaml : YamlWord → List ℕ
word_of_yaml yaml.TooLarge = codes "too_large"
word_of_yaml yaml.NotUtf8 = codes "not_utf8"
word_of_yaml (yaml.Form fault) = which.word fault

-- the word for a limit of a definition
abbrev pub word_of_limit : LimitName → List ℕ
word_of_limit limits.Objects = codes "objects"
word_of_limit limits.Catalog = codes "catalog"
word_of_limit limits.Slis = codes "slis"
word_of_limit limits.Slos = codes "slos"
word_of_limit limits.Bindings = codes "bindings"
word_of_limit limits.Starts = codes "starts"
word_of_limit _ = []

-- the words for a text that is refused; no definition is refused otherwise
abbrev pub words_of_refusal : Refusal → List ℕ
words_of_refusal (refusals.Yaml line word) =
    codes "yaml " ++ (decimal line ++ (codes " " ++ word_of_yaml word))
words_of_refusal (refusals.Object document field rule) =
    codes "object " ++ (decimal document ++ (codes " " ++ (field ++ (codes " " ++ rule_word rule))))
words_of_refusal (refusals.ReservedPolicy name) = codes "reserved " ++ name
words_of_refusal (refusals.Duplicate kind name) =
    codes "duplicate " ++ (kind_word kind ++ (codes " " ++ name))
words_of_refusal (refusals.Unresolved from_kind from_name kind name) =
    codes "unresolved " ++
    (kind_word from_kind ++
    (codes " " ++ (from_name ++ (codes " " ++ (kind_word kind ++ (codes " " ++ name))))))
words_of_refusal (refusals.NeedsOp objective slo) =
    codes "needs_op " ++ (decimal objective ++ (codes " " ++ slo))
words_of_refusal (refusals.UnknownZone name) = codes "unknown_zone " ++ name
words_of_refusal (refusals.HasSamples minute name source) =
    codes "has_samples " ++ (decimal minute ++ (codes " " ++ (name ++ (codes " " ++ source))))
words_of_refusal (refusals.Limit which) = codes "limit " ++ word_of_limit which
words_of_refusal _ = []
