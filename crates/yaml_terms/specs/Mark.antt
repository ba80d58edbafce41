-- What stands on a line, in order: its dashes, its key, its value, each with the column at
-- which it begins.
use Rattle.std.specs.Prelude.{ℕ, List}
use Rattle.yaml_terms.specs.Tree.{Tree}
use Rattle.yaml_terms.specs.declared.style.Style.{Style}

-- `- a: b` has the marks dash 0, key 2 "a", value 5 "b": the same as `-` and ` a: b` on two lines.
-- So a map or list that begins on its dash's line (YAML 1.2.2, compact nested collections) needs no
-- rule of its own.
pub data Mark : Type 0 where
  start : Mark  -- `---` or `...`, which end a document; one more begins
  dash : ℕ → Mark  -- `-` before an item
  key : ℕ → List ℕ → Mark  -- a key and its colon
  value : ℕ → Tree → Mark  -- a plain or quoted scalar, `[]`, `{}` or a one-line list
  header : ℕ → Style → Mark  -- `|` or `>` with its sign
  raw : List ℕ → Mark  -- a line that belongs to a block scalar

-- what stands behind a mark, once it is read: a finished entry, item or document
pub record Child : Type 0 where
  pub mark : Mark
  pub tree : Tree
