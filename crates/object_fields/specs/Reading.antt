-- What a function of the code that reads gives: what the definition gives, unless memory ran out.
use Rattle.std.specs.Prelude.{◌≡◌, List, [], Result, Ok, Err, map}
use Rattle.yaml_terms.specs.Tree.{Entries, Trees, trees}
use Rattle.yaml_terms.specs.NodeView.{node_view, entries_of, fields_view}
use Rattle.yaml_terms.specs.declared.ScalarText.{ScalarText}
use Rattle.yaml_terms.specs.declared.Node.{Node}
use Rattle.object_terms.specs.declared.fault.ObjectFault.{ObjectFault}
use Rattle.object_terms.specs.declared.fault.ReadError.{ReadError}
use Rattle.object_terms.specs.declared.fault.ReadError.TheVariants as errors
use Rattle.object_terms.specs.declared.object.Object.{Object}
use Rattle.object_terms.specs.Form.{Answer, after}

abbrev pub Fails : {Y : Type 0} → ReadError → Result Y ObjectFault → Type 0
Fails errors.NoMemory answer = Unit {0}
Fails (errors.Fault f) answer = answer ≡ Err f

abbrev pub Gives : {X Y : Type 0} → (X → Y) → Result X ReadError → Result Y ObjectFault → Type 0
Gives view (Ok x) answer = answer ≡ Ok (view x)
Gives view (Err e) answer = Fails e answer

-- the same of a function that adds to objects which were found before
abbrev pub Reads : {A : Type 0} → List Object → List Object → Result A ReadError → Answer A → Type 0
Reads old new (Ok a) answer = after old answer ≡ Ok (new, a)
Reads old new (Err e) answer = Fails e answer

-- a value with no objects that stood inline
abbrev pub alone : {A : Type 0} → A → List Object × A
alone a = ([], a)

abbrev pub both : {A : Type 0} → List Object × A → List Object × A
both p = p

-- what contracts see of a map's entries and of a list's items
abbrev pub entries_view : List (ScalarText × Node) → Entries
entries_view ps = entries_of (fields_view ps)

abbrev pub trees_view : List Node → Trees
trees_view ns = trees (map node_view ns)
