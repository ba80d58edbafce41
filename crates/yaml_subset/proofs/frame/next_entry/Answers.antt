use Rattle.std.proofs.Common.{◌≡◌, ◌||◌, ◌++◌, [], ◌∷◌, Option, true, false, not, subst, ap}
use Rattle.std.proofs.Common.{map, option_map, ◌∙◌}
use Rattle.std.specs.Option.{is_some, IfSome}
use Rattle.std.specs.List.{list_any}
use Rattle.std.specs.Str.{bytes_eq}
use Rattle.yaml_terms.specs.Mark.{key}
use Rattle.yaml_terms.specs.NodeView.{node_view}
use Rattle.yaml_terms.specs.declared.ScalarText.{ScalarText}
use Rattle.yaml_terms.specs.declared.Node.{Node}
use Rattle.yaml_subset.specs.declared.entries.OpenEntries.{OpenEntries}
use Rattle.yaml_subset.specs.OpenView.{entry_child}
use Rattle.yaml_subset.proofs.FrameLemmas.{repeated_known, not_repeated, entry_more}
use Rattle.yaml_subset.proofs.frame.next_entry.Goals as goal

pub returns-in-Ok-None : goal.returns-in-Ok-None
returns-in-Ok-None c =
    let old = c.args.entries in
    let known : false ≡ not (list_any (λ (p : ScalarText × Node). bytes_eq c.args.key p.0) old.0
    || bytes_eq c.args.key old.1) = subst (λ (o : Option OpenEntries). is_some o
    ≡ not (list_any (λ (p : ScalarText × Node). bytes_eq c.args.key p.0) old.0
    || bytes_eq c.args.key old.1)) c.in-Ok-None.field-0-is c.in-Ok-None.ensures.new in
    repeated_known c.args.column old.0 old.1 c.args.key known

pub returns-in-Ok-Some : goal.returns-in-Ok-Some
returns-in-Ok-Some c =
    let old = c.args.entries in
    let node = c.or_no_text-node.result in
    let new : true ≡ not (list_any (λ (p : ScalarText × Node). bytes_eq c.args.key p.0) old.0
    || bytes_eq c.args.key old.1) = subst (λ (o : Option OpenEntries). is_some o
    ≡ not (list_any (λ (p : ScalarText × Node). bytes_eq c.args.key p.0) old.0
    || bytes_eq c.args.key old.1)) c.in-Ok-Some.field-0-is c.in-Ok-Some.ensures.new in
    let more : c.in-Ok-Some.entries ≡ (old.0 ++ (old.1, node) ∷ [], c.args.key) =
    subst (λ (o : Option OpenEntries). IfSome o
    (λ e. e ≡ (old.0 ++ (old.1, node) ∷ [], c.args.key)))
    c.in-Ok-Some.field-0-is c.in-Ok-Some.ensures.more in (
      not_repeated c.args.column old.0 old.1 c.args.key new,
      ap (λ (e : OpenEntries). key c.args.column e.1) more,
      ap (λ (e : OpenEntries). map (entry_child c.args.column) e.0) more
          ∙ entry_more c.args.column old.0 old.1 node (option_map node_view c.args.value)
          c.or_no_text-node.ensures,
    )
