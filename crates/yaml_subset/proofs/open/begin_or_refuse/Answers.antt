use Rattle.std.proofs.Common.{◌≡◌, ◌-◌, List, true, false, cond, map, length, refl, sym, subst, ◌∙◌}
use Rattle.std.proofs.Common.{rules}
use Rattle.yaml_terms.specs.Mark.{start}
use Rattle.yaml_terms.specs.Profile.{max_depth, has_room}
use Rattle.yaml_terms.specs.OpenNodes.{open_after, begun_node}
use Rattle.yaml_terms.specs.Fault.{fault_of_mark, column}
use Rattle.yaml_lines.specs.LineView.{mark_view}
use Rattle.yaml_subset.specs.OpenView.{child, is_nothing, last_head, any_at}
use Rattle.yaml_subset.specs.declared.frame.Frame.{Frame}
use Rattle.yaml_terms.specs.declared.ProfileFault.TheVariants.{Indent, Colon, TooDeep}
use Rattle.yaml_subset.specs.OpenView.{nodes_open}
use Rattle.yaml_subset.proofs.OpenViewLemmas.{begin_ok, begin_refused, begun_there, not_begun}
use Rattle.yaml_subset.proofs.OpenViewLemmas.{fault_begun, no_raw}
use Rattle.yaml_subset.proofs.open.begin_or_refuse.Goals as goal

pub returns-then-may_begin-clause-ok : goal.returns-then-may_begin-clause-ok
returns-then-may_begin-clause-ok c =
    let n = c.args.nodes in
    let m = mark_view c.args.mark in
    begin_ok n.documents.items n.frames.items (begun_node (max_depth - length n.frames.items) m)
    (open_after m (nodes_open n)) (fault_of_mark m (nodes_open n))
    (begun_there (map (child start) n.documents.items) n.frames.items n.last m c.requires.place
    c.requires.no_start (subst (λ (fs : List Frame). cond (is_nothing n.last)
    (has_room (last_head start fs) m) false ≡ true) c.deref.ensures.value
    (sym c.may_begin.ensures ∙ c.if-may_begin.true))) c.begin.result c.begin.ensures.ok

pub returns-then-may_begin-clause-refused : goal.returns-then-may_begin-clause-refused
returns-then-may_begin-clause-refused c =
    let n = c.args.nodes in
    let m = mark_view c.args.mark in
    let may : cond (is_nothing n.last) (has_room (last_head start n.frames.items) m) false ≡ true =
    subst (λ (fs : List Frame). cond (is_nothing n.last) (has_room (last_head start fs) m) false
    ≡ true) c.deref.ensures.value (sym c.may_begin.ensures ∙ c.if-may_begin.true) in
    begin_refused n.documents.items n.frames.items
    (begun_node (max_depth - length n.frames.items) m)
    (open_after m (nodes_open n)) (fault_of_mark m (nodes_open n))
    (begun_there (map (child start) n.documents.items) n.frames.items n.last m c.requires.place
    c.requires.no_start may)
    (fault_begun (map (child start) n.documents.items) n.frames.items n.last m c.requires.place
    c.requires.no_start ∙ rw may refl) c.begin.result c.begin.ensures.refused

pub returns-else-may_begin-clause-refused : goal.returns-else-may_begin-clause-refused
returns-else-may_begin-clause-refused c =
    let n = c.args.nodes in
    let m = mark_view c.args.mark in
    let may_not : cond (is_nothing n.last) (has_room (last_head start n.frames.items) m) false
    ≡ false =
    subst (λ (fs : List Frame). cond (is_nothing n.last) (has_room (last_head start fs) m) false
    ≡ false) c.deref.ensures.value (sym c.may_begin.ensures ∙ c.if-may_begin.false) in
    let fault : c.fault_of-fault.result
    ≡ cond (cond (is_nothing n.last) (has_room (last_head start n.frames.items) m) false)
    TooDeep (cond (any_at (column m) n.frames.items) Colon Indent) = search rules in (
      not_begun (map (child start) n.documents.items) n.frames.items n.last m c.requires.place
          c.requires.no_start (no_raw c.args.mark) may_not,
      fault_begun (map (child start) n.documents.items) n.frames.items n.last m c.requires.place
          c.requires.no_start ∙ sym fault,
    )
