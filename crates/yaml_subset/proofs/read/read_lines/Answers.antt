use Rattle.std.proofs.Common.{◌≡◌, ℕ, ◌+◌, List, Some, length, take, drop, map, sym, ap, ◌∙◌, subst}
use Rattle.std.proofs.lemmas.List.{take_all, length-map}
use Rattle.yaml_terms.specs.Text.{nodes_of}
use Rattle.yaml_terms.specs.Fault.{IsFault, fault_of}
use Rattle.yaml_subset.specs.Reader.{LinesAreRead}
use Rattle.yaml_subset.specs.ReaderView.{reading}
use Rattle.yaml_subset.specs.LineErrorView.{Refuses}
use Rattle.yaml_subset.specs.declared.open.LineError.{LineError}
use Rattle.yaml_terms.specs.declared.ProfileFault.{ProfileFault}
use Rattle.yaml_subset.proofs.TextLemmas.{read_more, read_nodes, fault_here, line_taken}
use Rattle.yaml_subset.proofs.TextLemmas.{line_splits, line_number}
use Rattle.yaml_subset.proofs.read.read_lines.Goals as goal

pub returns-in-Err-Fault-clause-fault : goal.returns-in-Err-Fault-clause-fault
returns-in-Err-Fault-clause-fault c =
    let ls = c.args.lines.now in
    let at = c.loop-at.at in
    let line = c.as_bytes.result.now in
    let xs = map (λ x. x.now) ls in
    let r = reading c.loop-at.reader in
    let meets : fault_of r.scalar r.nodes line ≡ Some c.in-Err-Fault.which =
    subst (λ (s : LineError). Refuses s (λ w. fault_of r.scalar r.nodes line ≡ Some w))
    c.in-Err-Fault.field-0-is c.in-Err-Fault.ensures.refused in
    let named = fault_here (take at xs) line r c.loop-at.invariant (drop (at + 1) xs)
    c.in-Err-Fault.which meets in
    let placed =
    subst (λ (l : List (List ℕ)). IsFault l (length (take at xs) + 1) c.in-Err-Fault.which)
    (line_splits ls at line _ c.loop-at-test.true c.as_bytes.ensures.value) named in
    let numbered = subst (λ (n : ℕ). IsFault xs n c.in-Err-Fault.which)
    (line_number ls at line _ c.loop-at-test.true c.as_bytes.ensures.value) placed in
    subst (λ (w : ProfileFault). IsFault xs (at + 1) w) (sym c.in-Err-Fault.which-is) numbered

pub loop-at-preserved : goal.loop-at-preserved
loop-at-preserved c =
    let ls = c.args.lines.now in
    let at = c.loop-at.at in
    let line = c.as_bytes.result.now in
    let xs = map (λ x. x.now) ls in
    subst (λ (l : List (List ℕ)). LinesAreRead l (reading c.in-Ok.next))
    (line_taken ls at line _ c.loop-at-test.true c.as_bytes.ensures.value)
    (read_more (take at xs) line (reading c.loop-at.reader) c.loop-at.invariant
    (reading c.in-Ok.next) c.in-Ok.ensures.ok)

pub returns-in-Ok-finished-clause-found : goal.returns-in-Ok-finished-clause-found
returns-in-Ok-finished-clause-found c =
    let xs = map (λ x. x.now) c.args.lines.now in
    ap nodes_of (sym (take_all c.loop-at.at xs
    (rw (length-map c.args.lines.now (λ x. x.now)) c.loop-at-test.false)))
    ∙ read_nodes (take c.loop-at.at xs) (reading c.loop-at.reader) c.loop-at.invariant
    ∙ ap (λ n. Some n) (sym c.in-Ok-finished.ensures)
